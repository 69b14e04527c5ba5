use Rattle.std.proofs.Common.{◌≡◌, take}
use Rattle.hub_database.specs.Receipts.{ids_of}
use Rattle.hub_database.proofs.receipt.ReceiptRoom.of.Given as goal

-- the ids of the documents so far
abbrev pub invariant-loop-doc : goal.invariant-loop-doc
invariant-loop-doc l = l.ids.items ≡ ids_of (take l.doc-index l.docs)
