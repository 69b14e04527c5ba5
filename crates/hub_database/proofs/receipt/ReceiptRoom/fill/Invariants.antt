use Rattle.std.proofs.Common.{◌≡◌, ◌+◌, ◌≤◌, ◌++◌, length, vec_capacity}
use Rattle.std.specs.Prelude.{drop}
use Rattle.hub_database.specs.Receipts.{receipts_from}
use Rattle.hub_database.proofs.receipt.ReceiptRoom.fill.Given as goal

-- all receipts are the receipts so far and those of the documents that are left
abbrev pub invariant-loop-id : goal.invariant-loop-id
invariant-loop-id l = record {
  all : receipts_from l.before l.fn.self l.replies
      ≡ l.receipts.items ++ receipts_from l.next l.id-iterator.rest.items (drop l.at l.replies);
  room : length l.receipts.items + length l.id-iterator.rest.items ≤ vec_capacity l.receipts;
  fits : l.next ≤ l.before + l.at;
  within : l.at ≤ length l.replies;
}
