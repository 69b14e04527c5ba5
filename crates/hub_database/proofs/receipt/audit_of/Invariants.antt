use Rattle.std.proofs.Common.{take}
use Rattle.std.specs.Prelude.{All}
use Rattle.hub_database.specs.Receipts.{HasEdit}
use Rattle.hub_database.proofs.receipt.audit_of.Given as goal

-- the journal has the edits of the receipts so far
abbrev pub invariant-loop-at : goal.invariant-loop-at
invariant-loop-at l = All (λ r. HasEdit l.state.journal r) (take l.at l.receipts)
