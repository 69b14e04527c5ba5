use Rattle.std.proofs.Common.{◌≡◌, drop}
use Rattle.std.specs.List.{list_all}
use Rattle.hub_model.specs.RightlyHanded.{rows_of}
use Rattle.hub_follower.specs.Handed.{is_shown}
use Rattle.hub_follower.specs.Rebuilt.{IsRebuilt}
use Rattle.hub_follower.proofs.handed.are_shown.Given as goal

-- the rows so far were current, and the copy is a copy of the journal
abbrev pub invariant-loop-item : goal.invariant-loop-item
invariant-loop-item l = record {
  left : list_all (is_shown l.db.journal) (rows_of (drop l.item-index l.items))
      ≡ list_all (is_shown l.db.journal) (rows_of l.items);
  copy : IsRebuilt l.db.journal l.copy;
}
