use Rattle.std.proofs.Common.{◌≡◌, ◌++◌, length, drop}
use Rattle.std.specs.Prelude.{All}
use Rattle.hub_follower.specs.Fetched.{FoundHasPath}
use Rattle.hub_follower.proofs.Opening.{opens}
use Rattle.hub_follower.proofs.phase.documents_behind.Given as goal

abbrev pub invariant-loop-opened : goal.invariant-loop-opened
invariant-loop-opened l = record {
  at : l.at ≡ length l.yielded;
  found : l.yielded ++ l.opened-iterator.rest.items ≡ l.fn.found;
  left : opens l.fn.asked.id (drop l.at l.fn.asked.revs) l.opened-iterator.rest.items l.got
      ≡ opens l.fn.asked.id l.fn.asked.revs l.fn.found l.initial.got;
  bring : All FoundHasPath l.opened-iterator.rest.items;
}
