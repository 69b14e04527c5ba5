use Rattle.std.proofs.Common.{◌≡◌, map, take}
use Rattle.std.specs.Prelude.{option_map}
use Rattle.hub_database.specs.Found.{shown_if_any}
use Rattle.hub_database.specs.Reads.{open_rev_of}
use Rattle.hub_database.proofs.open.open_each.Given as goal

abbrev pub invariant-loop-rev : goal.invariant-loop-rev
invariant-loop-rev l =
    l.found.items
    ≡ map (λ r. open_rev_of l.revs r (shown_if_any (option_map (λ d. d.now) l.document) r))
    (take l.rev-index l.asked)
