use Rattle.std.proofs.Common.{◌≡◌, ◌++◌, ◌∷◌, take}
use Rattle.std.specs.List.{flat_map}
use Rattle.json.specs.Print.{quoted}
use Rattle.hub_document.proofs.text.put_hashes.Given as goal

abbrev pub invariant-loop-rev : goal.invariant-loop-rev
invariant-loop-rev l =
    l.out.items ≡ l.initial.out.items ++ flat_map (λ r. 44 ∷ quoted r.hash) (take l.rev-index l.rest)
