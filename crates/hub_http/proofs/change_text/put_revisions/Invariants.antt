use Rattle.std.proofs.Common.{◌≡◌, ◌++◌, ◌∷◌, take}
use Rattle.std.specs.List.{flat_map}
use Rattle.hub_http.specs.ChangeTexts.{revision_text}
use Rattle.hub_http.proofs.change_text.put_revisions.Given as goal

abbrev pub invariant-loop-rev : goal.invariant-loop-rev
invariant-loop-rev l =
    l.out.items ≡ l.initial.out.items ++ flat_map (λ r. 44 ∷ revision_text r) (take l.rev-index l.rest)
