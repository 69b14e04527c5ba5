use Rattle.std.proofs.Common.{◌≡◌, ◌<◌, ℕ}
use Rattle.std.specs.Prelude.{Some, slice_get}
use Rattle.hub_model.specs.Path.{IsNext}
use Rattle.hub_model.specs.Revision.{Revision}
use Rattle.hub_revtree.specs.Stem.{Stem, own_path}
use Rattle.hub_revtree.proofs.stems.place_behind.Given as goal

abbrev pub invariant-loop-number : goal.invariant-loop-number
invariant-loop-number l =
    (k : ℕ) (stem : Stem) (revision : Revision) → k < l.number → slice_get l.stems k ≡ Some stem
    → ¬ IsNext (own_path l.stems stem) l.rev revision
