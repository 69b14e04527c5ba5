use Rattle.std.proofs.Common.{◌∙◌, sym, ap, drop}
use Rattle.std.proofs.lemmas.List.{drop-drop}
use Rattle.hub_shared.proofs.block.Rest.pass.Goals as goal

-- the items after one more are those after the first that is left
pub returns : goal.returns
returns g c = sym (drop-drop 1 c.self.inside.taken _) ∙ ap (drop 1) c.self.view_is
