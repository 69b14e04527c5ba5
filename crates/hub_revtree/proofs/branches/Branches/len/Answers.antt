use Rattle.std.proofs.Common.{◌∙◌, ap, sym, length}
use Rattle.hub_revtree.specs.Stem.{Storage}
use Rattle.hub_revtree.proofs.StemLemmas.{as_many}
use Rattle.hub_revtree.proofs.branches.Branches.len.Goals as goal

pub returns-clause-length : goal.returns-clause-length
returns-clause-length c =
    c.len.ensures
    ∙ c.self.inside.stems.ok.0
    ∙ sym (as_many c.self.inside.stems.items)
    ∙ ap (λ (storage : Storage). length storage.list) c.self.view_is

pub returns-clause-legal : goal.returns-clause-legal
returns-clause-legal c = rw (sym c.self.view_is) c.self.invariant.5
