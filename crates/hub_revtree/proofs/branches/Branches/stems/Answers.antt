use Rattle.std.proofs.Common.{◌≡◌, ap, subst}
use Rattle.hub_model.specs.Journal.{IsLegal}
use Rattle.hub_revtree.specs.Branch.{edits_in}
use Rattle.hub_revtree.specs.Stem.{Storage}
use Rattle.hub_revtree.specs.Stem.{branches_of}
use Rattle.hub_revtree.proofs.branches.Branches.stems.Goals as goal

pub returns : goal.returns
returns c =
    let shown : branches_of c.self.inside.stems.items ≡ c.args.self.now.list =
    ap (λ (storage : Storage). storage.list) c.self.view_is in
    record {
      stems = c.self.invariant.0;
      marked = c.self.invariant.3;
      shown = shown;
      legal = subst (λ branches. IsLegal (edits_in branches)) shown c.self.invariant.5;
    }
