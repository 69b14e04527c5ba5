use Rattle.std.proofs.Common.{◌≡◌, ◌∙◌, refl, sym}
use Rattle.std.specs.Prelude.{Some, slice_get}
use Rattle.hub_revtree.proofs.StemLooks.{stem_read}
use Rattle.hub_revtree.proofs.WalkLemmas.{after_found, after_parent, found_within, stored_by}
use Rattle.hub_revtree.proofs.branches.Branches.after.Goals as goal
use Rattle.hub_revtree.proofs.branches.Branches.after.Goals.{After-index-stem}

there : (c : After-index-stem) → slice_get c.args.self.now.stems c.args.place.stem ≡ Some c.index-stem.result.now
there c =
    stem_read c.self.inside.stems.items _ _ c.args.self.now c.args.place c.index-stem.result.now c.self.view_is
    refl c.requires c.index-stem.ensures

pub behind_last-requires : goal.behind_last-requires
behind_last-requires c =
    let s = c.args.self.now in
    let k = stored_by c.self.inside.stems.items _ s c.self.view_is c.self.invariant in
    rw c.run.ensures (k.stems.falling c.args.place.stem c.index-stem.result.now
    (there (goal.at.behind_last-requires c).After-index-stem))

pub returns-in-Some : goal.returns-in-Some
returns-in-Some c =
    let s = c.args.self.now in
    let k = stored_by c.self.inside.stems.items _ s c.self.view_is c.self.invariant in
    let e = there (goal.at.returns-in-Some c).After-index-stem in
    let is : c.index-stem.result.now.parent ≡ Some c.in-Some.parent = sym c.parent.ensures ∙ c.in-Some.is in
    record {
      within = (k.stems.earlier c.args.place.stem c.index-stem.result.now c.in-Some.parent e is).1;
      behind = after_parent s k c.args.place c.requires c.index-stem.result.now e c.in-Some.parent is;
    }

pub returns-in-None : goal.returns-in-None
returns-in-None c =
    let s = c.args.self.now in
    let k = stored_by c.self.inside.stems.items _ s c.self.view_is c.self.invariant in
    let e = there (goal.at.returns-in-None c).After-index-stem in
    let found = rw c.run.ensures at c.behind_last.ensures in
    record {
      within = found_within s k c.args.place c.requires c.index-stem.result.now e c.behind_last.result found;
      behind = after_found s k c.args.place c.requires c.index-stem.result.now e c.behind_last.result found;
    }
