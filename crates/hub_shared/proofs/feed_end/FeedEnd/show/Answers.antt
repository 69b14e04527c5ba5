-- The shown item is the first that was left, and the taken items grow by it.
use Rattle.std.proofs.Common.{◌≡◌, ◌∙◌, [], ◌∷◌, Some, None, ap, refl, subst, rules}
use Rattle.std.specs.Prelude.{slice_get}
use Rattle.hub_lane.specs.Ends.{behind_take}
use Rattle.hub_shared.specs.Feeds.{IsRightSoFar}
use Rattle.hub_shared.proofs.Blocks.{end_goes_on, first_and_rest, front_more, right_so_far}
use Rattle.hub_shared.proofs.feed_end.FeedEnd.show.Goals as goal

pub returns-in_err-item : goal.returns-in_err-item
returns-in_err-item g c =
    let so_far = right_so_far g.S.HostView.right c.self.inside.receiver c.self.inside.rest c.self.invariant.0
    c.self.invariant.1 in
    (None, (tt, refl, subst (IsRightSoFar g.S.HostView.right) c.self.view_is so_far), search rules)

pub invariant_of-self : goal.invariant_of-self
invariant_of-self g c =
    let is : Some c.in_ok-item.item.now ≡ slice_get c.self.inside.rest 0 = search rules in
    let first = first_and_rest c.self.inside.rest c.pass.new.self (Some c.in_ok-item.item.now) is
    c.pass.ensures in
    (front_more _ _ _ (c.in_ok-item.item.now ∷ []) _ c.self.invariant.0 first, c.self.invariant.1)

pub returns : goal.returns
returns g c =
    let left = c.self.inside.rest in
    let rest = c.pass.new.self in
    let item = c.in_ok-item.item.now in
    let is : Some item ≡ slice_get left 0 = search rules in
    let first = first_and_rest left rest (Some item) is c.pass.ensures in (
      Some item,
      (
        end_goes_on c.self.inside.receiver left rest (Some item) c.self.invariant.0 first
            ∙ ap (λ end. behind_take end item) c.self.view_is,
        tt,
        right_so_far g.S.HostView.right c.self.inside.receiver rest
            (front_more _ _ _ (item ∷ []) _ c.self.invariant.0 first) c.self.invariant.1,
      ),
      record {
        shown = _;
        one = _;
        other = _;
        shows = (refl, refl, refl);
        one_left = _;
        other_left = _;
        met = c.see-seen.ensures;
        leaves = (refl, refl);
      },
    )
