-- The taken items grow by the item, and stay a front of the items of the blocks.
use Rattle.std.proofs.Common.{◌∙◌, [], ap, refl}
use Rattle.hub_lane.specs.Ends.{behind_take}
use Rattle.hub_shared.specs.Blocks.{end_of}
use Rattle.hub_shared.proofs.Blocks.{end_fetches, end_goes_on, fetched_items, first_and_rest, front_more, none_then}
use Rattle.hub_shared.proofs.Blocks.{rest_of_none, right_so_far, some_then}
use Rattle.hub_shared.proofs.feed_end.FeedEnd.take.Goals as goal

-- after an item of the begun block, the items that the lane gave are still the taken ones and then the rest
pub invariant_of-self : goal.invariant_of-self
invariant_of-self g c =
    let first = first_and_rest c.self.inside.rest c.take.new.self c.take.result c.take.ensures.item
    c.take.ensures.rest in
    (front_more _ _ _ _ _ c.self.invariant.0 first, c.self.invariant.1)

pub returns-then-not-is_empty-clause-taken : goal.returns-then-not-is_empty-clause-taken
returns-then-not-is_empty-clause-taken g c =
    let left = c.self.inside.rest in
    let rest = c.take.new.self in
    let item = c.take.result in
    let first = first_and_rest left rest item c.take.ensures.item c.take.ensures.rest in (
      some_then item (λ x is. is ∙ ap (λ end. behind_take end x) c.self.view_is)
          (end_goes_on c.self.inside.receiver left rest item c.self.invariant.0 first),
      none_then item (λ is. ap (end_of c.self.inside.receiver) is ∙ c.self.view_is)
          (rest_of_none left rest item c.take.ensures.item c.take.ensures.rest),
      right_so_far g.S.HostView.right c.self.inside.receiver rest
          (front_more _ _ _ _ _ c.self.invariant.0 first) c.self.invariant.1,
    )

-- the blocks that the lane gave are the earlier ones, and this one
pub invariant_of-self-2 : goal.invariant_of-self-2
invariant_of-self-2 g c =
    let whole = fetched_items c.self.inside.receiver c.take-2.new.self c.of.result c.take-2.result
    c.take-2.ensures.taken c.take-2.ensures.same c.of.ensures.some c.of.ensures.none in
    let first = first_and_rest c.of.result c.take-3.new.self c.take-3.result c.take-3.ensures.item
    c.take-3.ensures.rest in
    (front_more _ _ _ _ _ whole first, c.take-2.ensures.allowed)

pub returns-clause-taken : goal.returns-clause-taken
returns-clause-taken g c =
    let new = c.take-2.new.self in
    let left = c.of.result in
    let rest = c.take-3.new.self in
    let item = c.take-3.result in
    let whole = fetched_items c.self.inside.receiver new left c.take-2.result c.take-2.ensures.taken
    c.take-2.ensures.same c.of.ensures.some c.of.ensures.none in
    let same = end_fetches c.self.inside.receiver new left c.self.inside.rest c.take-2.result
    c.if-not-is_empty.ensures.none c.take-2.ensures.taken c.take-2.ensures.same c.of.ensures.some
    c.of.ensures.none ∙ c.self.view_is in
    let first = first_and_rest left rest item c.take-3.ensures.item c.take-3.ensures.rest in (
      some_then item (λ x is. is ∙ ap (λ end. behind_take end x) same)
          (end_goes_on new left rest item (front_more _ _ _ [] _ whole refl) first),
      none_then item (λ is. ap (end_of new) is ∙ same)
          (rest_of_none left rest item c.take-3.ensures.item c.take-3.ensures.rest),
      right_so_far g.S.HostView.right new rest (front_more _ _ _ _ _ whole first) c.take-2.ensures.allowed,
    )
