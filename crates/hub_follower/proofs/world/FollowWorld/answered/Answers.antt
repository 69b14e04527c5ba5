use Rattle.std.proofs.Common.{◌≡◌, ◌∙◌, ap, sym, subst, length, Some}
use Rattle.hub_follow_model.specs.Follower as follow
use Rattle.hub_follow_model.specs.World as world
use Rattle.hub_follower.specs.Views.{call_of}
use Rattle.hub_follower.specs.Worlds.{IsWithin, IsWithinNext}
use Rattle.hub_follower.proofs.Happening.{within_next}
use Rattle.hub_follower.proofs.world.FollowWorld.answered.Goals as goal

pub answer-requires : goal.answer-requires
answer-requires c =
    let now = c.args.self.now in
    let call = call_of c.in-Some.call in
    let next : follow.next_call now.follower ≡ Some call =
    sym (c.in-Some.ensures ∙ ap (λ (z : world.World). follow.next_call z.follower) c.self.view_is) in
    let within : IsWithin (length now.source) call =
    subst (λ z. IsWithinNext (length now.source) z) next
    (within_next now.follower (length now.source) c.requires) in
    subst (λ (z : world.World). IsWithin (length z.source) call) (sym c.self.view_is) within
