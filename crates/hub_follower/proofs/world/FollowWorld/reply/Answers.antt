use Rattle.std.proofs.Common.{sym, subst}
use Rattle.hub_follow_model.specs.Follower as follow
use Rattle.hub_follower.specs.Views.{answer_of}
use Rattle.hub_follower.proofs.Happening.{answered_fits}
use Rattle.hub_follower.proofs.world.FollowWorld.reply.Goals as goal

pub take-requires : goal.take-requires
take-requires c =
    let h = rw c.in-Ok-Some.field-0-is at c.in-Ok-Some.ensures.answered in
    subst (λ z. follow.IsAnswerToNext (follow.next_call z) (answer_of c.in-Ok-Some.answer))
    (sym c.answered.ensures.follower)
    (answered_fits c.args.self.now c.answered.new.self
    (follow.next_call c.args.self.now.follower) c.in-Ok-Some.answer h)
