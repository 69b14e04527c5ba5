use Rattle.std.proofs.Common.{◌≡◌, ◌∙◌, ap, sym, subst}
use Rattle.hub_follow_model.specs.Follower as follow
use Rattle.hub_follower.specs.Views.{follower_of, answer_of}
use Rattle.hub_follower.proofs.Telling.{own_fault}
use Rattle.hub_follower.proofs.machine.FollowCore.accept.Goals as goal

pub returns-clause-own : goal.returns-clause-own
returns-clause-own c =
    let same : follower_of c.replace-state.result ≡ c.args.self.now =
    ap follower_of c.replace-state.ensures.value ∙ c.self.view_is in
    own_fault c.after-state.result.1 _ (follower_of c.replace-state.result) (answer_of c.args.answer)
    (subst (λ z. follow.IsAnswerToNext (follow.next_call z) (answer_of c.args.answer))
    (sym same) c.requires.fits)
    c.after-state.ensures.err
