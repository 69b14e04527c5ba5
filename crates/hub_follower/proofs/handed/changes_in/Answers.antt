use Rattle.std.proofs.Common.{sym, subst}
use Rattle.hub_follow_model.specs.ChangesFeed.{IsChangesAnswer}
use Rattle.hub_follower.proofs.handed.changes_in.Goals as goal

pub returns-in-None-clause-wrong : goal.returns-in-None-clause-wrong
returns-in-None-clause-wrong c =
    λ _ rows last answer. c.in_ok-last_seq.ensures.wrong c.in-None.is rows last
    (subst (λ z. IsChangesAnswer c.args.db.now.journal c.args.since z rows last)
    (sym c.as_slice.ensures.value) answer)
