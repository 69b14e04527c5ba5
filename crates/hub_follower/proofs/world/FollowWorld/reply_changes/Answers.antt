use Rattle.std.proofs.Common.{◌∙◌, ℕ, List, ap, subst}
use Rattle.hub_model.specs.Row.{ChangeRow}
use Rattle.hub_follow_model.specs.ChangesFeed.{IsChangesAnswer}
use Rattle.hub_follow_model.specs.Follower as follow
use Rattle.hub_follow_model.specs.Sequence.{seq_in}
use Rattle.hub_follow_model.specs.World as world
use Rattle.hub_follower.specs.Worlds.{changes_asked}
use Rattle.hub_follower.proofs.ChangesReplies.{asked_since, wrong_items}
use Rattle.hub_follower.proofs.world.FollowWorld.reply_changes.Goals as goal

pub returns-in-Ok-None : goal.returns-in-Ok-None
returns-in-Ok-None c =
    let w = c.args.self.now in
    let since = c.in-Some.since in
    let items = c.args.items.items in
    let next = follow.next_call w.follower in
    wrong_items w since next items
    (asked_since next since
    (c.in-Some.ensures
    ∙ ap changes_asked
    (c.next_call.ensures ∙ ap (λ (z : world.World). follow.next_call z.follower) c.self.view_is)))
    (subst (λ (z : world.World).
    (rows : List ChangeRow) (last : ℕ) → ¬ IsChangesAnswer z.source (seq_in z.life since) items rows last)
    c.self.view_is (c.in-Ok-None.ensures.wrong c.in-Ok-None.field-0-is))
