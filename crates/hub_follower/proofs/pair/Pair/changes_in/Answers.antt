use Rattle.std.proofs.Common.{◌≡◌, ◌∙◌, ℕ, List, None, ap, subst}
use Rattle.std.specs.Prelude.{IfOk}
use Rattle.hub_model.specs.Row.{ChangeRow}
use Rattle.hub_follow_model.specs.ChangesFeed.{IsChangesAnswer}
use Rattle.hub_follow_model.specs.Sequence.{seq_in}
use Rattle.hub_follower.specs.Worlds.{Pair}
use Rattle.hub_follower.proofs.pair.Pair.changes_in.Goals as goal

pub returns-clause-wrong : goal.returns-clause-wrong
returns-clause-wrong c =
    let source = c.self.inside.source in
    let counted = c.counted_in-since.ensures ∙ ap (λ (life : ℕ). seq_in life c.args.since) c.life.ensures in
    subst (λ (pair : Pair). IfOk c.changes_in.result
    (λ found. found ≡ None → (rows : List ChangeRow) (last : ℕ)
    → ¬ IsChangesAnswer pair.source (seq_in pair.life c.args.since) c.args.items.items rows last))
    c.self.view_is
    (subst (λ (n : ℕ). IfOk c.changes_in.result (λ found. found ≡ None → (rows : List ChangeRow) (last : ℕ)
    → ¬ IsChangesAnswer source.journal n c.args.items.items rows last))
    counted c.changes_in.ensures.wrong)
