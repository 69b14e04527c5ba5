use Rattle.std.proofs.Common.{ℕ, List, sym, subst}
use Rattle.std.specs.Prelude.{IsTrue, ◌↔◌}
use Rattle.hub_model.specs.Row.{ChangeRow}
use Rattle.hub_follow_model.specs.ChangesFeed.{IsChangesAnswer}
use Rattle.hub_follower.proofs.Deciding.{end_decides}
use Rattle.hub_follower.proofs.handed.rightly_handed.Goals as goal

pub returns-clause-ok : goal.returns-clause-ok
returns-clause-ok c =
    let J = c.args.db.now.journal in
    let since = c.args.since in
    let items = c.args.items.now in
    subst (λ b. IsTrue b ↔ ((rows : List ChangeRow) × (last : ℕ) × IsChangesAnswer J since items rows last))
    (sym c.is_some.ensures)
    (end_decides J since items c.in_ok-end.end c.in_ok-end.ensures.right c.in_ok-end.ensures.wrong)
