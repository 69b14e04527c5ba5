use Rattle.std.proofs.Common.{◌∙◌, ◌-◌, ap, length, refl}
use Rattle.hub_model.specs.Row.{ChangeRow}
use Rattle.hub_database.proofs.FallingLemmas.{lowest_last}
use Rattle.hub_database.proofs.descending.lowest_row.Goals as goal

pub returns-in-Some : goal.returns-in-Some
returns-in-Some c =
    ap (λ (row : ChangeRow). row.seq) c.row.view_is
    ∙ lowest_last c.args.since c.args.rows.now
    (length c.args.rows.now - 1) c.in-Some.row.now refl c.in-Some.ensures.value
