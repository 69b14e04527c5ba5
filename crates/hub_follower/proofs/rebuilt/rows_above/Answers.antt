use Rattle.std.proofs.Common.{◌∙◌, ap, reverse}
use Rattle.hub_model.specs.Descending.{Descending, descending}
use Rattle.hub_follower.proofs.Listing.{turned}
use Rattle.hub_follower.proofs.rebuilt.rows_above.Goals as goal

pub returns-in-Ok-clause-ok : goal.returns-in-Ok-clause-ok
returns-in-Ok-clause-ok c =
    let J = c.args.db.now.journal in
    c.reverse.ensures.items
    ∙ (ap (λ (z : Descending). reverse z.rows)
    (c.answer.view_is ∙ (c.in-Ok.ensures.ok.1 ∙ ap (descending J c.args.db.now.life) c.listing_after.ensures))
    ∙ turned J c.args.since c.requires.within c.args.db.now.life)
