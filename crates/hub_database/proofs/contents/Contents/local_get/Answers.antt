use Rattle.std.proofs.Common.{◌∙◌, ap, option_map, sym}
use Rattle.hub_database.specs.Answers.{local_named}
use Rattle.hub_database.proofs.LocalLemmas.{kept_behind, found_in}
use Rattle.hub_database.proofs.contents.Contents.local_get.Goals as goal

pub returns : goal.returns
returns c =
    rw (sym c.self.view_is)
    (kept_behind c.args.id.now c.get.result
    ∙ (ap (option_map (local_named c.args.id.now)) c.get.ensures.value
    ∙ found_in c.args.id.now c.self.inside.locals.entries))
