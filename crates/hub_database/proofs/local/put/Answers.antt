use Rattle.std.proofs.Common.{◌∙◌, ap, map}
use Rattle.hub_database.specs.Kept.{locals_of}
use Rattle.hub_database.specs.Locals.{put_local}
use Rattle.hub_database.specs.Answers.{local_named}
use Rattle.hub_database.proofs.LocalLemmas.{entry_as, put_in}
use Rattle.hub_database.proofs.local.put.Goals as goal

pub returns-clause-ok : goal.returns-clause-ok
returns-clause-ok c =
    ap (map entry_as) c.in_ok-insert.ensures.entries
    ∙ (put_in c.args.locals.now.entries c.into_string.result c.args.local
    ∙ ap (λ i. put_local (local_named i c.args.local) (locals_of c.args.locals.now)) c.into_string.ensures)
