use Rattle.std.proofs.Common.{◌∙◌}
use Rattle.hub_database.proofs.StoreLemmas.{id_here}
use Rattle.hub_database.proofs.ids.IdsNamed.id.Goals as goal

pub returns-in-Some : goal.returns-in-Some
returns-in-Some c =
    let look = c.in-Some.ensures.lookup in
    c.as_str.ensures.value
    ∙ id_here c.args.self.now.documents.now c.args.number c.in-Some.document.now look.3.0 look.1
