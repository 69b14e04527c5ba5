use Rattle.std.proofs.Common.{sym}
use Rattle.hub_database.proofs.StoreLemmas.{number_has}
use Rattle.hub_database.proofs.ids.Ids.number_of.Goals as goal

pub returns-in-Some : goal.returns-in-Some
returns-in-Some c =
    let found = c.in-Some.ensures in
    sym (number_has c.args.self.now.documents.now c.args.numbers.now c.requires.own c.args.id.now
    c.in-Some.number found.0 found.1)
