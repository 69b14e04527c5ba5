use Rattle.std.proofs.Common.{rules, subst}
use Rattle.hub_database.specs.Database.{Database, IsRead}
use Rattle.hub_database.specs.Answers.{IsAnswer, TakesMemory}
use Rattle.hub_shared.proofs.handle.Handle.read.Goals as goal

pub returns : goal.returns
returns g c =
    let asked = c.look.ensures.asked in
    let Says : Database → Type 0 =
    λ db. IsRead db c.look.result (IsAnswer db c.args.question) (TakesMemory db c.args.question) in
    let told : Says asked.2.0.now = search rules in
    record { db = asked.0; found = asked.1; held = subst Says asked.2.2 told; same = c.look.ensures.same }
