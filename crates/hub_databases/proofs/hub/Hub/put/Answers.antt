use Rattle.std.proofs.Common.{◌∙◌, ap, rules}
use Rattle.hub_databases.specs.Kept.{without_name}
use Rattle.hub_databases.proofs.NameLemmas.{taken_back}
use Rattle.hub_databases.proofs.hub.Hub.put.Goals as goal

pub returns-in-Err-note-clause-err : goal.returns-in-Err-note-clause-err
returns-in-Err-note-clause-err g c = (
  c.take.ensures.names
      ∙ (ap (without_name c.args.name.now) c.in_default.ensures.ok
      ∙ taken_back c.args.names.now c.args.name.now c.in_default.ensures.free.0),
  search rules,
)
