use Rattle.std.proofs.Common.{sym, subst}
use Rattle.hub_databases.specs.Kept.{AreKept}
use Rattle.hub_databases.proofs.NameLemmas.{kept_none}
use Rattle.hub_databases.proofs.names.Names.new.Goals as goal

pub invariant_of-result : goal.invariant_of-result
invariant_of-result c =
    subst (λ es. AreKept c.args.limit es) (sym c.new.ensures.empty)
    (kept_none c.args.limit c.requires.limit)
