use Rattle.std.proofs.Common.{◌∙◌, ap, sym}
use Rattle.std.specs.Prelude.{nat_eq, unwrap_or}
use Rattle.std.specs.HashMap.{get}
use Rattle.hub_revtree.specs.Index.{entry_in}
use Rattle.hub_revtree.proofs.FirstLemmas.{put_back, put_one}
use Rattle.hub_revtree.proofs.index.Firsts.put.Goals as goal

pub returns-in_default-clause-first : goal.returns-in_default-clause-first
returns-in_default-clause-first c =
    ap (λ o. unwrap_or o c.args.number) (sym (sym c.in_ok-other.ensures.old ∙ c.in_default.is))

pub returns-in_default-clause-entries : goal.returns-in_default-clause-entries
returns-in_default-clause-entries c =
    put_one nat_eq (entry_in c.args.self.now) (get nat_eq c.insert.new.self) c.args.key c.args.number
    (sym c.in_ok-other.ensures.old ∙ c.in_default.is) c.in_ok-other.ensures.updates.0

pub returns-clause-first : goal.returns-clause-first
returns-clause-first c =
    ap (λ o. unwrap_or o c.args.number) (sym (sym c.in_ok-other.ensures.old ∙ c.in-Some.is))

pub returns-clause-entries : goal.returns-clause-entries
returns-clause-entries c =
    put_back nat_eq (entry_in c.args.self.now) (get nat_eq c.insert.new.self) (get nat_eq c.insert-2.new.self)
    c.args.key c.args.number c.in-Some.first (sym c.in_ok-other.ensures.old ∙ c.in-Some.is)
    c.in_ok-other.ensures.updates.0 c.in_ok-insert.ensures.updates.0
