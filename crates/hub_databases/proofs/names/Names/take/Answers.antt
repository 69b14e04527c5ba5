use Rattle.std.proofs.Common.{◌≡◌, ◌∙◌, sym, subst, ap, arith, List, ℕ, Contains}
use Rattle.std.specs.Prelude.{◌↔◌, IsSome}
use Rattle.hub_databases.specs.Kept.{NamesState, names_of, without_name}
use Rattle.hub_databases.proofs.NameLemmas.{found_iff, kept_taken, names_taken}
use Rattle.hub_databases.proofs.names.Names.take.Goals as goal

pub invariant_of-self : goal.invariant_of-self
invariant_of-self c =
    kept_taken c.self.inside.limit c.self.inside.list.entries c.self.invariant
    c.args.name.now c.remove.new.self.entries c.remove.ensures.entries c.remove.ensures.ordered
    (omega (arith, c.remove.ensures.len))

pub returns-clause-some : goal.returns-clause-some
returns-clause-some c =
    subst (λ (state : NamesState). IsSome c.remove.result ↔ Contains state.names c.args.name.now)
    c.self.view_is
    (subst (λ r. IsSome r ↔ Contains (names_of c.self.inside.list.entries) c.args.name.now)
    (sym c.remove.ensures.value) (found_iff c.self.inside.list.entries c.args.name.now))

pub returns-clause-names : goal.returns-clause-names
returns-clause-names c =
    let names : names_of c.remove.new.self.entries
    ≡ (without_name c.args.name.now
    (record {
      names = names_of c.self.inside.list.entries;
      limit = c.self.inside.limit;
      made = c.self.inside.made;
    })).names =
    ap names_of c.remove.ensures.entries ∙ names_taken c.self.inside.list.entries c.args.name.now in
    ap (λ (ns : List (List ℕ)). record { names = ns; limit = c.self.inside.limit; made = c.self.inside.made })
    names
    ∙ ap (without_name c.args.name.now) c.self.view_is
