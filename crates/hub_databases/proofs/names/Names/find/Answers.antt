use Rattle.std.proofs.Common.{◌≡◌, sym, subst, Contains, Bor, List, ℕ}
use Rattle.std.specs.Prelude.{◌↔◌, IfSome, IsSome, Option, Some, None}
use Rattle.std.specs.Option.{option_copied}
use Rattle.hub_databases.specs.Kept.{NamesState, names_of}
use Rattle.hub_databases.proofs.NameLemmas.{found_iff, own_found}
use Rattle.hub_databases.proofs.names.Names.find.Goals as goal

pub returns-clause-some : goal.returns-clause-some
returns-clause-some c =
    subst (λ (state : NamesState). IsSome c.get.result ↔ Contains state.names c.args.name.now) c.self.view_is
    (there c.get.result
    (subst (λ r. IsSome r ↔ Contains (names_of c.self.inside.list.entries) c.args.name.now)
    (sym c.get.ensures.value) (found_iff c.self.inside.list.entries c.args.name.now)))
  where
    there : {V P : Type 0} (r : Option (Bor V)) → (IsSome (option_copied r) ↔ P) → IsSome r ↔ P
    there None h = h
    there (Some x) h = h

pub returns-clause-own : goal.returns-clause-own
returns-clause-own c =
    behind (λ (db : List ℕ). db ≡ c.args.name.now) c.get.result
    (subst (λ r. IfSome r (λ (db : List ℕ). db ≡ c.args.name.now)) (sym c.get.ensures.value)
    (own_found c.self.inside.list.entries c.args.name.now c.self.invariant.own))
  where
    behind : {V : Type 0} (P : V → Type 0) (r : Option (Bor V)) → IfSome (option_copied r) P
        → IfSome r (λ x. P x.now)
    behind P None h = h
    behind P (Some x) h = h
