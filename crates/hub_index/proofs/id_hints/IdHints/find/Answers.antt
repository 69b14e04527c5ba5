use Rattle.std.proofs.Common.{◌≡◌, ◌≢◌, ◌<◌, ◌≤◌, ◌⊎◌, ℕ, List, [], length, sym, ap, ◌∙◌, inl, inr, arith}
use Rattle.std.specs.Str.{bytes_eq}
use Rattle.std.proofs.lemmas.Bool.{cases_lt, eqb-false}
use Rattle.std.proofs.lemmas.List.{get_or_past}
use Rattle.hub_index.specs.Order.{id_at}
use Rattle.std.proofs.lemmas.Slice.Eq.{bytes_eq-Decides}
use Rattle.hub_index.proofs.id_hints.IdHints.find.Goals as goal

-- a number whose id is a text that is not empty is below the number of ids
numbered : (ids : List (List ℕ)) (id : List ℕ) (n : ℕ) → id_at ids n ≡ id → 0 < length id → n < length ids
numbered ids id n is some = from (cases_lt n (length ids))
  where
    from : (n < length ids) ⊎ (length ids ≤ n) → n < length ids
    from (inl low) = low
    from (inr past) =
        let none : length id ≡ 0 = ap length (sym is ∙ get_or_past ids n [] past) in
        absurd (omega arith)

pub returns-in-loop-places : goal.returns-in-loop-places
returns-in-loop-places g c =
    let ids = g.N.Named.ids c.args.names.now in
    let id = c.args.id.now in
    let is : id_at ids c.in-Some.number ≡ id =
    (bytes_eq-Decides (id_at ids c.in-Some.number) id).0
    (ap (λ t. bytes_eq t id) (sym c.id.ensures) ∙ (sym c.eq.ensures ∙ c.if-eq.true)) in
    let some : length id ≢ 0 = eqb-false (length id) 0 (sym c.is_empty.ensures ∙ c.if-is_empty.false) in
    (numbered ids id c.in-Some.number is (omega arith), is)
