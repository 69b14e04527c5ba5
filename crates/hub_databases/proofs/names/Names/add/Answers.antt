use Rattle.std.proofs.Common.{◌≡◌, ◌∙◌, ap, arith, sym, Bool, true, false, List, ℕ, ◌+◌, ◌<◌, ◌≤◌, length}
use Rattle.std.specs.Prelude.{is_some, string_bytes, if◌then◌else◌}
use Rattle.std.specs.Map.{keys_of}
use Rattle.std.proofs.lemmas.List.{length-map}
use Rattle.hub_databases.specs.Kept.{NamesState, names_of, with_name}
use Rattle.hub_databases.specs.Names.{is_name}
use Rattle.hub_databases.proofs.NameLemmas.{kept_put, names_put}
use Rattle.hub_databases.proofs.names.Names.add.Goals as goal

pub invariant_of-self : goal.invariant_of-self
invariant_of-self c =
    let old = c.self.inside.list.entries in
    let key = c.in_ok-key.key in
    let named = c.in_ok-key.ensures.ok in
    let room : length old < c.self.inside.limit = omega (
      arith,
      c.if-len-self.false,
      c.len.ensures.len,
    ) in
    kept_put c.self.inside.limit old c.self.invariant key c.in_ok-db.db c.insert.new.self.entries
    (ap is_name named ∙ c.requires) (c.in_ok-db.ensures ∙ sym named) c.in-Ok.ensures.entries
    c.in-Ok.ensures.ordered (one_more (is_some c.in-Ok.field-0) _ _ _ c.in-Ok.ensures.len room)
  where
    one_more : (had : Bool) (new old limit : ℕ) → new ≡ old + (if had then 0 else 1) → old < limit
        → new ≤ limit
    one_more true new old limit is low = omega arith
    one_more false new old limit is low = omega arith

pub returns-in-Ok-clause-ok : goal.returns-in-Ok-clause-ok
returns-in-Ok-clause-ok c =
    let old = c.self.inside.list.entries in
    let key = c.in_ok-key.key in
    let names : names_of c.insert.new.self.entries
    ≡ (with_name c.args.name.now
    (record { names = names_of old; limit = c.self.inside.limit; made = c.self.inside.made })).names =
    ap names_of c.in-Ok.ensures.entries
    ∙ (names_put old key c.in_ok-db.db
    ∙ ap (λ name.
    (with_name name
    (record { names = names_of old; limit = c.self.inside.limit; made = c.self.inside.made })).names)
    c.in_ok-key.ensures.ok) in
    ap (λ (ns : List (List ℕ)). record { names = ns; limit = c.self.inside.limit; made = c.self.inside.made })
    names
    ∙ ap (with_name c.args.name.now) c.self.view_is
