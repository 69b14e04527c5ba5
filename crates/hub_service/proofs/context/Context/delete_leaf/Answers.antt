use Rattle.std.proofs.Common.{◌≡◌, ℕ, List, true, Option, Some, None, Result, Ok}
use Rattle.std.proofs.Common.{Err, refl, inl, inr, sym, subst, ◌∙◌}
use Rattle.std.specs.Prelude.{T, IsSome}
use Rattle.hub_document.specs.Ids.{short_id}
use Rattle.hub_database.specs.Database.{Database}
use Rattle.hub_model.specs.Revision.{Revision}
use Rattle.hub_revtree.specs.declared.leaf.Winner.{Winner}
use Rattle.hub_http.specs.declared.refusal.Refusal.{Refusal}
use Rattle.hub_http.specs.declared.refusal.Refusal.TheVariants.{Missing}
use Rattle.hub_service.specs.Calls.{deletion, edits, winner_in}
use Rattle.hub_service.specs.Deletions.{DeletesLeaf}
use Rattle.hub_service.specs.Moments.{IsFound, IsWritten}
use Rattle.hub_service.specs.declared.response.Response.{Response}
use Rattle.hub_service.proofs.Looks.{some_is_some}
use Rattle.hub_service.proofs.context.Context.delete_leaf.Goals as goal

-- the result of a look for the winner of an id
abbrev is_winner : List ℕ → Database → Option Winner → Type 0
is_winner id db found = found ≡ winner_in db id

-- where a look finds no winner, there is no such document
leaf_missed : (id : List ℕ) (short : Option (List ℕ)) (known : List ℕ) (rev : Revision)
    (maybe_winner : Option Winner)
    → short ≡ Some known → IsFound (is_winner id) (Ok maybe_winner) → maybe_winner ≡ None
    → DeletesLeaf id short rev (Err Missing)
leaf_missed id short known rev maybe_winner is has none =
    subst (λ s. DeletesLeaf id s rev (Err Missing)) (sym is)
    (inl (inl (refl, record { db = has.db; legal = has.legal; held = (has.held.0, sym has.held.1 ∙ none) })))

-- where a look finds a winner, the edit is written
leaf_written : (id : List ℕ) (short : Option (List ℕ)) (known : List ℕ) (rev : Revision)
    (maybe_winner : Option Winner)
    (won : Winner) (r : Result Response Refusal) → short ≡ Some known
    → IsFound (is_winner id) (Ok maybe_winner) → maybe_winner ≡ Some won
    → IsWritten (λ db. edits 200 db (deletion known rev)) r → DeletesLeaf id short rev r
leaf_written id short known rev maybe_winner won r is has some written =
    subst (λ s. DeletesLeaf id s rev r) (sym is)
    (inr (inr (
      record {
        db = has.db;
        legal = has.legal;
        held = (
          has.held.0,
          λ none. subst T (sym (subst IsSome (has.held.1 ∙ none) (some_is_some maybe_winner won some))) tt,
        );
      },
      written,
    )))

pub returns-in_default-2 : goal.returns-in_default-2
returns-in_default-2 g c =
    let id = c.args.id.now in
    let short : short_id id ≡ Some c.in-Some.known = sym c.in_ok-known.ensures.value ∙ c.in-Some.is in
    leaf_missed id (short_id id) c.in-Some.known c.args.rev c.in_ok-winner.field-0
    short c.in_ok-winner.ensures c.in_default-2.is

pub returns : goal.returns
returns g c =
    let id = c.args.id.now in
    let short : short_id id ≡ Some c.in-Some.known = sym c.in_ok-known.ensures.value ∙ c.in-Some.is in
    leaf_written id (short_id id) c.in-Some.known c.args.rev c.in_ok-winner.field-0 c.in-Some-2.field-0
    c.edit.result short c.in_ok-winner.ensures c.in-Some-2.is
    (subst (λ (body : List ℕ). IsWritten (λ db. edits 200 db
    (record { id = c.in-Some.known; rev = Some c.args.rev; path = None; deleted = true; body = body }))
    c.edit.result)
    c.in_ok-body.ensures c.edit.ensures)
