-- A copy contradicts nothing: the target takes it, where it has room.
use Rattle.std.proofs.Common.{◌≡◌, List, [], ◌∷◌, ◌++◌, Contains, sym, ⊎_elim, subst}
use Rattle.std.proofs.lemmas.List.Elements.{Contains-push_cases, Contains-append_left}
use Rattle.hub_model.specs.Journal.{Edit, IsHead, IsKnown, IsBehind, IsAcceptable, IsLegal}
use Rattle.hub_model.specs.Path.{IsNext}
use Rattle.hub_model.specs.Revision.{Revision}
use Rattle.hub_follow_model.proofs.Bring.{IsCopy, AreCopies, copied_behind}
use Rattle.hub_model.proofs.Legal.{Holds, first_in, legal_sound}
use Rattle.hub_follow_model.proofs.Paths.{behind_more}
use Rattle.hub_model.proofs.Walks.{walk_history, legal_histories, walk_steps}

-- a copy whose head is not known may be added to a journal of copies
pub copy_acceptable : (journal later_journal : List Edit) (edit : Edit) → IsLegal journal
    → AreCopies journal later_journal → IsCopy journal edit
    → ((revision : Revision) → IsHead edit revision → ¬ IsKnown later_journal edit.id revision)
    → IsAcceptable later_journal edit
copy_acceptable journal later_journal edit legal copies c new =
    let o = c.shown.doc in
    record {
      history = walk_history c.front edit.id (λ f d. legal_histories journal legal f (held f d)) edit.path c.r
          c.shown.head (o.0, o.1, first_in o.0.path c.r o.2) c.shown.walk;
      new = new;
      agrees =
          λ revision other s b k. (legal_sound journal legal).tree edit.id revision other s
          (in_source revision s b)
          (in_source other s k);
    }
  where
    held : Holds journal c.front
    held f d = subst (λ (z : List Edit). Contains z f) c.split (Contains-append_left c.front c.rest f d)

    in_source : (revision s : Revision) → IsBehind (later_journal ++ edit ∷ []) edit.id revision s
        → IsBehind journal edit.id revision s
    in_source revision s (f, (d, n), i) = ⊎_elim
        (λ (u : Contains later_journal f).
        copied_behind journal later_journal legal copies edit.id revision s (f, (u, n), i))
        (λ (v : edit
        ≡ f). behind_more journal c.front edit.id revision s held
        (walk_steps c.front edit.id edit.path s revision c.shown.walk
        (subst (λ (z : Edit). IsNext z.path s revision) (sym v) i)))
        (Contains-push_cases later_journal edit f d)
