-- Storing edits gives results that the relations allow, and leaves a legal journal legal.
use Rattle.std.proofs.Common.{◌≡◌, ℕ, suc, ◌+◌, List, [], ◌∷◌, ◌++◌, length, Bool, true}
use Rattle.std.proofs.Common.{false, ◌⊎◌, inl, inr, sym, ◌∙◌, ap, subst, refl, ⊎_elim, arith}
use Rattle.std.specs.Prelude.{Contains, Option, Some, None, nat_le, if◌then◌else◌, unwrap_or, slice_get}
use Rattle.std.proofs.lemmas.Bool.{cases_Bool, both_ways, leb-true, leb-false}
use Rattle.std.proofs.lemmas.List.Elements.{Contains-push_cases}
use Rattle.hub_model.specs.Revision.{Revision}
use Rattle.hub_model.specs.Path.{IsFirst, IsNext, IsPath, IsHistory, names}
use Rattle.hub_model.specs.Journal.{Edit, IsKnown, IsBehind, IsTree, IsAcceptable}
use Rattle.hub_model.specs.Journal.{IsLegal, is_known, is_head_known, is_acceptable}
use Rattle.hub_model.specs.Leaves.{Leaf, leaves_of, revisions_of}
use Rattle.hub_model.specs.Walk.{IsWalk, line_of}
use Rattle.hub_model.specs.declared.outcomes.Fault.TheVariants.{Contradicts, SequenceFull}
use Rattle.hub_model.specs.declared.outcomes.Outcome.{Outcome}
use Rattle.hub_model.specs.declared.outcomes.Outcome.TheVariants.{Stored, Known, Refused}
use Rattle.hub_model.specs.Outcome.{Stores, addition_result, merge_result, Takes, TakesAll, stores_all, merges_all}
use Rattle.hub_model.specs.Draft.{Draft, parent_of, generation_of, new_revision, edit_of, extended_path, draft_result_on, draft_result}
use Rattle.hub_model.proofs.Lists.{contains_here, contains_there}
use Rattle.hub_model.proofs.Legal.{legal_more, legal_sound}
use Rattle.hub_model.proofs.Tests.{names_is, acceptable_is, is_acceptable_from, head_known_is}
use Rattle.hub_model.proofs.Tests.{head_new_is, is_known_from, same_self, or_left}
use Rattle.hub_model.proofs.Leaves.{leaf_is}
use Rattle.hub_model.proofs.Walks.{walk_history, walk_steps, line_of_walk, legal_histories}

takes_if : (limit : ℕ) (journal : List Edit) (edit : Edit) (b : Bool) (stores other : Stores)
    → (b ≡ true → Takes limit journal edit stores.outcome stores.journal)
    → (b ≡ false → Takes limit journal edit other.outcome other.journal)
    → Takes limit journal edit (if b then stores else other).outcome (if b then stores else other).journal
takes_if limit journal edit true stores other p q = p refl
takes_if limit journal edit false stores other p q = q refl

path_head : (revisions : List Revision) (revision : Revision) → IsPath revisions
    → IsFirst revisions (unwrap_or (slice_get revisions 0) revision)
path_head [] revision f = absurd f
path_head (other ∷ revisions) revision f = refl

adds_takes : (limit : ℕ) (journal : List Edit) (edit : Edit) → IsAcceptable journal edit
    → Takes limit journal edit (addition_result limit journal edit).outcome (addition_result limit journal edit).journal
adds_takes limit journal edit a =
    takes_if limit journal edit (nat_le limit (length journal)) _ _
    (λ t. (a, leb-true limit (length journal) t, refl))
    (λ t. (a, leb-false limit (length journal) t, refl, path_head edit.path _ a.history.falls))

-- storing a replicated edit
pub merges_takes : (limit : ℕ) (journal : List Edit) (edit : Edit) → IsLegal journal
    → Takes limit journal edit (merge_result limit journal edit).outcome (merge_result limit journal edit).journal
merges_takes limit journal edit legal =
    takes_if limit journal edit (is_head_known journal edit.id edit.path) _ _
    (λ t. let k = head_known_is journal edit.id edit.path t in (k.0, k.1, k.2, refl))
    (λ t. takes_if limit journal edit (is_acceptable journal edit) _ _
    (λ u. adds_takes limit journal edit (acceptable_is journal edit legal u))
    (λ u. (
      head_new_is journal edit.id edit.path t,
      λ a. both_ways _ u (is_acceptable_from journal edit a),
      refl,
    )))

pub takes_legal : (limit : ℕ) (journal : List Edit) (edit : Edit) (o : Outcome Revision)
    (other_journal : List Edit)
    → Takes limit journal edit o other_journal → IsLegal journal → IsLegal other_journal
takes_legal limit journal edit (Stored r) other_journal t h =
    subst IsLegal (sym t.2) (legal_more journal edit h t.0)
takes_legal limit journal edit Known other_journal t h = subst IsLegal (sym t.3) h
takes_legal limit journal edit (Refused Contradicts) other_journal t h = subst IsLegal (sym t.2) h
takes_legal limit journal edit (Refused SequenceFull) other_journal t h = subst IsLegal (sym t.2) h
takes_legal limit journal edit (Refused _) other_journal t h = absurd t

pub merges_legal : (limit : ℕ) (journal : List Edit) (edit : Edit) → IsLegal journal
    → IsLegal (merge_result limit journal edit).journal
merges_legal limit journal edit h = takes_legal limit journal edit _ _ (merges_takes limit journal edit h) h

-- storing replicated edits one after the other
pub merges_answer_each : (limit : ℕ) (journal edits : List Edit)
    → length (merges_all limit journal edits).outcomes ≡ length edits
merges_answer_each limit journal [] = refl
merges_answer_each limit journal (edit ∷ edits) =
    ap (λ n. suc n) (merges_answer_each limit (merge_result limit journal edit).journal edits)

pub merges_all_take : (limit : ℕ) (journal edits : List Edit) → IsLegal journal
    → TakesAll limit journal edits (merges_all limit journal edits).outcomes
    (merges_all limit journal edits).journal
merges_all_take limit journal [] h = refl
merges_all_take limit journal (edit ∷ edits) h = (
  (merge_result limit journal edit).journal,
  merges_takes limit journal edit h,
  merges_all_take limit (merge_result limit journal edit).journal edits (merges_legal limit journal edit h),
)

stores_if : (b : Bool) (stores other : Stores) → (b ≡ true → IsLegal stores.journal)
    → (b ≡ false → IsLegal other.journal) → IsLegal (if b then stores else other).journal
stores_if true stores other p q = p refl
stores_if false stores other p q = q refl

adds_legal : (limit : ℕ) (journal : List Edit) (edit : Edit) → IsLegal journal → IsAcceptable journal edit
    → IsLegal (addition_result limit journal edit).journal
adds_legal limit journal edit h a = takes_legal limit journal edit _ _ (adds_takes limit journal edit a) h

-- the path that a draft extends is empty, or the line of a known revision
abbrev IsExtended : List Edit → List ℕ → List Revision → Type 0
IsExtended journal id path =
    (path ≡ []) ⊎ ((revision : Revision) × IsKnown journal id revision × (path ≡ line_of journal id revision))

extended_known : (journal : List Edit) (id : List ℕ) (leaves : List Leaf) (rev : Option Revision)
    (path : List Revision)
    → ((revision : Revision) → names (revisions_of leaves) revision ≡ true → IsKnown journal id revision)
    → extended_path journal id leaves rev ≡ Some path → IsExtended journal id path
extended_known journal id leaves (Some rev) path k e = from (cases_Bool (names (revisions_of leaves) rev))
  where
    from : ((names (revisions_of leaves) rev ≡ true) ⊎ (names (revisions_of leaves) rev ≡ false))
        → IsExtended journal id path
    from (inl t) = inr (rev, k rev t, let e' = rw t at e in cc)
    from (inr t) = absurd (let e' = rw t at e in cc)
extended_known journal id [] None path k e = inl (cc)
extended_known journal id (winner ∷ others) None path k e = from (cases_Bool winner.edit.deleted)
  where
    from : ((winner.edit.deleted ≡ true) ⊎ (winner.edit.deleted ≡ false)) → IsExtended journal id path
    from (inl t) =
        inr (winner.rev, k winner.rev (or_left _ _ (same_self winner.rev)), let e' = rw t at e in cc)
    from (inr t) = absurd (let e' = rw t at e in cc)

-- a new revision in front of the walk of a known revision, or alone
module _ (journal : List Edit) (edit : Edit) (revision : Revision) (legal : IsLegal journal)
    (new : ¬ IsKnown journal edit.id revision) where
  tree_with : (older : List Revision) → ((s r : Revision) → IsNext older s r → IsBehind journal edit.id r s)
      → edit.path ≡ revision ∷ older → IsTree (journal ++ edit ∷ []) edit.id
  tree_with older steps is r other s (f, (c, n), i) (g, (d, k), j) =
      both (step f r c n i) (step g other d k j)
    where
      step : (f : Edit) (r : Revision) → Contains (journal ++ edit ∷ []) f → f.id ≡ edit.id
          → IsNext f.path s r → IsBehind journal edit.id r s ⊎ ((revision ≡ s) × IsFirst older r)
      step f r c n i = ⊎_elim (λ u. inl (f, (u, n), i))
          (λ (v : edit ≡ f). elim (subst (λ z. IsNext z s r) (ap (λ (z : Edit). z.path) (sym v) ∙ is) i) [
            | inl h ↦ inr h
            | inr h ↦ inl (steps s r h)
          ])
          (Contains-push_cases journal edit f c)

      not_new : (r : Revision) → IsBehind journal edit.id r s → revision ≡ s → ⊥
      not_new r (f, revisions, i) q =
          new (f, revisions, subst (λ z. Contains f.path z) (sym q) (left f.path i))
        where
          left : (revisions : List Revision) → IsNext revisions s r → Contains revisions s
          left [] n = absurd n
          left (x ∷ revisions) (inl h) =
              subst (λ z. Contains (x ∷ revisions) z) h.0 (contains_here x revisions)
          left (x ∷ revisions) (inr h) = contains_there x s revisions (left revisions h)

      both : IsBehind journal edit.id r s ⊎ ((revision ≡ s) × IsFirst older r)
          → IsBehind journal edit.id other s ⊎ ((revision ≡ s) × IsFirst older other) → r ≡ other
      both (inl a) (inl b) = (legal_sound journal legal).tree edit.id r other s a b
      both (inl a) (inr b) = absurd (not_new r a b.0)
      both (inr a) (inl b) = absurd (not_new other b a.0)
      both (inr a) (inr b) = first older a.1 b.1
        where
          first : (revisions : List Revision) → IsFirst revisions r → IsFirst revisions other → r ≡ other
          first [] x y = absurd x
          first (z ∷ revisions) x y = sym x ∙ y

history_on : (revision other : Revision) (revisions : List Revision) → IsHistory revisions
    → IsFirst revisions other → revision.generation ≡ other.generation + 1 → IsHistory (revision ∷ revisions)
history_on revision other [] h i g = absurd i
history_on revision other (x ∷ revisions) h i g =
    let e : x.generation ≡ other.generation = ap (λ (z : Revision). z.generation) i in
    record { falls = (omega arith, h.falls) }

generation_first : (revisions : List Revision) (revision : Revision) → IsFirst revisions revision
    → generation_of (parent_of revisions) ≡ revision.generation
generation_first [] revision i = absurd i
generation_first (other ∷ revisions) revision i = ap (λ (z : Revision). z.generation) i

-- a draft's edit is acceptable where its revision is new
made_acceptable : (journal : List Edit) (draft : Draft) (path : List Revision) → IsLegal journal
    → IsExtended journal draft.id path
    → ¬ IsKnown journal draft.id (new_revision draft (parent_of path)) → IsAcceptable journal (edit_of draft path)
made_acceptable journal draft path legal x new = record {
  history = history x;
  new = λ other i k. new (subst (λ revisions. IsKnown journal draft.id revisions) (sym i) k);
  agrees = tree_with journal (edit_of draft path) (new_revision draft (parent_of path)) legal new path (steps x) refl;
}
  where
    history : IsExtended journal draft.id path → IsHistory (new_revision draft (parent_of path) ∷ path)
    history (inl e) =
        subst (λ (revisions : List Revision). IsHistory (new_revision draft (parent_of revisions) ∷ revisions))
        (sym e)
        (record { falls = omega arith })
    history (inr (other, k, e)) =
        let w = line_of_walk journal draft.id legal other k in
        let first : IsFirst path other = subst (λ revisions. IsFirst revisions other) (sym e) w.0 in
        history_on (new_revision draft (parent_of path)) other path
        (walk_history journal draft.id (legal_histories journal legal) path other first k
        (subst (λ revisions. IsWalk journal draft.id revisions) (sym e) w.1))
        first (ap (λ (n : ℕ). n + 1) (generation_first path other first))

    steps : IsExtended journal draft.id path → (revision other : Revision) → IsNext path revision other
        → IsBehind journal draft.id other revision
    steps (inl e) revision other n = absurd (subst (λ revisions. IsNext revisions revision other) e n)
    steps (inr (t, k, e)) revision other n =
        walk_steps journal draft.id path revision other
        (subst (λ revisions. IsWalk journal draft.id revisions) (sym e)
        (line_of_walk journal draft.id legal t k).1) n

pub makes_legal : (limit : ℕ) (journal : List Edit) (draft : Draft) → IsLegal journal
    → IsLegal (draft_result limit journal draft).journal
makes_legal limit journal draft h =
    from (extended_path journal draft.id (leaves_of journal draft.id) draft.rev) refl
  where
    known : (revision : Revision) → names (revisions_of (leaves_of journal draft.id)) revision ≡ true
        → IsKnown journal draft.id revision
    known revision n =
        (leaf_is journal draft.id revision
        (names_is (revisions_of (leaves_of journal draft.id)) revision n)).0

    from : (o : Option (List Revision)) → extended_path journal draft.id (leaves_of journal draft.id) draft.rev ≡ o
        → IsLegal (draft_result_on limit journal draft o).journal
    from None e = h
    from (Some path) e =
        stores_if (nat_le 65535 (generation_of (parent_of path))) _ _ (λ t. h) (λ t. stores_if
        (is_known journal draft.id (new_revision draft (parent_of path))) _ _ (λ u. h)
        (λ u. adds_legal limit journal (edit_of draft path) h
        (made_acceptable journal draft path h
        (extended_known journal draft.id (leaves_of journal draft.id) draft.rev path known e)
        (λ k. both_ways _ u (is_known_from journal draft.id (new_revision draft (parent_of path)) k)))))

-- storing documents one after the other
pub all_legal : {A : Type 0} (store : List Edit → A → Stores)
    → ((journal : List Edit) (x : A) → IsLegal journal → IsLegal (store journal x).journal)
    → (deleted : Bool) (journal : List Edit) (xs : List A) → IsLegal journal
    → IsLegal (stores_all store deleted journal xs).journal
all_legal store each true journal [] h = h
all_legal store each false journal [] h = h
all_legal store each true journal (x ∷ xs) h = h
all_legal store each false journal (x ∷ xs) h =
    all_legal store each false (store journal x).journal xs (each journal x h)
