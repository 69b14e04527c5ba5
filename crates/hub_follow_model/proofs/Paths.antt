-- Paths, rows and the fronts of a journal: the lemmas of this crate beside those of hub_model.
use Rattle.std.proofs.Common.{◌≡◌, ◌≢◌, ℕ, List, [], ◌∷◌, ◌++◌, Contains, ◌⊎◌, inl, inr, refl, sym, ap, ap₂}
use Rattle.std.proofs.Common.{⊎_elim, subst, arith, append_assoc, append-nil, Bool}
use Rattle.hub_model.specs.Current.{IsCurrent}
use Rattle.hub_model.specs.Journal.{Edit, IsBehind, IsAcceptable, IsLegalAfter}
use Rattle.hub_model.specs.Leaves.{IsLeaf}
use Rattle.hub_model.specs.Path.{IsFirst, IsNext}
use Rattle.hub_model.specs.Revision.{Revision}
use Rattle.hub_model.specs.Row.{ChangeRow, IsRow}
use Rattle.hub_model.specs.declared.feeds.Style.TheVariants.{AllDocs}
use Rattle.hub_model.proofs.Leaves.{is_leaf_from}
use Rattle.hub_model.proofs.Legal.{Holds}
use Rattle.hub_model.proofs.Lists.{contains_none, contains_there, contains_cases, same_number, same_text}
use Rattle.hub_model.proofs.Shown.{current_is}

-- each entry of a legal journal was acceptable after those before it
pub legal_at : (before others edits : List Edit) (edit : Edit) → IsLegalAfter before (others ++ edit ∷ edits)
    → IsAcceptable (before ++ others) edit
legal_at before [] edits edit h = subst (λ K. IsAcceptable K edit) (sym (append-nil before)) h.0
legal_at before (other ∷ others) edits edit h =
    subst (λ K. IsAcceptable K edit) (append_assoc before (other ∷ []) others)
    (legal_at (before ++ other ∷ []) others edits edit h.1)

-- a revision that stands behind another stays behind it as the journal grows
pub behind_more : (journal other_journal : List Edit) (id : List ℕ) (revision other : Revision)
    → Holds journal other_journal → IsBehind other_journal id revision other
    → IsBehind journal id revision other
behind_more journal other_journal id revision other h (e, (c, n), i) = (e, (h e c, n), i)

-- a path has one first revision
pub first_same : (revisions : List Revision) (revision other : Revision) → IsFirst revisions revision
    → IsFirst revisions other → revision ≡ other
first_same [] revision other h k = absurd h
first_same (x ∷ revisions) revision other h k = cc

-- a revision of a path that is not its first stands behind another
pub first_or_next : (revisions : List Revision) (revision : Revision) → Contains revisions revision
    → IsFirst revisions revision ⊎ ((s : Revision) × IsNext revisions s revision)
first_or_next [] revision c = absurd (contains_none revision c)
first_or_next (other ∷ revisions) revision c =
    both (first_or_next revisions revision) (contains_cases other revision revisions c)
  where
    deeper : IsFirst revisions revision ⊎ ((s : Revision) × IsNext revisions s revision)
        → IsFirst (other ∷ revisions) revision ⊎ ((s : Revision) × IsNext (other ∷ revisions) s revision)
    deeper (inl i) = inr (other, inl (refl, i))
    deeper (inr (s, n)) = inr (s, inr n)

    both : (Contains revisions revision → IsFirst revisions revision
        ⊎ ((s : Revision) × IsNext revisions s revision)) → (other ≡ revision) ⊎ Contains revisions revision
        → IsFirst (other ∷ revisions) revision ⊎ ((s : Revision) × IsNext (other ∷ revisions) s revision)
    both ih (inl e) = inl e
    both ih (inr h) = deeper (ih h)

same_revision : (revision other : Revision) → (revision ≡ other) ⊎ (revision ≢ other)
same_revision revision other =
    both (same_number revision.generation other.generation) (same_text revision.hash other.hash)
  where
    both : (revision.generation ≡ other.generation) ⊎ (revision.generation ≢ other.generation)
        → (revision.hash ≡ other.hash) ⊎ (revision.hash ≢ other.hash) → (revision ≡ other)
        ⊎ (revision ≢ other)
    both (inl p) (inl q) = inl (ap₂ (λ (g : ℕ) (h : List ℕ). record { generation = g; hash = h }) p q)
    both (inl p) (inr q) = inr (λ e. q (ap (λ (x : Revision). x.hash) e))
    both (inr p) q = inr (λ e. p (ap (λ (x : Revision). x.generation) e))

-- a path names a revision, or does not
pub in_path : (revisions : List Revision) (revision : Revision) → Contains revisions revision
    ⊎ ¬ Contains revisions revision
in_path [] revision = inr (contains_none revision)
in_path (other ∷ revisions) revision = both (same_revision other revision) (in_path revisions revision)
  where
    both : (other ≡ revision) ⊎ (other ≢ revision) → Contains revisions revision
        ⊎ ¬ Contains revisions revision → Contains (other ∷ revisions) revision
        ⊎ ¬ Contains (other ∷ revisions) revision
    both (inl e) q = inl (0, omega arith, e)
    both (inr n) (inl h) = inl (contains_there other revision revisions h)
    both (inr n) (inr h) = inr (λ c. ⊎_elim n h (contains_cases other revision revisions c))

-- of two fronts of one list one is a front of the other
pub fronts : {X : Type 0} (K rest A B : List X) (e : X) → K ++ rest ≡ A ++ e ∷ B
    → ((C : List X) × (A ≡ K ++ C)) ⊎ ((C : List X) × (K ≡ A ++ e ∷ C))
fronts [] rest A B e h = inl (A, refl)
fronts (k ∷ K) rest [] B e h = inr (K, cc)
fronts {X = X} (k ∷ K) rest (a ∷ A) B e h = both (fronts K rest A B e (cc))
  where
    both : ((C : List X) × (A ≡ K ++ C)) ⊎ ((C : List X) × (K ≡ A ++ e ∷ C))
        → ((C : List X) × (a ∷ A ≡ (k ∷ K) ++ C)) ⊎ ((C : List X) × (k ∷ K ≡ (a ∷ A) ++ e ∷ C))
    both (inl (C, p)) = inl (C, cc)
    both (inr (C, p)) = inr (C, cc)

-- a row of all leaves: its entry, and that it lists each leaf
pub row_is : (journal : List Edit) (docs : Bool) (row : ChangeRow) → IsRow journal AllDocs docs row
    → (edit : Edit) × IsCurrent journal row.seq edit × (edit.id ≡ row.id)
row_is journal docs row (c, h, q) =
    subst (λ (r : ChangeRow). (edit : Edit) × IsCurrent journal r.seq edit × (edit.id ≡ r.id)) (sym q)
    (current_is journal c h)

pub row_lists : (journal : List Edit) (docs : Bool) (row : ChangeRow) → IsRow journal AllDocs docs row
    → (revision : Revision) → IsLeaf journal row.id revision → Contains row.changes revision
row_lists journal docs row (c, h, q) revision =
    subst (λ (w : ChangeRow). IsLeaf journal w.id revision → Contains w.changes revision) (sym q)
    (is_leaf_from journal c.id revision)
