-- The revisions behind a revision: step by step, and by lists of steps.
use Rattle.std.proofs.Common.{◌≡◌, ℕ, ◌+◌, ◌≤◌, List, [], ◌∷◌, ◌++◌, length, take, true}
use Rattle.std.proofs.Common.{false, Contains, inl, inr, refl, sym, ap, ◌∙◌, subst, arith}
use Rattle.std.specs.Prelude.{Option, Some, None, slice_get}
use Rattle.std.specs.List.{list_any}
use Rattle.std.proofs.lemmas.Bool.{cases_Bool}
use Rattle.std.proofs.lemmas.Option.{same_Some}
use Rattle.std.proofs.Math.Seq.{take-append_seam}
use Rattle.hub_model.specs.Revision.{Revision}
use Rattle.hub_model.specs.Path.{Falls, IsFirst, IsNext, IsHistory, names}
use Rattle.hub_model.specs.Journal.{Edit, Edits, IsBehind, IsKnown, IsLegal, edits_of, head_of, is_known}
use Rattle.hub_model.specs.Missing.{unknown_revisions}
use Rattle.hub_model.specs.Walk.{IsWalk, behind_in, line_of}
use Rattle.hub_model.proofs.Legal.{legal_sound}
use Rattle.hub_model.proofs.Tests.{edits_in as edits_in_of, in_edits, known_is, is_known_from}
use Rattle.hub_model.proofs.Walks.{legal_histories, behind_falls, behind_in_is, behind_in_none}
use Rattle.hub_model.proofs.Walks.{behind_known, known_above, line_of_walk, walk_history, walk_on}
use Rattle.hub_model.proofs.Drafts.{walk_same}
use Rattle.hub_revtree.specs.Branch.{Branch, edits_in, unnamed_in}
use Rattle.hub_revtree.specs.Common.{last_in}
use Rattle.hub_revtree.specs.Tree.{IsRevTree}
use Rattle.hub_revtree.specs.Extend.{line_to, path_to}
use Rattle.hub_revtree.proofs.BranchLemmas.{within_generation}
use Rattle.hub_revtree.proofs.TreeLemmas.{known_by}

-- a list of revisions has a last one
pub has_last : (revision : Revision) (revisions : List Revision) → (z : Revision)
    × (last_in (revision ∷ revisions) ≡ Some z)
has_last revision [] = (revision, refl)
has_last revision (other ∷ revisions) = has_last other revisions

module _ (edits : List Edit) (legal : IsLegal edits) where
  abbrev pub HasSteps : List Revision → Type 0
  HasSteps revisions =
      (revision other : Revision) → IsNext revisions revision other → IsBehind edits [] other revision

  -- the revision that stands directly behind another is the one that `behind_in` gives
  pub told_is : (revision other : Revision) → IsBehind edits [] other revision
      → behind_in revision (edits_of edits []) ≡ Some other
  told_is revision other b = from (behind_in revision (edits_of edits [])) refl
    where
      from : (maybe_revision : Option Revision) → behind_in revision (edits_of edits []) ≡ maybe_revision
          → behind_in revision (edits_of edits []) ≡ Some other
      from None q =
          absurd (behind_in_none (edits_of edits []) revision other q b.0 (in_edits edits [] b.0 b.1)
          (legal_histories edits legal b.0 b.1.0).falls b.2)
      from (Some t) q =
          let i = behind_in_is (edits_of edits []) revision t q in
          q ∙ ap Some ((legal_sound edits legal).tree [] t other revision
          (i.0, edits_in_of edits [] i.0 i.1, i.2) b)

  pub told_none : (revision : Revision) → ((other : Revision) → ¬ IsBehind edits [] other revision)
      → behind_in revision (edits_of edits []) ≡ None
  told_none revision none = from (behind_in revision (edits_of edits [])) refl
    where
      from : (maybe_revision : Option Revision) → behind_in revision (edits_of edits []) ≡ maybe_revision
          → behind_in revision (edits_of edits []) ≡ None
      from None q = q
      from (Some t) q =
          let i = behind_in_is (edits_of edits []) revision t q in
          absurd (none t (i.0, edits_in_of edits [] i.0 i.1, i.2))

  pub told_behind : (revision other : Revision) → behind_in revision (edits_of edits []) ≡ Some other
      → IsBehind edits [] other revision
  told_behind revision other q =
      let i = behind_in_is (edits_of edits []) revision other q in (i.0, edits_in_of edits [] i.0 i.1, i.2)

  pub none_told : (revision : Revision) → behind_in revision (edits_of edits []) ≡ None → (other : Revision)
      → ¬ IsBehind edits [] other revision
  none_told revision q other b =
      behind_in_none (edits_of edits []) revision other q b.0 (in_edits edits [] b.0 b.1)
      (legal_histories edits legal b.0 b.1.0).falls b.2

  -- a list of steps, and the line of the revision behind its last, are a walk
  steps_walk : (revision : Revision) (revisions : List Revision) → HasSteps (revision ∷ revisions)
      → (other : Revision) → last_in (revision ∷ revisions) ≡ Some other → (maybe_revision : Option Revision)
      → behind_in other (edits_of edits []) ≡ maybe_revision
      → IsWalk edits [] ((revision ∷ revisions) ++ line_to edits maybe_revision)
  steps_walk revision [] steps other last None told =
      λ r b. none_told other told r (subst (λ w. IsBehind edits [] r w) (same_Some revision other last) b)
  steps_walk revision [] steps other last (Some y) told =
      let b = told_behind other y told in
      let known = behind_known edits [] (legal_histories edits legal) y other b in
      let w = line_of_walk edits [] legal y known in
      rw (is_known_from edits [] y known)
      (walk_on edits [] revision y (line_of edits [] y)
      (subst (λ v. IsBehind edits [] y v) (sym (same_Some revision other last)) b) w.0 w.1)
  steps_walk revision (y ∷ revisions) steps other last maybe_revision told = (
    steps revision y (inl (refl, refl)),
    steps_walk y revisions (λ s r n. steps s r (inr n)) other last maybe_revision told,
  )

  -- so they are the line of the first
  pub line_front : (revision : Revision) (revisions : List Revision) → IsKnown edits [] revision
      → HasSteps (revision ∷ revisions)
      → (other : Revision) → last_in (revision ∷ revisions) ≡ Some other → (maybe_revision : Option Revision)
      → behind_in other (edits_of edits []) ≡ maybe_revision
      → line_to edits (Some revision) ≡ (revision ∷ revisions) ++ line_to edits maybe_revision
  line_front revision revisions known steps other last maybe_revision told =
      let w = line_of_walk edits [] legal revision known in
      rw (is_known_from edits [] revision known)
      (walk_same edits [] (line_of edits [] revision)
      ((revision ∷ revisions) ++ line_to edits maybe_revision) revision
      ((legal_sound edits legal).tree []) w.1
      (steps_walk revision revisions steps other last maybe_revision told) w.0 refl)

  -- the path of an edit is the front of its head's line
  pub edit_front : (edit : Edit) (revision : Revision) → Edits edits [] edit → head_of edit ≡ Some revision
      → take (length edit.path) (line_to edits (Some revision)) ≡ edit.path
  edit_front edit revision own head = from edit.path refl head
    where
      from : (revisions : List Revision) → edit.path ≡ revisions → slice_get revisions 0 ≡ Some revision
          → take (length revisions) (line_to edits (Some revision)) ≡ revisions
      from [] q h = absurd (cc)
      from (x ∷ revisions) q h =
          let same : x ≡ revision = same_Some x revision h in
          let z = has_last x revisions in
          let known : IsKnown edits [] x =
          (edit, own, subst (λ w. Contains w x) (sym q) (0, omega arith, refl)) in
          let steps : HasSteps (x ∷ revisions) = λ s t n. (edit, own, subst (λ w. IsNext w s t) (sym q) n) in
          ap (λ w. take (length (x ∷ revisions)) (line_to edits (Some w))) (sym same)
          ∙ ap (take (length (x ∷ revisions)))
          (line_front x revisions known steps z.0 z.1 (behind_in z.0 (edits_of edits [])) refl)
          ∙ take-append_seam (x ∷ revisions) (line_to edits (behind_in z.0 (edits_of edits [])))

  -- the generations fall along steps
  pub steps_fall : (revision : Revision) (revisions : List Revision) → IsKnown edits [] revision
      → HasSteps (revision ∷ revisions) → Falls revision revisions
  steps_fall revision [] known steps = known_above edits [] (legal_histories edits legal) revision known
  steps_fall revision (other ∷ revisions) known steps =
      let b = steps revision other (inl (refl, refl)) in (
        behind_falls edits [] (legal_histories edits legal) other revision b,
        steps_fall other revisions (behind_known edits [] (legal_histories edits legal) other revision b)
            (λ s r n. steps s r (inr n)),
      )

  -- no revision stands behind one of generation 1
  pub first_ends : (revision : Revision) → revision.generation ≡ 1 → (other : Revision)
      → ¬ IsBehind edits [] other revision
  first_ends revision first other b =
      let falls : revision.generation ≡ other.generation + 1 = behind_falls edits []
      (legal_histories edits legal) other revision b in
      let above : 1 ≤ other.generation =
      known_above edits [] (legal_histories edits legal) other
      (behind_known edits [] (legal_histories edits legal) other revision b) in
      absurd (omega arith)

-- the last of a path is as many generations below the first as there are revisions behind the first
pub last_down : (revision : Revision) (revisions : List Revision) (other : Revision)
    → Falls revision revisions → last_in (revision ∷ revisions) ≡ Some other
    → other.generation + length revisions ≡ revision.generation
last_down revision [] other f e =
    let same : revision.generation ≡ other.generation = ap (λ (w : Revision). w.generation)
    (same_Some revision other e) in
    omega (arith, same)
last_down revision (y ∷ revisions) other f e = omega (arith, last_down y revisions other f.1 e, f.0)

-- the line of a revision has no more revisions than its generation
pub line_short : (edits : List Edit) (revision : Revision) → IsLegal edits
    → length (line_to edits (Some revision)) ≤ revision.generation
line_short edits revision legal = elim (cases_Bool (is_known edits [] revision)) [
  | inl t ↦
      let known = known_is edits [] revision t in
      let w = line_of_walk edits [] legal revision known in
      rw t
      (short (line_of edits [] revision) w.0
      (walk_history edits [] (legal_histories edits legal)
      (line_of edits [] revision) revision w.0 known w.1))
  | inr t ↦ rw t (omega arith)
]
  where
    short : (revisions : List Revision) → IsFirst revisions revision → IsHistory revisions
        → length revisions ≤ revision.generation
    short [] i h = absurd i
    short (x ∷ revisions) i h = within_generation (x ∷ revisions) revision h (ap Some i)

-- a revision is known where it has a line
pub line_known : (edits : List Edit) (revision : Revision) (count : ℕ)
    → count ≡ length (line_to edits (Some revision)) → ¬ (count ≡ 0) → is_known edits [] revision ≡ true
line_known edits revision count long some = elim (cases_Bool (is_known edits [] revision)) [
  | inl t ↦ t
  | inr t ↦ absurd (some (rw t at long))
]

pub no_line_unknown : (edits : List Edit) (revision : Revision) (count : ℕ) → IsLegal edits
    → count ≡ length (line_to edits (Some revision)) → count ≡ 0 → is_known edits [] revision ≡ false
no_line_unknown edits revision count legal long none = elim (cases_Bool (is_known edits [] revision)) [
  | inl t ↦
      absurd (first (line_of edits [] revision)
      (line_of_walk edits [] legal revision (known_is edits [] revision t)).0
      (sym none ∙ (rw t at long)))
  | inr t ↦ t
]
  where
    first : (revisions : List Revision) → IsFirst revisions revision → ¬ (0 ≡ length revisions)
    first [] i e = absurd i
    first (x ∷ revisions) i e = absurd (omega (arith, e))

-- the path to a known revision is a history
pub path_history : (edits : List Edit) (revision : Revision) (path : List Revision) → IsRevTree edits
    → path_to edits revision ≡ Some path → IsHistory path
path_history edits revision path tree h = elim (cases_Bool (is_known edits [] revision)) [
  | inl t ↦
      let known = known_is edits [] revision t in
      let w = line_of_walk edits [] tree.legal revision known in
      subst IsHistory (same_Some (line_of edits [] revision) path (rw t at h))
      (walk_history edits [] (legal_histories edits tree.legal)
      (line_of edits [] revision) revision w.0 known w.1)
  | inr t ↦ absurd (let e = rw t at h in cc)
]

-- the revisions that no path names are the missing ones
pub missing_by : (branches : List Branch) (revs : List Revision)
    → unnamed_in branches revs ≡ unknown_revisions (edits_in branches) [] revs
missing_by branches [] = refl
missing_by branches (revision ∷ revs) = elim (cases_Bool (list_any (λ b. names b.path revision) branches)) [
  | inl t ↦ rw (t, known_by branches revision ∙ t) (missing_by branches revs)
  | inr t ↦ rw (t, known_by branches revision ∙ t) (ap (λ rs. revision ∷ rs) (missing_by branches revs))
]
