-- The stems keep as many revisions as the edits have different ones.
use Rattle.std.proofs.Common.{◌≡◌, ℕ, zero, suc, ◌+◌, ◌-◌, ◌≤◌, List, [], ◌∷◌, ◌++◌, length}
use Rattle.std.proofs.Common.{drop, take, filter, Bool, true, false, cond, inl, inr, refl}
use Rattle.std.proofs.Common.{sym, ap, ◌∙◌, subst, append_assoc, append-nil, add-one, arith}
use Rattle.std.specs.Prelude.{Some, not, slice_get, min}
use Rattle.std.specs.List.{list_any}
use Rattle.std.proofs.lemmas.Bool.{cases_Bool}
use Rattle.std.proofs.lemmas.List.{length-take, map-append, take-append-drop, take_all}
use Rattle.std.proofs.lemmas.List.Filters.{length-filter_both, length-filter_more}
use Rattle.std.proofs.lemmas.Option.{get_or_from_slice_get, same_Some, slice_get_within}
use Rattle.hub_model.specs.Revision.{Revision, is_same}
use Rattle.hub_model.specs.Path.{names}
use Rattle.hub_model.specs.Journal.{Edit, is_known}
use Rattle.hub_model.specs.Missing.{unknown_revisions}
use Rattle.hub_model.proofs.Tests.{or_false, or_left, or_right, same_self}
use Rattle.hub_revtree.specs.Branch.{edit_of, edits_in}
use Rattle.hub_revtree.specs.Count.{count_after, revision_count}
use Rattle.hub_revtree.specs.Stem.{Stem, AreStems, branch_of, branches_of}
use Rattle.hub_revtree.specs.Stem.{chain_from, chain_of, chains_of, has_revision}
use Rattle.hub_revtree.proofs.StemLemmas.{chains_name, from_chain_named, from_end, front, get_last}
use Rattle.hub_revtree.proofs.StemLemmas.{named_in, names_take, one_stem_more, take_more}
use Rattle.hub_revtree.proofs.TreeLemmas.{known_by}

-- the revisions that none of the stems has
abbrev pub new_of : List Stem → List Revision → List Revision
new_of earlier revs = filter (λ r. not (has_revision earlier r)) revs

-- how many revisions the stems bring, each counted at the first stem that has it
abbrev pub brought_after : List Stem → List Stem → ℕ
brought_after earlier [] = 0
brought_after earlier (stem ∷ later) =
    length (new_of earlier stem.revisions) + brought_after (earlier ++ stem ∷ []) later

-- one edit more
count_more : (earlier later : List Edit) (edit : Edit)
    → count_after earlier (later ++ edit ∷ [])
    ≡ count_after earlier later + length (unknown_revisions (earlier ++ later) [] edit.path)
count_more earlier [] edit =
    let same : length (unknown_revisions (earlier ++ []) [] edit.path) ≡ length (unknown_revisions earlier [] edit.path) =
    ap (λ es. length (unknown_revisions es [] edit.path)) (append-nil earlier) in
    omega (arith, same)
count_more earlier (other ∷ later) edit =
    let ih = count_more (earlier ++ other ∷ []) later edit in
    let same : length (unknown_revisions ((earlier ++ other ∷ []) ++ later) [] edit.path)
    ≡ length (unknown_revisions (earlier ++ other ∷ later) [] edit.path) =
    ap (λ es. length (unknown_revisions es [] edit.path)) (append_assoc earlier (other ∷ []) later) in
    omega (arith, ih, same)

-- the missing revisions of a path are the new ones
missing_new : (stems : List Stem) → AreStems stems → (revisions : List Revision)
    → unknown_revisions (edits_in (branches_of stems)) [] revisions ≡ new_of stems revisions
missing_new stems a [] = refl
missing_new stems a (revision ∷ revisions) =
    let same : is_known (edits_in (branches_of stems)) [] revision ≡ has_revision stems revision =
    known_by (branches_of stems) revision ∙ named_in stems a revision in
    rw same (elim (cases_Bool (has_revision stems revision)) [
      | inl t ↦ rw t (missing_new stems a revisions)
      | inr t ↦ rw t (ap (λ z. revision ∷ z) (missing_new stems a revisions))
    ])

new_front : (stems : List Stem) (others revisions : List Revision)
    → ((revision : Revision) → names revisions revision ≡ true → has_revision stems revision ≡ true)
    → new_of stems (others ++ revisions) ≡ new_of stems others
new_front stems [] [] known = refl
new_front stems [] (revision ∷ revisions) known =
    rw (known revision (or_left (is_same revision revision) (names revisions revision) (same_self revision)))
    (new_front stems [] revisions (λ s n. known s (or_right (is_same s revision) (names revisions s) n)))
new_front stems (revision ∷ others) revisions known = elim (cases_Bool (has_revision stems revision)) [
  | inl t ↦ rw t (new_front stems others revisions known)
  | inr t ↦ rw t (ap (λ z. revision ∷ z) (new_front stems others revisions known))
]

-- all revisions are new where no stem has one
pub all_new : (stems : List Stem) (revisions : List Revision)
    → list_any (has_revision stems) revisions ≡ false → new_of stems revisions ≡ revisions
all_new stems [] f = refl
all_new stems (revision ∷ revisions) f =
    let g = or_false (has_revision stems revision) (list_any (has_revision stems) revisions) f in
    rw g.0 (ap (λ z. revision ∷ z) (all_new stems revisions g.1))

-- a stem's own revisions are in front of its path, and the others are known
rest_known : (stems : List Stem) (stem : Stem) → AreStems (stems ++ stem ∷ [])
    → (rest : List Revision) × ((branch_of (chain_of (chains_of stems) stem)).path ≡ stem.revisions ++ rest)
    × ((revision : Revision) → names rest revision ≡ true → has_revision stems revision ≡ true)
rest_known stems stem a =
    let c = a.counted (length stems) stem (get_last stems stem) in (
      take (stem.count - length stem.revisions) (chain_from (chains_of stems) stem.parent),
      take_more stem.count stem.revisions (chain_from (chains_of stems) stem.parent) c.0,
      λ revision n. sym (chains_name stems revision)
          ∙ from_chain_named (chains_of stems) stem.parent revision
          (names_take (stem.count - length stem.revisions)
          (chain_from (chains_of stems) stem.parent) revision n),
    )

brought_more : (earlier later : List Stem) (stem : Stem)
    → brought_after earlier (later ++ stem ∷ [])
    ≡ brought_after earlier later + length (new_of (earlier ++ later) stem.revisions)
brought_more earlier [] stem =
    let same : length (new_of (earlier ++ []) stem.revisions) ≡ length (new_of earlier stem.revisions) =
    ap (λ z. length (new_of z stem.revisions)) (append-nil earlier) in
    omega (arith, same)
brought_more earlier (other ∷ later) stem =
    let ih = brought_more (earlier ++ other ∷ []) later stem in
    let same : length (new_of ((earlier ++ other ∷ []) ++ later) stem.revisions)
    ≡ length (new_of (earlier ++ other ∷ later) stem.revisions) =
    ap (λ z. length (new_of z stem.revisions)) (append_assoc earlier (other ∷ []) later) in
    omega (arith, ih, same)

abbrev AreCounted : List Stem → Type 0
AreCounted stems = AreStems stems → brought_after [] stems ≡ revision_count (edits_in (branches_of stems))

counted_more : (stems : List Stem) (stem : Stem) → AreCounted stems → AreCounted (stems ++ stem ∷ [])
counted_more stems stem ih a =
    let bs = branches_of stems in
    let b = branch_of (chain_of (chains_of stems) stem) in
    let rest = rest_known stems stem a in
    let brought : unknown_revisions (edits_in bs) [] b.path ≡ new_of stems stem.revisions =
    missing_new stems (front stems stem a) b.path
    ∙ (ap (new_of stems) rest.1 ∙ new_front stems stem.revisions rest.0 rest.2) in
    let number : length (unknown_revisions (edits_in bs) [] b.path) ≡ length (new_of stems stem.revisions) =
    ap length brought in
    let more : revision_count (edits_in bs ++ edit_of b ∷ [])
    ≡ revision_count (edits_in bs) + length (unknown_revisions (edits_in bs) [] b.path) =
    count_more [] (edits_in bs) (edit_of b) in
    let so_far : brought_after [] stems ≡ revision_count (edits_in bs) = ih (front stems stem a) in
    let whole : brought_after [] (stems ++ stem ∷ []) ≡ revision_count (edits_in bs ++ edit_of b ∷ []) =
    omega (arith, brought_more [] stems stem, more, so_far, number) in
    whole ∙ ap revision_count (sym (ap edits_in (one_stem_more stems stem) ∙ map-append edit_of bs (b ∷ [])))

-- each revision is counted once
pub counted : (stems : List Stem) → AreStems stems
    → brought_after [] stems ≡ revision_count (edits_in (branches_of stems))
counted = from_end AreCounted (λ a. refl) counted_more

-- one stem more of a sum that stays within its type
pub brought_one : (stems : List Stem) (k : ℕ) (stem : Stem) → slice_get stems k ≡ Some stem
    → brought_after [] (take (k + 1) stems)
    ≡ brought_after [] (take k stems) + length (new_of (take k stems) stem.revisions)
brought_one stems k stem e = ap (brought_after []) (split stems k e) ∙ brought_more [] (take k stems) stem
  where
    more : (stems : List Stem) (k : ℕ) → slice_get stems k ≡ Some stem → take (suc k) stems ≡ take k stems
        ++ stem ∷ []
    more [] k e = absurd (cc)
    more (x ∷ stems) zero e = ap (λ z. z ∷ []) (same_Some x stem e)
    more (x ∷ stems) (suc k) e = ap (λ z. x ∷ z) (more stems k e)

    split : (stems : List Stem) (k : ℕ) → slice_get stems k ≡ Some stem → take (k + 1) stems ≡ take k stems
        ++ stem ∷ []
    split stems k e = rw (add-one k) (more stems k e)

pub saturated_more : (stems : List Stem) (k : ℕ) (stem : Stem) (count new next most : ℕ)
    → slice_get stems k ≡ Some stem
    → count ≡ min (brought_after [] (take k stems)) most → new ≡ length (new_of (take k stems) stem.revisions)
    → next ≡ min (count + new) most → next ≡ min (brought_after [] (take (k + 1) stems)) most
saturated_more stems k stem count new next most e so_far number is =
    let more = brought_one stems k stem e in omega (arith, so_far, number, is, more)

pub saturated_all : (stems : List Stem) (k count most : ℕ) → AreStems stems
    → length stems ≤ k → count ≡ min (brought_after [] (take k stems)) most
    → count ≡ min (revision_count (edits_in (branches_of stems))) most
saturated_all stems k count most a past is =
    let all : brought_after [] (take k stems) ≡ brought_after [] stems =
    ap (brought_after []) (take_all k stems past) in
    omega (arith, is, all, counted stems a)

-- the first stems of a tree's are stems of a tree
are_front : (stems others : List Stem) → AreStems (stems ++ others) → AreStems stems
are_front stems [] a = subst AreStems (append-nil stems) a
are_front stems (stem ∷ others) a =
    front stems stem (are_front (stems ++ stem ∷ []) others
    (subst AreStems (sym (append_assoc stems (stem ∷ []) others)) a))

pub are_taken : (k : ℕ) (stems : List Stem) → AreStems stems → AreStems (take k stems)
are_taken k stems a =
    are_front (take k stems) (drop k stems) (subst AreStems (sym (take-append-drop k stems)) a)

-- the new ones of the first revisions are no more than these
pub new_few : (earlier : List Stem) (revisions : List Revision) (at count : ℕ)
    → count ≡ length (new_of earlier (take at revisions)) → count ≤ at
new_few earlier revisions at count so_far =
    let all =
    length-filter_both (λ r. not (has_revision earlier r)) (λ r. not (not (has_revision earlier r)))
    (λ r. refl) (take at revisions) in
    omega (arith, so_far, all, length-take at revisions)

new_next : (earlier : List Stem) (revisions : List Revision) (at : ℕ) (revision : Revision) (known : Bool)
    → slice_get revisions at ≡ Some revision → has_revision earlier revision ≡ known
    → length (new_of earlier (take (at + 1) revisions)) ≡ length (new_of earlier (take at revisions)) + cond
    (not known) 1 0
new_next earlier revisions at revision known e is =
    length-filter_more (λ s. not (has_revision earlier s)) revisions at revision
    (slice_get_within revisions at revision e)
    ∙ ap (λ s. length (new_of earlier (take at revisions)) + cond (not (has_revision earlier s)) 1 0)
    (get_or_from_slice_get revisions at revision revision e)
    ∙ ap (λ b. length (new_of earlier (take at revisions)) + cond (not b) 1 0) is

-- with the next revision, which is new, there is one more
pub new_more : (earlier : List Stem) (revisions : List Revision) (at count : ℕ) (revision : Revision)
    → slice_get revisions at ≡ Some revision → has_revision earlier revision ≡ false
    → count ≡ length (new_of earlier (take at revisions))
    → count + 1 ≡ length (new_of earlier (take (at + 1) revisions))
new_more earlier revisions at count revision e new so_far =
    omega (arith, so_far, new_next earlier revisions at revision false e new)

-- with the next revision, which is known, there are as many
pub new_same : (earlier : List Stem) (revisions : List Revision) (at count : ℕ) (revision : Revision)
    → slice_get revisions at ≡ Some revision → has_revision earlier revision ≡ true
    → count ≡ length (new_of earlier (take at revisions))
    → count ≡ length (new_of earlier (take (at + 1) revisions))
new_same earlier revisions at count revision e known so_far =
    omega (arith, so_far, new_next earlier revisions at revision true e known)
