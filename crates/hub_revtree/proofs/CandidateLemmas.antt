-- The best of the candidates is the best leaf.
use Rattle.std.proofs.Common.{◌≡◌, ℕ, zero, suc, ◌+◌, ◌<◌, ◌≤◌, List, [], ◌∷◌, ◌++◌, length, Bool, true}
use Rattle.std.proofs.Common.{false, ◌⊎◌, inl, inr, refl, sym, ap, ap₂, ◌∙◌, subst, get_or, heap_items, arith}
use Rattle.std.specs.Prelude.{Contains, Option, Some, None, IfSome, IfNone}
use Rattle.std.specs.Prelude.{slice_get, option_and_then, option_map, not, nat_lt}
use Rattle.std.specs.List.{list_any}
use Rattle.std.specs.List.Sorted.{IsPermutation}
use Rattle.std.specs.BinaryHeap.{HeapUnchanged, IsHeap, IsUpperBound, PopsGreatest}
use Rattle.std.specs.Ordering.{is_lt}
use Rattle.std.proofs.lemmas.Bool.{and_from, and_parts, both_ways, cases_Bool, ltb-false, ltb-true}
use Rattle.std.proofs.lemmas.List.{length-append}
use Rattle.std.proofs.lemmas.List.Folds.{list_any-append}
use Rattle.std.proofs.lemmas.List.Sorted.{Contains-permutation, IsPermutation-sym}
use Rattle.std.proofs.lemmas.Option.{same_Some, slice_get_past, slice_get_read, slice_get_within}
use Rattle.hub_model.specs.Revision.{Revision}
use Rattle.hub_model.specs.Path.{IsFirst}
use Rattle.hub_model.specs.Journal.{Edit, IsLegal, is_known, edits_of}
use Rattle.hub_model.specs.Leaves.{IsLeaf, IsMarked, is_behind_head, leaves_of, revisions_of}
use Rattle.hub_model.proofs.Leaves.{is_leaf_from, leaf_is, leaf_law}
use Rattle.hub_model.proofs.Legal.{first_in}
use Rattle.hub_model.proofs.Lists.{contains_cases, contains_here, contains_none, contains_there}
use Rattle.hub_model.proofs.Tests.{is_known_from, is_named, names_is, not_true, or_false}
use Rattle.hub_revtree.specs.declared.candidates.Candidates.{Candidates}
use Rattle.hub_revtree.specs.declared.leaf.Winner.{Winner}
use Rattle.hub_revtree.specs.Branch.{Branch, edit_of, edits_in}
use Rattle.hub_revtree.specs.Candidate.{Candidate, candidate_cmp}
use Rattle.hub_revtree.specs.Candidates.{AreCandidates, candidate_of, winner_in}
use Rattle.hub_revtree.specs.Winner.{head_in, winner_of}
use Rattle.hub_revtree.proofs.BranchLemmas.{any_map}
use Rattle.hub_revtree.proofs.LeafLemmas.{head_there}
use Rattle.hub_revtree.proofs.StemLemmas.{get_front, get_pushed}
use Rattle.hub_revtree.proofs.TreeLemmas.{all_of_one, first_of, from_tree, in_tree, wins}
use Rattle.hub_revtree.proofs.WinnerLemmas.{above_wins, branch_in, whole}

-- ---- leaves among the branches

-- whether revision stands behind a head of the branches
abbrev pub is_passed_in : List Branch → Revision → Bool
is_passed_in branches revision = list_any (λ b. is_behind_head revision (edit_of b)) branches

passed_by : (branches : List Branch) (revision : Revision)
    → list_any (is_behind_head revision) (edits_of (edits_in branches) []) ≡ is_passed_in branches revision
passed_by branches revision =
    ap (λ es. list_any (is_behind_head revision) es) (all_of_one branches)
    ∙ any_map (is_behind_head revision) edit_of branches

-- a branch of this number is one of them
numbered : (branches : List Branch) (k : ℕ) (branch : Branch) → slice_get branches k ≡ Some branch
    → Contains branches branch
numbered [] k branch e = absurd (cc)
numbered (other ∷ branches) zero branch e =
    subst (Contains (other ∷ branches)) (same_Some other branch e) (contains_here other branches)
numbered (other ∷ branches) (suc k) branch e =
    contains_there other branch branches (numbered branches k branch e)

first_get : (revisions : List Revision) (revision : Revision) → IsFirst revisions revision
    → slice_get revisions 0 ≡ Some revision
first_get [] revision i = absurd i
first_get (other ∷ revisions) revision i = ap Some i

module _ (branches : List Branch) where
  -- a head has its branch's mark, and is a leaf where it stands behind no head
  branch_marked : (k : ℕ) (winner : Winner) → option_and_then head_in (slice_get branches k) ≡ Some winner
      → IsMarked (edits_in branches) [] winner.rev winner.deleted
  branch_marked k winner h =
      let i = head_there branches k winner h in (
        edit_of i.0,
        (in_tree branches winner.rev branches i.0 (numbered branches k i.0 i.1), refl),
        first_of i.0.path winner.rev i.2,
        i.3,
      )

  branch_leaf : (k : ℕ) (winner : Winner) → option_and_then head_in (slice_get branches k) ≡ Some winner
      → is_passed_in branches winner.rev ≡ false → IsLeaf (edits_in branches) [] winner.rev
  branch_leaf k winner h leads =
      let m = branch_marked k winner h in
      let known = is_known_from (edits_in branches) [] winner.rev (m.0, m.1, first_in m.0.path winner.rev m.2)
      in
      leaf_is (edits_in branches) [] winner.rev
      (names_is (revisions_of (leaves_of (edits_in branches) [])) winner.rev
      (leaf_law (edits_in branches) [] winner.rev
      ∙ and_from (is_known (edits_in branches) [] winner.rev) _ known
      (ap not (passed_by branches winner.rev ∙ leads))))

  -- a leaf stands behind no head
  leaf_leads : (revision : Revision) → IsLeaf (edits_in branches) [] revision
      → is_passed_in branches revision ≡ false
  leaf_leads revision leaf =
      let named =
      is_named (revisions_of (leaves_of (edits_in branches) [])) revision
      (is_leaf_from (edits_in branches) [] revision leaf) in
      let parts =
      and_parts (is_known (edits_in branches) [] revision)
      (not (list_any (is_behind_head revision) (edits_of (edits_in branches) [])))
      (sym (leaf_law (edits_in branches) [] revision) ∙ named) in
      sym (passed_by branches revision) ∙ not_true _ parts.1

  -- a leaf is the head of a branch with its mark
  leaf_branch : (revision : Revision) (m : Bool) → IsMarked (edits_in branches) [] revision m
      → (k : ℕ) × (option_and_then head_in (slice_get branches k) ≡ Some
      (record { rev = revision; deleted = m }))
  leaf_branch revision m (e, edits, head, mark) =
      let i = from_tree branches revision branches e edits.0 in
      let there = slice_get_read branches _ i.1.0 i.0 refl i.1.1 (sym i.1.2) in
      let first : slice_get i.0.path 0 ≡ Some revision =
      first_get i.0.path revision (subst (λ (z : Edit). IsFirst z.path revision) (sym i.2) head) in
      let marked : i.0.deleted ≡ m = ap (λ (z : Edit). z.deleted) i.2 ∙ mark in (
        i.1.0,
        ap (option_and_then head_in) there
            ∙ (ap (option_map (λ (z : Revision). record { rev = z; deleted = i.0.deleted })) first
            ∙ ap (λ d. Some (record { rev = revision; deleted = d })) marked),
      )

-- ---- the candidates

abbrev items : Candidates → List Candidate
items candidates = heap_items candidates.heap

module _ (branches : List Branch) (legal : IsLegal (edits_in branches)) (candidates : Candidates)
    (are : AreCandidates branches candidates)
    (all : candidates.count ≡ length branches) where
  -- each leaf is among the candidates
  leaf_in : (revision : Revision) (m : Bool) → IsLeaf (edits_in branches) [] revision
      → IsMarked (edits_in branches) [] revision m
      → (k : ℕ) × Contains (items candidates) (candidate_of k (record { rev = revision; deleted = m }))
  leaf_in revision m leaf marked =
      let i = leaf_branch branches revision m marked in (
        i.0,
        are.whole i.0 (record { rev = revision; deleted = m })
            (subst (λ n. i.0 < n) (sym all) (within i.0 _ i.1)) i.1 (leaf_leads branches revision leaf),
      )
    where
      within : (k : ℕ) (winner : Winner) → option_and_then head_in (slice_get branches k) ≡ Some winner
          → k < length branches
      within k winner h = let i = head_there branches k winner h in slice_get_within branches k i.0 i.1

  -- a candidate that is a leaf, and below no candidate, is the best leaf
  pub top_wins : (top : Candidate) → Contains (items candidates) top
      → ((candidate : Candidate) → Contains (items candidates) candidate
      → is_lt (candidate_cmp top candidate) ≡ false) → is_passed_in branches top.rev ≡ false
      → option_and_then head_in (slice_get branches top.number) ≡ winner_of (leaves_of (edits_in branches) [])
  top_wins top here greatest leads =
      let head = are.heads top here in
      head
      ∙ sym (above_wins (edits_in branches) legal (winner_in top)
      (branch_leaf branches top.number (winner_in top) head leads)
      (branch_marked branches top.number (winner_in top) head) (λ s m leaf marked less.
      let i = leaf_in s m leaf marked in
      both_ways _ (greatest (candidate_of i.0 (record { rev = s; deleted = m })) i.1) (ap is_lt less)))

  -- where there is no candidate there is no leaf
  pub none_wins : items candidates ≡ [] → (n : ℕ) → n ≡ length branches
      → option_and_then head_in (slice_get branches n) ≡ winner_of (leaves_of (edits_in branches) [])
  none_wins empty n past =
      ap (option_and_then head_in) (slice_get_past branches n (omega (arith, past)))
      ∙ sym (from (winner_of (leaves_of (edits_in branches) [])) refl)
    where
      from : (maybe_winner : Option Winner) → winner_of (leaves_of (edits_in branches) []) ≡ maybe_winner
          → maybe_winner ≡ None
      from None e = refl
      from (Some w) e =
          let win = wins (edits_in branches) legal w e in
          let i = leaf_in w.rev win.0 win.1 win.2 in
          absurd (contains_none _
          (subst (λ z. Contains z (candidate_of i.0 (record { rev = w.rev; deleted = win.0 }))) empty i.1))

-- an upper bound of a list is below none in it
pub below_bound : (candidate : Candidate) (others : List Candidate)
    → IsUpperBound candidate_cmp candidate others → (y : Candidate)
    → Contains others y → is_lt (candidate_cmp candidate y) ≡ false
below_bound candidate [] u y c = absurd (contains_none y c)
below_bound candidate (other ∷ candidates) u y c = elim (contains_cases other y candidates c) [
  | inl e ↦ subst (λ v. is_lt (candidate_cmp candidate v) ≡ false) e u.0
  | inr d ↦ below_bound candidate candidates u.1 y d
]

-- ---- candidates stay candidates

-- the candidates are those of the branches with one more, which was not looked at
pub branch_more : (branches : List Branch) (branch : Branch) (candidates : Candidates)
    → AreCandidates branches candidates → AreCandidates (branches ++ branch ∷ []) candidates
branch_more branches branch candidates are = record {
  ordered = are.ordered;
  within = omega (arith, are.within, length-append branches (branch ∷ []));
  heads = λ x i.
      let h = are.heads x i in
      let there = head_there branches x.number (winner_in x) h in
      ap (option_and_then head_in) (get_front branches (branch ∷ []) x.number there.0 there.1 ∙ sym there.1)
      ∙ h;
  whole = λ k winner low h leads.
      let front =
      or_false (is_passed_in branches winner.rev) _
      (sym (list_any-append (λ other. is_behind_head winner.rev (edit_of other)) branches (branch ∷ []))
      ∙ leads) in
      let there = head_there (branches ++ branch ∷ []) k winner h in
      are.whole k winner low (older k winner low there.0 there.1 h) front.0;
}
  where
    older : (k : ℕ) (winner : Winner) → k < candidates.count → (other : Branch)
        → slice_get (branches ++ branch ∷ []) k ≡ Some other
        → option_and_then head_in (slice_get (branches ++ branch ∷ []) k) ≡ Some winner
        → option_and_then head_in (slice_get branches k) ≡ Some winner
    older k winner low other there h = elim (get_pushed branches branch k other there) [
      | inl f ↦ ap (option_and_then head_in) (f ∙ sym there) ∙ h
      | inr f ↦ absurd (omega (arith, f.0, low, are.within))
    ]

-- a number below the next count was below this count, or is this count
looked : (k n : ℕ) → k < n + 1 → (k < n) ⊎ (k ≡ n)
looked k n low = elim (cases_Bool (nat_lt k n)) [
  | inl t ↦ inl (ltb-true k n t)
  | inr t ↦ let past = ltb-false k n t in inr (omega (arith, low, past))
]

module _ (branches : List Branch) (candidates other : Candidates)
    (are : AreCandidates branches candidates) where
  module _ (w : Winner) (head : option_and_then head_in (slice_get branches candidates.count) ≡ Some w)
      (more : candidates.count < length branches) (next : other.count ≡ candidates.count + 1) where
    same_head : (k : ℕ) (v : Winner) → k ≡ candidates.count
        → option_and_then head_in (slice_get branches k) ≡ Some v → w ≡ v
    same_head k v e h =
        same_Some w v (sym head ∙ (ap (λ n. option_and_then head_in (slice_get branches n)) (sym e) ∙ h))

    -- the next branch was looked at, whose head is no leaf
    pub looked_past : other.heap ≡ candidates.heap → is_passed_in branches w.rev ≡ true
        → AreCandidates branches other
    looked_past same passed = record {
      ordered = subst (λ z. IsHeap candidate_cmp (heap_items z)) (sym same) are.ordered;
      within = omega (arith, next, more);
      heads = λ x i. are.heads x (subst (λ z. Contains (heap_items z) x) same i);
      whole = λ k v low h leads. elim (looked k candidates.count (omega (arith, next, low))) [
        | inl l ↦ subst (λ z. Contains (heap_items z) (candidate_of k v)) (sym same) (are.whole k v l h leads)
        | inr e ↦
            absurd (both_ways _
            (subst (λ (z : Winner). is_passed_in branches z.rev ≡ false) (sym (same_head k v e h)) leads)
            passed)
      ];
    }

    -- the next branch was looked at, and its head put among the candidates
    pub looked_at : IsHeap candidate_cmp (items other)
        → IsPermutation (candidate_of candidates.count w ∷ items candidates) (items other)
        → AreCandidates branches other
    looked_at ordered same = record {
      ordered = ordered;
      within = omega (arith, next, more);
      heads = λ x i. elim (contains_cases (candidate_of candidates.count w) x (items candidates)
          (Contains-permutation (items other) (candidate_of candidates.count w ∷ items candidates) x
          (IsPermutation-sym (candidate_of candidates.count w ∷ items candidates) (items other) same) i)) [
            | inl e ↦
                subst (λ (z : Candidate).
                option_and_then head_in (slice_get branches z.number) ≡ Some (winner_in z)) e head
            | inr o ↦ are.heads x o
          ];
      whole =
          λ k v low h leads. Contains-permutation (candidate_of candidates.count w ∷ items candidates)
          (items other)
          (candidate_of k v) same (elim (looked k candidates.count (omega (arith, next, low))) [
            | inl l ↦
                contains_there (candidate_of candidates.count w) (candidate_of k v) (items candidates)
                (are.whole k v l h leads)
            | inr e ↦
                let this : candidate_of candidates.count w ≡ candidate_of k v =
                ap₂ candidate_of (sym e) (same_head k v e h) in
                subst (Contains (candidate_of candidates.count w ∷ items candidates)) this
                (contains_here (candidate_of candidates.count w) (items candidates))
          ]);
    }

  -- a candidate that is no leaf was given up
  pub given_up : (candidate : Candidate) → IsHeap candidate_cmp (items other)
      → IsPermutation (items candidates) (candidate ∷ items other)
      → other.count ≡ candidates.count → is_passed_in branches candidate.rev ≡ true
      → AreCandidates branches other
  given_up candidate ordered same still passed = record {
    ordered = ordered;
    within = omega (arith, still, are.within);
    heads = λ y i. are.heads y
        (Contains-permutation (candidate ∷ items other) (items candidates) y
        (IsPermutation-sym (items candidates) (candidate ∷ items other) same)
        (contains_there candidate y (items other) i));
    whole = λ k v low h leads. elim (contains_cases candidate (candidate_of k v) (items other)
        (Contains-permutation (items candidates) (candidate ∷ items other) (candidate_of k v) same
        (are.whole k v (omega (arith, still, low)) h leads))) [
          | inl e ↦ absurd (both_ways _
              (ap (λ (z : Candidate). is_passed_in branches z.rev) e ∙ leads) passed)
          | inr o ↦ o
        ];
  }

-- the candidates that are kept once an edit more has come, of those that were kept
pub candidates_more : (branches others : List Branch) (edit : Edit) (maybe_candidates p : Option Candidates)
    → edits_in others ≡ edits_in branches ++ edit ∷ []
    → IfSome p (λ candidates. maybe_candidates ≡ Some candidates)
    → IfSome maybe_candidates (AreCandidates branches) → IfSome p (AreCandidates others)
candidates_more branches others edit maybe_candidates None same kept are = tt
candidates_more branches others edit maybe_candidates (Some candidates) same kept are =
    subst (λ bs. AreCandidates bs candidates) (sym (whole branches others edit same))
    (branch_more branches (branch_in edit) candidates
    (subst (λ z. IfSome z (AreCandidates branches)) kept are))

-- ---- the first of a heap

pub nothing_in : {X : Type 0} (xs : List X) → length xs ≤ 0 → xs ≡ []
nothing_in [] low = refl
nothing_in (x ∷ xs) low = absurd (omega (arith, low))

one_first : {X : Type 0} (xs : List X) (x y : X) → 0 < length xs → x ≡ get_or xs 0 x → y ≡ get_or xs 0 y
    → x ≡ y
one_first [] x y some e f = absurd (omega (arith, some))
one_first (z ∷ xs) x y some e f = e ∙ sym f

same_items : (branches : List Branch) (candidates other : Candidates) → AreCandidates branches candidates
    → items other ≡ items candidates → other.count ≡ candidates.count → AreCandidates branches other
same_items branches candidates other are same still = record {
  ordered = subst (IsHeap candidate_cmp) (sym same) are.ordered;
  within = omega (arith, still, are.within);
  heads = λ x i. are.heads x (subst (λ z. Contains z x) same i);
  whole = λ k v low h leads. subst (λ z. Contains z (candidate_of k v)) (sym same)
      (are.whole k v (omega (arith, still, low)) h leads);
}

-- the first candidate, which is no leaf, was taken from the heap
pub first_given_up : (branches : List Branch) (candidates other : Candidates)
    → AreCandidates branches candidates → (top : Candidate)
    → 0 < length (items candidates) → top ≡ get_or (items candidates) 0 top
    → is_passed_in branches top.rev ≡ true → other.count ≡ candidates.count
    → (maybe_candidate : Option Candidate)
    → IfSome maybe_candidate (λ candidate. candidate ≡ get_or (items candidates) 0 candidate)
    → IfSome maybe_candidate (λ candidate. IsPermutation (items candidates) (candidate ∷ items other))
    → IfSome maybe_candidate (λ candidate.
    PopsGreatest candidate_cmp (items candidates) candidate (items other))
    → IfNone maybe_candidate (HeapUnchanged candidates.heap other.heap)
    → AreCandidates branches other
first_given_up branches candidates other are top some first passed still None f p g n =
    same_items branches candidates other are n.0 still
first_given_up branches candidates other are top some first passed still (Some candidate) f p g n =
    given_up branches candidates other are candidate (g are.ordered).0 p still
    (subst (λ (z : Candidate). is_passed_in branches z.rev ≡ true)
    (one_first (items candidates) top candidate some first f) passed)
