-- The winner once one edit more has come.
use Rattle.std.proofs.Common.{◌≡◌, ◌≢◌, ℕ, zero, suc, ◌-◌, ◌<◌, ◌≤◌, List, [], ◌∷◌, ◌++◌, length}
use Rattle.std.proofs.Common.{take, drop, Bool, true, false, ◌⊎◌, inl, inr, refl, sym}
use Rattle.std.proofs.Common.{ap, ap₂, ◌∙◌, subst, append-nil, append_assoc, arith}
use Rattle.std.specs.Prelude.{Contains, Option, Some, None, slice_get, option_and_then, map}
use Rattle.std.specs.List.{list_any}
use Rattle.std.specs.Ordering.{is_gt}
use Rattle.std.specs.declared.cmp.Ordering.TheVariants.{Less, Greater}
use Rattle.std.proofs.Math.Seq.{take-append_seam}
use Rattle.std.proofs.lemmas.Bool.{both_ways, cases_Bool}
use Rattle.std.proofs.lemmas.List.{length-append, length-take, map-append}
use Rattle.std.proofs.lemmas.List.Elements.{Contains-push, Contains-push_cases}
use Rattle.std.proofs.lemmas.Option.{same_Some, slice_get_past}
use Rattle.hub_model.specs.Revision.{Revision}
use Rattle.hub_model.specs.Path.{IsFirst, IsPath, names}
use Rattle.hub_model.specs.Journal.{Edit, IsAcceptable, IsKnown, IsLegal, IsLegalAfter}
use Rattle.hub_model.specs.Leaves.{IsLeaf, IsMarked, Leaf, is_behind_head, leaf_cmp, leaves_of, revisions_of}
use Rattle.hub_model.proofs.Drafts.{new_leaf, old_leaf}
use Rattle.hub_model.proofs.Legal.{first_in, holds_more}
use Rattle.hub_model.proofs.Lists.{contains_cases, contains_here, contains_none, contains_there}
use Rattle.hub_model.proofs.Order.{order_back, order_flip, order_total}
use Rattle.hub_model.proofs.Sorted.{gt_is, mark_is, winner_is}
use Rattle.hub_model.proofs.Tests.{is_named}
use Rattle.hub_model.proofs.Walks.{legal_histories}
use Rattle.hub_revtree.specs.declared.leaf.Winner.{Winner}
use Rattle.hub_revtree.specs.Branch.{Branch, earlier_branches, edit_of, edits_in}
use Rattle.hub_revtree.specs.Tree.{IsRevTree}
use Rattle.hub_revtree.specs.Winner.{HasWinner, head_in, is_better_than, winner_of}
use Rattle.hub_revtree.proofs.LeafLemmas.{head_there}
use Rattle.hub_revtree.proofs.RunLemmas.{get_some}
use Rattle.hub_revtree.proofs.StemLemmas.{any_at, get_taken, split_at}
use Rattle.hub_revtree.proofs.TreeLemmas.{first_of, none_wins, rev_tree, wins}

abbrev leaf_as : Revision → Bool → Winner
leaf_as revision d = record { rev = revision; deleted = d }

-- a revision and a mark as a leaf of a list
abbrev leaf_in : Revision → Bool → Leaf
leaf_in revision d = record { rev = revision; edit = record { id = []; path = []; deleted = d; body = [] } }

not_below_itself : (d : Bool) (revision : Revision) → leaf_cmp d revision d revision ≢ Less
not_below_itself d revision t =
    let u : leaf_cmp d revision d revision ≡ Greater = order_flip (leaf_in revision d) (leaf_in revision d) t
    in absurd (cc)

-- no leaf is above this one
abbrev IsHighest : List Edit → Winner → Type 0
IsHighest edits winner =
    (revision : Revision) (m : Bool) → IsLeaf edits [] revision → IsMarked edits [] revision m
    → leaf_cmp winner.deleted winner.rev m revision ≢ Less

module _ (edits : List Edit) (legal : IsLegal edits) (winner : Winner) where
  -- the winner has its mark, and no leaf is above it
  pub winner_above : winner_of (leaves_of edits []) ≡ Some winner
      → IsMarked edits [] winner.rev winner.deleted × IsHighest edits winner
  winner_above h =
      let win = wins edits legal winner h in
      let same = mark (leaves_of edits []) refl h win.0 win.2 in
      subst (λ d. IsMarked edits [] winner.rev d × IsHighest edits (leaf_as winner.rev d)) same (win.2, win.3)
    where
      mark : (leaves : List Leaf) → leaves_of edits [] ≡ leaves → winner_of leaves ≡ Some winner → (d : Bool)
          → IsMarked edits [] winner.rev d → d ≡ winner.deleted
      mark [] q h d m = absurd (cc)
      mark (l ∷ others) q h d m =
          let same : leaf_as l.rev l.edit.deleted ≡ winner = same_Some _ winner h in
          let here = subst (λ other. Contains other l) (sym q) (contains_here l others) in
          sym (mark_is edits [] legal l d here
          (subst (λ other. IsMarked edits [] other d) (sym (ap (λ (other : Winner). other.rev) same)) m))
          ∙ ap (λ (other : Winner). other.deleted) same

  -- a leaf with no leaf above it is the winner
  pub above_wins : IsLeaf edits [] winner.rev → IsMarked edits [] winner.rev winner.deleted
      → IsHighest edits winner → winner_of (leaves_of edits []) ≡ Some winner
  above_wins leaf marked high =
      from (leaves_of edits []) refl
      ((winner_is edits [] legal winner.rev).0 (winner.deleted, leaf, marked, high))
    where
      from : (leaves : List Leaf) → leaves_of edits [] ≡ leaves → IsFirst (revisions_of leaves) winner.rev
          → winner_of leaves ≡ Some winner
      from [] q i = absurd i
      from (l ∷ others) q i =
          let here = subst (λ z. Contains z l) (sym q) (contains_here l others) in
          let same =
          mark_is edits [] legal l winner.deleted here
          (subst (λ z. IsMarked edits [] z winner.deleted) (sym i) marked) in
          ap Some (ap₂ leaf_as i same)

one_first : (revisions : List Revision) (revision other : Revision) → IsFirst revisions revision
    → IsFirst revisions other → revision ≡ other
one_first [] revision other i j = absurd i
one_first (x ∷ revisions) revision other i j = sym i ∙ j

-- the newest edit of a legal journal is acceptable after the others
last_after : (before other_journal : List Edit) (edit : Edit)
    → IsLegalAfter before (other_journal ++ edit ∷ []) → IsAcceptable (before ++ other_journal) edit
last_after before [] edit h = subst (λ z. IsAcceptable z edit) (sym (append-nil before)) h.0
last_after before (other ∷ other_journal) edit h =
    subst (λ z. IsAcceptable z edit) (append_assoc before (other ∷ []) other_journal)
    (last_after (before ++ other ∷ []) other_journal edit h.1)

module _ (other_journal : List Edit) (tree : IsRevTree other_journal) (edit : Edit) (own : edit.id ≡ [])
    (legal : IsLegal (other_journal ++ edit ∷ []))
    (revision : Revision) (head : IsFirst edit.path revision) where
  ok : IsAcceptable other_journal edit
  ok = last_after [] other_journal edit legal

  -- a marked leaf is the head of the newest edit, or was one before
  older : (other : Revision) (m : Bool) → IsLeaf (other_journal ++ edit ∷ []) [] other
      → IsMarked (other_journal ++ edit ∷ []) [] other m
      → ((revision ≡ other) × (edit.deleted ≡ m))
      ⊎ (IsLeaf other_journal [] other × IsMarked other_journal [] other m)
  older other m leaf (f, edits, heads, mark) = elim (Contains-push_cases other_journal edit f edits.0) [
    | inl c ↦ inr (
      (
        (f, (c, edits.1), first_in f.path other heads),
        λ t b. leaf.1 t (b.0, (holds_more other_journal (edit ∷ []) b.0 b.1.0, b.1.1), b.2),
      ),
      (f, (c, edits.1), heads, mark),
    )
    | inr same ↦ inl (
      one_first edit.path revision other head (subst (λ (z : Edit). IsFirst z.path other) (sym same) heads),
      ap (λ (z : Edit). z.deleted) same ∙ mark,
    )
  ]

  -- the newest edit's head wins where it is above the winner before
  pub new_wins : (best : Option Winner)
      → winner_of (leaves_of other_journal []) ≡ best
      → is_better_than (leaf_as revision edit.deleted) best ≡ true
      → winner_of (leaves_of (other_journal ++ edit ∷ []) []) ≡ Some (leaf_as revision edit.deleted)
  new_wins best was better =
      above_wins (other_journal ++ edit ∷ []) legal (leaf_as revision edit.deleted)
      (new_leaf other_journal edit ok [] revision own head)
      (edit, (Contains-push other_journal edit, own), head, refl)
      (λ other m leaf marked. elim (older other m leaf marked) [
        | inl f ↦
            subst (λ d. leaf_cmp edit.deleted revision d other ≢ Less) f.1
            (subst (λ r. leaf_cmp edit.deleted revision edit.deleted r ≢ Less) f.0
            (not_below_itself edit.deleted revision))
        | inr o ↦ above best was better other m o.0 o.1
      ])
    where
      above : (best : Option Winner) → winner_of (leaves_of other_journal []) ≡ best
          → is_better_than (leaf_as revision edit.deleted) best ≡ true → (other : Revision) (m : Bool)
          → IsLeaf other_journal [] other
          → IsMarked other_journal [] other m → leaf_cmp edit.deleted revision m other ≢ Less
      above None was better other m leaf marked =
          absurd (contains_none marked.0
          (subst (λ z. Contains z marked.0) (none_wins other_journal tree was) marked.1.0))
      above (Some w) was better other m leaf marked = λ less.
          let down =
          order_back (leaf_in revision edit.deleted) (leaf_in w.rev w.deleted)
          (gt_is (leaf_cmp edit.deleted revision w.deleted w.rev) better) in
          (winner_above other_journal tree.legal w was).1 other m leaf marked
          (order_total.trans (leaf_in w.rev w.deleted) (leaf_in revision edit.deleted)
          (leaf_in other m) down less)

  -- else the winner before stays, where it stands behind no revision yet
  pub old_wins : (winner : Winner) → winner_of (leaves_of other_journal []) ≡ Some winner
      → is_gt (leaf_cmp edit.deleted revision winner.deleted winner.rev) ≡ false
      → names (drop 1 edit.path) winner.rev ≡ false
      → winner_of (leaves_of (other_journal ++ edit ∷ []) []) ≡ Some winner
  old_wins winner was low front =
      let win = wins other_journal tree.legal winner was in
      let marked = (winner_above other_journal tree.legal winner was).0 in
      above_wins (other_journal ++ edit ∷ []) legal winner
      (old_leaf other_journal edit ok [] winner.rev (λ q c. absent win.1.0 edit.path refl c) win.1)
      (marked.0, (holds_more other_journal (edit ∷ []) marked.0 marked.1.0, marked.1.1), marked.2, marked.3)
      (λ s m leaf marked. elim (older s m leaf marked) [
        | inl f ↦ λ less.
            let less_here : leaf_cmp winner.deleted winner.rev edit.deleted revision ≡ Less =
            subst (λ d. leaf_cmp winner.deleted winner.rev d revision ≡ Less) (sym f.1)
            (subst (λ r. leaf_cmp winner.deleted winner.rev m r ≡ Less) (sym f.0) less) in
            let up : leaf_cmp edit.deleted revision winner.deleted winner.rev ≡ Greater =
            order_flip (leaf_in winner.rev winner.deleted) (leaf_in revision edit.deleted) less_here in
            absurd (let no : is_gt (leaf_cmp edit.deleted revision winner.deleted winner.rev) ≡ true = ap
            is_gt up in cc)
        | inr o ↦ (winner_above other_journal tree.legal winner was).1 s m o.0 o.1
      ])
    where
      absent : IsKnown other_journal [] winner.rev → (revisions : List Revision) → edit.path ≡ revisions
          → Contains revisions winner.rev → ⊥
      absent known [] q c = contains_none winner.rev c
      absent known (x ∷ revisions) q c = elim (contains_cases x winner.rev revisions c) [
        | inl same ↦
            ok.new winner.rev (subst (λ z. IsFirst z winner.rev) (sym q) same)
            (subst (λ z. IsKnown other_journal z winner.rev) (sym own) known)
        | inr behind ↦
            absurd (let t = is_named revisions winner.rev behind in
            let f : names revisions winner.rev ≡ false = subst
            (λ z. names (drop 1 z) winner.rev ≡ false) q front in cc)
      ]

-- a branch is an edit of the journal
in_journal : (branches : List Branch) (k : ℕ) (branch : Branch) → slice_get branches k ≡ Some branch
    → Contains (edits_in branches) (edit_of branch)
in_journal [] k branch q = absurd (cc)
in_journal (other ∷ branches) zero branch q =
    subst (λ z. Contains (edits_in (other ∷ branches)) (edit_of z)) (same_Some other branch q)
    (contains_here (edit_of other) (edits_in branches))
in_journal (other ∷ branches) (suc k) branch q =
    contains_there (edit_of other) (edit_of branch) (edits_in branches) (in_journal branches k branch q)

-- each edit of a legal journal has a head
pub has_head : (branches : List Branch) → IsLegal (edits_in branches) → (k : ℕ) → k < length branches
    → (leaf : Winner) × (option_and_then head_in (slice_get branches k) ≡ Some leaf)
has_head branches legal k low =
    let here = get_some branches k low in
    from here.0 here.1 here.0.path refl
    (legal_histories (edits_in branches) legal (edit_of here.0) (in_journal branches k here.0 here.1)).falls
  where
    from : (branch : Branch) → slice_get branches k ≡ Some branch → (path : List Revision)
        → branch.path ≡ path → IsPath path
        → (leaf : Winner) × (option_and_then head_in (slice_get branches k) ≡ Some leaf)
    from branch there [] q path = absurd path
    from branch there (revision ∷ older) q path = (leaf_as revision branch.deleted, rw (there, q) refl)

-- the branches with the newest, and the number of the winner before it came
module _ (branches : List Branch) (legal : IsLegal (edits_in branches)) (best : ℕ)
    (before : HasWinner (edits_in (earlier_branches branches))
    (option_and_then head_in (slice_get (earlier_branches branches) best)))
    (n : ℕ) (all : n ≡ length branches) (some : 0 < length branches) where
  abbrev newest : (leaf : Winner) × (option_and_then head_in (slice_get branches (n - 1)) ≡ Some leaf)
  newest = has_head branches legal (n - 1) (omega (arith, all, some))

  abbrev leaf : Winner
  leaf = newest.0

  abbrev here : (branch : Branch) × (slice_get branches (n - 1) ≡ Some branch)
      × (slice_get branch.path 0 ≡ Some leaf.rev) × (branch.deleted ≡ leaf.deleted)
  here = head_there branches (n - 1) leaf newest.1

  split : branches ≡ earlier_branches branches ++ here.0 ∷ []
  split =
      subst (λ z. branches ≡ take (z - 1) branches ++ here.0 ∷ []) all
      (split_at branches (n - 1) here.0 here.1 (omega (arith, all, some)))

  edits : edits_in branches ≡ edits_in (earlier_branches branches) ++ edit_of here.0 ∷ []
  edits = ap edits_in split ∙ map-append edit_of (earlier_branches branches) (here.0 ∷ [])

  legal_split : IsLegal (edits_in (earlier_branches branches) ++ edit_of here.0 ∷ [])
  legal_split = subst IsLegal edits legal

  as_leaf : leaf_as leaf.rev here.0.deleted ≡ leaf
  as_leaf = ap (leaf_as leaf.rev) here.3

  newest_wins : is_better_than leaf
      (option_and_then head_in (slice_get (earlier_branches branches) best)) ≡ true
      → option_and_then head_in (slice_get branches (n - 1)) ≡ winner_of (leaves_of (edits_in branches) [])
  newest_wins better =
      newest.1 ∙ sym (
      ap (λ es. winner_of (leaves_of es [])) edits
      ∙ new_wins (edits_in (earlier_branches branches)) (rev_tree (earlier_branches branches) before.legal)
      (edit_of here.0) refl legal_split leaf.rev (first_of here.0.path leaf.rev here.2)
      (option_and_then head_in (slice_get (earlier_branches branches) best)) (sym before.first)
      (ap (λ w. is_better_than w (option_and_then head_in (slice_get (earlier_branches branches) best)))
      as_leaf ∙ better)
      ∙ ap Some as_leaf
      )

  -- there was no winner
  pub first_wins : n - 1 ≤ best
      → option_and_then head_in (slice_get branches (n - 1)) ≡ winner_of (leaves_of (edits_in branches) [])
  first_wins past =
      newest_wins (ap (λ o. is_better_than leaf (option_and_then head_in o))
      (slice_get_past (earlier_branches branches) best
      (omega (arith, length-take (length branches - 1) branches, all, past))))

  module _ (low : best < n - 1) (above : Bool)
      (told : (u v : Winner) → option_and_then head_in (slice_get branches (n - 1)) ≡ Some u
      → option_and_then head_in (slice_get branches best) ≡ Some v
      → above ≡ is_gt (leaf_cmp u.deleted u.rev v.deleted v.rev)) where
    abbrev old : (w : Winner) × (option_and_then head_in (slice_get branches best) ≡ Some w)
    old = has_head branches legal best (omega (arith, all, low))

    was : option_and_then head_in (slice_get (earlier_branches branches) best) ≡ Some old.0
    was =
        ap (option_and_then head_in) (get_taken (length branches - 1) best branches (omega (arith, all, low)))
        ∙ old.1

    -- the newest edit's head is above the winner
    pub better_wins : above ≡ true
        → option_and_then head_in (slice_get branches (n - 1)) ≡ winner_of (leaves_of (edits_in branches) [])
    better_wins better =
        newest_wins (ap (is_better_than leaf) was ∙ (sym (told leaf old.0 newest.1 old.1) ∙ better))

    -- the winner stands behind no revision still, and the newest edit's head is not above it
    pub still_wins : above ≡ false → (inner : Bool)
        → ((w : Winner) → option_and_then head_in (slice_get branches best) ≡ Some w
        → inner ≡ list_any (λ c. is_behind_head w.rev (edit_of c)) branches) → inner ≡ false
        → option_and_then head_in (slice_get branches best) ≡ winner_of (leaves_of (edits_in branches) [])
    still_wins lower inner behind front =
        old.1 ∙ sym (
        ap (λ es. winner_of (leaves_of es [])) edits
        ∙ old_wins (edits_in (earlier_branches branches)) (rev_tree (earlier_branches branches) before.legal)
        (edit_of here.0) refl legal_split leaf.rev (first_of here.0.path leaf.rev here.2) old.0
        (sym before.first ∙ was)
        (ap (λ d. is_gt (leaf_cmp d leaf.rev old.0.deleted old.0.rev)) here.3
        ∙ (sym (told leaf old.0 newest.1 old.1) ∙ lower)) own
        )
      where
        own : names (drop 1 here.0.path) old.0.rev ≡ false
        own = elim (cases_Bool (names (drop 1 here.0.path) old.0.rev)) [
          | inl t ↦
              absurd (both_ways _ (sym (behind old.0 old.1) ∙ front)
              (any_at (λ c. is_behind_head old.0.rev (edit_of c)) branches (n - 1) here.0 here.1 t))
          | inr t ↦ t
        ]

-- a branch by its edit
abbrev pub branch_in : Edit → Branch
branch_in edit = record { path = edit.path; deleted = edit.deleted; body = edit.body }

branches_back : (branches : List Branch) → map branch_in (edits_in branches) ≡ branches
branches_back [] = refl
branches_back (branch ∷ branches) = ap (λ z. branch ∷ z) (branches_back branches)

-- one edit more
module _ (branches others : List Branch) (edit : Edit)
    (same : edits_in others ≡ edits_in branches ++ edit ∷ []) where
  pub whole : others ≡ branches ++ branch_in edit ∷ []
  whole =
      sym (branches_back others)
      ∙ (ap (map branch_in) same
      ∙ (map-append branch_in (edits_in branches) (edit ∷ [])
      ∙ ap (λ z. z ++ branch_in edit ∷ []) (branches_back branches)))

  pub earlier_taken : earlier_branches others ≡ branches
  earlier_taken =
      let n : length (branches ++ branch_in edit ∷ []) - 1 ≡ length branches =
      omega (arith, length-append branches (branch_in edit ∷ [])) in
      ap earlier_branches whole
      ∙ (ap (λ k. take k (branches ++ branch_in edit ∷ [])) n
      ∙ take-append_seam branches (branch_in edit ∷ []))
