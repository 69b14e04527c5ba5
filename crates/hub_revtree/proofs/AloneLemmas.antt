-- The winner alone: its revision as a row lists it, and its mark.
use Rattle.std.proofs.Common.{◌≡◌, ◌≤◌, ℕ, List, [], ◌∷◌, length, take, Bool}
use Rattle.std.proofs.Common.{true, false, Contains, subst, refl, sym, ap, ◌∙◌, arith}
use Rattle.std.specs.Prelude.{Result, Ok, Err, IfOk, OnErr, Option, Some, None, IsSomeAnd}
use Rattle.std.specs.Prelude.{find, slice_get, option_map, option_and_then}
use Rattle.std.proofs.lemmas.Option.{same_Some, slice_get_past}
use Rattle.hub_document.specs.Changes.{IsDigestText}
use Rattle.hub_model.specs.Revision.{Revision, is_same}
use Rattle.hub_model.specs.Journal.{Edit}
use Rattle.hub_model.specs.Path.{IsPath, is_first}
use Rattle.hub_model.specs.Leaves.{Leaf, leaves_of, revisions_of}
use Rattle.hub_model.specs.Row.{doc_of, is_deleted}
use Rattle.hub_model.specs.Walk.{is_head}
use Rattle.hub_model.proofs.Lists.{contains_here}
use Rattle.hub_model.proofs.Tests.{same_self}
use Rattle.hub_revtree.specs.declared.leaf.Winner.{Winner}
use Rattle.hub_revtree.specs.Branch.{Branch, edit_of, edits_in}
use Rattle.hub_revtree.specs.Stem.{Stem, AreStems, branches_of}
use Rattle.hub_revtree.specs.Tree.{IsRevTree}
use Rattle.hub_revtree.specs.Winner.{head_in, winner_of}
use Rattle.hub_revtree.proofs.HeadLemmas.{among, leaf_headed}
use Rattle.hub_revtree.proofs.StemLemmas.{as_many}
use Rattle.hub_revtree.proofs.StemLooks.{head_at, head_found, some_headed}
use Rattle.hub_revtree.proofs.TreeLemmas.{lent}

-- a path has a newest revision
newest : (revisions : List Revision) → IsPath revisions → (revision : Revision)
    × (slice_get revisions 0 ≡ Some revision) × (take 1 revisions ≡ revision ∷ [])
newest [] path = absurd path
newest (revision ∷ revisions) path = (revision, refl, refl)

first_there : (revisions : List Revision) (revision : Revision) → slice_get revisions 0 ≡ Some revision
    → is_first revision revisions ≡ true
first_there [] revision e = absurd (cc)
first_there (other ∷ revisions) revision e =
    subst (λ z. is_same revision z ≡ true) (sym (same_Some other revision e)) (same_self revision)

-- the newest revision of a stem is the head of its branch, and the branch has the stem's mark
module _ (stems : List Stem) (a : AreStems stems) (k : ℕ) (stem : Stem)
    (at : slice_get stems k ≡ Some stem) where
  pub head_alone : (changes : List Revision) → changes ≡ take 1 stem.revisions
      → option_map (λ w. w.rev ∷ [])
      (option_and_then head_in (slice_get (branches_of stems) k)) ≡ Some changes
  head_alone changes is =
      let r = newest stem.revisions (a.falling k stem at) in
      rw (head_at stems a k stem r.0 at r.1) (ap Some (sym (is ∙ r.2)))

  pub head_mark : (deleted : Bool) → deleted ≡ stem.deleted
      → option_map (λ w. w.deleted) (option_and_then head_in (slice_get (branches_of stems) k)) ≡ Some deleted
  head_mark deleted is =
      let r = newest stem.revisions (a.falling k stem at) in
      rw (head_at stems a k stem r.0 at r.1) (ap Some (sym is))

  -- where the hash of the stem's newest revision is no digest's text, neither is that of the branch's head
  pub head_other : IsSomeAnd (slice_get stem.revisions 0) (λ r. ¬ IsDigestText r.hash)
      → IsSomeAnd (option_and_then head_in (slice_get (branches_of stems) k)) (λ w. ¬ IsDigestText w.rev.hash)
  head_other other =
      let r = newest stem.revisions (a.falling k stem at) in
      rw (head_at stems a k stem r.0 at r.1) (rw r.1 at other)

  -- the branch that is found by this head has the stem's members
  pub head_body : (body : List ℕ) → body ≡ stem.body
      → IsSomeAnd (option_and_then head_in (slice_get (branches_of stems) k))
      (λ w. option_map (λ b. b.body) (find (λ b. is_first w.rev b.path) (branches_of stems)) ≡ Some body)
  head_body body is =
      let r = newest stem.revisions (a.falling k stem at) in
      let there = head_found stems a r.0 k stem at (first_there stem.revisions r.0 r.1) in
      rw (head_at stems a k stem r.0 at r.1)
      (sym (lent {A = Stem}
      (Some stem) (λ z. r.0) (λ z. z.deleted) (λ z. body)
      (find (λ b. is_first r.0 b.path) (branches_of stems))
      (some_headed stems a r.0 stem r.0 stem.deleted body there r.1 refl is)).1)

-- the winner's revision alone and its mark are those of the first leaf
pub alone_of : (leaves : List Leaf) (changes : List Revision)
    → option_map (λ w. w.rev ∷ []) (winner_of leaves) ≡ Some changes → changes ≡ take 1 (revisions_of leaves)
alone_of [] changes e = absurd (cc)
alone_of (leaf ∷ leaves) changes e = sym (same_Some _ changes e)

pub mark_of : (leaves : List Leaf) (deleted : Bool)
    → option_map (λ w. w.deleted) (winner_of leaves) ≡ Some deleted → deleted ≡ is_deleted leaves
mark_of [] deleted e = absurd (cc)
mark_of (leaf ∷ leaves) deleted e = sym (same_Some _ deleted e)

-- a statement that holds of each value of a reply holds of the reply
pub ok_of : {A E : Type 0} (r : Result A E) (P Q : A → Type 0) → IfOk r P → ((x : A) → P x → Q x) → IfOk r Q
ok_of (Ok x) P Q h f = f x h
ok_of (Err e) P Q h f = h

-- no head has a number past the branches
pub no_head : (branches : List Branch) (k : ℕ) → length branches ≤ k
    → option_and_then head_in (slice_get branches k) ≡ None
no_head branches k past = ap (option_and_then head_in) (slice_get_past branches k past)

-- no head has a number past the stems
pub no_stem : (stems : List Stem) (branches : List Branch) (k : ℕ) → branches_of stems ≡ branches
    → length stems ≤ k → option_and_then head_in (slice_get branches k) ≡ None
no_stem stems branches k same past =
    let many : length (branches_of stems) ≡ length branches = ap length same in
    no_head branches k (omega (arith, past, as_many stems, many))

-- without a winner there is no leaf
pub no_winner : (leaves : List Leaf) → winner_of leaves ≡ None
    → (take 1 (revisions_of leaves) ≡ []) × (is_deleted leaves ≡ false)
no_winner [] none = (refl, refl)
no_winner (leaf ∷ leaves) none = absurd (cc)

-- the winner is the first of the leaves' revisions
pub winner_other : (leaves : List Leaf) → IsSomeAnd (winner_of leaves) (λ w. ¬ IsDigestText w.rev.hash)
    → IsSomeAnd (slice_get (revisions_of leaves) 0) (λ r. ¬ IsDigestText r.hash)
winner_other [] other = absurd other
winner_other (leaf ∷ leaves) other = other

-- an error for a reason is an error for each weaker reason
pub refused_for : {A E P Q : Type 0} → (r : Result A E) → OnErr r P → (P → Q) → OnErr r Q
refused_for (Ok x) h f = h
refused_for (Err e) h f = f h

-- the members of the winner are those of the edit that it heads
body_is : (found : Option Branch) (edit : Edit) (body : List ℕ)
    → option_map (λ branch. branch.body) found ≡ Some body
    → option_map edit_of found ≡ Some edit → body ≡ edit.body
body_is None edit body is same = absurd (cc)
body_is (Some branch) edit body is same =
    sym (same_Some branch.body body is)
    ∙ ap (λ (other : Edit). other.body) (same_Some (edit_of branch) edit same)

pub winner_doc : (branches : List Branch) (edits : List Edit) → edits_in branches ≡ edits → IsRevTree edits
    → (maybe_winner : Option Winner) → maybe_winner ≡ winner_of (leaves_of edits []) → (body : List ℕ)
    → IsSomeAnd maybe_winner (λ w.
    option_map (λ b. b.body) (find (λ b. is_first w.rev b.path) branches) ≡ Some body)
    → Some body ≡ doc_of true (leaves_of edits [])
winner_doc branches edits same tree maybe_winner is body found = from (leaves_of edits []) refl
  where
    from : (leaves : List Leaf) → leaves_of edits [] ≡ leaves → Some body ≡ doc_of true leaves
    from [] q = absurd (rw (is ∙ ap winner_of q) at found)
    from (l ∷ others) q =
        let f : option_map (λ b. b.body) (find (λ b. is_first l.rev b.path) branches) ≡ Some body =
        rw (is ∙ ap winner_of q) at found in
        let headed =
        leaf_headed edits [] tree.legal l
        (subst (λ leaves. Contains leaves l) (sym q) (contains_here l others)) in
        ap Some
        (body_is (find (λ b. is_first l.rev b.path) branches) l.edit body f
        (among branches l.rev ∙ ap (find (is_head l.rev)) (same ∙ sym tree.one) ∙ headed))

pub no_doc : (leaves : List Leaf) → winner_of leaves ≡ None → doc_of true leaves ≡ None
no_doc [] none = refl
no_doc (leaf ∷ leaves) none = absurd (cc)
