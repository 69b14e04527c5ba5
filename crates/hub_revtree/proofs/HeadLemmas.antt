-- The tip of an edit, among the branches and among the edits that they are.
use Rattle.std.proofs.Common.{◌≡◌, ◌≤◌, ℕ, List, [], ◌∷◌, length, take, Bool}
use Rattle.std.proofs.Common.{Contains, inl, inr, refl, ap, ◌∙◌, subst, sym}
use Rattle.std.specs.Prelude.{Option, Some, None, slice_get, find, option_map}
use Rattle.std.proofs.lemmas.Bool.{cases_Bool}
use Rattle.std.proofs.lemmas.Option.{same_Some, slice_get-map}
use Rattle.hub_model.specs.Revision.{Revision}
use Rattle.hub_model.specs.Path.{is_first}
use Rattle.hub_model.specs.Journal.{Edit, IsLegal, edits_of, head_of}
use Rattle.hub_model.specs.Leaves.{Leaf, leaves_of}
use Rattle.hub_model.specs.Walk.{is_head}
use Rattle.hub_model.proofs.Legal.{legal_sound}
use Rattle.hub_model.proofs.Shown.{find_is, find_not, head_is, is_head_from}
use Rattle.hub_model.proofs.Sorted.{leaf_edit}
use Rattle.hub_model.proofs.Tests.{edits_in as edits_in_of, in_edits, is_known_from, names_is}
use Rattle.hub_document.proofs.PlaceLemmas.{named}
use Rattle.hub_revtree.specs.Branch.{Branch, edit_of, edits_in}
use Rattle.hub_revtree.specs.Extend.{path_to}
use Rattle.hub_revtree.specs.Mark.{AreStemsOf}
use Rattle.hub_revtree.specs.Stem.{Stem, AreStems, branches_of}
use Rattle.hub_revtree.specs.Tree.{IsRevTree, Tip, tip, tip_of}
use Rattle.hub_revtree.proofs.JoinLemmas.{there}
use Rattle.hub_revtree.proofs.LineLemmas.{edit_front}
use Rattle.hub_revtree.proofs.StemLooks.{found_head, long_edit, long_headed, no_edit, no_long}
use Rattle.hub_revtree.proofs.StemLooks.{none_headed, none_long, some_edit, some_headed}
use Rattle.hub_revtree.proofs.TreeLemmas.{all_of_one}

-- the branch that a revision heads, as an edit
pub among : (branches : List Branch) (revision : Revision)
    → option_map edit_of (find (λ branch. is_first revision branch.path) branches) ≡ find (is_head revision)
    (edits_in branches)
among [] revision = refl
among (branch ∷ branches) revision = elim (cases_Bool (is_first revision branch.path)) [
  | inl t ↦ rw t refl
  | inr t ↦ rw t (among branches revision)
]

in_two : (maybe_branch : Option Branch)
    → option_map (λ branch. tip_of (edit_of branch)) maybe_branch ≡ option_map tip_of
    (option_map edit_of maybe_branch)
in_two None = refl
in_two (Some branch) = refl

-- the edit of a number
pub numbered_by : (branches : List Branch) (edits : List Edit) (k : ℕ) → edits_in branches ≡ edits
    → option_map (λ b. tip_of (edit_of b)) (slice_get branches k) ≡ option_map tip_of (slice_get edits k)
numbered_by branches edits k same =
    in_two (slice_get branches k)
    ∙ ap (option_map tip_of) (sym (slice_get-map edit_of branches k) ∙ ap (λ fs. slice_get fs k) same)

-- the edit that a revision heads
pub headed_by : (branches : List Branch) (edits : List Edit) (revision : Revision) → edits_in branches ≡ edits
    → option_map (λ b. tip_of (edit_of b)) (find (λ b. is_first revision b.path) branches)
    ≡ option_map tip_of (find (is_head revision) (edits_of edits []))
headed_by branches edits revision same =
    in_two (find (λ b. is_first revision b.path) branches)
    ∙ ap (option_map tip_of)
    (among branches revision
    ∙ (sym (ap (find (is_head revision)) (all_of_one branches))
    ∙ ap (λ fs. find (is_head revision) (edits_of fs [])) same))

-- the path of an edit is the front of the tree's path to its revision
own_path : (edits : List Edit) → IsRevTree edits → (edit : Edit) (revision : Revision) → Contains edits edit
    → head_of edit ≡ Some revision
    → option_map (take (length edit.path)) (path_to edits revision) ≡ Some edit.path
own_path edits tree edit revision c head =
    let own = edits_in_of edits [] edit (subst (λ z. Contains z edit) (sym tree.one) c) in
    let known = is_known_from edits [] revision
    (edit, own, names_is edit.path revision (named edit.path 0 revision head)) in
    let front = edit_front edits tree.legal edit revision own head in
    rw known (ap Some (rw known at front))

-- the same of the tip of the edit
module _ {A : Type 0} (edits : List Edit) (tree : IsRevTree edits) (rev : A → Revision) (deleted : A → Bool)
    (body : A → List ℕ) (count : A → ℕ) (o : Option A) where
  lent_path : (maybe_edit : Option Edit) → ((edit : Edit) → maybe_edit ≡ Some edit → Contains edits edit)
      → option_map (λ edit. tip (rev edit) (deleted edit) (body edit)) o ≡ option_map tip_of maybe_edit
      → option_map count o ≡ option_map (λ edit. length edit.path) maybe_edit
      → option_map (λ edit. option_map (take (count edit)) (path_to edits (rev edit))) o ≡ option_map
      (λ edit. Some edit.path) maybe_edit
  lent_path maybe_edit among same long = from o maybe_edit refl same long
    where
      from : (o : Option A) (q : Option Edit)
          → maybe_edit ≡ q → option_map
          (λ edit. tip (rev edit) (deleted edit) (body edit)) o ≡ option_map tip_of q
          → option_map count o ≡ option_map (λ edit. length edit.path) q
          → option_map (λ edit. option_map (take (count edit)) (path_to edits (rev edit))) o
          ≡ option_map (λ edit. Some edit.path) q
      from None None is edit l = refl
      from None (Some f) is edit l = absurd (cc)
      from (Some x) None is edit l = absurd (cc)
      from (Some x) (Some f) is edit l =
          let same : tip (rev x) (deleted x) (body x) ≡ tip_of f = same_Some _ _ edit in
          let many : count x ≡ length f.path = same_Some _ _ l in
          ap Some
          (ap (λ n. option_map (take n) (path_to edits (rev x))) many
          ∙ own_path edits tree f (rev x) (among f is) (sym (ap (λ (t : Tip). t.rev) same)))

  pub numbered_path : (k : ℕ)
      → option_map (λ e. tip (rev e) (deleted e) (body e)) o ≡ option_map tip_of (slice_get edits k)
      → option_map count o ≡ option_map (λ e. length e.path) (slice_get edits k)
      → option_map (λ e. option_map (take (count e)) (path_to edits (rev e))) o
      ≡ option_map (λ e. Some e.path) (slice_get edits k)
  numbered_path k same long = lent_path (slice_get edits k) (λ e is. there edits k e is) same long

  pub headed_path : (revision : Revision)
      → option_map (λ e. tip (rev e) (deleted e) (body e)) o
      ≡ option_map tip_of (find (is_head revision) (edits_of edits []))
      → option_map count o ≡ option_map (λ e. length e.path) (find (is_head revision) (edits_of edits []))
      → option_map (λ e. option_map (take (count e)) (path_to edits (rev e))) o
      ≡ option_map (λ e. Some e.path) (find (is_head revision) (edits_of edits []))
  headed_path revision same long =
      lent_path (find (is_head revision) (edits_of edits []))
      (λ e is. subst (λ z. Contains z e) tree.one (find_is (is_head revision) (edits_of edits []) e is).1)
      same long

long_in : (maybe_branch : Option Branch)
    → option_map (λ branch. length branch.path) maybe_branch ≡ option_map (λ e. length e.path)
    (option_map edit_of maybe_branch)
long_in None = refl
long_in (Some branch) = refl

-- the lengths of the edits' paths are those of the branches' paths
pub numbered_long : (branches : List Branch) (edits : List Edit) (k : ℕ) → edits_in branches ≡ edits
    → option_map (λ b. length b.path) (slice_get branches k) ≡ option_map (λ e. length e.path)
    (slice_get edits k)
numbered_long branches edits k same =
    long_in (slice_get branches k)
    ∙ ap (option_map (λ e. length e.path))
    (sym (slice_get-map edit_of branches k) ∙ ap (λ fs. slice_get fs k) same)

pub headed_long : (branches : List Branch) (edits : List Edit) (revision : Revision)
    → edits_in branches ≡ edits
    → option_map (λ b. length b.path) (find (λ b. is_first revision b.path) branches)
    ≡ option_map (λ e. length e.path) (find (is_head revision) (edits_of edits []))
headed_long branches edits revision same =
    long_in (find (λ b. is_first revision b.path) branches)
    ∙ ap (option_map (λ e. length e.path))
    (among branches revision
    ∙ (sym (ap (find (is_head revision)) (all_of_one branches))
    ∙ ap (λ fs. find (is_head revision) (edits_of fs [])) same))

-- the tip of the stem of this number, where there is one
module _ (stems : List Stem) (branches : List Branch) (edits : List Edit) (are : AreStemsOf stems branches)
    (same : edits_in branches ≡ edits) (k : ℕ) where
  tips : option_map (λ b. tip_of (edit_of b)) (slice_get (branches_of stems) k)
      ≡ option_map tip_of (slice_get edits k)
  tips =
      ap (λ bs. option_map (λ b. tip_of (edit_of b)) (slice_get bs k)) are.shown
      ∙ numbered_by branches edits k same

  lengths : option_map (λ b. length b.path) (slice_get (branches_of stems) k)
      ≡ option_map (λ e. length e.path) (slice_get edits k)
  lengths =
      ap (λ bs. option_map (λ b. length b.path) (slice_get bs k)) are.shown
      ∙ numbered_long branches edits k same

  pub no_stem_tip : length stems ≤ k → None ≡ option_map tip_of (slice_get edits k)
  no_stem_tip past = sym (no_edit stems are.stems k past) ∙ tips

  pub no_stem_long : length stems ≤ k → None ≡ option_map (λ e. length e.path) (slice_get edits k)
  no_stem_long past = sym (no_long stems k past) ∙ lengths

  pub stem_tip : (stem : Stem) (revision : Revision) (deleted : Bool) (body : List ℕ)
      → slice_get stems k ≡ Some stem → slice_get stem.revisions 0 ≡ Some revision
      → deleted ≡ stem.deleted → body ≡ stem.body
      → Some (tip revision deleted body) ≡ option_map tip_of (slice_get edits k)
  stem_tip stem revision deleted body e head mark members =
      some_edit stems are.stems k stem revision deleted body e head mark members ∙ tips

  pub stem_long : (stem : Stem) (count : ℕ) → slice_get stems k ≡ Some stem → count ≡ stem.count
      → Some count ≡ option_map (λ e. length e.path) (slice_get edits k)
  stem_long stem count e is = long_edit stems are.stems k stem count e is ∙ lengths

-- the tip of the stem that a revision heads, if there is one
pub map_map : {A B C : Type 0} (o : Option A) (g : A → B) (f : B → C)
    → option_map (λ x. f (g x)) o ≡ option_map f (option_map g o)
map_map None g f = refl
map_map (Some x) g f = refl

module _ (stems : List Stem) (a : AreStems stems) (revision : Revision) where
  pub headed_tip : (o : Option Stem) → o ≡ find (λ s. is_first revision s.revisions) stems
      → option_map (λ s. tip revision s.deleted s.body) o
      ≡ option_map (λ b. tip_of (edit_of b)) (find (λ b. is_first revision b.path) (branches_of stems))
  headed_tip None e = sym (none_headed stems a revision e)
  headed_tip (Some s) e =
      some_headed stems a revision s revision s.deleted s.body e (found_head stems revision s e) refl refl

  pub headed_count : (o : Option Stem) → o ≡ find (λ s. is_first revision s.revisions) stems
      → option_map (λ s. s.count) o
      ≡ option_map (λ b. length b.path) (find (λ b. is_first revision b.path) (branches_of stems))
  headed_count None e = sym (none_long stems a revision e)
  headed_count (Some s) e = long_headed stems a revision s s.count e refl

-- the edit of a leaf is the one that its revision heads
module _ (journal : List Edit) (id : List ℕ) (legal : IsLegal journal) where
  pub leaf_headed : (leaf : Leaf) → Contains (leaves_of journal id) leaf
      → find (is_head leaf.rev) (edits_of journal id) ≡ Some leaf.edit
  leaf_headed leaf c = from (find (is_head leaf.rev) (edits_of journal id)) refl
    where
      from : (maybe_edit : Option Edit) → find (is_head leaf.rev) (edits_of journal id) ≡ maybe_edit
          → find (is_head leaf.rev) (edits_of journal id) ≡ Some leaf.edit
      from None q =
          let e = leaf_edit journal id legal leaf c in
          absurd
          (find_not (is_head leaf.rev) (edits_of journal id) q leaf.edit (in_edits journal id leaf.edit e.0)
          (is_head_from leaf.edit.path leaf.rev e.1))
      from (Some f) q =
          let e = leaf_edit journal id legal leaf c in
          let i = find_is (is_head leaf.rev) (edits_of journal id) f q in
          q
          ∙ ap Some
          ((legal_sound journal legal).once id leaf.rev f leaf.edit (edits_in_of journal id f i.1) e.0
          (head_is f.path leaf.rev i.0) e.1)
