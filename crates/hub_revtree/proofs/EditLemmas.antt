-- The path that an edit extends, and that the edit is acceptable.
use Rattle.std.proofs.Common.{◌≡◌, ℕ, ◌+◌, ◌<◌, ◌≤◌, List, [], ◌∷◌, Bool, true, false}
use Rattle.std.proofs.Common.{◌⊎◌, inl, inr, refl, sym, ap, ◌∙◌, subst, arith}
use Rattle.std.specs.Prelude.{Contains, Option, Some, None, Ok, Err}
use Rattle.std.specs.Prelude.{IsTrue, ◌↔◌, not, ◌&&◌, nat_le, slice_get}
use Rattle.std.specs.List.{list_any}
use Rattle.std.proofs.lemmas.Bool.{and_from, and_parts, le-leb, leb-true, both_ways, cases_Bool}
use Rattle.std.proofs.lemmas.Option.{same_Some}
use Rattle.hub_model.specs.Revision.{Revision}
use Rattle.hub_model.specs.Path.{IsFirst, IsNext, IsHistory, names, is_history, is_consistent}
use Rattle.hub_model.specs.Journal.{Edit, IsKnown, IsBehind, IsAcceptable, edits_of, is_known, is_head_known}
use Rattle.hub_model.specs.Leaves.{Leaf, is_behind_head, leaves_of, revisions_of}
use Rattle.hub_model.specs.Walk.{IsWalk, line_of}
use Rattle.hub_model.specs.Draft.{Extends, extended_path, generation_of, new_revision, parent_of}
use Rattle.hub_model.proofs.Lists.{contains_here}
use Rattle.hub_model.proofs.Legal.{legal_sound, next_left}
use Rattle.hub_model.proofs.Tests.{edits_in as edits_in_of, is_known_from, is_history_from}
use Rattle.hub_model.proofs.Tests.{is_agreeing, all_at, acceptable_is, known_is}
use Rattle.hub_model.proofs.Leaves.{leaf_law, leaf_is}
use Rattle.hub_model.proofs.Walks.{legal_histories, line_of_walk, walk_history, walk_steps}
use Rattle.hub_model.proofs.Drafts.{drafts_extend}
use Rattle.hub_revtree.specs.declared.fault.EditFault.TheVariants.{Conflict, GenerationLimit}
use Rattle.hub_revtree.specs.declared.leaf.Winner.{Winner}
use Rattle.hub_revtree.specs.Branch.{Branch, edit_of, edits_in}
use Rattle.hub_revtree.specs.Extend.{draft, edit_of_draft, edit_on_path, line_to, path_to}
use Rattle.hub_revtree.specs.Tree.{IsRevTree, nameless}
use Rattle.hub_revtree.specs.Winner.{winner_of}
use Rattle.hub_revtree.proofs.BranchLemmas.{any_map}
use Rattle.hub_revtree.proofs.TreeLemmas.{all_of_one, known_by, wins}

-- the path that an edit on a named revision extends, by the branches
module _ (branches : List Branch) (edits : List Edit) (same : edits_in branches ≡ edits)
    (revision : Revision) where
  leaf_by : names (revisions_of (leaves_of edits [])) revision
      ≡ (is_known edits [] revision && not (list_any (λ b. is_behind_head revision (edit_of b)) branches))
  leaf_by =
      subst (λ z. names (revisions_of (leaves_of z [])) revision
      ≡ (is_known z [] revision && not (list_any (λ b. is_behind_head revision (edit_of b)) branches))) same
      (leaf_law (edits_in branches) [] revision
      ∙ ap (λ x. is_known (edits_in branches) [] revision && not x)
      (ap (λ xs. list_any (is_behind_head revision) xs) (all_of_one branches)
      ∙ any_map (is_behind_head revision) edit_of branches))

  known_same : is_known edits [] revision ≡ list_any (λ b. names b.path revision) branches
  known_same =
      subst (λ z. is_known z [] revision ≡ list_any (λ b. names b.path revision) branches) same
      (known_by branches revision)

  module _ (b : Bool)
      (is : b ≡ (list_any (λ b. names b.path revision) branches
      && not (list_any (λ b. is_behind_head revision (edit_of b)) branches))) where
    leaf_told : names (revisions_of (leaves_of edits [])) revision ≡ b
    leaf_told =
        leaf_by
        ∙ (ap (λ x. x && not (list_any (λ b. is_behind_head revision (edit_of b)) branches)) known_same
        ∙ sym is)

    pub no_leaf : b ≡ false → extended_path edits [] (leaves_of edits []) (Some revision) ≡ None
    no_leaf t =
        let none : names (revisions_of (leaves_of edits [])) revision ≡ false = leaf_told ∙ t in rw none refl

    pub leaf_known : b ≡ true → is_known edits [] revision ≡ true
    leaf_known t =
        known_same
        ∙ (and_parts (list_any (λ b. names b.path revision) branches)
        (not (list_any (λ b. is_behind_head revision (edit_of b)) branches)) (sym is ∙ t)).0

    pub leaf_taken : b ≡ true
        → path_to edits revision ≡ extended_path edits [] (leaves_of edits []) (Some revision)
    leaf_taken t =
        let leaf : names (revisions_of (leaves_of edits [])) revision ≡ is_known edits [] revision =
        leaf_told ∙ (t ∙ sym (leaf_known t)) in
        rw leaf refl

-- the path of a known revision
pub known_path : (edits : List Edit) (revision : Revision) → is_known edits [] revision ≡ true
    → path_to edits revision ≡ Some (line_to edits (Some revision))
known_path edits revision known = rw known refl

pub unknown_path : (edits : List Edit) (revision : Revision) → is_known edits [] revision ≡ false
    → path_to edits revision ≡ None
unknown_path edits revision f = rw f refl

-- the line of a known revision begins with it
pub known_first : (edits : List Edit) (revision : Revision) → IsRevTree edits
    → is_known edits [] revision ≡ true → parent_of (line_to edits (Some revision)) ≡ Some revision
known_first edits revision tree known =
    rw known (first (line_of edits [] revision)
    (line_of_walk edits [] tree.legal revision (known_is edits [] revision known)).0)
  where
    first : (revisions : List Revision) → IsFirst revisions revision → slice_get revisions 0 ≡ Some revision
    first [] i = absurd i
    first (x ∷ revisions) i = ap Some i

-- where a test of an equal revision says so, this one is known
pub is_taken : (edits : List Edit) (revision other : Revision) (b : Bool)
    → IsTrue b ↔ IsKnown edits [] revision → revision ≡ other → b ≡ true → is_known edits [] other ≡ true
is_taken edits revision other b known same t =
    is_known_from edits [] other (subst (λ z. IsKnown edits [] z) same (known.0 t))

pub is_new : (edits : List Edit) (revision other : Revision) (b : Bool) → IsTrue b ↔ IsKnown edits [] revision
    → revision ≡ other → b ≡ false → is_known edits [] other ≡ false
is_new edits revision other b known same f = elim (cases_Bool (is_known edits [] other)) [
  | inl t ↦ absurd (both_ways b f
      (known.1 (subst (λ z. IsKnown edits [] z) (sym same) (known_is edits [] other t))))
  | inr u ↦ u
]

-- without a name the extended path is that of a deleted winner
pub dead_extends : (edits : List Edit) (winner : Winner) → Some winner ≡ winner_of (leaves_of edits [])
    → winner.deleted ≡ true → path_to edits winner.rev ≡ extended_path edits [] (leaves_of edits []) None
dead_extends edits winner is dead = from (leaves_of edits []) refl is
  where
    from : (leaves : List Leaf) → leaves_of edits [] ≡ leaves → Some winner ≡ winner_of leaves
        → path_to edits winner.rev ≡ extended_path edits [] leaves None
    from [] q h = absurd (cc)
    from (l ∷ leaves) q h =
        let first : winner ≡ record { rev = l.rev; deleted = l.edit.deleted } = same_Some winner _ h in
        let known =
        is_known_from edits [] l.rev
        (leaf_is edits [] l.rev
        (subst (λ other. Contains (revisions_of other) l.rev) (sym q)
        (contains_here l.rev (revisions_of leaves)))).0 in
        let mark : l.edit.deleted ≡ true = sym (ap (λ (other : Winner). other.deleted) first) ∙ dead in
        subst (λ other. path_to edits other ≡ extended_path edits [] (l ∷ leaves) None)
        (sym (ap (λ (other : Winner). other.rev) first)) (rw (known, mark) refl)

pub dead_known : (edits : List Edit) (winner : Winner) → IsRevTree edits
    → Some winner ≡ winner_of (leaves_of edits []) → is_known edits [] winner.rev ≡ true
dead_known edits winner tree is =
    is_known_from edits [] winner.rev (wins edits tree.legal winner (sym is)).1.0

-- a draft that extends this path
module _ (edits : List Edit) (tree : IsRevTree edits) (id : List ℕ) (parent : Option Revision)
    (deleted : Bool)
    (body : List ℕ) (older : List Revision)
    (on : extended_path edits [] (leaves_of edits []) parent ≡ Some older) where
  abbrev next : Revision
  next = new_revision (draft id parent deleted body) (parent_of older)

  so : edit_of_draft edits (draft id parent deleted body) ≡ edit_on_path edits (draft id parent deleted body)
      (Some older)
  so = ap (edit_on_path edits (draft id parent deleted body)) on

  low : generation_of (parent_of older) < 65535 → nat_le 65535 (generation_of (parent_of older)) ≡ false
  low below = elim (cases_Bool (nat_le 65535 (generation_of (parent_of older)))) [
    | inl t ↦ absurd (omega (arith, leb-true 65535 (generation_of (parent_of older)) t))
    | inr t ↦ t
  ]

  pub last_limits : 65535 ≤ generation_of (parent_of older)
      → edit_of_draft edits (draft id parent deleted body) ≡ Err GenerationLimit
  last_limits past = so ∙ rw (le-leb 65535 (generation_of (parent_of older)) past) refl

  pub known_conflicts : generation_of (parent_of older) < 65535 → is_known edits [] next ≡ true
      → edit_of_draft edits (draft id parent deleted body) ≡ Err Conflict
  known_conflicts below known = so ∙ rw (low below, known) refl

  pub new_extends : generation_of (parent_of older) < 65535 → is_known edits [] next ≡ false
      → edit_of_draft edits (draft id parent deleted body) ≡ Ok (nameless (next ∷ older) deleted body)
  new_extends below new = so ∙ rw (low below, new) refl

  -- the path is empty, or has a known revision and all revisions behind it
  stands : (parent : Option Revision) → Extends edits [] parent older
      → (older ≡ []) ⊎ ((revision : Revision) × IsKnown edits [] revision × IsFirst older revision
      × IsWalk edits [] older)
  stands (Some revision) (leaf, first, walk) = inr (revision, leaf.0, first, walk)
  stands None (inl none) = inl none.1
  stands None (inr (revision, win, mark, first, walk)) = inr (revision, win.1.0, first, walk)

  stood : (older ≡ []) ⊎ ((revision : Revision) × IsKnown edits [] revision × IsFirst older revision
      × IsWalk edits [] older)
  stood = stands parent ((drafts_extend edits [] parent older tree.legal).0 on)

  history_on : (revision : Revision) (revisions : List Revision)
      → revision.generation ≡ generation_of (parent_of revisions) + 1
      → (revisions ≡ []) ⊎ IsHistory revisions → IsHistory (revision ∷ revisions)
  history_on revision [] up h = record { falls = omega (arith, up) }
  history_on revision (other ∷ revisions) up (inl e) = absurd (cc)
  history_on revision (other ∷ revisions) up (inr h) = record { falls = (up, h.falls) }

  pub next_history : IsHistory (next ∷ older)
  next_history = history_on next older refl (elim stood [
    | inl e ↦ inl e
    | inr w ↦ inr (walk_history edits [] (legal_histories edits tree.legal) older w.0 w.2 w.1 w.3)
  ])

  steps : (revision other : Revision) → IsNext older revision other → IsBehind edits [] other revision
  steps revision other n = elim stood [
    | inl e ↦ absurd (subst (λ z. IsNext z revision other) e n)
    | inr w ↦ walk_steps edits [] older revision other w.3 n
  ]

  pub next_acceptable : is_known edits [] next ≡ false
      → IsAcceptable edits (nameless (next ∷ older) deleted body)
  next_acceptable new =
      acceptable_is edits (nameless (next ∷ older) deleted body) tree.legal
      (and_from (is_history (next ∷ older)) _ (is_history_from (next ∷ older) next_history)
      (and_from (not (is_head_known edits [] (next ∷ older))) _ (ap not new)
      (all_at (λ (edit : Edit). is_consistent (next ∷ older) edit.path) (edits_of edits []) (λ edit c.
      is_agreeing (next ∷ older) edit.path (λ s r other n k.
      let own = edits_in_of edits [] edit c in
      elim n [
        | inl h ↦
            absurd (
            let known =
            is_known_from edits [] next
            (edit, own, subst (λ z. Contains edit.path z) (sym h.0) (next_left edit.path s other k)) in
            cc)
        | inr h ↦ (legal_sound edits tree.legal).tree [] r other s (steps s r h) (edit, own, k)
      ])))))
