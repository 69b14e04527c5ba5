-- A document's edits in a journal are those of its tree, with its id. Definitions give the same for both.
use Rattle.std.proofs.Common.{◌≡◌, ℕ, zero, suc, List, [], ◌∷◌, Bool, true, false, ap, refl, sym, ◌∙◌}
use Rattle.std.specs.Prelude.{Option, Some, None, map, find, option_map, if◌then◌else◌}
use Rattle.std.specs.List.{list_any}
use Rattle.std.specs.Option.{option_or}
use Rattle.hub_model.specs.Revision.{Revision}
use Rattle.hub_model.specs.Path.{names, behind, is_first}
use Rattle.hub_model.specs.Journal.{Edit, edits_of, is_known}
use Rattle.hub_model.specs.Leaves.{Leaf, is_behind_head, with_leaf, leaves_among}
use Rattle.hub_model.specs.Leaves.{comes_before, leaves_with, best_first, leaves_of, revisions_of}
use Rattle.hub_model.specs.Row.{is_deleted}
use Rattle.hub_model.specs.Walk.{behind_in, line, line_of, is_head, shown_of, shown_edit}
use Rattle.hub_model.specs.Draft.{extended_path}
use Rattle.hub_database.specs.Filed.{edit_with_id}
use Rattle.hub_revtree.proofs.BranchLemmas.{any_map}

-- a leaf, its edit with this id
abbrev pub renamed : List ℕ → Leaf → Leaf
renamed id leaf = record { rev = leaf.rev; edit = edit_with_id id leaf.edit }

with_named : (id : List ℕ) (edits : List Edit) (edit : Edit) (path : List Revision) (leaves : List Leaf)
    → with_leaf (map (edit_with_id id) edits) (edit_with_id id edit) path (map (renamed id) leaves)
    ≡ map (renamed id) (with_leaf edits edit path leaves)
with_named id edits edit [] leaves = refl
with_named id edits edit (revision ∷ older) leaves =
    ap (λ b.
    if b then map (renamed id) leaves else
    (renamed id (record { rev = revision; edit = edit }) ∷ map (renamed id) leaves))
    (any_map (is_behind_head revision) (edit_with_id id) edits)
    ∙ from (list_any (is_behind_head revision) edits)
  where
    from : (b : Bool)
        → (if b then map (renamed id) leaves
        else (renamed id (record { rev = revision; edit = edit }) ∷ map (renamed id) leaves))
        ≡ map (renamed id) (if b then leaves else (record { rev = revision; edit = edit } ∷ leaves))
    from true = refl
    from false = refl

pub among_named : (id : List ℕ) (edits others : List Edit)
    → leaves_among (map (edit_with_id id) edits) (map (edit_with_id id) others) ≡ map (renamed id)
    (leaves_among edits others)
among_named id edits [] = refl
among_named id edits (edit ∷ others) =
    ap (with_leaf (map (edit_with_id id) edits) (edit_with_id id edit) edit.path) (among_named id edits others)
    ∙ with_named id edits edit edit.path (leaves_among edits others)

placed_named : (id : List ℕ) (leaf : Leaf) (others : List Leaf)
    → leaves_with (renamed id leaf) (map (renamed id) others) ≡ map (renamed id) (leaves_with leaf others)
placed_named id leaf [] = refl
placed_named id leaf (other ∷ leaves) = from (comes_before leaf other) (placed_named id leaf leaves)
  where
    from : (b : Bool) → leaves_with (renamed id leaf) (map (renamed id) leaves) ≡ map (renamed id)
        (leaves_with leaf leaves) → (if b then (renamed id leaf ∷ renamed id other ∷ map (renamed id) leaves)
        else (renamed id other ∷ leaves_with (renamed id leaf) (map (renamed id) leaves)))
        ≡ map (renamed id) (if b then (leaf ∷ other ∷ leaves) else (other ∷ leaves_with leaf leaves))
    from true h = refl
    from false h = ap (λ ns. renamed id other ∷ ns) h

pub best_named : (id : List ℕ) (leaves : List Leaf)
    → best_first (map (renamed id) leaves) ≡ map (renamed id) (best_first leaves)
best_named id [] = refl
best_named id (leaf ∷ leaves) =
    ap (leaves_with (renamed id leaf)) (best_named id leaves) ∙ placed_named id leaf (best_first leaves)

pub revisions_named : (id : List ℕ) (leaves : List Leaf)
    → revisions_of (map (renamed id) leaves) ≡ revisions_of leaves
revisions_named id [] = refl
revisions_named id (leaf ∷ leaves) = ap (λ rs. leaf.rev ∷ rs) (revisions_named id leaves)

pub deleted_named : (id : List ℕ) (leaves : List Leaf)
    → is_deleted (map (renamed id) leaves) ≡ is_deleted leaves
deleted_named id [] = refl
deleted_named id (leaf ∷ leaves) = refl

behind_named : (id : List ℕ) (revision : Revision) (edits : List Edit)
    → behind_in revision (map (edit_with_id id) edits) ≡ behind_in revision edits
behind_named id revision [] = refl
behind_named id revision (edit ∷ edits) =
    ap (option_or (behind revision edit.path)) (behind_named id revision edits)

line_step : (id : List ℕ) (edits : List Edit) (n : ℕ) (maybe_revision : Option Revision)
    → line (map (edit_with_id id) edits) n maybe_revision ≡ line edits n maybe_revision
line_step id edits zero maybe_revision = refl
line_step id edits (suc n) None = refl
line_step id edits (suc n) (Some revision) =
    ap (λ maybe_revision. revision ∷ line (map (edit_with_id id) edits) n maybe_revision)
    (behind_named id revision edits)
    ∙ ap (λ rs. revision ∷ rs) (line_step id edits n (behind_in revision edits))

find_named : (id : List ℕ) (revision : Revision) (edits : List Edit)
    → find (is_head revision) (map (edit_with_id id) edits) ≡ option_map (edit_with_id id) (find (is_head revision) edits)
find_named id revision [] = refl
find_named id revision (edit ∷ edits) = from (is_first revision edit.path) (find_named id revision edits)
  where
    from : (b : Bool) → find (is_head revision) (map (edit_with_id id) edits) ≡ option_map (edit_with_id id)
        (find (is_head revision) edits)
        → (if b then Some (edit_with_id id edit) else find (is_head revision) (map (edit_with_id id) edits))
        ≡ option_map (edit_with_id id) (if b then Some edit else find (is_head revision) edits)
    from true h = refl
    from false h = h

module _ (journal : List Edit) (id : List ℕ) (edits : List Edit)
    (kept : edits_of journal id ≡ map (edit_with_id id) edits)
    (one : edits_of edits [] ≡ edits) where
  -- the leaves
  pub leaves_named : leaves_of journal id ≡ map (renamed id) (leaves_of edits [])
  leaves_named =
      ap (λ es. best_first (leaves_among es es)) kept
      ∙ (ap best_first (among_named id edits edits)
      ∙ (best_named id (leaves_among edits edits)
      ∙ ap (λ es. map (renamed id) (best_first (leaves_among es es))) (sym one)))

  -- whether a revision is known
  pub known_named : (revision : Revision) → is_known journal id revision ≡ is_known edits [] revision
  known_named revision =
      ap (λ es. list_any (λ (edit : Edit). names edit.path revision) es) kept
      ∙ (any_map (λ (edit : Edit). names edit.path revision) (edit_with_id id) edits
      ∙ sym (ap (λ es. list_any (λ (edit : Edit). names edit.path revision) es) one))

  -- all that stands behind a revision
  pub line_named : (revision : Revision) → line_of journal id revision ≡ line_of edits [] revision
  line_named revision =
      ap (λ es. line es revision.generation (Some revision)) kept
      ∙ (line_step id edits revision.generation (Some revision)
      ∙ ap (λ es. line es revision.generation (Some revision)) (sym one))

  -- the edit that a revision heads
  pub head_named : (revision : Revision)
      → find (is_head revision) (edits_of journal id) ≡ option_map (edit_with_id id)
      (find (is_head revision) (edits_of edits []))
  head_named revision =
      ap (find (is_head revision)) kept
      ∙ (find_named id revision edits
      ∙ ap (λ es. option_map (edit_with_id id) (find (is_head revision) es)) (sym one))

  -- the edit that is shown for a revision
  pub shown_named : (revision : Revision)
      → shown_edit journal id revision ≡ option_map (edit_with_id id) (shown_edit edits [] revision)
  shown_named revision =
      ap (shown_of journal id revision) (head_named revision)
      ∙ from (find (is_head revision) (edits_of edits []))
    where
      from : (maybe_edit : Option Edit)
          → shown_of journal id revision (option_map (edit_with_id id) maybe_edit) ≡ option_map (edit_with_id id)
          (shown_of edits [] revision maybe_edit)
      from None = refl
      from (Some e) =
          ap (λ (path : List Revision).
          Some (record { id = id; path = path; deleted = e.deleted; body = e.body })) (line_named revision)

  -- the path that a new edit extends
  pub extended_named : (rev : Option Revision)
      → extended_path journal id (leaves_of journal id) rev ≡ extended_path edits [] (leaves_of edits []) rev
  extended_named rev =
      ap (λ leaves. extended_path journal id leaves rev) leaves_named ∙ from rev (leaves_of edits [])
    where
      chosen : (b : Bool) (revision : Revision)
          → (if b then Some (line_of journal id revision) else None) ≡
          (if b then Some (line_of edits [] revision) else None)
      chosen b revision = ap (λ (path : List Revision). if b then Some path else None) (line_named revision)

      from : (rev : Option Revision) (leaves : List Leaf)
          → extended_path journal id (map (renamed id) leaves) rev ≡ extended_path edits [] leaves rev
      from (Some revision) leaves =
          ap (λ rs. if names rs revision then Some (line_of journal id revision) else None)
          (revisions_named id leaves) ∙ chosen (names (revisions_of leaves) revision) revision
      from None [] = refl
      from None (winner ∷ others) = chosen winner.edit.deleted winner.rev
