-- The path of an edit is the front of the line of its head.
use Rattle.std.proofs.Common.{◌≡◌, ℕ, List, [], ◌∷◌, length, take, inl, inr, refl, sym, ap, ◌∙◌, subst}
use Rattle.hub_model.specs.Revision.{Revision}
use Rattle.hub_model.specs.Path.{IsFirst, IsNext}
use Rattle.hub_model.specs.Journal.{Edit, Edits, IsBehind, IsTree, IsLegal}
use Rattle.hub_model.specs.Walk.{IsWalk, line_of}
use Rattle.hub_model.specs.Laws.{PathIsFront}
use Rattle.hub_model.proofs.Legal.{first_in, legal_sound}
use Rattle.hub_model.proofs.Walks.{line_of_walk}

-- a list whose steps are steps of paths is the front of the walk from its first revision
front_of : (journal : List Edit) (id : List ℕ) → IsTree journal id
    → (others revisions : List Revision) (revision : Revision)
    → ((s t : Revision) → IsNext others s t → IsBehind journal id t s) → IsFirst others revision
    → IsFirst revisions revision → IsWalk journal id revisions → take (length others) revisions ≡ others
front_of journal id tree [] revisions revision steps i j walk = absurd i
front_of journal id tree (other ∷ others) [] revision steps i j walk = absurd j
front_of journal id tree (other ∷ []) (y ∷ revisions) revision steps i j walk =
    ap (λ (z : Revision). z ∷ []) (j ∙ sym i)
front_of journal id tree (other ∷ z ∷ others) (y ∷ []) revision steps i j walk =
    absurd (walk z (subst (λ v. IsBehind journal id z v) (i ∙ sym j) (steps other z (inl (refl, refl)))))
front_of journal id tree (other ∷ z ∷ others) (y ∷ u ∷ revisions) revision steps i j walk =
    let same : u ≡ z =
    tree u z other (subst (λ v. IsBehind journal id u v) (j ∙ sym i) walk.0)
    (steps other z (inl (refl, refl))) in
    ap (λ (v : Revision). v ∷ take (length (z ∷ others)) (u ∷ revisions)) (j ∙ sym i)
    ∙ ap (λ (v : List Revision). other ∷ v)
    (front_of journal id tree (z ∷ others) (u ∷ revisions) z (λ s t n. steps s t (inr n)) refl same walk.1)

pub path_is_front : PathIsFront
path_is_front J id e r legal own head =
    let w = line_of_walk J id legal r (e, own, first_in e.path r head) in
    front_of J id ((legal_sound J legal).tree id) e.path (line_of J id r) r
    (λ s t n. (e, own, n)) head w.0 w.1
