-- Worked rows: results of the definitions for some small journals and logs.
use Rattle.std.proofs.Common.{◌≡◌, ℕ, List, [], ◌∷◌, false, refl}
use Rattle.std.specs.Prelude.{Some, None, codes}
use Rattle.hub_model.specs.Revision.{Revision}
use Rattle.hub_model.specs.Journal.{Edit}
use Rattle.hub_model.specs.Walk.{shown_edit}
use Rattle.hub_model.specs.Missing.{RevisionsOfDoc, possible_ancestors, missing_by_document}

abbrev r : ℕ → List ℕ → Revision
r n h = record { generation = n; hash = h }

abbrev doc : List ℕ → List Revision → Edit
doc id path = record { id = id; path = path; deleted = false; body = codes "{}" }

-- edits of a, b, then a again
abbrev two : List Edit
two =
    doc (codes "a") (r 1 (codes "a") ∷ []) ∷ doc (codes "b") (r 1 (codes "b") ∷ [])
    ∷ doc (codes "a") (r 2 (codes "c") ∷ r 1 (codes "a") ∷ []) ∷ []

abbrev asked : List ℕ → List Revision → RevisionsOfDoc
asked id revs = record { id = id; revs = revs }

-- the missing revisions of a, b and an unknown document
missing_rows : missing_by_document two
    (asked (codes "a") (r 1 (codes "a") ∷ r 2 (codes "d") ∷ r 3 (codes "e") ∷ [])
    ∷ asked (codes "b") (r 1 (codes "b") ∷ []) ∷ asked (codes "z") (r 1 (codes "q") ∷ []) ∷ [])
    ≡ asked (codes "a") (r 2 (codes "d") ∷ r 3 (codes "e") ∷ [])
    ∷ asked (codes "z") (r 1 (codes "q") ∷ []) ∷ []
missing_rows = refl

ancestors_row : possible_ancestors two (codes "a") (r 1 (codes "a") ∷ r 2 (codes "d") ∷ r 3 (codes "e") ∷ [])
    ≡ r 2 (codes "c") ∷ []
ancestors_row = refl

-- the edits that are shown of an ancestor with a body, of a leaf, and of an unknown revision
shown_ancestor : shown_edit two (codes "a") (r 1 (codes "a")) ≡ Some (doc (codes "a") (r 1 (codes "a") ∷ []))
shown_ancestor = refl

shown_leaf : shown_edit two (codes "a") (r 2 (codes "c"))
    ≡ Some (doc (codes "a") (r 2 (codes "c") ∷ r 1 (codes "a") ∷ []))
shown_leaf = refl

shown_unknown : shown_edit two (codes "a") (r 9 (codes "z")) ≡ None
shown_unknown = refl
