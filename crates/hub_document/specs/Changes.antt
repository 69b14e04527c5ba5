-- The revisions that a row lists, as they are kept (own).
use Rattle.std.specs.Prelude.{◌≡◌, ℕ, List, [], ◌∷◌, length}
use Rattle.hex.specs.Hex.{IsBytes, encode_lower}
use Rattle.hub_model.specs.Revision.{Revision}
use Rattle.hub_document.specs.declared.changes.ChangesRepr.{ChangesRepr}
use Rattle.hub_document.specs.declared.changes.ChangesRepr.TheVariants.{One, Many}
use Rattle.hub_document.specs.declared.changes.LentChanges.{LentChanges}
use Rattle.hub_document.specs.declared.changes.LentChanges.TheVariants.{One as LentOne, Many as LentMany}

-- the revisions that are kept
abbrev pub changes_in : ChangesRepr → List Revision
changes_in (One rev) = rev ∷ []
changes_in (Many revs) = revs

-- the revisions that are lent
abbrev pub lent_in : LentChanges → List Revision
lent_in (LentOne rev) = rev.now ∷ []
lent_in (LentMany revs) = revs.now

-- the hash is a digest's text: 16 bytes in lower-case hexadecimal digits, as in each revision that is made
-- here
abbrev pub IsDigestText : List ℕ → Type 0
IsDigestText hash = (digest : List ℕ) × (length digest ≡ 16) × IsBytes digest × (hash ≡ encode_lower digest)
