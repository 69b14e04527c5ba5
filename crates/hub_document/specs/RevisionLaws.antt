-- Reading a revision and writing it undo each other (own).
use Rattle.std.specs.Prelude.{◌≡◌, ℕ, List, Some}
use Rattle.hub_model.specs.Revision.{Revision, IsRevision, text_of}
use Rattle.hub_document.specs.RevisionText.{revision_of}

-- the text of each revision within the limits reads as that revision
abbrev pub TextsRead : Type 0
TextsRead = (revision : Revision) → IsRevision revision → revision_of (text_of revision) ≡ Some revision

-- a text that reads as a revision is that revision's text, and the revision is within the limits
abbrev pub ReadsAreTexts : Type 0
ReadsAreTexts =
    (s : List ℕ) (revision : Revision) → revision_of s ≡ Some revision → (text_of revision ≡ s)
    × IsRevision revision
