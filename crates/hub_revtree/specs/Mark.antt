-- The notes of the stems of a tree: whether the newest revision of each stands behind another by now (own).
-- An example: an edit with the path 2-b 1-a came first, then one with 3-c 2-b 1-a, then one with 3-d 2-e 1-a.
-- The newest revisions of their stems are 2-b, 3-c and 3-d. 2-b stands behind 3-c, so that the first stem is
-- noted as inner, and the two others are not.
use Rattle.std.specs.Prelude.{◌≡◌, ℕ, List, map, slice_get, Some, Bool, true, false, ◌||◌}
use Rattle.std.specs.List.{list_any}
use Rattle.hub_model.specs.Journal.{IsLegal}
use Rattle.hub_model.specs.Revision.{Revision}
use Rattle.hub_revtree.specs.Branch.{Branch, edits_in}
use Rattle.hub_revtree.specs.declared.mark.Mark.{Mark}
use Rattle.hub_revtree.specs.declared.mark.Mark.TheVariants.{Leaf, DeletedLeaf, Inner, DeletedInner}
use Rattle.hub_revtree.specs.Stem.{Stem, AreStems, branches_of, is_behind_newest}

-- whether a mark is that of an edit that deletes the document
abbrev pub is_deletion : Mark → Bool
is_deletion Leaf = false
is_deletion DeletedLeaf = true
is_deletion Inner = false
is_deletion DeletedInner = true

-- whether a mark is that of an edit whose revision stands behind another
abbrev pub is_passed : Mark → Bool
is_passed Leaf = false
is_passed DeletedLeaf = false
is_passed Inner = true
is_passed DeletedInner = true

-- a stem with the note that it is inner, or that it is not
abbrev pub with_note : Bool → Stem → Stem
with_note inner stem =
    record {
      revisions = stem.revisions;
      parent = stem.parent;
      count = stem.count;
      reach = stem.reach;
      joins = stem.joins;
      deleted = stem.deleted;
      inner = inner;
      body = stem.body;
    }

-- a stem without its note, as if it were not inner
abbrev pub plain : Stem → Stem
plain stem = with_note false stem

-- revision stands behind the newest revision of one of the stems
abbrev pub is_inner : List Stem → Revision → Bool
is_inner stems revision = list_any (is_behind_newest stems revision) stems

-- each stem is noted as inner where its newest revision passes the test, and only there
abbrev pub AreNoted : (Revision → Bool) → List Stem → Type 0
AreNoted test stems =
    (k : ℕ) (stem : Stem) (revision : Revision) → slice_get stems k ≡ Some stem
    → slice_get stem.revisions 0 ≡ Some revision → stem.inner ≡ test revision

-- each stem is noted as inner where its newest revision stands behind another. So the three stems above are
-- noted as inner, not inner and not inner.
abbrev pub AreMarked : List Stem → Type 0
AreMarked stems = AreNoted (is_inner stems) stems

-- Take a test that a revision passes wherever it stands behind a newest one of the stems before. If the stems
-- before are noted by that test, then the stems after are noted by that test or by `this`. An example: the
-- stems before have 2-b 1-a and 3-c, which stands on 2-b, and are noted as inner and not inner. Where `this`
-- is true of 3-c alone, since 4-d is to stand on it, the same two stems are noted as inner and inner.
abbrev pub Notes : List Stem → (Revision → Bool) → List Stem → Type 0
Notes before this after =
    (test : Revision → Bool) →
    ((revision : Revision) → is_inner before revision ≡ true → test revision ≡ true) → AreNoted test before
    → AreNoted (λ revision. this revision || test revision) after

-- the stems after are those before but for their notes, and `this` is noted of them, as above
pub record NotesOnly (before : List Stem) (this : Revision → Bool) (after : List Stem) : Type 0 where
  pub plain : map plain after ≡ map plain before
  pub noted : Notes before this after

-- these are stems of a tree with right notes; `branches` are their branches, whose edits are a legal journal
pub record AreStemsOf (list : List Stem) (branches : List Branch) : Type 0 where
  pub stems : AreStems list
  pub marked : AreMarked list
  pub shown : branches_of list ≡ branches
  pub legal : IsLegal (edits_in branches)
