-- An index of stems: the first stem that has a revision, and a stem that goes on behind it (own). In the
-- examples d' is the hexadecimal text of the digest d, in lower-case digits, and so on. The key of a digest
-- is the number of its first eight bytes.
-- An example: stem 0 has the revisions 2-d' and 1-e', stem 1 has 3-f', stem 2 has 4-x and stem 3 has 4-y.
-- Here x and y are no digests' texts. Where the keys of d, e and f differ, the entries are 0 at the keys of d
-- and e, and 1 at that of f. The others are 2 at 4-x and 3 at 4-y. Where f begins with the eight bytes of d,
-- the entry at their key is 0, and the others have 1 at 3-f'.
-- Another one: 3-c' came alone, then 2-b' alone, then 4-d' 3-c' 2-b'. So the stems are 3-c', then 2-b', then
-- 4-d' 3-c' on 2-b'. The entries are 0 at the key of c, 1 at that of b and 2 at that of d. Stem 2 has 3-c'
-- too, but stem 0 is the first. Nothing stands behind 3-c' in stem 0, and 2-b' does in stem 2. So the link at
-- 3-c' is 2.
use Rattle.std.specs.Prelude.{◌≡◌, ℕ, ◌+◌, ◌-◌, ◌<◌, ◌≤◌, ◌⊎◌, List, length, map, slice_get, nat_eq, true}
use Rattle.std.specs.Prelude.{take, Option, Some, None, IsSome}
use Rattle.std.specs.HashMap.{get}
use Rattle.std.specs.BTreeMap.{BTreeMap, get as ordered_get}
use Rattle.hex.specs.Hex.{encode_lower}
use Rattle.hub_model.specs.Revision.{Revision, revision_cmp}
use Rattle.hub_model.specs.Path.{names}
use Rattle.hub_revtree.specs.Key.{IsKey}
use Rattle.hub_revtree.specs.Branch.{edits_in}
use Rattle.hub_revtree.specs.Extend.{line_to}
use Rattle.hub_revtree.specs.Stem.{Stem, AreStems, branches_of, rev_at, revisions_at}
use Rattle.hub_revtree.specs.declared.stem.Place.{Place}
use Rattle.hub_revtree.specs.declared.index.Firsts.{Firsts}
use Rattle.hub_revtree.specs.declared.index.Index.{Index}

-- the number that a map has at a revision
abbrev pub number_in : BTreeMap Revision ℕ → Revision → Option ℕ
number_in map revision = ordered_get revision_cmp map revision

-- the numbers of an index: the entry at a key, and below the other at a revision and its link
abbrev pub entry_in : Firsts → ℕ → Option ℕ
entry_in firsts key = get nat_eq firsts.stems key

abbrev pub other_in : Firsts → Revision → Option ℕ
other_in firsts = number_in firsts.others

abbrev pub link_in : Index → Revision → Option ℕ
link_in index = number_in index.links

-- the stem of this number has revision
abbrev pub Has : List Stem → ℕ → Revision → Type 0
Has stems number revision = names (revisions_at stems number) revision ≡ true

-- the same among the first `count` stems and the first `most` revisions of the next stem
abbrev pub HasTo : List Stem → ℕ → ℕ → ℕ → Revision → Type 0
HasTo stems count most number revision =
    ((number < count) × Has stems number revision)
    ⊎ ((number ≡ count) × ((at : ℕ) × (at < most)
    × (slice_get (revisions_at stems count) at ≡ Some revision)))

-- the stem of this number has revision and no earlier stem has it, where `has` says which stems have a
-- revision
abbrev pub IsFirstWith : (ℕ → Revision → Type 0) → ℕ → Revision → Type 0
IsFirstWith has number revision =
    has number revision × ((earlier : ℕ) → earlier < number → ¬ has earlier revision)

-- the place is one of revision in the first stem that has it
abbrev pub IsFirstPlace : List Stem → Revision → Place → Type 0
IsFirstPlace stems revision place =
    (rev_at stems (Some place) ≡ Some revision) × IsFirstWith (Has stems) place.stem revision

-- The entries and the others lead to the first stem of each revision. The entry at a key is the number of the
-- first stem that has a revision with that key. The other at a revision is the number of the first stem that
-- has the revision. One of these two is the number of the revision's first stem.
pub record AreTold (has : ℕ → Revision → Type 0) (entry : ℕ → Option ℕ)
    (other : Revision → Option ℕ) : Type 0 where
  pub entries : (key number : ℕ) → entry key ≡ Some number → (revision : Revision) × has number revision
      × IsKey revision.hash key
  pub keyed :
      (number key : ℕ) (revision : Revision) → has number revision → IsKey revision.hash key
      → (first : ℕ) × (entry key ≡ Some first) × (first ≤ number)
  pub others : (number : ℕ) (revision : Revision) → other revision ≡ Some number
      → IsFirstWith has number revision
  pub told :
      (number : ℕ) (revision : Revision) → IsFirstWith has number revision
      → ((key : ℕ) × IsKey revision.hash key × (entry key ≡ Some number)) ⊎ (other revision ≡ Some number)

-- the stem of this number goes on behind revision: it has revision, and another one behind it or a parent
abbrev pub GoesOn : List Stem → ℕ → Revision → Type 0
GoesOn stems number revision =
    (stem : Stem) × (at : ℕ) × (slice_get stems number ≡ Some stem)
    × (slice_get stem.revisions at ≡ Some revision) × ((at + 1 < length stem.revisions) ⊎ IsSome stem.parent)

-- A link is the number of a stem that goes on behind the revision. Where a stem goes on behind a revision,
-- the first stem that has the revision does too, or the revision has a link.
pub record AreLinked (has : ℕ → Revision → Type 0) (stems : List Stem)
    (link : Revision → Option ℕ) : Type 0 where
  pub links : (number : ℕ) (revision : Revision) → link revision ≡ Some number → GoesOn stems number revision
  pub linked :
      (number : ℕ) (revision : Revision) → has number revision → GoesOn stems number revision
      → ((first : ℕ) × IsFirstWith (Has stems) first revision × GoesOn stems first revision)
      ⊎ IsSome (link revision)

-- the index leads to the first stem of each revision of the stems, and has their links
abbrev pub IsIndex : Index → List Stem → Type 0
IsIndex index stems =
    AreTold (Has stems) (entry_in index.firsts) (other_in index.firsts)
    × AreLinked (Has stems) stems (link_in index)

-- the newest revision of the stem that came last, if there is one
abbrev pub newest_rev : List Stem → Option Revision
newest_rev stems = slice_get (revisions_at stems (length stems - 1)) 0

-- The digests, if there are some, are those of that revision and of all revisions behind it: their texts are
-- the hashes. An example: edits with the paths 2-b' 1-a', then 3-c' 2-b' 1-a', then 2-e' 1-a' came in this
-- order, where a' is the text of the digest a as above. The newest stem is the third, although 3-c' is of a
-- higher generation. Its newest revision is 2-e', so that the digests are e and a, in this order. The digests
-- c, b and a would be the line of the second edit.
abbrev pub IsNewestLine : Option (List (List ℕ)) → List Stem → Type 0
IsNewestLine None stems = Unit {0}
IsNewestLine (Some digests) stems =
    map encode_lower digests ≡ map (λ r. r.hash) (line_to (edits_in (branches_of stems)) (newest_rev stems))

-- the index, if there is one, is an index of the stems, and its line is that of the newest stem
abbrev pub IsIndexed : Option Index → List Stem → Type 0
IsIndexed None stems = Unit {0}
IsIndexed (Some index) stems = IsIndex index stems × IsNewestLine index.line stems

-- these are stems of a tree, and `firsts` leads to the first stem of each of their revisions
pub record AreToldOf (list : List Stem) (firsts : Firsts) : Type 0 where
  pub stems : AreStems list
  pub told : AreTold (Has list) (entry_in firsts) (other_in firsts)

-- these are stems of a tree, the last of them has this number, and it has a revision at this place
pub record IsOfLast (list : List Stem) (number at : ℕ) : Type 0 where
  pub stems : AreStems list
  pub newest : number + 1 ≡ length list
  pub within : at < length (revisions_at list number)

-- the same, and `firsts` leads to the first stem of each of their revisions
pub record IsOfLastTold (list : List Stem) (firsts : Firsts) (number at : ℕ) : Type 0 where
  pub stems : AreStems list
  pub newest : number + 1 ≡ length list
  pub within : at < length (revisions_at list number)
  pub told : AreTold (Has list) (entry_in firsts) (other_in firsts)

-- these are stems of a tree, one at least, and the index is one of all but the last
pub record IsIndexBefore (earlier : Index) (list : List Stem) : Type 0 where
  pub stems : AreStems list
  pub some : 1 ≤ length list
  pub index : IsIndex earlier (take (length list - 1) list)
