-- The revisions that the edits of a tree brought, and the paths that the edits have by them (own). An
-- example: an edit with the path 2-b 1-a came first, then one with 3-c 2-b 1-a, then one with 3-d 2-e 1-a.
-- Stem 0 has the revisions 2-b 1-a and stands on nothing. Stem 1 has 3-c and stands on place 0 of stem 0,
-- which is 2-b. Stem 2 has 3-d 2-e and stands on place 1 of stem 0, which is 1-a. The chain of stem 0 is 2-b
-- 1-a. That of stem 1 is 3-c and the first chain from place 0 on: 3-c 2-b 1-a. That of stem 2 is 3-d 2-e and
-- the first chain from place 1 on: 3-d 2-e 1-a. The counts are 2, 3 and 3, so that these chains are the
-- paths.
-- Another one: 3-c came alone, then 2-b alone, then 4-d 3-c 2-b. No chain has 2-b behind 3-c, so that stem 2
-- has 4-d and 3-c, and stands on place 0 of stem 1. A chain is never changed: that 2-b stands behind 3-c is
-- found in stem 2.
-- A chain may go on behind the edit's path. An example: 5-e 4-d came first and then 6-f 5-e. Stem 1 has 6-f
-- and stands on place 0 of stem 0, so that its chain is 6-f 5-e 4-d. Its count is 2, so that its path is 6-f
-- 5-e.
use Rattle.std.specs.Prelude.{◌≡◌, ℕ, ◌<◌, ◌≤◌, List, [], ◌∷◌, ◌++◌, length}
use Rattle.std.specs.Prelude.{drop, take, map, slice_get, Option, Some, None}
use Rattle.std.specs.Prelude.{Bool, true, false, ◌||◌, IfSome, IfNone}
use Rattle.std.specs.List.{list_any}
use Rattle.hub_model.specs.Revision.{Revision}
use Rattle.hub_model.specs.Path.{IsNext, IsPath, names, is_first}
use Rattle.hub_model.specs.Walk.{behind_in}
use Rattle.hub_revtree.specs.declared.stem.Place.{Place}
use Rattle.hub_revtree.specs.Branch.{Branch, edits_in}
use Rattle.hub_revtree.specs.Common.{last_in}

-- The part of an edit that a tree keeps. `revisions` are the first of the edit's path, and `parent` is the
-- place of the revision behind them. `count` is the number of the path's revisions, and `reach` that of the
-- chain's. `joins` says whether one of `revisions` was known before, and `deleted` whether the edit deletes
-- the document. `inner` is the note whether the newest revision stands behind another, and `body` has the
-- members.
pub record Stem : Type 0 where
  pub revisions : List Revision
  pub parent : Option Place
  pub count : ℕ
  pub reach : ℕ
  pub joins : Bool
  pub deleted : Bool
  pub inner : Bool
  pub body : List ℕ

-- the place that a stem stands on, if it stands on one: in the stem of this number, at this place
abbrev pub place_on_stem : Bool → ℕ → ℕ → Option Place
place_on_stem false below at = None
place_on_stem true below at = Some (record { stem = below; at = at })

-- the revisions of a stem; none where there is no stem
abbrev pub revisions_in : Option Stem → List Revision
revisions_in None = []
revisions_in (Some stem) = stem.revisions

-- the revisions of the stem of this number
abbrev pub revisions_at : List Stem → ℕ → List Revision
revisions_at stems number = revisions_in (slice_get stems number)

-- the revision at a place, if there is one
abbrev pub rev_at : List Stem → Option Place → Option Revision
rev_at stems None = None
rev_at stems (Some place) = slice_get (revisions_at stems place.stem) place.at

-- the chain of a stem: its revisions, and those that they stand on by the stems' parents; with the count, the
-- mark and the members of the stem's edit
pub record Chain : Type 0 where
  pub whole : List Revision
  pub count : ℕ
  pub deleted : Bool
  pub body : List ℕ

-- the revisions of a chain; none where there is no chain
abbrev pub whole_in : Option Chain → List Revision
whole_in None = []
whole_in (Some chain) = chain.whole

-- the revision at a place and all revisions behind it in the chain of the place's stem
abbrev pub chain_from : List Chain → Option Place → List Revision
chain_from chains None = []
chain_from chains (Some place) = drop place.at (whole_in (slice_get chains place.stem))

-- the chain of a stem, after these earlier chains: its own revisions, then the chain that they stand on
abbrev pub chain_of : List Chain → Stem → Chain
chain_of earlier stem =
    record {
      whole = stem.revisions ++ chain_from earlier stem.parent;
      count = stem.count;
      deleted = stem.deleted;
      body = stem.body;
    }

-- these chains, and those of the stems after them
abbrev pub chains_after : List Chain → List Stem → List Chain
chains_after earlier [] = earlier
chains_after earlier (stem ∷ later) = chains_after (earlier ++ chain_of earlier stem ∷ []) later

-- the chains of the stems
abbrev pub chains_of : List Stem → List Chain
chains_of stems = chains_after [] stems

-- the branch of a chain: its path is the chain's front
abbrev pub branch_of : Chain → Branch
branch_of chain =
    record { path = take chain.count chain.whole; deleted = chain.deleted; body = chain.body }

-- the branches of the stems
abbrev pub branches_of : List Stem → List Branch
branches_of stems = map branch_of (chains_of stems)

-- the stored edits in the order in which they were taken, their stems, and the number of further edits for
-- which there is memory
pub record Storage : Type 0 where
  pub list : List Branch
  pub stems : List Stem
  pub spare : ℕ

-- whether one of the stems has revision
abbrev pub has_revision : List Stem → Revision → Bool
has_revision stems revision = list_any (λ s. names s.revisions revision) stems

-- the place's stem has a revision at the place
abbrev pub IsWithin : List Stem → Place → Type 0
IsWithin stems place = place.at < length (revisions_at stems place.stem)

-- the revisions that the place's stem has from the place on
abbrev pub own_from : List Stem → Place → List Revision
own_from stems place = drop place.at (revisions_at stems place.stem)

-- The stems of a tree. Each stem has a revision at least, and the generations of its revisions fall by one.
-- Its newest revision is none of an earlier stem's. Where it joins none, none of its revisions is. It stands
-- on nothing, or on a place of an earlier stem, whose revision is of a lower generation than its newest. Its
-- path has its revisions, and the one that they stand on. The path is a front of its chain, and `reach` is
-- the chain's length.
pub record AreStems (stems : List Stem) : Type 0 where
  pub falling : (k : ℕ) (stem : Stem) → slice_get stems k ≡ Some stem → IsPath stem.revisions
  pub newest :
      (k : ℕ) (stem : Stem) (revision : Revision) → slice_get stems k ≡ Some stem
      → slice_get stem.revisions 0 ≡ Some revision
      → has_revision (take k stems) revision ≡ false
  pub fresh :
      (k : ℕ) (stem : Stem) → slice_get stems k ≡ Some stem → stem.joins ≡ false
      → list_any (has_revision (take k stems)) stem.revisions ≡ false
  pub earlier :
      (k : ℕ) (stem : Stem) (place : Place) → slice_get stems k ≡ Some stem → stem.parent ≡ Some place
      → (place.stem < k) × IsWithin stems place
  pub lower :
      (k : ℕ) (stem : Stem) (place : Place) (revision other : Revision) → slice_get stems k ≡ Some stem
      → stem.parent ≡ Some place → slice_get stem.revisions 0 ≡ Some other
      → rev_at stems (Some place) ≡ Some revision → revision.generation < other.generation
  pub counted :
      (k : ℕ) (stem : Stem) → slice_get stems k ≡ Some stem
      → (length stem.revisions ≤ stem.count) × (stem.count ≤ stem.reach)
      × ((place : Place) → stem.parent ≡ Some place → length stem.revisions < stem.count)
  pub reached :
      (k : ℕ) (stem : Stem) → slice_get stems k ≡ Some stem
      → stem.reach ≡ length (whole_in (slice_get (chains_of stems) k))

-- a revision, if there is one, as a list
abbrev pub one_of : Option Revision → List Revision
one_of None = []
one_of (Some revision) = revision ∷ []

-- the revisions of a stem and the one that they stand on
abbrev pub own_path : List Stem → Stem → List Revision
own_path stems stem = stem.revisions ++ one_of (rev_at stems stem.parent)

-- revision stands directly behind other in the own path of a stem
abbrev pub IsBrought : List Stem → Revision → Revision → Type 0
IsBrought stems revision other =
    (k : ℕ) × (stem : Stem) × (slice_get stems k ≡ Some stem) × IsNext (own_path stems stem) other revision

-- revision is the one at the place
abbrev pub StandsAt : List Stem → Revision → Place → Type 0
StandsAt stems revision place = rev_at stems (Some place) ≡ Some revision

-- the result of a look for revision: a place where it stands; None where no stem has it
pub record IsFound (stems : List Stem) (revision : Revision) (place : Option Place) : Type 0 where
  pub found : IfSome place (StandsAt stems revision)
  pub none : IfNone place (has_revision stems revision ≡ false)

-- the stems have a revision at the place, and it stands directly behind other in the own path of a stem
abbrev pub IsBehind : List Stem → Revision → Place → Type 0
IsBehind stems other place =
    IsWithin stems place
    × ((revision : Revision) → StandsAt stems revision place → IsBrought stems revision other)

-- the result of a look directly behind other: a place that is behind it, as above; None where no stem brought
-- a revision behind it
pub record IsFoundBehind (stems : List Stem) (other : Revision) (found : Option Place) : Type 0 where
  pub place : IfSome found (IsBehind stems other)
  pub none : IfNone found ((revision : Revision) → ¬ IsBrought stems revision other)

-- The place where a walk along stored edits goes on, behind the revisions that a stem has from a place on.
-- The revision there is the one directly behind the last of these. There is no such place where the stored
-- edits have no such revision.
pub record IsAfter (storage : Storage) (place : Place) (after : Option Place) : Type 0 where
  pub within : IfSome after (IsWithin storage.stems)
  pub behind : (revision : Revision) → last_in (own_from storage.stems place) ≡ Some revision
      → rev_at storage.stems after ≡ behind_in revision (edits_in storage.list)

-- whether revision is the revision at the place, if there is one
abbrev pub is_at : List Stem → Revision → Option Place → Bool
is_at stems revision None = false
is_at stems revision (Some place) = is_first revision (drop place.at (revisions_at stems place.stem))

-- whether revision stands behind the stem's newest revision: it is another one of the stem's, or the one that
-- the stem stands on
abbrev pub is_behind_newest : List Stem → Revision → Stem → Bool
is_behind_newest stems revision stem =
    names (drop 1 stem.revisions) revision || is_at stems revision stem.parent

-- No revision of the stems is of a generation above this one, and each that stands behind a newest one is of
-- a generation below it. An example: the three stems above are up to generation 3, and so up to 4, but not up
-- to 2.
pub record AreUpTo (stems : List Stem) (highest : ℕ) : Type 0 where
  pub known : (revision : Revision) → has_revision stems revision ≡ true → revision.generation ≤ highest
  pub behind : (revision : Revision) → list_any (is_behind_newest stems revision) stems ≡ true
      → revision.generation < highest
