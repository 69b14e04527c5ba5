-- Worked histories that end above the first generation, and a parent that comes later (own).
use Rattle.std.specs.Prelude.{◌≡◌, ℕ, List, [], ◌∷◌, false, Some, codes}
use Rattle.hub_model.specs.Revision.{Revision}
use Rattle.hub_model.specs.Journal.{Edit}
use Rattle.hub_model.specs.Leaves.{leaves_of, revisions_of}
use Rattle.hub_model.specs.Walk.{line_of, shown_edit}
use Rattle.hub_model.specs.Outcome.{StoresAll, merges_all}
use Rattle.hub_model.specs.declared.outcomes.Fault.TheVariants.{Contradicts}
use Rattle.hub_model.specs.declared.outcomes.Outcome.TheVariants.{Stored, Known, Refused}
use Rattle.hub_model.specs.WorkedFeeds.{rev, doc}

-- an edit of the document x
abbrev pub edit : List Revision → Edit
edit path = doc (codes "x") path

-- some revisions
abbrev pub b2 : Revision
b2 = rev 2 (codes "b")

abbrev pub c3 : Revision
c3 = rev 3 (codes "c")

abbrev pub d4 : Revision
d4 = rev 4 (codes "d")

-- edits with the paths 2-b, 3-c, 3-c 2-b, whose head is known by then, and 4-d 3-c 2-b
abbrev pub late_edits : List Edit
late_edits = edit (b2 ∷ []) ∷ edit (c3 ∷ []) ∷ edit (c3 ∷ b2 ∷ []) ∷ edit (d4 ∷ c3 ∷ b2 ∷ []) ∷ []

-- the journal after these edits: it has three edits, each with the path that it came with
abbrev pub late_journal : List Edit
late_journal = edit (b2 ∷ []) ∷ edit (c3 ∷ []) ∷ edit (d4 ∷ c3 ∷ b2 ∷ []) ∷ []

-- the outcomes of `late_edits`, and the journal after them
abbrev pub LateIsStored : Type 0
LateIsStored =
    merges_all 9 [] late_edits
    ≡ record { outcomes = Stored b2 ∷ Stored c3 ∷ Known ∷ Stored d4 ∷ []; journal = late_journal }

-- before the edit of 4-d the leaves are 3-c and 2-b; after it 4-d is the only leaf, and 3-c has 2-b behind it
abbrev pub LateIsJoined : Type 0
LateIsJoined =
    (revisions_of (leaves_of (edit (b2 ∷ []) ∷ edit (c3 ∷ []) ∷ []) (codes "x")) ≡ c3 ∷ b2 ∷ [])
    × (revisions_of (leaves_of late_journal (codes "x")) ≡ d4 ∷ [])
    × (line_of late_journal (codes "x") c3 ≡ c3 ∷ b2 ∷ [])
    × (shown_edit late_journal (codes "x") c3 ≡ Some (edit (c3 ∷ b2 ∷ [])))

-- edits with the paths 5-e, 5-e 4-d, whose head is known, 6-f 5-e 4-d, and 6-h 5-e 4-q, another parent of 5-e
abbrev pub partial_edits : List Edit
partial_edits =
    edit (rev 5 (codes "e") ∷ []) ∷ edit (rev 5 (codes "e") ∷ rev 4 (codes "d") ∷ [])
    ∷ edit (rev 6 (codes "f") ∷ rev 5 (codes "e") ∷ rev 4 (codes "d") ∷ [])
    ∷ edit (rev 6 (codes "h") ∷ rev 5 (codes "e") ∷ rev 4 (codes "q") ∷ []) ∷ []

abbrev pub PartialIsStored : Type 0
PartialIsStored =
    merges_all 9 [] partial_edits
    ≡ record {
      outcomes = Stored (rev 5 (codes "e")) ∷ Known ∷ Stored (rev 6 (codes "f"))
          ∷ Refused Contradicts ∷ [];
      journal = edit (rev 5 (codes "e") ∷ [])
          ∷ edit (rev 6 (codes "f") ∷ rev 5 (codes "e") ∷ rev 4 (codes "d") ∷ []) ∷ [];
    }
