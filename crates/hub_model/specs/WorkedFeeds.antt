-- Worked answers of descending feeds, over one small journal, and the rows of a small log of updates (own).
use Rattle.std.specs.Prelude.{◌≡◌, ℕ, List, [], ◌∷◌, false, map, Option, Some, None, codes}
use Rattle.hub_model.specs.Revision.{Revision}
use Rattle.hub_model.specs.Journal.{Edit}
use Rattle.hub_model.specs.declared.feeds.Mode.TheVariants.{Normal}
use Rattle.hub_model.specs.declared.feeds.Since.{Since}
use Rattle.hub_model.specs.declared.feeds.Since.TheVariants.{Plain, Tagged}
use Rattle.hub_model.specs.declared.feeds.Style.TheVariants.{MainOnly}
use Rattle.hub_model.specs.Row.{ChangeRow}
use Rattle.hub_model.specs.Current.{current}
use Rattle.hub_model.specs.Updates.{Note, UpdateRow, edits_of_log, update_row_of}
use Rattle.hub_model.specs.declared.updates.UpdateKind.{UpdateKind}
use Rattle.hub_model.specs.declared.updates.UpdateKind.TheVariants.{Created, Updated, Deleted}
use Rattle.hub_model.specs.Filter.{Everything}
use Rattle.hub_model.specs.Feed.{Params}
use Rattle.hub_model.specs.Descending.{descending}

-- a revision
abbrev pub rev : ℕ → List ℕ → Revision
rev generation hash = record { generation = generation; hash = hash }

-- an edit of this document with this path, which does not delete, and has the body {}
abbrev pub doc : List ℕ → List Revision → Edit
doc id path = record { id = id; path = path; deleted = false; body = codes "{}" }

-- edits of a, b, c, and then of a twice more
abbrev pub five_edits : List Edit
five_edits =
    doc (codes "a") (rev 1 (codes "a") ∷ []) ∷ doc (codes "b") (rev 1 (codes "b") ∷ [])
    ∷ doc (codes "c") (rev 1 (codes "c") ∷ [])
    ∷ doc (codes "a") (rev 2 (codes "a") ∷ rev 1 (codes "a") ∷ [])
    ∷ doc (codes "a") (rev 3 (codes "a") ∷ rev 2 (codes "a") ∷ rev 1 (codes "a") ∷ []) ∷ []

-- the parameters of a normal feed over every document, with this since and this limit
abbrev pub normal_params : Since → Option ℕ → Params
normal_params since limit =
    record {
      mode = Normal;
      since = since;
      limit = limit;
      style = MainOnly;
      include_docs = false;
      filter = Everything;
      heartbeat = false;
    }

-- the row of a document with one leaf in `five_edits`
abbrev pub leaf_row : ℕ → List ℕ → Revision → ChangeRow
leaf_row seq id winner =
    record { seq = seq; id = id; changes = winner ∷ []; deleted = false; doc = None; seen = 5 }

-- after 2: the rows of a at 5 and of c at 3, and no row pending
abbrev pub FallsAfterTwo : Type 0
FallsAfterTwo =
    descending five_edits 1 (normal_params (Plain 2) None)
    ≡ record {
      rows = leaf_row 5 (codes "a") (rev 3 (codes "a")) ∷ leaf_row 3 (codes "c") (rev 1 (codes "c"))
          ∷ [];
      last_seq = 3;
      pending = 0;
      life = 1;
    }

-- after a sequence above the journal: no row, and last_seq is the journal's length
abbrev pub FallsAfterAll : Type 0
FallsAfterAll =
    descending five_edits 1 (normal_params (Plain 9) None)
    ≡ record { rows = []; last_seq = 5; pending = 0; life = 1 }

-- 2 of the feed's own life acts as a plain 2; 2 of another life counts as 0, and all rows are shown
abbrev pub FallsByLife : Type 0
FallsByLife =
    (descending five_edits 1 (normal_params (Tagged 2 1) None) ≡ descending five_edits 1 (normal_params (Plain 2) None))
    × (descending five_edits 1 (normal_params (Tagged 2 7) None) ≡ descending five_edits 1 (normal_params (Plain 0) None))

-- a limit of 0 acts as 1: the rows of b and c are left out, and pending
abbrev pub FallsOnce : Type 0
FallsOnce =
    descending five_edits 1 (normal_params (Plain 0) (Some 0))
    ≡ record { rows = leaf_row 5 (codes "a") (rev 3 (codes "a")) ∷ []; last_seq = 5; pending = 2; life = 1 }

-- a note of this kind about the database d
abbrev pub of_d : UpdateKind → Note
of_d kind = record { kind = kind; name = codes "d" }

-- the row of such a note at this sequence, in a log of four notes
abbrev pub update : ℕ → UpdateKind → UpdateRow
update seq kind = record { db_name = codes "d"; kind = kind; seq = seq; seen = 4 }

-- d was created, written, deleted and created again: the first creation has no row any more
abbrev pub UpdatesAgain : Type 0
UpdatesAgain =
    let edits = edits_of_log (of_d Created ∷ of_d Updated ∷ of_d Deleted ∷ of_d Created ∷ []) in
    map (update_row_of edits MainOnly false) (current edits)
    ≡ update 2 Updated ∷ update 3 Deleted ∷ update 4 Created ∷ []
