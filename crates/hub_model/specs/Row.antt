-- The rows of a database's changes (CouchDB API reference, _changes with style and include_docs).
use Rattle.std.specs.Prelude.{◌≡◌, ℕ, List, [], ◌∷◌, length, take, Contains, Bool, true, false, Option, Some}
use Rattle.std.specs.Prelude.{None}
use Rattle.hub_model.specs.declared.feeds.Style.{Style}
use Rattle.hub_model.specs.declared.feeds.Style.TheVariants.{MainOnly, AllDocs}
use Rattle.hub_model.specs.Revision.{Revision}
use Rattle.hub_model.specs.Journal.{Edit}
use Rattle.hub_model.specs.Leaves.{Leaf, leaves_of, revisions_of}
use Rattle.hub_model.specs.Current.{Current, current}

-- a row of changes. `seen` is the number of edits when the row was made
pub record ChangeRow : Type 0 where
  pub seq : ℕ
  pub id : List ℕ
  pub changes : List Revision
  pub deleted : Bool
  pub doc : Option (List ℕ)  -- the members of the winner's document: its id, revision and mark are the row's
  pub seen : ℕ

-- The revisions that a row lists, out of the leaves, best first. Of the leaves 2-a, 1-z and 2-b, which is
-- deleted, MainOnly lists 2-a, and AllDocs lists all three in this order (proved: `StylesList`).
abbrev pub changes_of : Style → List Leaf → List Revision
changes_of MainOnly leaves = take 1 (revisions_of leaves)
changes_of AllDocs leaves = revisions_of leaves

-- whether the winner is deleted
abbrev pub is_deleted : List Leaf → Bool
is_deleted [] = false
is_deleted (winner ∷ others) = winner.edit.deleted

-- the members of the winner's document, where they are asked for
abbrev pub doc_of : Bool → List Leaf → Option (List ℕ)
doc_of false leaves = None
doc_of true [] = None
doc_of true (winner ∷ others) = Some winner.edit.body

-- The row that shows a current row of this journal. After edits of a, b and then a again, with 2-b as its
-- newest revision, the row of a has seq 3, changes 2-b, and seen 3 (proved: `AgainIsLater`).
abbrev pub row_of : List Edit → Style → Bool → Current → ChangeRow
row_of journal style include_docs row = record {
  seq = row.seq;
  id = row.id;
  changes = changes_of style (leaves_of journal row.id);
  deleted = is_deleted (leaves_of journal row.id);
  doc = doc_of include_docs (leaves_of journal row.id);
  seen = length journal;
}

-- the row shows a current row of this journal
abbrev pub IsRow : List Edit → Style → Bool → ChangeRow → Type 0
IsRow journal style include_docs row =
    (c : Current) × Contains (current journal) c × (row ≡ row_of journal style include_docs c)
