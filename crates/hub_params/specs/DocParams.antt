-- The parameters of a document's routes (CouchDB API reference, documents; own for other values of `revs` and
-- `new_edits`).
use Rattle.std.specs.Prelude.{ℕ, List, Bool, false, not, codes, Option, Some, None}
use Rattle.std.specs.Str.{bytes_eq}
use Rattle.hub_params.specs.Query.{value_of}

-- the values of `rev` and `open_revs`, decoded; whether documents are shown with their histories; and whether
-- revisions are made here
pub record DocAsked : Type 0 where
  pub rev : Option (List ℕ)
  pub open_revs : Option (List ℕ)
  pub revs : Bool
  pub new_edits : Bool

-- whether there is a value, and it is this text
abbrev pub is_value : List ℕ → Option (List ℕ) → Bool
is_value text None = false
is_value text (Some value) = bytes_eq value text

-- the parameters that a query gives a document's route
abbrev pub doc_asked : List ℕ → DocAsked
doc_asked query = record {
  rev = value_of (codes "rev") query;
  open_revs = value_of (codes "open_revs") query;
  revs = is_value (codes "true") (value_of (codes "revs") query);
  new_edits = not (is_value (codes "false") (value_of (codes "new_edits") query));
}
