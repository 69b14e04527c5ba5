-- Which members that begin with `_` a document may have (CouchDB API reference, documents, special fields).
-- Attachments are refused (own).
use Rattle.std.specs.Prelude.{ℕ, List, codes, Bool, true, false, ◌&&◌, ◌||◌, not, is_some, option_and_then}
use Rattle.std.specs.Prelude.{unwrap_or}
use Rattle.std.specs.Str.{bytes_eq}
use Rattle.serde_json.specs.Data.{Data, object, Members, no_members, member}
use Rattle.serde_json.specs.Find.{get, as_bool}
use Rattle.hub_document.specs.BodyText.{is_hidden}

-- whether the value is the empty object, {}
abbrev pub is_empty_object : Data → Bool
is_empty_object (object no_members) = true
is_empty_object content = false

-- the names of members that are read elsewhere, or ignored
abbrev pub is_listed : List ℕ → Bool
is_listed k =
    bytes_eq k (codes "_id") || bytes_eq k (codes "_rev") || bytes_eq k (codes "_revisions")
    || bytes_eq k (codes "_conflicts") || bytes_eq k (codes "_deleted_conflicts")
    || bytes_eq k (codes "_local_seq") || bytes_eq k (codes "_revs_info")

-- whether a document may have the member: its own one, a listed one, a boolean `_deleted`, or empty
-- `_attachments`
abbrev pub is_good_member : List ℕ → Data → Bool
is_good_member k content =
    not (is_hidden k)
    || (is_listed k
    || ((bytes_eq k (codes "_deleted") && is_some (as_bool content))
    || (bytes_eq k (codes "_attachments") && is_empty_object content)))

-- whether a document may have each of the members
abbrev pub are_good_members : Members → Bool
are_good_members no_members = true
are_good_members (member k d ms) = is_good_member k d && are_good_members ms

-- whether the document is marked as deleted: `_deleted` is true
abbrev pub deleted_of : Data → Bool
deleted_of content = unwrap_or (option_and_then as_bool (get (codes "_deleted") content)) false
