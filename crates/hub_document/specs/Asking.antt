-- Revisions that are asked for (CouchDB API reference, _revs_diff, and documents with open_revs).
use Rattle.std.specs.Prelude.{ℕ, List, [], ◌∷◌, codes, Bool, true, ◌&&◌, is_some, if◌then◌else◌, Option, Some}
use Rattle.std.specs.Prelude.{option_map, option_and_then, Result, Ok}
use Rattle.std.specs.Str.{bytes_eq}
use Rattle.hub_model.specs.Revision.{Revision}
use Rattle.hub_model.specs.Missing.{RevisionsOfDoc}
use Rattle.serde_json.specs.Data.{Data, Items, no_items, item, Members, no_members, member}
use Rattle.serde_json.specs.Find.{as_str, as_array, as_object}
use Rattle.hub_document.specs.Histories.{rev_in}
use Rattle.hub_document.specs.Read.{or_fault, if_holds, json_of}
use Rattle.hub_document.specs.declared.doc.DocFault.{DocFault}
use Rattle.hub_document.specs.declared.doc.DocFault.TheVariants.{NotObject, BadRev}
use Rattle.hub_document.specs.declared.open_revs.OpenRevs.{OpenRevs}
use Rattle.hub_document.specs.declared.open_revs.OpenRevs.TheVariants.{All, Listed}

-- an element in front of a list, where there is a list
abbrev pub in_front : {A : Type 0} → A → Option (List A) → Option (List A)
in_front a rest = option_map (λ others. a ∷ others) rest

-- the revisions of an array's items; None where an item is no revision's text
abbrev pub revs_of : Items → Option (List Revision)
revs_of no_items = Some []
revs_of (item d ds) = option_and_then (λ r. in_front r (revs_of ds)) (rev_in d)

-- the revisions of a value that is an array of revisions; None of any other value
abbrev pub revs_in : Data → Option (List Revision)
revs_in content = option_and_then revs_of (as_array content)

-- whether each item is a text
abbrev pub are_texts : Items → Bool
are_texts no_items = true
are_texts (item d ds) = is_some (as_str d) && are_texts ds

-- whether each member is an array of texts
abbrev pub are_lists : Members → Bool
are_lists no_members = true
are_lists (member id d ms) =
    is_some (option_and_then (λ ds. if_holds (are_texts ds)) (as_array d)) && are_lists ms

-- each member's key as an id, with its revisions; None where a member is no array of revisions
abbrev pub asked_of : Members → Option (List RevisionsOfDoc)
asked_of no_members = Some []
asked_of (member id d ms) =
    option_and_then (λ revs. in_front (record { id = id; revs = revs }) (asked_of ms)) (revs_in d)

-- the revisions that a value asks for. A value that is no object of arrays of texts is NotObject, else a text
-- that is no revision is BadRev.
abbrev pub asked_in : Data → Result (List RevisionsOfDoc) DocFault
asked_in content =
    or_fault (as_object content) NotObject (λ ms.
    or_fault (if_holds (are_lists ms)) NotObject (λ _.
    or_fault (asked_of ms) BadRev Ok))

-- the revisions of a document that a value of open_revs asks for: `all`, or a JSON array of revisions
abbrev pub open_revs_in : List ℕ → Option OpenRevs
open_revs_in text =
    if bytes_eq text (codes "all") then Some All
    else option_map Listed (option_and_then revs_in (json_of text))
