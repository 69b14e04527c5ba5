-- Local documents, which are not replicated (CouchDB API reference, local documents; that `_rev` is not
-- looked at is own).
use Rattle.std.specs.Prelude.{◌≡◌, ◌≤◌, ℕ, List, length, codes, Bool, true}
use Rattle.std.specs.Prelude.{false, not, ◌&&◌, ◌==◌, nat_lt, if◌then◌else◌}
use Rattle.std.specs.Prelude.{Option, Some, None, option_map, unwrap_or, Result, Ok}
use Rattle.std.specs.List.{starts_with}
use Rattle.std.specs.Str.{bytes_eq}
use Rattle.serde_json.specs.Data.{Data, Members}
use Rattle.serde_json.specs.Find.{get, as_str, as_object}
use Rattle.serde_json.specs.Written.{members_have_float}
use Rattle.hub_document.specs.BodyText.{body_text}
use Rattle.hub_document.specs.Read.{or_fault, if_holds, json_of}
use Rattle.hub_document.specs.SpecialMembers.{are_good_members, deleted_of}
use Rattle.hub_document.specs.declared.doc.DocFault.{DocFault}
use Rattle.hub_document.specs.declared.doc.DocFault.TheVariants.{NotJson, NotObject, BadNumber, BadId}
use Rattle.hub_document.specs.declared.doc.DocFault.TheVariants.{BadMember, TooLong}
use Rattle.hub_document.specs.declared.local_doc.LocalDoc.{LocalDoc}

-- whether a text is a local document's id: `_local/` and a name
abbrev pub is_local_id : List ℕ → Bool
is_local_id s = starts_with (λ x y. x == y) s (codes "_local/") && nat_lt 7 (length s)

-- a local document's id of 512 bytes at most
pub record IsLocalId (s : List ℕ) : Type 0 where
  pub local : is_local_id s ≡ true
  pub short : length s ≤ 512

-- the text, where it is a local document's id of 512 bytes at most
abbrev pub short_local_id : List ℕ → Option (List ℕ)
short_local_id s = if is_local_id s && not (nat_lt 512 (length s)) then Some s else None

-- whether `_id` is absent or this id
abbrev pub is_named_so : List ℕ → Option Data → Bool
is_named_so id None = true
is_named_so id (Some content) = unwrap_or (option_map (bytes_eq id) (as_str content)) false

-- the local document of an object with these members, under this id, or the first fault
abbrev pub local_of : List ℕ → Data → Members → Result LocalDoc DocFault
local_of id content members =
    or_fault (if_holds (not (members_have_float members))) BadNumber (λ _.
    or_fault (if_holds (is_local_id id && is_named_so id (get (codes "_id") content))) BadId (λ _.
    or_fault (if_holds (are_good_members members && not (deleted_of content))) BadMember (λ _.
    or_fault (if_holds (not (nat_lt 512 (length id)))) TooLong (λ _.
    Ok (record { id = id; body = body_text members })))))

-- the local document of a text, under this id, or the first fault
abbrev pub local_in : List ℕ → List ℕ → Result LocalDoc DocFault
local_in id text = or_fault (json_of text) NotJson (λ d. or_fault (as_object d) NotObject (local_of id d))
