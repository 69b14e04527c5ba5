-- A document's own members: their names do not begin with `_` (CouchDB API reference, documents, special
-- fields). Their text is own.
use Rattle.std.specs.Prelude.{ℕ, List, [], ◌∷◌, Bool, false, ◌==◌, if◌then◌else◌}
use Rattle.serde_json.specs.Data.{object, Members, no_members, member}
use Rattle.serde_json.specs.Written.{compact_text}

-- whether a name begins with `_`
abbrev pub is_hidden : List ℕ → Bool
is_hidden [] = false
is_hidden (b ∷ k) = b == 95

-- the members that are the document's own
abbrev pub plain : Members → Members
plain no_members = no_members
plain (member k d ms) = if is_hidden k then plain ms else member k d (plain ms)

-- the compact text of a document's own members: one object
abbrev pub body_text : Members → List ℕ
body_text members = compact_text (object (plain members))
