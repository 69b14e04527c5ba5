-- The forms of ids, as they are kept (own).
use Rattle.std.specs.Prelude.{ℕ, List, string_bytes}
use Rattle.std.specs.Arc.{arc_value}
use Rattle.hub_document.specs.declared.doc_id.Form.{Form}
use Rattle.hub_document.specs.declared.doc_id.Form.TheVariants.{Inline, Shared, Long}

-- the bytes of an id in this form
abbrev pub bytes_in : Form → List ℕ
bytes_in (Inline text) = text.bytes
bytes_in (Shared text) = (arc_value text).bytes
bytes_in (Long text) = string_bytes (arc_value text)
