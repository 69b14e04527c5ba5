-- The text of a sequence with the number of its life (CouchDB API reference, _changes: a sequence is an
-- opaque text; this form is own).
use Rattle.std.specs.Prelude.{ℕ, List, ◌++◌, codes, decimal}

-- the JSON string of a sequence of a life: sequence 12 of life 3 is "12-3"
unfoldable pub sequence_text : (seq life : ℕ) → List ℕ
sequence_text seq life = codes "\"" ++ (decimal seq ++ (codes "-" ++ (decimal life ++ codes "\"")))
