-- Names and values of a query that are not decoded yet (URL Standard, section 5,
-- application/x-www-form-urlencoded).
use Rattle.std.specs.Prelude.{ℕ, List}
use Rattle.std.specs.Str.Lossy.{utf8_lossy}
use Rattle.form_urlencoded.specs.Form.{decode}

-- the decoded text of a written name or value
abbrev pub decoded_text : List ℕ → List ℕ
decoded_text written = utf8_lossy (decode written)
