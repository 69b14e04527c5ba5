-- The bytes that are written where room is needed.
use Rattle.std.proofs.Common.{◌≡◌, ◌<◌, ◌⊎◌, inl, inr, ℕ, List, [], ◌∷◌, length, Option, Some, option_map}
use Rattle.std.proofs.Common.{None, Result, Ok, Err, IfErr, arith, refl, subst, sym, ◌∙◌}
use Rattle.std.specs.Str.{is_utf8, chars}
use Rattle.std.specs.Str.Lossy.{utf8_lossy}
use Rattle.json.specs.Json.{value}
use Rattle.json.specs.Lex.{punctuate, lex}
use Rattle.form_urlencoded.specs.Percent.{percent_decode}
use Rattle.serde_json.specs.Data.{Data}
use Rattle.hub_document.specs.Read.{json_of}
use Rattle.hub_params.specs.Encoded.{decoded_text}
use Rattle.hub_params.specs.Room.{HasBytes}

-- a fact of each error, at any error
pub at_any_error : {A E : Type 0} (r : Result A E) (P : E → Type 0) → ((e : E) → P e) → IfErr r P
at_any_error (Ok x) P p = tt
at_any_error (Err e) P p = p e

-- the empty value is decoded to the empty text
decoded_nil : decoded_text [] ≡ []
unfolding percent_decode utf8_lossy
decoded_nil = refl

bytes_of_text : (written : List ℕ) → 0 < length (decoded_text written) → 0 < length written
bytes_of_text [] h = rw decoded_nil at h
bytes_of_text (x ∷ xs) h = omega arith

-- a decoded text that is not empty has written bytes
text_has_bytes : (written : Option (List ℕ)) → HasBytes (option_map decoded_text written) → HasBytes written
text_has_bytes None h = h
text_has_bytes (Some bytes) h = bytes_of_text bytes h

pub kept_has_bytes : (written : Option (List ℕ)) (text : List ℕ) → Some text ≡ option_map decoded_text written
    → 0 < length text → HasBytes written
kept_has_bytes written text e h = text_has_bytes written (subst HasBytes e h)

-- the empty text is no JSON
no_json : json_of [] ≡ None
unfolding is_utf8 chars value punctuate lex
no_json = refl

-- so a text that reads as JSON has bytes
pub json_has_bytes : (text : List ℕ) (content : Data) → json_of text ≡ Some content → 0 < length text
json_has_bytes [] content h = absurd (let e : None ≡ Some content = sym no_json ∙ h in cc)
json_has_bytes (x ∷ xs) content h = omega arith

-- the query gives ids, or there is a body
pub given_or_body : (written : Option (List ℕ)) (body : List ℕ) (text : Option (List ℕ))
    → text ≡ option_map decoded_text written → HasBytes text ⊎ (0 < length body)
    → HasBytes written ⊎ (0 < length body)
given_or_body written body text e (inl h) = inl (text_has_bytes written (subst HasBytes e h))
given_or_body written body text e (inr h) = inr h
