-- Decoding the last value of a name gives the last decoded value of it.
use Rattle.std.proofs.Common.{◌≡◌, ℕ, List, [], ◌∷◌, map, Bool, true, false}
use Rattle.std.proofs.Common.{Option, Some, None, option_map, refl, ap₂, ◌∙◌}
use Rattle.std.specs.Prelude.{if◌then◌else◌}
use Rattle.std.specs.Option.{option_or}
use Rattle.std.specs.Str.{bytes_eq}
use Rattle.std.specs.Str.Lossy.{utf8_lossy}
use Rattle.form_urlencoded.specs.Form.{decode}
use Rattle.hub_params.specs.Encoded.{decoded_text}
use Rattle.hub_params.specs.Query.{last_of, last_value}

decoded_either : (a b : Option (List ℕ))
    → option_map decoded_text (option_or a b) ≡ option_or (option_map decoded_text a) (option_map decoded_text b)
decoded_either None b = refl
decoded_either (Some x) b = refl

decoded_if : (c : Bool) (x : List ℕ)
    → option_map decoded_text (if c then Some x else None) ≡ (if c then Some (decoded_text x) else None)
decoded_if true x = refl
decoded_if false x = refl

pub value_parsed : (name : List ℕ) (raws : List (List ℕ × List ℕ))
    → option_map decoded_text (last_of name raws)
    ≡ last_value name
    (map (λ (p : List ℕ × List ℕ). (utf8_lossy p.0, utf8_lossy p.1))
    (map (λ (p : List ℕ × List ℕ). (decode p.0, decode p.1)) raws))
value_parsed name [] = refl
value_parsed name (p ∷ raws) =
    decoded_either (last_of name raws) (if bytes_eq (decoded_text p.0) name then Some p.1 else None)
    ∙ ap₂ option_or (value_parsed name raws) (decoded_if (bytes_eq (decoded_text p.0) name) p.1)
