-- Names and values in a query (URL Standard, section 5, application/x-www-form-urlencoded).
use Rattle.std.specs.Prelude.{◌≡◌, ℕ, ◌+◌, List, [], ◌∷◌, map, Option, Some, None, option_map, if◌then◌else◌}
use Rattle.std.specs.Prelude.{slice_index_or, ⊤}
use Rattle.std.specs.Borrow.{Bor}
use Rattle.std.specs.Option.{option_copied, option_or}
use Rattle.std.specs.Str.{bytes_eq}
use Rattle.std.specs.Str.Lossy.{utf8_lossy}
use Rattle.form_urlencoded.specs.Form.{parse, raw_pairs}
use Rattle.hub_params.specs.Encoded.{decoded_text}

-- the value of the last pair whose decoded name is this one, as the value is written. Of the pairs of
-- a=1&b=2&%61=%33 the name a has %33, since %61 is decoded to a.
abbrev pub last_of : List ℕ → List (List ℕ × List ℕ) → Option (List ℕ)
last_of name [] = None
last_of name (p ∷ pairs) =
    option_or (last_of name pairs) (if bytes_eq (decoded_text p.0) name then Some p.1 else None)

-- the value that a query gives a name, as the value is written: of a repeated name the last. a=1&b=2&a=%33
-- gives the name a the value %33, and the name c none.
abbrev pub written_of : List ℕ → List ℕ → Option (List ℕ)
written_of name query = last_of name (raw_pairs query)

-- the value that a query gives a name, decoded. a=1&b=2&a=%33 gives the name a the value 3.
abbrev pub value_of : List ℕ → List ℕ → Option (List ℕ)
value_of name query = option_map decoded_text (written_of name query)

-- from this place on the values that the query gives these names are kept, as they are written. Of the query
-- a=1&b=2&a=%33 the values %33, None are kept at the places 0 and 1 for the names a, c.
abbrev pub HasValues : List (Option (Bor (List ℕ))) → List (Bor (List ℕ)) → List ℕ → ℕ → Type 0
HasValues kept [] query place = ⊤
HasValues kept (name ∷ names) query place =
    (option_copied (slice_index_or kept place None) ≡ written_of name.now query)
    × HasValues kept names query (place + 1)

-- a function reads this text so, where `post` tells what the function gives at which text
abbrev pub IsReadAs : {R : Type 0} → (Option (Bor (List ℕ)) → R → Type 0) → Option (List ℕ) → R → Type 0
IsReadAs post text result =
    (lent : Option (Bor (List ℕ))) × (option_map (λ s. s.now) lent ≡ text) × post lent result

-- the names and values that the standard's parser gives, each as a text
abbrev pub pairs_of : List ℕ → List (List ℕ × List ℕ)
pairs_of query = map (λ p. (utf8_lossy p.0, utf8_lossy p.1)) (parse query)

-- the value of the last pair with this name: of a=1&b=2&a=3 the name a has 3
abbrev pub last_value : List ℕ → List (List ℕ × List ℕ) → Option (List ℕ)
last_value name [] = None
last_value name (p ∷ pairs) =
    option_or (last_value name pairs) (if bytes_eq p.0 name then Some p.1 else None)

-- the value that a query gives each name is the value of the last of its parsed pairs with that name
abbrev pub ValuesAreParsed : Type 0
ValuesAreParsed = (name query : List ℕ) → value_of name query ≡ last_value name (pairs_of query)
