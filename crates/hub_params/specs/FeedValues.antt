-- The values of the parameters of a changes feed (CouchDB API reference, _changes; the limits of numbers are
-- own). None is a fault.
use Rattle.std.specs.Prelude.{ℕ, ◌^◌, List, [], ◌∷◌, length, codes, nat_eq, eqb}
use Rattle.std.specs.Prelude.{Bool, true, false, ◌&&◌, nat_le, nat_lt, min, max}
use Rattle.std.specs.Prelude.{if◌then◌else◌, Option, Some, None, option_map, option_and_then, unwrap_or}
use Rattle.std.specs.Option.{option_or}
use Rattle.std.specs.List.{list_all, before_first, after_first}
use Rattle.std.specs.Str.{bytes_eq}
use Rattle.std.specs.Str.Parse.{digits_value}
use Rattle.hub_model.specs.declared.feeds.Mode.{Mode}
use Rattle.hub_model.specs.declared.feeds.Mode.TheVariants.{Normal, Longpoll, Continuous}
use Rattle.hub_model.specs.declared.feeds.Style.{Style}
use Rattle.hub_model.specs.declared.feeds.Style.TheVariants.{MainOnly, AllDocs}
use Rattle.hub_model.specs.declared.feeds.Since.{Since}
use Rattle.hub_model.specs.declared.feeds.Since.TheVariants.{Now, Plain, Tagged}

-- whether the byte is a digit, 0 to 9
abbrev pub is_digit : ℕ → Bool
is_digit b = nat_le 48 b && nat_le b 57

-- whether the text is one digit or more, and nothing else
abbrev pub is_numeral : List ℕ → Bool
is_numeral text = nat_lt 0 (length text) && list_all is_digit text

-- the number below 2^64 that a text of digits writes. 007 is 7; the empty text, -1 and 18446744073709551616
-- are none.
abbrev pub number_in : List ℕ → Option ℕ
number_in text =
    if is_numeral text && nat_lt (digits_value 10 text) (2 ^ 64) then Some (digits_value 10 text) else None

-- the text in front of the double quote at its end; None where no double quote ends it
abbrev pub before_last_quote : List ℕ → Option (List ℕ)
before_last_quote [] = None
before_last_quote (b ∷ []) = if nat_eq b 34 then Some [] else None
before_last_quote (b ∷ c ∷ text) = option_map (λ inner. b ∷ inner) (before_last_quote (c ∷ text))

-- the text within its double quotes; None where one of them is missing. Of `"3-1"` it is 3-1, and of `"3-1`
-- there is none.
abbrev pub within_quotes : List ℕ → Option (List ℕ)
within_quotes [] = None
within_quotes (b ∷ text) = if nat_eq b 34 then before_last_quote text else None

-- whether the byte is a hyphen
abbrev pub is_hyphen : ℕ → Bool
is_hyphen b = eqb b 45

-- a sequence, a hyphen, and the number of its life. 3-1 is sequence 3 of life 1; 3 and 3- are none.
abbrev pub tagged_in : List ℕ → Option (ℕ × ℕ)
tagged_in text =
    option_and_then (λ seq. option_map (λ life. (seq, life)) (number_in (after_first is_hyphen text)))
    (number_in (before_first is_hyphen text))

-- the beginning of a feed with this text: `now`, a sequence, or a sequence with its life. So now, 3 and 3-1
-- are good; 3-, -1 and the empty text are faults.
abbrev pub since_text : List ℕ → Option Since
since_text text =
    if bytes_eq text (codes "now") then Some Now
    else option_or (option_map Plain (number_in text)) (option_map (λ p. Tagged p.0 p.1) (tagged_in text))

-- where the feed begins: after 0 where `since` is absent. One pair of double quotes is dropped (own), so 3-1
-- and "3-1" are the same.
abbrev pub since_in : Option (List ℕ) → Option Since
since_in None = Some (Plain 0)
since_in (Some text) = since_text (unwrap_or (within_quotes text) text)

-- the greatest number of rows: 0 acts as 1. So 0 and 1 give 1, and -1 is a fault. Where `limit` is absent
-- there is no limit.
abbrev pub limit_in : Option (List ℕ) → Option (Option ℕ)
limit_in None = Some None
limit_in (Some text) = option_map (λ n. Some (max n 1)) (number_in text)

-- which revisions a row lists
abbrev pub style_in : Option (List ℕ) → Option Style
style_in None = Some MainOnly
style_in (Some text) =
    if bytes_eq text (codes "main_only") then Some MainOnly
    else (if bytes_eq text (codes "all_docs") then Some AllDocs else None)

-- how long the feed lasts
abbrev pub mode_in : Option (List ℕ) → Option Mode
mode_in None = Some Normal
mode_in (Some text) =
    if bytes_eq text (codes "normal") then Some Normal
    else (if bytes_eq text (codes "longpoll") then Some Longpoll
    else (if bytes_eq text (codes "continuous") then Some Continuous else None))

-- a number of milliseconds that is not 0
abbrev pub positive : ℕ → Option (Option ℕ)
positive n = if nat_lt 0 n then Some (Some n) else None

-- the milliseconds between heartbeats; none where `heartbeat` is absent. true gives 60,000, and 5 gives 5;
-- false gives none, and 0 is a fault.
abbrev pub heartbeat_in : Option (List ℕ) → Option (Option ℕ)
heartbeat_in None = Some None
heartbeat_in (Some text) =
    if bytes_eq text (codes "true") then Some (Some 60000)
    else (if bytes_eq text (codes "false") then Some None else option_and_then positive (number_in text))

-- the milliseconds that the feed waits: 60,000 at most, and where `timeout` is absent
abbrev pub timeout_in : Option (List ℕ) → Option ℕ
timeout_in None = Some 60000
timeout_in (Some text) = option_map (λ n. min n 60000) (number_in text)

-- whether a flag is set: true sets it, false does not, and an absent one is not set. Another text, such as 1,
-- is a fault.
abbrev pub flag_in : Option (List ℕ) → Option Bool
flag_in None = Some false
flag_in (Some text) =
    if bytes_eq text (codes "true") then Some true
    else (if bytes_eq text (codes "false") then Some false else None)
