use Rattle.std.proofs.Common.{◌≡◌, ◌≢◌, ◌<◌, ◌^◌, ℕ, List, length, get_or, true, false}
use Rattle.std.proofs.Common.{nat_lt, Some, None, refl, arith, rules, ◌&&◌}
use Rattle.std.specs.List.{list_all}
use Rattle.std.specs.Str.Parse.{digits_value}
use Rattle.std.proofs.lemmas.Bool.Decides.{nat_tests, not_from_Decides}
use Rattle.std.proofs.lemmas.Result.{OkIff-at_ok, OkIff-at_err}
use Rattle.std.proofs.lemmas.Str.Pattern.{starts_char}
use Rattle.std.proofs.lemmas.Str.Parse.{IsNumeralModel, numerals_by_value, parse_plain}
use Rattle.changes_hub.specs.Commands.{count_in, is_digit, is_numeral}
use Rattle.changes_hub.proofs.command.count_of.Goals as goal

own : IsNumeralModel (λ ds. list_all is_digit ds ≡ true) (digits_value 10)
own = numerals_by_value _ (search rules)

-- the text writes a count
abbrev IsCount : List ℕ → Type 0
IsCount text = (list_all is_digit text ≡ true) × (0 < length text) × (digits_value 10 text < 2 ^ 32)

counted : (text : List ℕ) → IsCount text → Some (digits_value 10 text) ≡ count_in text
counted text is =
    let test : (is_numeral text && nat_lt (digits_value 10 text) (2 ^ 32)) ≡ true =
    grind (arith, nat_tests, is.0, is.1, is.2) in
    rw test refl

refused : (text : List ℕ) → ¬ IsCount text → None ≡ count_in text
refused text isnt =
    let test : (is_numeral text && nat_lt (digits_value 10 text) (2 ^ 32)) ≡ false =
    grind (arith, nat_tests, isnt) in
    rw test refl

pub returns-in-Ok : goal.returns-in-Ok
returns-in-Ok c =
    let text = c.args.word.now in
    let plain : get_or text 0 0 ≢ 43 = not_from_Decides _
    (starts_char 43 text c.starts_with.result c.starts_with.ensures.cases (omega arith) (omega arith))
    c.if-starts_with.false in
    let is = OkIff-at_ok c.parse.result (IsCount text) (digits_value 10 text) c.in-Ok.count
    (parse_plain own 32 text c.parse.result c.parse.ensures.value.0 plain) c.in-Ok.is in
    rw (c.from.ensures, is.1) (counted text is.0)

pub returns-in-Err : goal.returns-in-Err
returns-in-Err c =
    let text = c.args.word.now in
    let plain : get_or text 0 0 ≢ 43 = not_from_Decides _
    (starts_char 43 text c.starts_with.result c.starts_with.ensures.cases (omega arith) (omega arith))
    c.if-starts_with.false in
    refused text (OkIff-at_err c.parse.result (IsCount text) (digits_value 10 text) c.in-Err.field-0
    (parse_plain own 32 text c.parse.result c.parse.ensures.value.0 plain) c.in-Err.is)
