use Rattle.std.proofs.Common.{◌≡◌, ◌+◌, ◌*◌, ◌<◌, ◌≤◌, min, true, false, length}
use Rattle.std.proofs.Common.{get_or, take, sym, ap, ◌∙◌, arith, nat_lt, nat_le}
use Rattle.std.specs.List.{list_all}
use Rattle.std.specs.Char.{is_ascii_digit, digit_value}
use Rattle.std.specs.Str.Parse.{digits_value}
use Rattle.std.proofs.lemmas.Bool.{and_left, and_right}
use Rattle.std.proofs.lemmas.Bool.Decides.{nat_tests}
use Rattle.std.proofs.lemmas.List.{take_all}
use Rattle.std.proofs.lemmas.List.Folds.{list_all_at}
use Rattle.std.proofs.lemmas.Int.Digits.{digits_value_more}
use Rattle.hub_http.proofs.LengthLemmas.{not_digits, too_large, is_length, capped, all_more, some_digits}
use Rattle.hub_http.proofs.length.length_in.Goals as goal

pub returns-then-is_empty : goal.returns-then-is_empty
returns-then-is_empty c =
    let none : nat_lt 0 (length c.args.digits.now) ≡ false = grind (arith, nat_tests) in
    not_digits c.args.digits.now (and_left _ _ none)

pub returns-then-not-is_ascii_digit : goal.returns-then-not-is_ascii_digit
returns-then-not-is_ascii_digit c =
    not_digits c.args.digits.now
    (and_right _ _
    (list_all_at is_ascii_digit c.args.digits.now c.loop-b.b-index 0 c.loop-b-test.true
    (sym c.if-not-is_ascii_digit.ensures.value)))

pub loop-b-preserved : goal.loop-b-preserved
loop-b-preserved c =
    let ds = c.args.digits.now in
    let i = c.loop-b.b-index in
    let digit : digit_value (get_or c.args.digits.now c.loop-b.b-index 0) ≡ c.from.result =
    grind (arith, nat_tests) in
    let more : digits_value 10 (take (i + 1) ds) ≡ digits_value 10 (take i ds) * 10 + c.from.result =
    digits_value_more 10 ds i c.loop-b-test.true ∙ ap (λ d. digits_value 10 (take i ds) * 10 + d) digit in (
      c.min-n.ensures
          ∙ capped (digits_value 10 (take i ds)) c.loop-b.n c.from.result
          (digits_value 10 (take (i + 1) ds)) c.loop-b.invariant.0 more,
      all_more is_ascii_digit ds i c.loop-b-test.true c.loop-b.invariant.1
          (sym c.if-not-is_ascii_digit.ensures.value),
    )

pub returns-then-n-gt-BODY_LIMIT : goal.returns-then-n-gt-BODY_LIMIT
returns-then-n-gt-BODY_LIMIT c =
    let ds = c.args.digits.now in
    let all = take_all c.loop-b.b-index ds c.loop-b-test.false in
    let value : c.loop-b.n ≡ min (digits_value 10 ds) 8388609 =
    c.loop-b.invariant.0 ∙ ap (λ l. min (digits_value 10 l) 8388609) all in
    let digits : list_all is_ascii_digit ds ≡ true =
    sym (ap (list_all is_ascii_digit) all) ∙ c.loop-b.invariant.1 in
    let some : 0 < length ds = grind (arith, nat_tests) in
    let far : 8388608 < digits_value 10 ds = omega arith in
    let test : nat_le (digits_value 10 ds) 8388608 ≡ false = grind (arith, nat_tests, far) in
    too_large ds (some_digits ds some digits) test

pub returns-else-n-gt-BODY_LIMIT : goal.returns-else-n-gt-BODY_LIMIT
returns-else-n-gt-BODY_LIMIT c =
    let ds = c.args.digits.now in
    let all = take_all c.loop-b.b-index ds c.loop-b-test.false in
    let value : c.loop-b.n ≡ min (digits_value 10 ds) 8388609 =
    c.loop-b.invariant.0 ∙ ap (λ l. min (digits_value 10 l) 8388609) all in
    let digits : list_all is_ascii_digit ds ≡ true =
    sym (ap (list_all is_ascii_digit) all) ∙ c.loop-b.invariant.1 in
    let some : 0 < length ds = grind (arith, nat_tests) in
    let near : digits_value 10 ds ≤ 8388608 = omega arith in
    let test : nat_le (digits_value 10 ds) 8388608 ≡ true = grind (arith, nat_tests, near) in
    let same : c.loop-b.n ≡ digits_value 10 ds = omega arith in
    is_length ds c.loop-b.n (some_digits ds some digits) test same
