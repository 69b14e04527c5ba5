use Rattle.std.proofs.Common.{◌≡◌, ℕ, ◌-◌, ◌==◌, List, length}
use Rattle.std.proofs.Common.{Some, true, false, drop, take, get_or, option_map}
use Rattle.std.proofs.Common.{rules, ap, ◌∙◌, arith, take_all, length-drop}
use Rattle.std.proofs.lemmas.Bool.Decides.{nat_tests}
use Rattle.std.proofs.lemmas.Grind.{common_steps}
use Rattle.fast_float.specs.Text.{scan}
use Rattle.serde_json.specs.Read.{number_of, number_from}
use Rattle.serde_json.specs.View.{number_view}
use Rattle.hub_document.proofs.value.number_of.Goals as goal

-- the number after a minus sign, and the number without one
signed : (text : List ℕ) → (get_or text 0 0 == 45) ≡ true
    → number_from true (scan (take (length text - 1) (drop 1 text))) ≡ number_of text
unfolding number_of
signed text h =
    let read : number_from true (scan (drop 1 text)) ≡ number_of text = rw h in
    ap (λ l. number_from true (scan l)) (take_all _ (drop 1 text) (omega (arith, length-drop 1 text))) ∙ read

unsigned : (text : List ℕ) → (get_or text 0 0 == 45) ≡ false → number_from false (scan text) ≡ number_of text
unfolding number_of
unsigned text h = rw h

pub returns-in-Some : goal.returns-in-Some
returns-in-Some c =
    let read : Some (number_view c.from.result) ≡ number_from true c.scan-numeral.result = search rules in
    let minus : (get_or c.as_bytes.result.now 0 0 == 45) ≡ true = search rules in
    read ∙ ap (number_from true) c.scan-numeral.ensures.parts ∙ signed c.as_bytes.result.now minus
    ∙ ap number_of c.as_bytes.ensures.value

pub returns-in_default-to_i64 : goal.returns-in_default-to_i64
returns-in_default-to_i64 c =
    let read : option_map number_view c.from_f64.result ≡ number_from true c.scan-numeral.result = search
    rules in
    let minus : (get_or c.as_bytes.result.now 0 0 == 45) ≡ true = grind (arith, nat_tests, common_steps) in
    read ∙ ap (number_from true) c.scan-numeral.ensures.parts ∙ signed c.as_bytes.result.now minus
    ∙ ap number_of c.as_bytes.ensures.value

pub returns-in-Some-to_u64 : goal.returns-in-Some-to_u64
returns-in-Some-to_u64 c =
    let read : Some (number_view c.from-in-Some-to_u64.result) ≡ number_from false
    c.scan-numeral-in_default.result =
    search rules in
    let plain : (get_or c.as_bytes.result.now 0 0 == 45) ≡ false = search rules in
    read ∙ ap (number_from false) c.scan-numeral-in_default.ensures.parts ∙ unsigned c.as_bytes.result.now
    plain
    ∙ ap number_of c.as_bytes.ensures.value

pub returns-in-None : goal.returns-in-None
returns-in-None c =
    let read : option_map number_view c.from_f64-in-None.result ≡ number_from false
    c.scan-numeral-in_default.result =
    search rules in
    let plain : (get_or c.as_bytes.result.now 0 0 == 45) ≡ false = grind (arith, nat_tests, common_steps) in
    read ∙ ap (number_from false) c.scan-numeral-in_default.ensures.parts ∙ unsigned c.as_bytes.result.now
    plain
    ∙ ap number_of c.as_bytes.ensures.value
