-- The length that the fields of a head give.
use Rattle.std.proofs.Common.{◌≡◌, ℕ, ◌+◌, ◌*◌, ◌<◌, min, Bool, true, false, ◌&&◌, cond, List}
use Rattle.std.proofs.Common.{[], ◌∷◌, ◌++◌, length, map, take, drop, get_or, Option, Some}
use Rattle.std.proofs.Common.{None, Result, Ok, Err, refl, sym, ap, ◌∙◌, arith, nat_le}
use Rattle.std.proofs.Common.{nat_lt, append_assoc, append-nil, bytes_eq, drop-cons, add-one}
use Rattle.std.specs.List.{list_all}
use Rattle.std.specs.Char.{is_ascii_digit}
use Rattle.std.specs.Str.Parse.{digits_value}
use Rattle.std.proofs.lemmas.Bool.{and_left, and_right, and_from, cond-true, cond-false}
use Rattle.std.proofs.lemmas.Bool.Decides.{nat_tests}
use Rattle.std.proofs.lemmas.List.{take_more}
use Rattle.std.proofs.lemmas.List.Folds.{list_all-append}
use Rattle.httparse.specs.Spans.{header_bytes}
use Rattle.httparse.specs.declared.spans.HeaderSpan.{HeaderSpan}
use Rattle.hub_http.specs.declared.fault.HttpFault.{HttpFault}
use Rattle.hub_http.specs.declared.fault.HttpFault.TheVariants.{BadHead, BodyTooLong}
use Rattle.hub_http.specs.Heads.{is_named, values_named, is_digits, body_limit, length_of}
use Rattle.hub_http.specs.Looking.{length_in, SoFar}

all_snoc : (p : List ℕ → Bool) (xs : List (List ℕ)) (w : List ℕ) → list_all p xs ≡ true → p w ≡ true
    → list_all p (xs ++ w ∷ []) ≡ true
all_snoc p xs w a b = list_all-append p xs (w ∷ []) ∙ and_from _ _ a (and_from _ _ b refl)

-- one more value, the same as those before
pub keeps_one : (v w : List ℕ) (all rest : List (List ℕ)) → bytes_eq w v ≡ true
    → SoFar (Some v) all (w ∷ rest) → SoFar (Some v) all rest
keeps_one v w all rest e x = (
  x.0 ++ w ∷ [],
  x.1 ∙ ap (λ l. v ∷ l) (sym (append_assoc x.0 (w ∷ []) rest)),
  all_snoc (λ u. bytes_eq u v) x.0 w x.2 e,
)

-- one more value that differs
pub differs : (v w : List ℕ) (all rest : List (List ℕ)) → bytes_eq w v ≡ false → SoFar (Some v) all (w ∷ rest)
    → length_of all ≡ Err BadHead
unfolding length_of
differs v w all rest e x =
    let fails : list_all (λ u. bytes_eq u v) (x.0 ++ w ∷ rest) ≡ false =
    list_all-append (λ u. bytes_eq u v) x.0 (w ∷ rest) ∙ and_right _ _ (and_left _ _ e) in
    ap length_of x.1 ∙ cond-false _ _ _ (and_right _ _ fails)

pub no_value : (all : List (List ℕ)) → SoFar None all [] → Ok None ≡ length_of all
unfolding length_of
no_value all e = sym (ap length_of e)

-- the length of one value as the length of all values
abbrev pub in_some : Result ℕ HttpFault → Result (Option ℕ) HttpFault
in_some (Ok n) = Ok (Some n)
in_some (Err e) = Err e

choose : (a b c : Bool) (n : ℕ) → c ≡ true
    → in_some (cond a (cond b (Ok n) (Err BodyTooLong)) (Err BadHead))
    ≡ cond (a && c) (cond b (Ok (Some n)) (Err BodyTooLong)) (Err BadHead)
choose true true true n e = refl
choose true false true n e = refl
choose false b true n e = refl
choose true true false n e = absurd (cc)
choose true false false n e = absurd (cc)
choose false b false n e = absurd (cc)

pub one_length : (v : List ℕ) (all : List (List ℕ)) → SoFar (Some v) all []
    → in_some (length_in v) ≡ length_of all
unfolding length_of length_in
one_length v all x =
    let same : list_all (λ u. bytes_eq u v) (x.0 ++ []) ≡ true =
    ap (list_all (λ u. bytes_eq u v)) (append-nil x.0) ∙ x.2 in
    choose (is_digits v) (nat_le (digits_value 10 v) body_limit) (list_all (λ u. bytes_eq u v) (x.0 ++ []))
    (digits_value 10 v) same
    ∙ sym (ap length_of x.1)

-- a field of another name adds no value
pub values_skip : (name buf : List ℕ) (spans : List HeaderSpan) (i : ℕ) (span : HeaderSpan) → i < length spans
    → is_named name (header_bytes buf (get_or spans i span)) ≡ false
    → values_named name (map (header_bytes buf) (drop i spans))
    ≡ values_named name (map (header_bytes buf) (drop (i + 1) spans))
values_skip name buf spans i span inside other =
    ap (λ l. values_named name (map (header_bytes buf) l)) (drop-cons spans i span inside)
    ∙ cond-false _ _ _ other
    ∙ ap (λ k. values_named name (map (header_bytes buf) (drop k spans))) (sym (add-one i))

pub values_take : (name buf : List ℕ) (spans : List HeaderSpan) (i : ℕ) (span : HeaderSpan) → i < length spans
    → is_named name (header_bytes buf (get_or spans i span)) ≡ true
    → values_named name (map (header_bytes buf) (drop i spans))
    ≡ (header_bytes buf (get_or spans i span)).1
    ∷ values_named name (map (header_bytes buf) (drop (i + 1) spans))
values_take name buf spans i span inside same =
    ap (λ l. values_named name (map (header_bytes buf) l)) (drop-cons spans i span inside)
    ∙ cond-true _ _ _ same
    ∙ ap (λ k. (header_bytes buf (get_or spans i span)).1
    ∷ values_named name (map (header_bytes buf) (drop k spans)))
    (sym (add-one i))

pub not_digits : (v : List ℕ) → is_digits v ≡ false → Err BadHead ≡ length_in v
unfolding length_in
not_digits v e = sym (cond-false _ _ _ e)

pub too_large : (v : List ℕ) → is_digits v ≡ true → nat_le (digits_value 10 v) 8388608 ≡ false
    → Err BodyTooLong ≡ length_in v
unfolding length_in
too_large v e l = sym (cond-true _ _ _ e ∙ cond-false _ _ _ l)

pub is_length : (v : List ℕ) (n : ℕ) → is_digits v ≡ true → nat_le (digits_value 10 v) 8388608 ≡ true
    → n ≡ digits_value 10 v → Ok n ≡ length_in v
unfolding length_in
is_length v n e l s = ap (λ k. Ok k) s ∙ sym (cond-true _ _ _ e ∙ cond-true _ _ _ l)

pub capped : (value n digit next : ℕ) → n ≡ min value 8388609 → next ≡ value * 10 + digit
    → min (n * 10 + digit) 8388609 ≡ min next 8388609
capped value n digit next e f = omega arith

pub all_more : (p : ℕ → Bool) (xs : List ℕ) (i : ℕ) → i < length xs → list_all p (take i xs) ≡ true
    → p (get_or xs i 0) ≡ true → list_all p (take (i + 1) xs) ≡ true
all_more p xs i inside before here =
    ap (list_all p) (take_more xs i 0 inside)
    ∙ list_all-append p (take i xs) _
    ∙ and_from _ _ before (and_from _ _ here refl)

pub some_digits : (v : List ℕ) → 0 < length v → list_all is_ascii_digit v ≡ true → is_digits v ≡ true
some_digits v some all =
    let long : nat_lt 0 (length v) ≡ true = grind (arith, nat_tests) in and_from _ _ long all
