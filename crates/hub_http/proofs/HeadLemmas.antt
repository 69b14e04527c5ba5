-- From the parser's answers to the heads within the limits.
use Rattle.std.proofs.Common.{◌≡◌, ℕ, ◌<◌, ◌≤◌, ◌⊎◌, inl, inr, Bool, true, false, ◌&&◌}
use Rattle.std.proofs.Common.{cond, List, [], ◌∷◌, length, map, take, drop, Option, Some}
use Rattle.std.proofs.Common.{Result, Ok, Err, sym, ap, ◌∙◌, arith, nat_le, bytes_eq, codes}
use Rattle.std.specs.List.{list_all}
use Rattle.std.specs.Str.Parse.{digits_value}
use Rattle.std.proofs.lemmas.Grind.{common_steps}
use Rattle.httparse.specs.Grammar.{RequestHead, print_request, ReadsRequest}
use Rattle.httparse.specs.Spans.{header_bytes, span_bytes, name_and_value, IsRequestOf}
use Rattle.httparse.specs.declared.spans.HeaderSpan.{HeaderSpan}
use Rattle.httparse.specs.declared.spans.RequestSpans.{RequestSpans}
use Rattle.httparse.proofs.GrammarLemmas.{request_prefix_free}
use Rattle.hub_http.specs.declared.fault.HttpFault.{HttpFault}
use Rattle.hub_http.specs.declared.fault.HttpFault.TheVariants.{NoMemory, BadHead, HeadTooLong, BodyTooLong}
use Rattle.hub_http.specs.declared.fault.HttpFault.TheVariants.{Version, Coding, Ended, IoFault}
use Rattle.hub_http.specs.Heads.{Pair, is_digits, body_limit, length_of, length_or_fault, is_target, values_named}
use Rattle.hub_http.specs.Heads.{Begins, BeginsFaulty, BeginsTooLong, NeverHasHead, length_by}
use Rattle.hub_http.specs.Exclusions.{IsHeadFault}
use Rattle.hub_http.specs.Looking.{LookFaults, LooksWithin}

-- bytes that begin with a head are not empty
pub head_has_bytes : (buf : List ℕ) (head : RequestHead) (rest : List ℕ) → ReadsRequest buf head rest
    → 0 < length buf
unfolding print_request
head_has_bytes buf h rest r = let n = ap length r.1 in grind (arith, common_steps)

-- bytes that begin with a head past the limit begin with no other head
never_shorter : (buf : List ℕ) (headers : List HeaderSpan) (spans : RequestSpans)
    → IsRequestOf buf headers spans → 16384 < spans.len → NeverHasHead buf
never_shorter buf headers spans x far more k q b =
    let same = request_prefix_free buf more x.0 k (drop spans.len buf) q x.1.reads b.reads in
    let e : length (print_request x.0) ≡ length (print_request k) =
    ap (λ h. length (print_request h)) same.0 in
    omega (arith, x.1.len, b.len, e)

pub too_long : (buf : List ℕ) (headers : List HeaderSpan) (spans : RequestSpans)
    → IsRequestOf buf headers spans → 16384 < spans.len → NeverHasHead buf × BeginsTooLong buf
too_long buf headers spans x far = (
  never_shorter buf headers spans x far,
  inr (inl (x.0, drop spans.len buf, x.1.reads, omega (arith, x.1.len, far))),
)

-- the head that was found has few enough fields
few_fields : (buf : List ℕ) (headers : List HeaderSpan) (spans : RequestSpans) (head : RequestHead)
    → length headers ≤ 64
    → map (header_bytes buf) (take spans.headers headers) ≡ map name_and_value head.fields
    → length head.fields ≤ 64
few_fields buf headers spans head room e = grind (arith, common_steps, ap length e)

pub begins : (buf : List ℕ) (headers : List HeaderSpan) (spans : RequestSpans)
    (x : IsRequestOf buf headers spans)
    → length headers ≤ 64 → spans.len ≤ 16384 → Begins buf x.0 (drop spans.len buf)
begins buf headers spans x room short = record {
  reads = x.1.reads;
  len = omega (arith, x.1.len, short);
  fields = few_fields buf headers spans x.0 room x.1.fields;
}

pub asked_is : (buf : List ℕ) (headers : List HeaderSpan) (spans : RequestSpans)
    (x : IsRequestOf buf headers spans)
    → length_or_fault spans.version (span_bytes buf spans.path) (map (header_bytes buf) (take spans.headers headers))
    ≡ length_by x.0
asked_is buf headers spans x =
    ap (λ v. length_or_fault v (span_bytes buf spans.path) (map (header_bytes buf) (take spans.headers headers)))
    x.1.version ∙ ap (λ t. length_or_fault x.0.minor t (map (header_bytes buf) (take spans.headers headers))) x.1.path
    ∙ ap (λ ps. length_or_fault x.0.minor x.0.target ps) x.1.fields

pub begins_faulty : (buf : List ℕ) (headers : List HeaderSpan) (spans : RequestSpans) (fault : HttpFault)
    → IsRequestOf buf headers spans → length headers ≤ 64 → spans.len ≤ 16384
    → length_or_fault spans.version (span_bytes buf spans.path)
    (map (header_bytes buf) (take spans.headers headers)) ≡ Err fault → BeginsFaulty buf fault
begins_faulty buf headers spans fault x room short h =
    (x.0, drop spans.len buf, begins buf headers spans x room short, sym (asked_is buf headers spans x) ∙ h)

one_faults : (a b : Bool) (n : ℕ) (fault : HttpFault)
    → cond a (cond b (Ok (Some n)) (Err BodyTooLong)) (Err BadHead) ≡ Err fault
    → (fault ≡ BadHead) ⊎ (fault ≡ BodyTooLong)
one_faults true true n fault h = absurd (cc)
one_faults true false n fault h = inr (cc)
one_faults false b n fault h = inl (cc)

length_of_faults : (vs : List (List ℕ)) (fault : HttpFault) → length_of vs ≡ Err fault
    → (fault ≡ BadHead) ⊎ (fault ≡ BodyTooLong)
unfolding length_of
length_of_faults [] e h = absurd (cc)
length_of_faults (v ∷ vs) e h =
    one_faults (is_digits v && list_all (λ w. bytes_eq w v) vs)
    (nat_le (digits_value 10 v) body_limit) (digits_value 10 v) e h

asked_choice : (a b c : Bool) (r : Result (Option ℕ) HttpFault) (fault : HttpFault)
    → (r ≡ Err fault → (fault ≡ BadHead) ⊎ (fault ≡ BodyTooLong))
    → cond a (cond b (Err Coding) (cond c r (Err BadHead))) (Err Version) ≡ Err fault → IsHeadFault fault
asked_choice true true c r fault f h = inr (inr (cc))
asked_choice true false true r fault f h = inl (f h)
asked_choice true false false r fault f h = inl (inl (cc))
asked_choice false b c r fault f h = inr (inl (cc))

pub asked_faults : (minor : ℕ) (target : List ℕ) (pairs : List Pair) (fault : HttpFault)
    → length_or_fault minor target pairs ≡ Err fault → IsHeadFault fault
unfolding length_or_fault
asked_faults minor target pairs e h =
    asked_choice _ _ (is_target target) (length_of (values_named (codes "content-length") pairs)) e
    (length_of_faults _ e) h

pub look_faults : (buf : List ℕ) (fault : HttpFault) → IsHeadFault fault → BeginsFaulty buf fault
    → LookFaults buf fault
look_faults buf NoMemory a b = head_has_bytes buf b.0 b.1 b.2.reads
look_faults buf BadHead a b = inr b
look_faults buf HeadTooLong a b =
    absurd (elim a [
      | inl x ↦ elim x [ inl y ↦ cc | inr y ↦ cc ]
      | inr x ↦ elim x [ inl y ↦ cc | inr y ↦ cc ]
    ])
look_faults buf BodyTooLong a b = b
look_faults buf Version a b = b
look_faults buf Coding a b = b
look_faults buf Ended a b =
    absurd (elim a [
      | inl x ↦ elim x [ inl y ↦ cc | inr y ↦ cc ]
      | inr x ↦ elim x [ inl y ↦ cc | inr y ↦ cc ]
    ])
look_faults buf IoFault a b =
    absurd (elim a [
      | inl x ↦ elim x [ inl y ↦ cc | inr y ↦ cc ]
      | inr x ↦ elim x [ inl y ↦ cc | inr y ↦ cc ]
    ])

-- a fault of a look is a fault of a look with any room
pub faults_within : (room : ℕ) (buf : List ℕ) (fault : HttpFault) → LookFaults buf fault
    → LooksWithin room buf (Err fault)
faults_within room buf NoMemory f = f
faults_within room buf BadHead f = f
faults_within room buf HeadTooLong f = λ _. f
faults_within room buf BodyTooLong f = f
faults_within room buf Version f = f
faults_within room buf Coding f = f
faults_within room buf Ended f = f
faults_within room buf IoFault f = f
