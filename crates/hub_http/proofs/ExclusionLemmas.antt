-- Verdicts on the same bytes that exclude each other.
use Rattle.std.proofs.Common.{◌≡◌, ℕ, zero, suc, ◌<◌, ◌≤◌, ◌⊎◌, inl, inr, List, []}
use Rattle.std.proofs.Common.{◌++◌, length, Option, Some, Result, Ok, Err, unwrap_or}
use Rattle.std.proofs.Common.{refl, sym, ap, subst, ◌∙◌, append-nil, codes, arith}
use Rattle.std.proofs.lemmas.Grind.{common_steps}
use Rattle.std.proofs.lemmas.List.Sums.{AllPass-from_list_all}
use Rattle.std.proofs.lemmas.List.Elements.{All-nil}
use Rattle.std.proofs.lemmas.Str.{IsUtf8-from_ascii}
use Rattle.std.specs.Str.{IsAscii}
use Rattle.httparse.specs.Grammar.{crlf, IsField, RequestHead, IsRequestHead, print_request}
use Rattle.httparse.specs.Grammar.{ReadsRequest, HasNoRequest, is_token_byte, is_uri_byte}
use Rattle.httparse.proofs.GrammarLemmas.{request_unique}
use Rattle.httparse.proofs.OnLiterals.{httparse_on_literals}
use Rattle.hub_http.specs.declared.fault.HttpFault.{HttpFault}
use Rattle.hub_http.specs.declared.fault.HttpFault.TheVariants.{NoMemory, BadHead, HeadTooLong, BodyTooLong}
use Rattle.hub_http.specs.declared.fault.HttpFault.TheVariants.{Version, Coding, Ended, IoFault}
use Rattle.hub_http.specs.Heads.{Begins, BeginsFaulty, length_by, pairs_of}
use Rattle.hub_http.specs.Stream.{PlainRequest, Spells, IsCut, Faults}
use Rattle.hub_http.specs.Exclusions.{IsOutside, IsHeadFault, IsOpenFault}
use Rattle.hub_http.proofs.HeadLemmas.{asked_faults, head_has_bytes}

-- a head within the limits
record IsWithinLimits (head : RequestHead) : Type 0 where
  len : length (print_request head) ≤ 16384
  fields : length head.fields ≤ 64

-- the rest is shorter than the body that a head asks for
abbrev Lacks : RequestHead → List ℕ → Type 0
Lacks head rest = (n : ℕ) × (length_by head ≡ Ok (Some n)) × (length rest < n)

-- the meaning of a fault for the head at the front of the bytes, and for the rest
abbrev Says : RequestHead → List ℕ → HttpFault → Type 0
Says head rest fault =
    IsOutside fault
    ⊎ (((fault ≡ HeadTooLong) × (IsWithinLimits head → ⊥))
    ⊎ (IsWithinLimits head × ((length_by head ≡ Err fault) ⊎ ((fault ≡ Ended) × Lacks head rest))))

within : (bytes : List ℕ) (head other : RequestHead) (rest more : List ℕ) → ReadsRequest bytes head rest
    → Begins bytes other more → IsWithinLimits head
within bytes head other rest more r b =
    let same = request_unique bytes other head more rest b.reads r in
    subst IsWithinLimits same.0 (record { len = b.len; fields = b.fields })

faulty : (bytes : List ℕ) (head : RequestHead) (rest : List ℕ) (fault : HttpFault)
    → ReadsRequest bytes head rest → BeginsFaulty bytes fault → Says head rest fault
faulty bytes head rest fault r b =
    let same = request_unique bytes b.0 head b.1 rest b.2.reads r in
    inr (inr (within bytes head b.0 rest b.1 r b.2, inl (sym (ap length_by same.0) ∙ b.3)))

cut : (bytes : List ℕ) (head : RequestHead) (rest : List ℕ) → ReadsRequest bytes head rest → IsCut bytes
    → Says head rest Ended
cut bytes head rest r x =
    let same = request_unique bytes x.0 head x.1 rest x.3.reads r in
    inr (inr (
      within bytes head x.0 rest x.1 r x.3,
      inr (refl, (x.2, sym (ap length_by same.0) ∙ x.4, rw same.1 at x.5)),
    ))

-- bytes with the empty text behind them begin with the same head
itself : (bytes : List ℕ) (head : RequestHead) (rest : List ℕ) → ReadsRequest bytes head rest
    → ReadsRequest (bytes ++ []) head rest
itself bytes head rest r = subst (λ (l : List ℕ). ReadsRequest l head rest) (sym (append-nil bytes)) r

says : (bytes : List ℕ) (head : RequestHead) (rest : List ℕ) (fault : HttpFault)
    → ReadsRequest bytes head rest → Faults bytes fault → Says head rest fault
says bytes head rest NoMemory r f = inl (inl refl)
says bytes head rest BadHead r f =
    elim f [
      | inl x ↦ absurd (x [] head rest (itself bytes head rest r))
      | inr x ↦ faulty bytes head rest
          BadHead r x
    ]
says bytes head rest HeadTooLong r f =
    inr (inl (
      refl,
      λ w. f.0 [] head rest (record { reads = itself bytes head rest r; len = w.len; fields = w.fields }),
    ))
says bytes head rest BodyTooLong r f = faulty bytes head rest BodyTooLong r f
says bytes head rest Version r f = faulty bytes head rest Version r f
says bytes head rest Coding r f = faulty bytes head rest Coding r f
says bytes head rest Ended r f =
    elim f [ inl x ↦ absurd (x.1.0 head rest r) | inr x ↦ cut bytes head rest r x ]
says bytes head rest IoFault r f = inl (inr refl)

errors_same : (r : Result (Option ℕ) HttpFault) (fault other : HttpFault) → r ≡ Err fault → r ≡ Err other
    → fault ≡ other
errors_same r fault other x y = let both : Err fault ≡ Err other = sym x ∙ y in cc

no_error : (r : Result (Option ℕ) HttpFault) (n : Option ℕ) (fault : HttpFault) → r ≡ Ok n → r ≡ Err fault → ⊥
no_error r n fault x y = absurd (cc)

said_once : (head : RequestHead) (rest : List ℕ) (fault other : HttpFault) → Says head rest fault
    → Says head rest other → IsOutside fault ⊎ (IsOutside other ⊎ (fault ≡ other))
said_once head rest fault other (inl x) y = inl x
said_once head rest fault other (inr x) (inl y) = inr (inl y)
said_once head rest fault other (inr (inl x)) (inr (inl y)) = inr (inr (x.0 ∙ sym y.0))
said_once head rest fault other (inr (inl x)) (inr (inr y)) = absurd (x.1 y.0)
said_once head rest fault other (inr (inr x)) (inr (inl y)) = absurd (y.1 x.0)
said_once head rest fault other (inr (inr (w, inl x))) (inr (inr (v, inl y))) =
    inr (inr (errors_same (length_by head) fault other x y))
said_once head rest fault other (inr (inr (w, inl x))) (inr (inr (v, inr y))) =
    absurd (no_error (length_by head) (Some y.1.0) fault y.1.1 x)
said_once head rest fault other (inr (inr (w, inr x))) (inr (inr (v, inl y))) =
    absurd (no_error (length_by head) (Some x.1.0) other x.1.1 y)
said_once head rest fault other (inr (inr (w, inr x))) (inr (inr (v, inr y))) = inr (inr (x.0 ∙ sym y.0))

pub one_fault : (bytes : List ℕ) (head : RequestHead) (rest : List ℕ) (fault other : HttpFault)
    → ReadsRequest bytes head rest
    → Faults bytes fault → Faults bytes other → IsOutside fault ⊎ (IsOutside other ⊎ (fault ≡ other))
one_fault bytes head rest fault other r x y =
    said_once head rest fault other (says bytes head rest fault r x) (says bytes head rest other r y)

pub one_head_fault : (bytes : List ℕ) (fault other : HttpFault) → BeginsFaulty bytes fault
    → BeginsFaulty bytes other → fault ≡ other
one_head_fault bytes fault other x y =
    let same = request_unique bytes x.0 y.0 x.1 y.1 x.2.reads y.2.reads in
    errors_same (length_by y.0) fault other (sym (ap length_by same.0) ∙ x.3) y.3

pub head_fault : (bytes : List ℕ) (fault : HttpFault) → BeginsFaulty bytes fault → IsHeadFault fault
head_fault bytes fault x = asked_faults x.0.minor x.0.target (pairs_of x.0) fault x.3

full : (head : RequestHead) (body rest : List ℕ) (l : Option ℕ) → length_by head ≡ Ok l
    → length body ≡ unwrap_or l 0 → Lacks head (body ++ rest) → ⊥
full head body rest l e b x =
    let ok : Option ℕ → Result (Option ℕ) HttpFault = λ k. Ok k in
    let both : ok l ≡ ok (Some x.0) = sym e ∙ x.1 in
    let size : l ≡ Some x.0 = cc in
    let n : length body ≡ x.0 = b ∙ ap (λ k. unwrap_or k 0) size in
    let short = x.2 in
    grind (arith, common_steps)

spelled_says : (head : RequestHead) (body rest : List ℕ) (l : Option ℕ) (fault : HttpFault)
    → IsWithinLimits head → length_by head ≡ Ok l
    → length body ≡ unwrap_or l 0 → Says head (body ++ rest) fault → IsOutside fault
spelled_says head body rest l fault w k b (inl x) = x
spelled_says head body rest l fault w k b (inr (inl x)) = absurd (x.1 w)
spelled_says head body rest l fault w k b (inr (inr (v, inl x))) =
    absurd (no_error (length_by head) l fault k x)
spelled_says head body rest l fault w k b (inr (inr (v, inr x))) = absurd (full head body rest l k b x.1)

pub spelled_no_fault : (bytes : List ℕ) (asked : PlainRequest) (rest : List ℕ) (fault : HttpFault)
    → Spells bytes asked rest → Faults bytes fault → IsOutside fault
spelled_no_fault bytes asked rest fault x f =
    let b = x.1.begins in
    spelled_says x.0 asked.body rest x.1.length fault
    (record { len = b.len; fields = b.fields }) x.1.length_is x.1.body
    (says bytes x.0 (asked.body ++ rest) fault b.reads f)

-- the shortest head
short_head : RequestHead
short_head = record {
  blank = [];
  method = codes "GET";
  target = codes "/";
  minor = 1;
  line_end = crlf;
  fields = [];
  last = crlf;
}

slash_is_ascii : IsAscii (codes "/")
slash_is_ascii zero = omega arith
slash_is_ascii (suc i) = omega arith

short_head_is : IsRequestHead short_head
unfolding short_head httparse_on_literals
short_head_is = record {
  method = (omega arith, AllPass-from_list_all is_token_byte (codes "GET") refl);
  target = (omega arith, AllPass-from_list_all is_uri_byte (codes "/") refl);
  target_text = IsUtf8-from_ascii (codes "/") slash_is_ascii;
  minor = omega arith;
  fields = All-nil IsField;
}

short_head_begins : Begins ([] ++ print_request short_head) short_head []
unfolding short_head httparse_on_literals
short_head_begins = record {
  reads = (short_head_is, sym (append-nil (print_request short_head)));
  len = omega arith;
  fields = omega arith;
}

-- the empty text begins with no head
no_head : (head : RequestHead) (rest : List ℕ) → ReadsRequest [] head rest → ⊥
no_head head rest r = let n = head_has_bytes [] head rest r in omega (arith, n)

pub nothing_spells : (asked : PlainRequest) (rest : List ℕ) → Spells [] asked rest → ⊥
nothing_spells asked rest x = no_head x.0 (asked.body ++ rest) x.1.begins.reads

no_faulty : (fault : HttpFault) → BeginsFaulty [] fault → ⊥
no_faulty fault x = no_head x.0 x.1 x.2.reads

pub nothing_faults : (fault : HttpFault) → Faults [] fault → fault ≡ IoFault
nothing_faults NoMemory f = absurd (omega (arith, f))
nothing_faults BadHead f =
    elim f [
      | inl x ↦ absurd (x (print_request short_head) short_head [] short_head_begins.reads)
      | inr x ↦ absurd (no_faulty BadHead x)
    ]
nothing_faults HeadTooLong f = absurd (f.0 (print_request short_head) short_head [] short_head_begins)
nothing_faults BodyTooLong f = absurd (no_faulty BodyTooLong f)
nothing_faults Version f = absurd (no_faulty Version f)
nothing_faults Coding f = absurd (no_faulty Coding f)
nothing_faults Ended f =
    elim f [ inl x ↦ absurd (omega (arith, x.0)) | inr x ↦ absurd (no_head x.0 x.1 x.3.reads) ]
nothing_faults IoFault f = refl

no_begin : (bytes : List ℕ) (fault : HttpFault) → HasNoRequest bytes → BeginsFaulty bytes fault → ⊥
no_begin bytes fault n x = n x.0 x.1 x.2.reads

pub open_faults : (bytes : List ℕ) (fault : HttpFault) → HasNoRequest bytes → Faults bytes fault
    → IsOutside fault ⊎ IsOpenFault fault
open_faults bytes NoMemory n f = inl (inl refl)
open_faults bytes BadHead n f = inr (inl refl)
open_faults bytes HeadTooLong n f = inr (inr (inl refl))
open_faults bytes BodyTooLong n f = absurd (no_begin bytes BodyTooLong n f)
open_faults bytes Version n f = absurd (no_begin bytes Version n f)
open_faults bytes Coding n f = absurd (no_begin bytes Coding n f)
open_faults bytes Ended n f = inr (inr (inr refl))
open_faults bytes IoFault n f = inl (inr refl)
