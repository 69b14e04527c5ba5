-- Bytes spell at most one request.
use Rattle.std.proofs.Common.{◌≡◌, ℕ, List, ◌++◌, length, take, drop, Option}
use Rattle.std.proofs.Common.{Result, Ok, unwrap_or, is_some, refl, sym, ap, ◌∙◌}
use lib.Seq.{take-append_seam}
use Rattle.std.proofs.lemmas.List.{drop_at}
use Rattle.httparse.proofs.GrammarLemmas.{request_unique}
use Rattle.hub_http.specs.declared.fault.HttpFault.{HttpFault}
use Rattle.hub_http.specs.Heads.{length_by, close_by}
use Rattle.hub_http.specs.Stream.{PlainRequest, Spells}

same_front : (a b r q : List ℕ) → a ++ r ≡ b ++ q → length a ≡ length b → (a ≡ b) × (r ≡ q)
same_front a b r q e l = (
  sym (take-append_seam a r) ∙ ap (take (length a)) e ∙ ap (λ n. take n (b ++ q)) l ∙ take-append_seam b q,
  sym (drop_at a r (length a) refl) ∙ ap (drop (length a)) e ∙ drop_at b q (length a) (sym l),
)

pub spells_unique : (bytes : List ℕ) (asked other : PlainRequest) (r q : List ℕ) → Spells bytes asked r
    → Spells bytes other q → (asked ≡ other) × (r ≡ q)
spells_unique bytes asked other r q x y =
    let same = request_unique bytes x.0 y.0 _ _ x.1.begins.reads y.1.begins.reads in
    let ok : Option ℕ → Result (Option ℕ) HttpFault = λ l. Ok l in
    let sized : ok x.1.length ≡ ok y.1.length = sym x.1.length_is ∙ ap length_by same.0 ∙ y.1.length_is in
    let size : x.1.length ≡ y.1.length = cc in
    let front =
    same_front asked.body other.body r q same.1 (x.1.body ∙ ap (λ n. unwrap_or n 0) size ∙ sym y.1.body) in
    let method : asked.method ≡ other.method = x.1.method ∙ ap (λ h. h.method) same.0 ∙ sym y.1.method in
    let target : asked.target ≡ other.target = x.1.target ∙ ap (λ h. h.target) same.0 ∙ sym y.1.target in
    let has : asked.has_length ≡ other.has_length = x.1.has_length ∙ ap is_some size ∙ sym y.1.has_length in
    let close : asked.close ≡ other.close = x.1.close ∙ ap close_by same.0 ∙ sym y.1.close in (
      λ i. record {
        method = method i;
        target = target i;
        has_length = has i;
        close = close i;
        body = front.0 i;
      },
      front.1,
    )
