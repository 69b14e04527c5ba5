-- The requests of the bytes that came so far, and more bytes behind them.
use Rattle.std.proofs.Common.{◌≡◌, ℕ, ◌+◌, ◌<◌, ◌≤◌, List, [], ◌∷◌, ◌++◌, length}
use Rattle.std.proofs.Common.{take, drop, Option, Some, None, Ok, is_some, unwrap_or}
use Rattle.std.proofs.Common.{sym, ap, subst, ◌∙◌, append_assoc, append-nil, arith}
use Rattle.std.proofs.lemmas.Grind.{common_steps}
use Rattle.httparse.specs.Grammar.{RequestHead, print_request}
use Rattle.httparse.proofs.GrammarLemmas.{ReadsRequest-append}
use Rattle.hub_http.specs.declared.head.Head.{Head}
use Rattle.hub_http.specs.declared.request.Request.{Request}
use Rattle.hub_http.specs.Heads.{length_by}
use Rattle.hub_http.specs.Looking.{IsHeadAt}
use Rattle.hub_http.specs.Offers.{SpellsAll}
use Rattle.hub_http.specs.Stream.{PlainRequest, asked_by, Spells, IsCut}
use Rattle.hub_http.proofs.RequestLemmas.{spelled}

-- a request, with more bytes behind it
pub spells_more : (bytes : List ℕ) (asked : PlainRequest) (rest more : List ℕ) → Spells bytes asked rest
    → Spells (bytes ++ more) asked (rest ++ more)
spells_more bytes asked rest more s =
    let h = s.0 in
    let x = s.1 in
    let r = ReadsRequest-append bytes h (asked.body ++ rest) more x.begins.reads in (
      h,
      record {
        begins = record {
          reads = (r.0, r.1 ∙ ap (λ l. print_request h ++ l) (append_assoc asked.body rest more));
          len = x.begins.len;
          fields = x.begins.fields;
        };
        length = x.length;
        length_is = x.length_is;
        method = x.method;
        target = x.target;
        has_length = x.has_length;
        close = x.close;
        body = x.body;
      },
    )

-- several requests, with more bytes behind them
pub all_more : (all : List PlainRequest) (bytes rest more : List ℕ) → SpellsAll bytes all rest
    → SpellsAll (bytes ++ more) all (rest ++ more)
all_more [] bytes rest more s = ap (λ l. l ++ more) s
all_more (asked ∷ all) bytes rest more s =
    (s.0 ++ more, spells_more bytes asked s.0 more s.1, all_more all s.0 rest more s.2)

-- a head lies within the bytes that it begins
head_within : (bytes : List ℕ) (head : Head) (other : RequestHead) → IsHeadAt bytes head other
    → head.len ≤ length bytes
head_within bytes head other at =
    let n = ap length at.begins.reads.1 in grind (arith, common_steps, at.len, n)

cut_so : (bytes : List ℕ) (head : Head) (other : RequestHead) (o : Option ℕ) → IsHeadAt bytes head other
    → length_by other ≡ Ok o → length bytes < head.len + unwrap_or o 0 → IsCut bytes
cut_so bytes head other None at asks short = absurd (omega (arith, head_within bytes head other at, short))
cut_so bytes head other (Some n) at asks short =
    let part : length (drop head.len bytes) < n = grind
    (arith, common_steps, head_within bytes head other at, short) in
    (other, drop head.len bytes, n, at.begins, asks, part)

-- the body that the head asks for did not come whole
pub is_cut : (bytes : List ℕ) (head : Head) (n : ℕ) (x : (other : RequestHead) × IsHeadAt bytes head other)
    → n ≡ unwrap_or head.length 0 → length bytes < head.len + n → IsCut bytes
is_cut bytes head n x size short =
    cut_so bytes head x.0 head.length x.1 x.1.length (subst (λ m. length bytes < head.len + m) size short)

-- a head and its body came
pub whole : (bytes rest : List ℕ) (head : Head) (request : Request)
    (n : ℕ) (x : (other : RequestHead) × IsHeadAt bytes head other)
    → head.len + n ≤ length bytes → n ≡ unwrap_or head.length 0
    → request.body.items ≡ take n (drop head.len bytes) → rest ≡ drop (head.len + n) bytes
    → request.method ≡ head.method → request.target.items ≡ head.target.items
    → request.has_length ≡ is_some head.length → request.close ≡ head.close
    → Spells bytes (asked_by request) rest
whole bytes rest head request n x room size body left method target has close =
    let s : Spells (bytes ++ []) (asked_by request) (rest ++ []) =
    spelled bytes bytes rest [] head request n x
    ([], sym (append-nil bytes)) room size body left method target has close in
    subst (λ l. Spells bytes (asked_by request) l) (append-nil rest)
    (subst (λ l. Spells l (asked_by request) (rest ++ [])) (append-nil bytes) s)
