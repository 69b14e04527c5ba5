use Rattle.std.proofs.Common.{◌≡◌, true, false, Bool, None, List, ℕ, true≢false, inr, refl, sym, ◌∙◌}
use Rattle.std.proofs.Common.{rules, IsUtf8}
use Rattle.std.proofs.lemmas.Str.{IsUtf8-from_is_utf8, is_utf8-from_IsUtf8}
use Rattle.std.specs.Str.{is_utf8}
use Rattle.serde_json.specs.Read.{read}
use Rattle.hub_document.specs.Read.{json_of}
use Rattle.hub_document.proofs.read.read_value.Goals as goal

pub returns-in-Ok : goal.returns-in-Ok
returns-in-Ok c = record {
  ok = rw (is_utf8-from_IsUtf8 c.args.bytes.now c.in-Ok.ensures.ok.0) c.in-Ok.ensures.ok.1;
  err = tt;
  memory = tt;
}

refused : (text : List ℕ) (b : Bool) → is_utf8 text ≡ b → (IsUtf8 text → read text ≡ None)
    → json_of text ≡ None
refused text true e none = rw e (none (IsUtf8-from_is_utf8 text e))
refused text false e none = rw e refl

pub returns-in-Err-2 : goal.returns-in-Err-2
returns-in-Err-2 c = record {
  ok = tt;
  err = inr (
    refl,
    refused c.args.bytes.now _ refl
        (c.in-Err.ensures.err (λ e.
        let yes : c.is_memory.result ≡ true = c.is_memory.ensures.1 e in
        true≢false (sym yes ∙ c.if-is_memory.false))),
  );
  memory = search rules;
}
