use Rattle.std.proofs.Common.{◌≡◌, ◌<◌, [], length, inr, refl, arith, rules}
use Rattle.json.specs.Lex.{tokens}
use Rattle.json.specs.Value.{value_view}
use Rattle.serde_json.specs.Read.{of_json}
use Rattle.hub_document.specs.Read.{json_of}
use Rattle.hub_document.proofs.ValueLemmas.{no_text, of_any_err, opened_bytes, some_bytes, whole_value}
use Rattle.hub_document.proofs.value.JsonRoom.read.Goals as goal

pub returns-in_default : goal.returns-in_default
returns-in_default c = record {
  ok = tt;
  err = inr (refl, no_text c.args.bytes.now c.in_default.ensures.cases.0);
  memory = search rules;
}

pub returns-in-Err-OutOfMemory : goal.returns-in-Err-OutOfMemory
returns-in-Err-OutOfMemory c = record {
  ok = tt;
  err = search rules;
  memory = λ full.
      opened_bytes c.args.bytes.now c.in-Ok.text.now c.in-Ok.ensures.cases.0
      (rw c.in-Ok-new.ensures.ok at (c.read.ensures.memory (grind arith)));
}

pub returns : goal.returns
returns c =
    let tree = value_view c.in-Ok-read.tree in
    let none : c.read.new.reader ≡ [] = search rules in
    let whole : json_of c.args.bytes.now ≡ of_json tree =
    whole_value c.args.bytes.now c.in-Ok.text.now tree c.in-Ok.ensures.cases.0 c.in-Ok.ensures.cases.1
    (rw (c.in-Ok-new.ensures.ok, none) at c.in-Ok-read.ensures.ok) in
    let read : 0 < length c.in-Ok-new.reader = omega (arith, c.in-Ok-read.ensures.shorter) in
    let some : 0 < length (tokens c.in-Ok.text.now) = rw c.in-Ok-new.ensures.ok at read in
    record {
      ok = rw whole c.value_of.ensures.ok;
      err = rw whole c.value_of.ensures.err;
      memory = of_any_err c.value_of.result _
          (λ e full. some_bytes c.args.bytes.now c.in-Ok.text.now c.in-Ok.ensures.cases.0 some);
    }
