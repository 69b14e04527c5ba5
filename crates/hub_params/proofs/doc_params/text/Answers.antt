use Rattle.std.proofs.Common.{◌≡◌, ◌<◌, Some, length, option_map, arith, rules}
use Rattle.std.specs.Option.{option_copied}
use Rattle.hub_params.specs.Encoded.{decoded_text}
use Rattle.hub_params.specs.Room.{HasBytes}
use Rattle.hub_params.proofs.RoomLemmas.{at_any_error, kept_has_bytes}
use Rattle.hub_params.proofs.doc_params.text.Goals as goal

pub returns-in_err-push_str-in-Some-Borrowed-clause-memory :
    goal.returns-in_err-push_str-in-Some-Borrowed-clause-memory
returns-in_err-push_str-in-Some-Borrowed-clause-memory c =
    let written = option_copied c.args.written in
    let text = c.in-Some-Borrowed.borrowed.now in
    let told : Some text ≡ option_map decoded_text written = search rules in
    let grown : 0 < length text =
    omega (arith, c.new-own.ensures.len, c.in_err-push_str-in-Some-Borrowed.ensures.full) in
    at_any_error _ (λ _. HasBytes written) (λ _. kept_has_bytes written text told grown)
