use Rattle.std.proofs.Common.{◌≡◌, ◌++◌, ◌∷◌, [], false}
use Rattle.json.specs.Token.{begin_object}
use Rattle.json.specs.Tree.{members_tokens}
use Rattle.serde_json.specs.View.{members_view}
use Rattle.serde_json.specs.Written.{members_have_float, members_outline}
use Rattle.hub_document.specs.BodyText.{plain}
use Rattle.hub_document.proofs.body.body_of.Given as goal

abbrev pub invariant-loop-key : goal.invariant-loop-key
invariant-loop-key l = record {
  text : begin_object ∷ members_tokens (members_outline (plain (members_view l.members.entries)))
      ≡ l.out.tokens ++ members_tokens (members_outline (plain (members_view l.key-iterator)));
  whole : members_have_float (members_view l.key-iterator) ≡ false;
  before : l.out.before ≡ [];
}
