use Rattle.std.proofs.Common.{◌≡◌, ◌++◌, [], ap, ◌∙◌, rules}
use Rattle.json.specs.Print.{print}
use Rattle.json.specs.Tree.{json_tokens}
use Rattle.serde_json.specs.Data.{object}
use Rattle.serde_json.specs.View.{members_view}
use Rattle.serde_json.specs.Written.{outline}
use Rattle.serde_json.proofs.Texts.{print-outline}
use Rattle.hub_document.specs.BodyText.{plain}
use Rattle.hub_document.proofs.BodyLemmas.{body_braced}
use Rattle.hub_document.proofs.body.body_of.Goals as goal

pub returns : goal.returns
returns c =
    let whole = object (plain (members_view c.args.members.now.entries)) in
    let tokens : c.end_object.new.self.tokens ≡ json_tokens (outline whole) = search rules in
    let before : c.end_object.new.self.before ≡ [] = search rules in
    c.shrink_to_fit.ensures.items
    ∙ c.into_inner-text.ensures.items
    ∙ ap (λ bs. bs ++ print c.end_object.new.self.tokens) before
    ∙ ap print tokens
    ∙ print-outline whole

pub invariant_of-result : goal.invariant_of-result
invariant_of-result c = body_braced (members_view c.args.members.now.entries) _ (returns c)
