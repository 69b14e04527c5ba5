use Rattle.std.proofs.Common.{◌≡◌, ◌++◌, codes, string_bytes, sym, subst}
use Rattle.std.proofs.lemmas.Simd.{map-map}
use Rattle.std.specs.Prelude.{IfOk}
use Rattle.json.specs.Print.{quoted}
use Rattle.hub_replies.specs.Bodies.{list_text, names_body}
use Rattle.hub_replies.proofs.names.names_body.Goals as goal

pub returns : goal.returns
unfolding names_body
returns c =
    subst (λ texts. IfOk c.list_body.result (λ t. t.items ≡ list_text texts ++ codes "\n"))
    (sym (map-map quoted string_bytes c.args.names.now)) c.list_body.ensures
