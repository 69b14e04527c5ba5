use Rattle.std.proofs.Common.{◌≡◌, ◌∙◌, sym, length, ◌≢◌, ◌<◌, arith, rules}
use Rattle.std.proofs.lemmas.Bool.{eqb-false}
use Rattle.std.proofs.lemmas.Grind.{common_steps}
use Rattle.serde_json.specs.View.{view, items_view}
use Rattle.hub_document.specs.Histories.{history_in, limited_history}
use Rattle.hub_document.proofs.PathLemmas.{starting_is}
use Rattle.hub_document.proofs.history.start_of.Goals as goal

pub returns-clause-some : goal.returns-clause-some
returns-clause-some c =
    let ids = c.in_ok-ids.ids.now in
    let full : ids.len ≢ 0 = eqb-false ids.len 0 (sym c.is_empty.ensures ∙ c.if-is_empty.false) in
    let some : length ids.items ≢ 0 = λ e. full (ids.ok.0 ∙ e) in
    let above : 0 < c.in_ok-start.start = grind (arith, common_steps, c.if-start-eq0.false) in
    let below : c.in_ok-start.start < 65536 = grind (arith, common_steps, c.if-start-gt65535.false) in
    let is : limited_history c.in_ok-start.start (items_view ids.items) ≡ history_in (view c.args.history.now) =
    search rules in
    starting_is c.in_ok-start.start ids.items some above below ∙ is
