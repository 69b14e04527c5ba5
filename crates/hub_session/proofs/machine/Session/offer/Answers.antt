use Rattle.std.proofs.Common.{◌∙◌, rules, sym}
use Rattle.std.proofs.lemmas.Bool.{eqb-true}
use Rattle.std.proofs.lemmas.List.{nil_from_length}
use Rattle.hub_http.specs.Boxes.{arrived_bytes, is_over}
use Rattle.hub_session.specs.Runs.{session_view}
use Rattle.hub_session.proofs.RunLemmas.{came_as, ended_as, on_ok, over_as, run_behind}
use Rattle.hub_session.proofs.machine.Session.offer.Goals as goal

pub returns-then-is_over-clause-ok : goal.returns-then-is_over-clause-ok
returns-then-is_over-clause-ok g c =
    over_as _ c.args.bytes.now (session_view c.args.self.now) (sym c.is_over.ensures ∙ c.if-is_over.true)

pub returns-then-is_over-clause-run : goal.returns-then-is_over-clause-run
returns-then-is_over-clause-run g c = λ run d.
    let x = session_view c.args.self.now in
    run_behind g.S.Service.rules run c.args.bytes.now x x
    (over_as _ c.args.bytes.now x (sym c.is_over.ensures ∙ c.if-is_over.true)) d

pub returns-then-is_empty-clause-ok : goal.returns-then-is_empty-clause-ok
returns-then-is_empty-clause-ok g c =
    let x = session_view c.args.self.now in
    ended_as _ c.args.bytes.now x _ (sym c.is_over.ensures ∙ c.if-is_over.false)
    (nil_from_length c.args.bytes.now (eqb-true _ 0 (sym c.is_empty.ensures ∙ c.if-is_empty.true)))
    (search rules)

pub returns-then-is_empty-clause-run : goal.returns-then-is_empty-clause-run
returns-then-is_empty-clause-run g c = λ run d.
    let x = session_view c.args.self.now in
    run_behind g.S.Service.rules run c.args.bytes.now x _
    (ended_as _ c.args.bytes.now x _ (sym c.is_over.ensures ∙ c.if-is_over.false)
    (nil_from_length c.args.bytes.now (eqb-true _ 0 (sym c.is_empty.ensures ∙ c.if-is_empty.true)))
    (search rules)) d

pub returns-clause-ok : goal.returns-clause-ok
returns-clause-ok g c =
    on_ok c.offer.result _ _
    (came_as (session_view c.args.self.now) (arrived_bytes c.offer.new.self) (is_over c.offer.new.self) c.args.bytes.now
    (sym c.is_over.ensures ∙ c.if-is_over.false) (search rules) c.offer.ensures.open)
    c.offer.ensures.ok

pub returns-clause-run : goal.returns-clause-run
returns-clause-run g c =
    let x = session_view c.args.self.now in
    on_ok c.offer.result _ _
    (λ e run d. run_behind g.S.Service.rules run c.args.bytes.now x _
    (came_as x (arrived_bytes c.offer.new.self) (is_over c.offer.new.self) c.args.bytes.now
    (sym c.is_over.ensures ∙ c.if-is_over.false) (search rules) c.offer.ensures.open e) d)
    c.offer.ensures.ok
