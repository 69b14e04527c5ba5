use Rattle.std.proofs.Common.{◌≡◌, ◌∙◌, ◌+◌, ◌-◌, ◌++◌, sym, ap, subst, refl, length, map, take, List, arith}
use Rattle.hub_model.specs.Current.{Current}
use Rattle.hub_model.specs.Row.{ChangeRow}
use Rattle.hub_params.specs.FeedModel.{params_of}
use Rattle.hub_database.specs.Falling.{most_of}
use Rattle.hub_database.proofs.FallingLemmas.{all_shown, begins, goes_down, is_current, left}
use Rattle.hub_database.proofs.FallingLemmas.{none_left, passed_by, past_since, row_due, rows_all}
use Rattle.hub_database.proofs.FallingLemmas.{rows_enough, rows_more, show, shown_all, taken_up}
use Rattle.hub_database.proofs.contents.Contents.falling.Goals as goal
use Rattle.hub_revtree.proofs.BranchLemmas.{on_err}

pub loop-seq-init : goal.loop-seq-init
loop-seq-init c =
    let J = c.args.self.now.journal in
    let asked = params_of c.args.params.now in
    subst (λ (rows : List ChangeRow). all_shown J asked c.args.since c.most_of-most.result
    ≡ rows ++ map (show J asked c.args.since)
    (take (c.most_of-most.result - length rows) (left J asked c.args.since (c.length-place.result + 1))))
    (sym c.new-rows.ensures.items)
    (begins J asked c.args.since c.most_of-most.result (c.length-place.result + 1)
    (ap (λ n. n + 1) c.length-place.ensures))

pub returns-in_default-clause-ok : goal.returns-in_default-clause-ok
returns-in_default-clause-ok c =
    let J = c.args.self.now.journal in
    let asked = params_of c.args.params.now in
    rows_all J asked c.args.since c.most_of-most.result c.loop-seq.rows.items c.loop-seq.place
    c.loop-seq.invariant (none_left J asked c.args.since c.loop-seq.place (c.in_default.ensures))
    ∙ (ap (all_shown J asked c.args.since)
    (c.most_of-most.ensures ∙ ap (most_of asked.limit) c.length.ensures)
    ∙ shown_all J asked c.args.since)

pub returns-then-seq-since-clause-ok : goal.returns-then-seq-since-clause-ok
returns-then-seq-since-clause-ok c =
    let J = c.args.self.now.journal in
    let asked = params_of c.args.params.now in
    let row : Current = record { seq = c.in-Some.seq; id = c.in-Some.id.now } in
    rows_all J
    asked c.args.since c.most_of-most.result c.loop-seq.rows.items c.loop-seq.place c.loop-seq.invariant
    (past_since J asked c.args.since c.loop-seq.place row c.in-Some.ensures c.if-seq-since.true)
    ∙ (ap (all_shown J asked c.args.since)
    (c.most_of-most.ensures ∙ ap (most_of asked.limit) c.length.ensures)
    ∙ shown_all J asked c.args.since)

pub loop-seq-smaller-then-not-passes : goal.loop-seq-smaller-then-not-passes
loop-seq-smaller-then-not-passes c =
    goes_down c.args.self.now.journal (params_of c.args.params.now) c.args.since c.loop-seq.place
    (record { seq = c.in-Some.seq; id = c.in-Some.id.now }) c.in-Some.ensures

pub loop-seq-smaller : goal.loop-seq-smaller
loop-seq-smaller c =
    goes_down c.args.self.now.journal (params_of c.args.params.now) c.args.since c.loop-seq.place
    (record { seq = c.in-Some.seq; id = c.in-Some.id.now }) c.in-Some.ensures

pub loop-seq-preserved-then-not-passes : goal.loop-seq-preserved-then-not-passes
loop-seq-preserved-then-not-passes c =
    let J = c.args.self.now.journal in
    let asked = params_of c.args.params.now in
    let row : Current = record { seq = c.in-Some.seq; id = c.in-Some.id.now } in
    c.loop-seq.invariant
    ∙ ap (λ (rows : List Current). c.loop-seq.rows.items
    ++ map (show J asked c.args.since) (take (c.most_of-most.result - length c.loop-seq.rows.items) rows))
    (passed_by J asked c.args.since c.loop-seq.place row c.in-Some.ensures c.if-seq-since.false
    (sym c.if-not-passes.ensures))

pub row-requires : goal.row-requires
row-requires c =
    let J = c.args.self.now.journal in
    let asked = params_of c.args.params.now in
    let row : Current = record { seq = c.in-Some.seq; id = c.in-Some.id.now } in
    (row, is_current J asked c.args.since c.loop-seq.place row c.in-Some.ensures, refl)

pub loop-seq-preserved : goal.loop-seq-preserved
loop-seq-preserved c =
    let J = c.args.self.now.journal in
    let asked = params_of c.args.params.now in
    let row : Current = record { seq = c.in-Some.seq; id = c.in-Some.id.now } in
    rows_more J asked c.args.since
    c.most_of-most.result c.loop-seq.rows.items c.push.new.self.items c.loop-seq.place row c.in_ok-row.field-0
    (omega (arith, c.loop-seq-test.true, c.len.ensures, c.loop-seq.rows.ok.0)) c.loop-seq.invariant
    (taken_up J asked c.args.since c.loop-seq.place row c.in-Some.ensures c.if-seq-since.false
    (sym c.if-not-passes.ensures))
    (c.in_ok-row.ensures row (is_current J asked c.args.since c.loop-seq.place row c.in-Some.ensures) refl)
    c.in_ok-push.ensures.items

pub returns-clause-ok : goal.returns-clause-ok
returns-clause-ok c =
    let J = c.args.self.now.journal in
    let asked = params_of c.args.params.now in
    rows_enough J asked c.args.since c.most_of-most.result c.loop-seq.rows.items c.loop-seq.place
    c.loop-seq.invariant (omega (arith, c.loop-seq-test.false, c.len.ensures, c.loop-seq.rows.ok.0))
    ∙ (ap (all_shown J asked c.args.since)
    (c.most_of-most.ensures ∙ ap (most_of asked.limit) c.length.ensures)
    ∙ shown_all J asked c.args.since)

pub returns-in_err-row-clause-memory : goal.returns-in_err-row-clause-memory
returns-in_err-row-clause-memory c =
    let J = c.args.self.now.journal in
    let asked = params_of c.args.params.now in
    let row : Current = record { seq = c.in-Some.seq; id = c.in-Some.id.now } in
    on_err c.from_residual.result _
    (row_due J asked c.args.since c.most_of-most.result c.loop-seq.rows.items c.loop-seq.place row
    (c.most_of-most.ensures ∙ ap (most_of asked.limit) c.length.ensures)
    (omega (arith, c.loop-seq-test.true, c.len.ensures, c.loop-seq.rows.ok.0)) c.loop-seq.invariant
    (taken_up J asked c.args.since c.loop-seq.place row c.in-Some.ensures c.if-seq-since.false
    (sym c.if-not-passes.ensures)))

pub returns-in_err-push-clause-memory : goal.returns-in_err-push-clause-memory
returns-in_err-push-clause-memory c =
    let J = c.args.self.now.journal in
    let asked = params_of c.args.params.now in
    let row : Current = record { seq = c.in-Some.seq; id = c.in-Some.id.now } in
    on_err c.from_residual-in_err-push.result _
    (row_due J asked c.args.since c.most_of-most.result c.loop-seq.rows.items c.loop-seq.place row
    (c.most_of-most.ensures ∙ ap (most_of asked.limit) c.length.ensures)
    (omega (arith, c.loop-seq-test.true, c.len.ensures, c.loop-seq.rows.ok.0)) c.loop-seq.invariant
    (taken_up J asked c.args.since c.loop-seq.place row c.in-Some.ensures c.if-seq-since.false
    (sym c.if-not-passes.ensures)))
