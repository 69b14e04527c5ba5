use Rattle.std.proofs.Common.{codes, sym, ◌∙◌}
use Rattle.hub_http.proofs.LengthLemmas.{values_skip, values_take}
use Rattle.std.proofs.lemmas.Result.{err_from_is_err_and}
use Rattle.hub_http.proofs.length.one_value.Goals as goal

pub loop-header-preserved-then-not-same_word : goal.loop-header-preserved-then-not-same_word
loop-header-preserved-then-not-same_word c =
    let named = rw c.of.ensures at c.same_word.ensures in
    let step =
    values_skip (codes "content-length") c.fields.inside.buf.now c.fields.inside.headers.now
    c.loop-header.header-index _ c.loop-header-test.true (sym named ∙ c.if-not-same_word.true) in
    rw step at c.loop-header.invariant

pub returns-in_err-seen : goal.returns-in_err-seen
returns-in_err-seen c =
    let p = err_from_is_err_and c.from_residual.result c.from_residual.ensures.1 in
    let named = rw c.of.ensures at c.same_word.ensures in
    let step =
    values_take (codes "content-length") c.fields.inside.buf.now c.fields.inside.headers.now
    c.loop-header.header-index _ c.loop-header-test.true (sym named ∙ c.if-not-same_word.false) in
    rw (p.1, p.2)
    (rw (← c.fields.view_is)
    (c.in_err-seen.ensures _ _ (rw (← c.of-in-loop-header.ensures) at (rw step at c.loop-header.invariant))))

pub loop-header-preserved : goal.loop-header-preserved
loop-header-preserved c =
    let named = rw c.of.ensures at c.same_word.ensures in
    let step =
    values_take (codes "content-length") c.fields.inside.buf.now c.fields.inside.headers.now
    c.loop-header.header-index _ c.loop-header-test.true (sym named ∙ c.if-not-same_word.false) in
    c.in_ok-seen.ensures _ _ (rw (← c.of-in-loop-header.ensures) at (rw step at c.loop-header.invariant))
