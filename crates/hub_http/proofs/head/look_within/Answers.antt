use Rattle.std.proofs.Common.{ap, arith, length, rules, sym, ◌∙◌, ◌≤◌}
use Rattle.std.proofs.lemmas.Result.{err_from_is_err_and}
use Rattle.std.specs.List.{list_any}
use Rattle.hub_http.specs.Heads.{asks_close}
use Rattle.hub_http.proofs.HeadLemmas.{asked_faults, asked_is, begins, begins_faulty, faults_within}
use Rattle.hub_http.proofs.HeadLemmas.{look_faults, too_long}
use Rattle.hub_http.proofs.head.look_within.Goals as goal

pub returns-then-spans-gt-HEAD_LIMIT : goal.returns-then-spans-gt-HEAD_LIMIT
returns-then-spans-gt-HEAD_LIMIT c =
    let x = rw c.in-Ok-Complete.field-0-is at c.in-Ok-Complete.ensures.complete in
    λ _. too_long c.args.buf.now c.parse_request.new.headers c.in-Ok-Complete.spans x
    c.if-spans-gt-HEAD_LIMIT.true

pub returns-in_err-length-in-Ok-Complete : goal.returns-in_err-length-in-Ok-Complete
returns-in_err-length-in-Ok-Complete c =
    let p = err_from_is_err_and c.from_residual.result c.from_residual.ensures.1 in
    let fault = c.in_err-length-in-Ok-Complete.field-0.0 in
    let x = rw c.in-Ok-Complete.field-0-is at c.in-Ok-Complete.ensures.complete in
    let asks = sym (rw c.of-target.ensures at c.in_err-length-in-Ok-Complete.ensures) in
    let few : length c.parse_request.new.headers ≤ 64 = omega
    (arith, c.parse_request.auto.headers, c.requires) in
    let short : c.in-Ok-Complete.spans.len ≤ 16384 = omega arith in
    rw (p.1, p.2)
    (faults_within _ c.args.buf.now fault
    (look_faults c.args.buf.now fault (asked_faults _ _ _ _ asks)
    (begins_faulty c.args.buf.now c.parse_request.new.headers c.in-Ok-Complete.spans fault x few short asks)))

pub returns-in_ok-from_slice-in-Ok-Complete : goal.returns-in_ok-from_slice-in-Ok-Complete
returns-in_ok-from_slice-in-Ok-Complete c =
    let x = rw c.in-Ok-Complete.field-0-is at c.in-Ok-Complete.ensures.complete in
    let asks = rw c.of-target.ensures at c.in_ok-length-in-Ok-Complete.ensures in
    let few : length c.parse_request.new.headers ≤ 64 = omega
    (arith, c.parse_request.auto.headers, c.requires) in
    let short : c.in-Ok-Complete.spans.len ≤ 16384 = omega arith in (
      x.0,
      record {
        begins = begins c.args.buf.now c.parse_request.new.headers c.in-Ok-Complete.spans x few short;
        len = search rules;
        method = c.in_ok-new-in-Ok-Complete.ensures ∙ c.of.ensures ∙ x.1.method;
        target = c.in_ok-from_slice-in-Ok-Complete.ensures.items ∙ c.of-target.ensures ∙ x.1.path;
        length = sym (asked_is c.args.buf.now c.parse_request.new.headers c.in-Ok-Complete.spans x) ∙ sym asks;
        close = c.has_close.ensures ∙ ap (list_any asks_close) x.1.fields;
      },
    )
