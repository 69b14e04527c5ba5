use Rattle.std.proofs.Common.{arith, refl, is_some, rules, ◌∙◌}
use Rattle.hub_http.specs.declared.request.Request.{Request}
use Rattle.hub_http.proofs.CountLemmas.{counts_after, counts_for}
use Rattle.hub_http.proofs.RequestLemmas.{told_fault, told_request, told_memory, head_fits}
use Rattle.std.proofs.lemmas.Result.{err_from_is_err_and}
use Rattle.hub_http.proofs.requests.Requests.read_request.Goals as goal

pub overflow_add-head : goal.overflow_add-head
overflow_add-head g c =
    let found = rw c.in-Some.is at c.in_ok-head.ensures.found in
    omega (
      arith,
      head_fits c.find_head.new.self.held c.in-Some.head c.unwrap_or-body_len.result found
          c.unwrap_or-body_len.ensures,
    )

pub returns : goal.returns
returns g c =
    let found = rw c.in-Some.is at c.in_ok-head.ensures.found in
    let request : Request = record {
      method = c.in-Some.head.method;
      target = c.in-Some.head.target;
      has_length = is_some c.in-Some.head.length;
      close = c.in-Some.head.close;
      body = c.in_ok-body.body;
    } in
    record {
      told = rw c.with_body.ensures
          (told_request _ _ _ c.find_head.new.self.held c.fill.new.self.held c.take_body.new.self
          c.in-Some.head request c.unwrap_or-body_len.result
          c.in_ok-head.ensures.kept found c.in_ok-fill.ensures.kept c.in_ok-fill.ensures.grown
          (c.in_ok-fill.ensures.full (search rules)) c.unwrap_or-body_len.ensures
          c.in_ok-body.ensures.ok.0 c.in_ok-body.ensures.ok.1 refl refl refl refl);
      ended = c.in_ok-fill.ensures.ended ∙ c.in_ok-head.ensures.ended;
      counts = counts_after c.in_ok-head.ensures.counts (counts_for (λ e. cc) c.in_ok-fill.ensures.counts);
    }

pub returns-in_err-fill : goal.returns-in_err-fill
returns-in_err-fill g c =
    let p = err_from_is_err_and c.from_residual-in_err-fill.result c.from_residual-in_err-fill.ensures.1 in
    let found = rw c.in-Some.is at c.in_ok-head.ensures.found in
    rw (p.1, p.2)
    (record {
      told = told_memory _ _ _ c.find_head.new.self.held c.fill.new.self.held c.in-Some.head
          c.in_err-fill.field-0.0 c.in_ok-head.ensures.kept found c.in_err-fill.ensures.kept
          c.in_err-fill.ensures.grown c.in_err-fill.ensures.err;
      ended = c.in_err-fill.ensures.ended ∙ c.in_ok-head.ensures.ended;
      counts = counts_after c.in_ok-head.ensures.counts (counts_for (λ e. cc) c.in_err-fill.ensures.counts);
    })

pub returns-in_err-head : goal.returns-in_err-head
returns-in_err-head g c =
    let p = err_from_is_err_and c.from_residual.result c.from_residual.ensures.1 in
    rw (p.1, p.2)
    (record {
      told = told_fault _ _ c.find_head.new.self.held c.in_err-head.field-0.0 c.in_err-head.ensures.kept
          c.in_err-head.ensures.found;
      ended = c.in_err-head.ensures.ended;
      counts = counts_for (λ e. cc) c.in_err-head.ensures.counts;
    })
