use Rattle.std.proofs.Common.{length, drop, ◌<◌, ◌+◌, refl, inr, arith, is_some}
use Rattle.std.proofs.lemmas.Result.{err_from_is_err_and}
use Rattle.hub_http.specs.declared.request.Request.{Request}
use Rattle.hub_http.proofs.HeadLemmas.{head_has_bytes}
use Rattle.hub_http.proofs.OfferLemmas.{is_cut, whole}
use Rattle.hub_http.proofs.RequestLemmas.{head_fits}
use Rattle.hub_http.proofs.inbox.take_request.Goals as goal

pub overflow_add-wanted : goal.overflow_add-wanted
overflow_add-wanted c =
    omega (
      arith,
      head_fits c.args.pending.now c.args.head c.unwrap_or-body_len.result c.requires
          c.unwrap_or-body_len.ensures,
    )

pub returns-then-len-wanted : goal.returns-then-len-wanted
returns-then-len-wanted c =
    let bytes = c.args.pending.now in
    let short : length bytes < c.args.head.len + c.unwrap_or-body_len.result =
    omega (arith, c.len.ensures, c.if-len-wanted.true) in (
      c.if-is_over.false,
      c.make_room.ensures.0,
      inr (inr (is_cut bytes c.args.head _ c.requires c.unwrap_or-body_len.ensures short)),
    )

pub returns-in_err-make_room : goal.returns-in_err-make_room
returns-in_err-make_room c =
    let p = err_from_is_err_and c.from_residual.result c.from_residual.ensures.1 in
    let bytes = c.args.pending.now in
    rw (p.1, p.2) (
      c.make_room.ensures.0,
      head_has_bytes bytes c.requires.0 (drop c.args.head.len bytes) c.requires.1.begins.reads,
    )

pub returns-in_err-body : goal.returns-in_err-body
returns-in_err-body c =
    let p = err_from_is_err_and c.from_residual-in_err-body.result c.from_residual-in_err-body.ensures.1 in
    let bytes = c.args.pending.now in
    rw (p.1, p.2) (
      search (c.in_err-body.ensures.err),
      head_has_bytes bytes c.requires.0 (drop c.args.head.len bytes) c.requires.1.begins.reads,
    )

pub returns : goal.returns
returns c =
    let bytes = c.args.pending.now in
    let request : Request = record {
      method = c.args.head.method;
      target = c.args.head.target;
      has_length = is_some c.args.head.length;
      close = c.args.head.close;
      body = c.in_ok-body.body;
    } in
    let taken = c.in_ok-body.ensures.ok in
    rw (c.with_body.ensures, c.release.ensures)
    (whole bytes _ c.args.head request c.unwrap_or-body_len.result c.requires
    (omega (arith, c.len.ensures, c.if-len-wanted.false)) c.unwrap_or-body_len.ensures taken.0 taken.1
    refl refl refl refl)
