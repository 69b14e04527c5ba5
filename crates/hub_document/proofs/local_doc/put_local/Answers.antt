use Rattle.hub_document.proofs.AppendLemmas.{appended, refused, front_by}
use Rattle.hub_document.proofs.PartLemmas.{local_parts}
use Rattle.hub_document.proofs.WriteLemmas.{three_parts}
use Rattle.hub_document.proofs.local_doc.put_local.Goals as goal

pub returns : goal.returns
returns c =
    appended _ _ _
    (rw (
      local_parts c.args.id.now c.args.count c.args.body.now,
      c.in_ok-put_rest.ensures.ok,
      c.in_ok-put_count.ensures.ok,
      c.in_ok-put_head.ensures.ok,
    )
    (three_parts c.args.out.now.items _ _ _))

pub returns-in_err-put_head : goal.returns-in_err-put_head
returns-in_err-put_head c =
    refused _ _ _ _ c.from_residual.ensures.0 c.in_err-put_head.ensures.front

pub returns-in_err-put_count : goal.returns-in_err-put_count
returns-in_err-put_count c =
    refused _ _ _ _ c.from_residual-in_err-put_count.ensures.0 (front_by _ _ _ c.in_ok-put_head.ensures.front c.in_err-put_count.ensures.front)

pub returns-in_err-put_rest : goal.returns-in_err-put_rest
returns-in_err-put_rest c =
    refused _ _ _ _ c.from_residual-in_err-put_rest.ensures.0 (front_by _ _ _ (front_by _ _ _ c.in_ok-put_head.ensures.front c.in_ok-put_count.ensures.front) c.in_err-put_rest.ensures.front)
