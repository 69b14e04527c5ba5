use Rattle.hub_document.proofs.AppendLemmas.{appended, refused, front_by}
use Rattle.hub_document.proofs.PartLemmas.{doc_written}
use Rattle.hub_document.proofs.WriteLemmas.{four_parts}
use Rattle.hub_document.proofs.doc.put_doc.Goals as goal

pub returns : goal.returns
returns c =
    appended _ _ _
    (doc_written c.args.out.now.items _ _ c.args.doc.now
    (rw (
      c.in_ok-put_path.ensures.ok,
      c.in_ok-put_deleted.ensures.ok,
      c.in_ok-put_rev.ensures.ok,
      c.in_ok-put_head.ensures.ok,
      c.as_str.ensures.value,
    )
    (four_parts c.args.out.now.items _ _ _ _))
    c.in_ok-put_rest.ensures.ok)

pub returns-in_err-put_head : goal.returns-in_err-put_head
returns-in_err-put_head c =
    refused _ _ _ _ c.from_residual.ensures.0 c.in_err-put_head.ensures.front

pub returns-in_err-put_rev : goal.returns-in_err-put_rev
returns-in_err-put_rev c =
    refused _ _ _ _ c.from_residual-in_err-put_rev.ensures.0 (front_by _ _ _ c.in_ok-put_head.ensures.front c.in_err-put_rev.ensures.front)

pub returns-in_err-put_deleted : goal.returns-in_err-put_deleted
returns-in_err-put_deleted c =
    refused _ _ _ _ c.from_residual-in_err-put_deleted.ensures.0 (front_by _ _ _ (front_by _ _ _ c.in_ok-put_head.ensures.front c.in_ok-put_rev.ensures.front) c.in_err-put_deleted.ensures.front)

pub returns-in_err-put_path : goal.returns-in_err-put_path
returns-in_err-put_path c =
    refused _ _ _ _ c.from_residual-in_err-put_path.ensures.0 (front_by _ _ _ (front_by _ _ _ (front_by _ _ _ c.in_ok-put_head.ensures.front c.in_ok-put_rev.ensures.front) c.in_ok-put_deleted.ensures.front) c.in_err-put_path.ensures.front)

pub returns-in_err-put_rest : goal.returns-in_err-put_rest
returns-in_err-put_rest c =
    refused _ _ _ _ c.from_residual-in_err-put_rest.ensures.0 (front_by _ _ _ (front_by _ _ _ (front_by _ _ _ (front_by _ _ _ c.in_ok-put_head.ensures.front c.in_ok-put_rev.ensures.front) c.in_ok-put_deleted.ensures.front) c.in_ok-put_path.ensures.front) c.in_err-put_rest.ensures.front)
