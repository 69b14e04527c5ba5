use Rattle.hub_document.proofs.AppendLemmas.{appended, refused, front_of, front_by, front_same}
use Rattle.std.proofs.Common.{append_assoc}
use Rattle.hub_document.proofs.PartLemmas.{head_is}
use Rattle.hub_document.proofs.text.put_head.Goals as goal

pub returns : goal.returns
returns c =
    appended _ _ _
    (rw (head_is c.args.id.now, c.in_ok-put_quoted.ensures.ok, c.in_ok-extend_from_slice.ensures.items)
    (append_assoc c.args.out.now.items _ _))

pub returns-in_err-extend_from_slice : goal.returns-in_err-extend_from_slice
returns-in_err-extend_from_slice c =
    refused _ _ _ _ c.from_residual.ensures.0 (front_same _ _ c.in_err-extend_from_slice.ensures.items)

pub returns-in_err-put_quoted : goal.returns-in_err-put_quoted
returns-in_err-put_quoted c =
    refused _ _ _ _ c.from_residual-in_err-put_quoted.ensures.0 (front_by _ _ _ (front_of _ _ _ c.in_ok-extend_from_slice.ensures.items) c.in_err-put_quoted.ensures.front)
