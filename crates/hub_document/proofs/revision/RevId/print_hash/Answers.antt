use Rattle.hub_document.proofs.AppendLemmas.{appended, refused, front_of, front_by, front_same}
use Rattle.hub_document.proofs.WriteLemmas.{quoted_hash, three_parts}
use Rattle.hub_document.proofs.revision.RevId.print_hash.Goals as goal

pub returns : goal.returns
returns c =
    appended _ _ _
    (rw (
      ← c.self.view_is,
      quoted_hash _ c.self.invariant.good,
      c.in_ok-push-2.ensures.items,
      c.in_ok-extend_from_slice.ensures.items,
      c.in_ok-push.ensures.items,
    )
    (three_parts c.args.out.now.items _ _ _))

pub returns-in_err-push : goal.returns-in_err-push
returns-in_err-push c =
    refused _ _ _ _ c.from_residual.ensures.0 (front_same _ _ c.in_err-push.ensures.items)

pub returns-in_err-extend_from_slice : goal.returns-in_err-extend_from_slice
returns-in_err-extend_from_slice c =
    refused _ _ _ _ c.from_residual-in_err-extend_from_slice.ensures.0 (front_by _ _ _ (front_of _ _ _ c.in_ok-push.ensures.items) (front_same _ _ c.in_err-extend_from_slice.ensures.items))

pub returns-in_err-push-2 : goal.returns-in_err-push-2
returns-in_err-push-2 c =
    refused _ _ _ _ c.from_residual-in_err-push-2.ensures.0 (front_by _ _ _ (front_by _ _ _ (front_of _ _ _ c.in_ok-push.ensures.items) (front_of _ _ _ c.in_ok-extend_from_slice.ensures.items)) (front_same _ _ c.in_err-push-2.ensures.items))
