use Rattle.hub_document.proofs.AppendLemmas.{appended}
use Rattle.hub_document.proofs.PartLemmas.{deleted_is}
use Rattle.hub_document.proofs.text.put_deleted.Goals as goal

pub returns-in_ok-extend_from_slice : goal.returns-in_ok-extend_from_slice
returns-in_ok-extend_from_slice c =
    appended _ _ _
    (rw (c.if-deleted.true, deleted_is) c.in_ok-extend_from_slice.ensures.items)
