use Rattle.std.proofs.Common.{◌∙◌, sym}
use Rattle.hub_index.specs.Pages.{rows_of}
use Rattle.hub_index.proofs.IndexLemmas.{within, beyond, nothing}
use Rattle.hub_index.proofs.page_index.PageIndexSeqIndex.next_after.Goals as goal

pub returns-in_err-seq-clause-next : goal.returns-in_err-seq-clause-next
returns-in_err-seq-clause-next c =
    let none = rw c.as_slice.ensures.value at c.in_err-seq.ensures in
    rw (← c.self.view_is)
    (c.from_residual.ensures
    ∙ sym (nothing (rows_of c.self.inside.pages.items) c.args.place c.args.bound (sym none)))

pub returns-in-Some-clause-next : goal.returns-in-Some-clause-next
returns-in-Some-clause-next c =
    let found = rw c.as_slice.ensures.value at c.in_ok-seq.ensures in
    rw (← c.self.view_is, c.in-Some.is)
    (sym (beyond c.args.place c.in-Some.bound (rows_of c.self.inside.pages.items)
    (c.in_ok-seq.seq, c.in_ok-seq.document) c.self.invariant.index.rising (sym found) c.if-bound-seq.true))

pub returns-in_default-clause-next : goal.returns-in_default-clause-next
returns-in_default-clause-next c =
    let found = rw c.as_slice.ensures.value at c.in_ok-seq.ensures in
    rw (← c.self.view_is, c.in-Some.is)
    (sym (within c.args.place c.in-Some.bound (rows_of c.self.inside.pages.items)
    (c.in_ok-seq.seq, c.in_ok-seq.document) (sym found) c.if-bound-seq.false))
