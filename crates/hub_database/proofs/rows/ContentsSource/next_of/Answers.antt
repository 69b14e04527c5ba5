use Rattle.std.proofs.Common.{◌∙◌, arith, sym}
use Rattle.hub_feed.proofs.CurrentLemmas.{next_ahead, next_apart, next_unedited}
use Rattle.hub_database.specs.Inside.{edits_inside, number_by}
use Rattle.hub_database.proofs.RowLemmas.{document_row, numbered}
use Rattle.hub_database.proofs.rows.ContentsSource.next_of.Goals as goal

pub number_of-requires-clause-order : goal.number_of-requires-clause-order
number_of-requires-clause-order c = rw c.as_slice.ensures.value c.self.invariant.documents.order

pub number_of-requires-clause-own : goal.number_of-requires-clause-own
number_of-requires-clause-own c = rw c.as_slice.ensures.value c.self.invariant.documents.filed.own

pub returns-in_err-number : goal.returns-in_err-number
returns-in_err-number c =
    let s = c.self.inside in
    rw (sym c.self.view_is, c.from_residual.ensures)
    (next_unedited (edits_inside s) c.args.id.now c.args.place c.args.bound
    (c.self.invariant.documents.filed.others c.args.id.now
    (sym (rw c.as_slice.ensures.value at c.number_of.ensures) ∙ c.in_err-number.was)))

pub index-document-requires : goal.index-document-requires
index-document-requires c =
    let s = c.self.inside in
    omega (
      arith,
      (numbered s.limits.journal (number_by s) s.documents.items s.journal.items
          c.self.invariant.documents.filed
          c.args.id.now c.in_ok-number.number (sym (rw c.as_slice.ensures.value at c.number_of.ensures) ∙ c.in_ok-number.was)).0,
      s.documents.ok.0,
    )

pub returns-then-is_ahead : goal.returns-then-is_ahead
returns-then-is_ahead c =
    let s = c.self.inside in
    let d = c.index-document.result.now in
    let n =
    numbered s.limits.journal (number_by s) s.documents.items s.journal.items c.self.invariant.documents.filed
    c.args.id.now c.in_ok-number.number (sym (rw c.as_slice.ensures.value at c.number_of.ensures) ∙ c.in_ok-number.was) in
    let here =
    document_row s.documents.items s.journal.items s.index c.self.invariant.rows c.in_ok-number.number d n.0
    c.index-document.ensures in
    rw (sym c.self.view_is, sym (n.1 d c.index-document.ensures))
    (next_ahead (edits_inside s) d.id d.latest c.args.place c.args.bound here (sym c.if-is_ahead.ensures))

pub returns : goal.returns
returns c =
    let s = c.self.inside in
    let d = c.index-document.result.now in
    let n =
    numbered s.limits.journal (number_by s) s.documents.items s.journal.items c.self.invariant.documents.filed
    c.args.id.now c.in_ok-number.number (sym (rw c.as_slice.ensures.value at c.number_of.ensures) ∙ c.in_ok-number.was) in
    let here =
    document_row s.documents.items s.journal.items s.index c.self.invariant.rows c.in_ok-number.number d n.0
    c.index-document.ensures in
    rw (sym c.self.view_is, sym (n.1 d c.index-document.ensures))
    (next_apart (edits_inside s) d.id d.latest c.args.place c.args.bound here (sym c.if-is_ahead.ensures))
