use Rattle.std.proofs.Common.{◌≡◌, Some, arith, sym, ◌∙◌}
use Rattle.hub_database.specs.Inside.{number_by}
use Rattle.hub_database.proofs.StoreLemmas.{number_below}
use Rattle.hub_database.proofs.ShownLemmas.{document_found}
use Rattle.hub_database.proofs.contents.Contents.document.Goals as goal

pub number_of-requires-clause-order : goal.number_of-requires-clause-order
number_of-requires-clause-order c = rw c.as_slice.ensures.value c.self.invariant.documents.order

pub number_of-requires-clause-own : goal.number_of-requires-clause-own
number_of-requires-clause-own c = rw c.as_slice.ensures.value c.self.invariant.documents.filed.own

pub index-document-requires : goal.index-document-requires
index-document-requires c =
    let s = c.self.inside in
    let there : number_by s c.args.id.now ≡ Some c.in_ok-number.number =
    sym (rw c.as_slice.ensures.value at c.number_of.ensures) ∙ c.in_ok-number.was in
    let low =
    number_below s.limits.journal (number_by s) s.documents.items s.journal.items
    c.self.invariant.documents.filed c.args.id.now c.in_ok-number.number there in
    omega (arith, low, s.documents.ok.0)

pub returns-clause-found : goal.returns-clause-found
returns-clause-found c =
    let s = c.self.inside in
    let there : number_by s c.args.id.now ≡ Some c.in_ok-number.number =
    sym (rw c.as_slice.ensures.value at c.number_of.ensures) ∙ c.in_ok-number.was in
    rw (sym c.self.view_is)
    (document_found s.limits.journal (number_by s) s.documents.items s.journal.items
    c.self.invariant.documents.filed c.args.id.now c.in_ok-number.number there c.index-document.result.now
    c.index-document.ensures)
