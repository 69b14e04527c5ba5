use Rattle.std.proofs.Common.{◌≡◌, ◌∙◌, Some, ap, arith, refl, rules, subst, sym, List, ℕ}
use Rattle.std.specs.Prelude.{option_map}
use Rattle.hub_model.specs.Journal.{Edit}
use Rattle.hub_document.specs.declared.limits.Limits.{Limits}
use Rattle.hub_database.specs.Database.{Contents, Local}
use Rattle.hub_database.specs.Documents.{filed_document, files}
use Rattle.hub_database.specs.Indexed.{latest_of}
use Rattle.hub_database.specs.Inside.{number_by}
use Rattle.hub_database.specs.Kept.{locals_of}
use Rattle.hub_database.specs.Looked.{NeedsRoomFor}
use Rattle.hub_database.proofs.IndexedLemmas.{rows_below}
use Rattle.hub_database.proofs.StoreLemmas.{document_there, extended, extended_whole, few_edits}
use Rattle.hub_database.proofs.StoreLemmas.{filed_at, mark_counted, needs_at}
use Rattle.hub_database.proofs.StoreLemmas.{number_below, unchanged, unchanged_whole}
use Rattle.hub_database.proofs.contents.Contents.store.Goals as goal
use Rattle.hub_revtree.proofs.BranchLemmas.{on_err}

-- contents with these edits
abbrev with_edits : ℕ → Limits → List Local → List Edit → Contents
with_edits life limits locals edits =
    record { journal = edits; locals = locals; limits = limits; life = life }

pub number_of-requires-clause-order : goal.number_of-requires-clause-order
number_of-requires-clause-order c = rw c.as_slice.ensures.value c.self.invariant.documents.order

pub number_of-requires-clause-own : goal.number_of-requires-clause-own
number_of-requires-clause-own c = rw c.as_slice.ensures.value c.self.invariant.documents.filed.own

pub index_mut-document-requires : goal.index_mut-document-requires
index_mut-document-requires c =
    let s = c.self.inside in
    let k = c.in-Some.number in
    let there : number_by s c.args.id ≡ Some k =
    sym (rw (c.as_slice.ensures.value, c.as_str.ensures.value) at c.in-Some.ensures) in
    let low =
    number_below s.limits.journal (number_by s) s.documents.items s.journal.items
    c.self.invariant.documents.filed c.args.id k there in
    omega (arith, low, s.documents.ok.0)

pub extend-requires-clause-few : goal.extend-requires-clause-few
extend-requires-clause-few c =
    let s = c.self.inside in
    let k = c.in-Some.number in
    let d = c.index_mut-document.result.now in
    let there : number_by s c.args.id ≡ Some k =
    sym (rw (c.as_slice.ensures.value, c.as_str.ensures.value) at c.in-Some.ensures) in
    let at =
    document_there s c.self.invariant.documents c.args.id k there d c.index_mut-document.ensures.value in
    few_edits s.limits.journal (number_by s) s.documents.items s.journal.items
    c.self.invariant.documents.filed k d at

pub extend-requires-clause-row : goal.extend-requires-clause-row
extend-requires-clause-row c =
    let s = c.self.inside in
    let k = c.in-Some.number in
    let d = c.index_mut-document.result.now in
    let there : number_by s c.args.id ≡ Some k =
    sym (rw (c.as_slice.ensures.value, c.as_str.ensures.value) at c.in-Some.ensures) in
    let at =
    document_there s c.self.invariant.documents c.args.id k there d c.index_mut-document.ensures.value in
    let now =
    filed_at s.limits.journal (number_by s) s.documents.items s.journal.items
    c.self.invariant.documents.filed k d at in
    record {
      own = c.self.invariant.rows.key k (latest_of (filed_document d)) (ap (option_map latest_of) now);
      above = rows_below (files s.documents.items) s.journal.items s.index c.self.invariant.rows;
    }

pub recounted-self-inside-requires-clause-some : goal.recounted-self-inside-requires-clause-some
recounted-self-inside-requires-clause-some c =
    let s = c.self.inside in
    let k = c.in-Some.number in
    let d = c.index_mut-document.result.now in
    let there : number_by s c.args.id ≡ Some k =
    sym (rw (c.as_slice.ensures.value, c.as_str.ensures.value) at c.in-Some.ensures) in
    let at =
    document_there s c.self.invariant.documents c.args.id k there d c.index_mut-document.ensures.value in
    rw c.is_deleted-was.ensures.mark
    (mark_counted s.limits.journal (number_by s) s.documents.items s.journal.items
    c.self.invariant.documents.filed k d at c.is_deleted-was.ensures.tree s.deleted c.self.invariant.counted)

pub invariant_of-self : goal.invariant_of-self
invariant_of-self c =
    let s = c.self.inside in
    let k = c.in-Some.number in
    let there : number_by s c.args.id ≡ Some k =
    sym (rw (c.as_slice.ensures.value, c.as_str.ensures.value) at c.in-Some.ensures) in
    let e = c.in_err-outcome-in-Some.ensures.err in
    (unchanged_whole s _ c.self.invariant c.args.id k there c.index_mut-document.result.now c.extend.new.self
    c.index_mut-document.ensures.value e.0 refl refl e.1 e.2 refl refl).0

pub returns-in_err-outcome-in-Some : goal.returns-in_err-outcome-in-Some
returns-in_err-outcome-in-Some c =
    let s = c.self.inside in
    let k = c.in-Some.number in
    let d = c.index_mut-document.result.now in
    let there : number_by s c.args.id ≡ Some k =
    sym (rw (c.as_slice.ensures.value, c.as_str.ensures.value) at c.in-Some.ensures) in
    let at =
    document_there s c.self.invariant.documents c.args.id k there d c.index_mut-document.ensures.value in
    let e = c.in_err-outcome-in-Some.ensures.err in
    record {
      ok = search rules;
      rest = search rules;
      err =
          on_err c.from_residual.result _
          (ap (with_edits s.life s.limits (locals_of s.locals))
          (unchanged s.limits.journal (number_by s) s.documents.items s.journal.items
          c.self.invariant.documents.filed k d at s.index c.extend.new.index c.self.invariant.rows
          c.extend.new.self c.extend.new.journal.items e.0 e.1 e.2).1
          ∙ c.self.view_is);
      memory =
          on_err c.from_residual.result _
          (subst (λ (contents : Contents). NeedsRoomFor contents.journal c.args.id c.args.edit) c.self.view_is
          (needs_at s.limits.journal (number_by s) s.documents.items s.journal.items
          c.self.invariant.documents.filed k d at c.args.id there c.is_deleted-was.ensures.tree c.args.edit
          c.in_err-outcome-in-Some.ensures.memory));
    }

pub invariant_of-self-in-Some-1 : goal.invariant_of-self-in-Some-1
invariant_of-self-in-Some-1 c =
    let s = c.self.inside in
    let k = c.in-Some.number in
    let there : number_by s c.args.id ≡ Some k =
    sym (rw (c.as_slice.ensures.value, c.as_str.ensures.value) at c.in-Some.ensures) in
    let count = rw (c.is_deleted-was.ensures.mark, c.is_deleted.ensures.mark) at
    c.recounted-self-inside.ensures in
    (extended_whole s _ c.self.invariant c.args.id k there c.index_mut-document.result.now c.extend.new.self
    c.index_mut-document.ensures.value c.is_deleted-was.ensures.tree c.is_deleted.ensures.tree c.args.edit
    c.in_ok-outcome-in-Some.outcome c.in_ok-outcome-in-Some.ensures.written refl refl count refl).0

pub returns-in_ok-outcome-in-Some : goal.returns-in_ok-outcome-in-Some
returns-in_ok-outcome-in-Some c =
    let s = c.self.inside in
    let k = c.in-Some.number in
    let d = c.index_mut-document.result.now in
    let there : number_by s c.args.id ≡ Some k =
    sym (rw (c.as_slice.ensures.value, c.as_str.ensures.value) at c.in-Some.ensures) in
    let at =
    document_there s c.self.invariant.documents c.args.id k there d c.index_mut-document.ensures.value in
    let count =
    rw (c.is_deleted-was.ensures.mark, c.is_deleted.ensures.mark) at c.recounted-self-inside.ensures in
    record {
      ok =
          rw (sym c.self.view_is)
          (extended s.limits.journal (number_by s) s.documents.items s.journal.items
          c.self.invariant.documents.filed k d at s.index c.extend.new.index c.self.invariant.rows c.args.id
          there c.is_deleted-was.ensures.tree c.args.edit c.extend.new.self c.extend.new.journal.items
          c.in_ok-outcome-in-Some.outcome c.in_ok-outcome-in-Some.ensures.written c.is_deleted.ensures.tree
          s.deleted c.recounted-self-inside.result c.self.invariant.counted count).1;
      rest = search rules;
      err = search rules;
      memory = search rules;
    }

pub insert-requires : goal.insert-requires
insert-requires c = record {
  new =
      rw (sym c.self.view_is)
      (c.self.invariant.documents.filed.others c.args.id
      (sym (rw (c.as_slice.ensures.value, c.as_str.ensures.value) at c.in-None.ensures)));
}
