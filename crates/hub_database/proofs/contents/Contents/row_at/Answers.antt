use Rattle.std.proofs.Common.{◌≡◌, ◌∙◌, ◌-◌, length, arith, sym, subst, ap, Contains}
use Rattle.std.specs.Prelude.{IfOk}
use Rattle.std.proofs.lemmas.List.{length-map}
use Rattle.hub_index.proofs.IndexedLemmas.{row_lies}
use Rattle.hub_model.specs.Current.{Current, current}
use Rattle.hub_model.specs.Row.{row_of}
use Rattle.hub_database.specs.Database.{Contents}
use Rattle.hub_database.specs.Filed.{edit_at}
use Rattle.hub_database.specs.Documents.{files}
use Rattle.hub_database.specs.Inside.{edits_inside, number_by}
use Rattle.hub_database.proofs.RowLemmas.{entry_low, row_answer}
use Rattle.hub_database.proofs.contents.Contents.row_at.Goals as goal

pub overflow_sub-seq : goal.overflow_sub-seq
overflow_sub-seq c = (row_lies c.args.self.now.journal c.args.seq c.requires).0

pub index-entry-requires : goal.index-entry-requires
index-entry-requires c =
    let s = c.self.inside in
    let l = row_lies (edits_inside s) c.args.seq (rw (sym c.self.view_is) at c.requires) in
    omega (arith, l.0, l.1, length-map s.journal.items (edit_at (files s.documents.items)), s.journal.ok.0)

pub index-document-requires : goal.index-document-requires
index-document-requires c =
    let s = c.self.inside in
    let l = row_lies (edits_inside s) c.args.seq (rw (sym c.self.view_is) at c.requires) in
    omega (
      arith,
      entry_low s.limits.journal (number_by s) s.documents.items s.journal.items
          c.self.invariant.documents.filed
          (c.args.seq - 1) c.index-entry.result.now
          (omega (arith, l.0, l.1, length-map s.journal.items (edit_at (files s.documents.items))))
          c.index-entry.ensures,
      s.documents.ok.0,
    )

pub returns : goal.returns
returns c =
    let s = c.self.inside in
    let l = row_lies (edits_inside s) c.args.seq (rw (sym c.self.view_is) at c.requires) in
    subst (λ (contents : Contents).
    IfOk c.row.result (λ r. (row : Current) → Contains (current contents.journal) row
    → row.seq ≡ c.args.seq → r ≡ row_of contents.journal c.args.style c.args.include_docs row)) c.self.view_is
    (row_answer s.limits.journal (number_by s) s.documents.items s.journal.items
    c.self.invariant.documents.filed
    c.row.result c.args.seq c.length.result (c.args.seq - 1) c.index-entry.result.now (omega (arith, l.0))
    (omega (arith, l.0, l.1, length-map s.journal.items (edit_at (files s.documents.items))))
    c.index-entry.ensures c.index-document.result.now c.index-document.ensures
    c.args.style c.args.include_docs c.row.ensures.row c.row.ensures.tree
    (c.length.ensures ∙ sym (ap (λ (contents : Contents). length contents.journal) c.self.view_is)))
