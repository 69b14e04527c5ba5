use Rattle.std.proofs.Common.{arith, sym}
use Rattle.hub_index.proofs.IndexedLemmas.{next_nothing}
use Rattle.hub_database.specs.Indexed.{latest_at}
use Rattle.hub_database.specs.Documents.{files}
use Rattle.hub_database.specs.Inside.{edits_inside}
use Rattle.hub_database.proofs.RowLemmas.{next_low, next_shown}
use Rattle.hub_database.proofs.rows.ContentsSource.next_after.Goals as goal

pub returns-in_err-seq : goal.returns-in_err-seq
returns-in_err-seq c =
    rw (sym c.self.view_is, c.from_residual.ensures)
    (next_nothing (latest_at (files c.self.inside.documents.items))
    (edits_inside c.self.inside) c.self.inside.index c.self.invariant.rows c.args.place
    c.args.bound c.in_err-seq.ensures.next)

pub index-document-requires : goal.index-document-requires
index-document-requires c = omega (
  arith,
  next_low c.self.inside.documents.items c.self.inside.journal.items
      c.self.inside.index c.self.invariant.rows c.args.place c.args.bound
      (c.in_ok-seq.seq, c.in_ok-seq.number) c.in_ok-seq.ensures.next,
  c.self.inside.documents.ok.0,
)

pub returns : goal.returns
returns c =
    rw (sym c.self.view_is, c.as_str.ensures.value)
    (next_shown c.self.inside.documents.items c.self.inside.journal.items
    c.self.inside.index c.self.invariant.rows c.args.place c.args.bound
    (c.in_ok-seq.seq, c.in_ok-seq.number) c.in_ok-seq.ensures.next c.index-document.result.now
    c.index-document.ensures)
