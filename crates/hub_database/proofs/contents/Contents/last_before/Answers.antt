use Rattle.std.proofs.Common.{arith, sym}
use Rattle.hub_index.proofs.IndexedLemmas.{last_nothing}
use Rattle.hub_database.specs.Indexed.{latest_at}
use Rattle.hub_database.specs.Documents.{files}
use Rattle.hub_database.specs.Inside.{edits_inside}
use Rattle.hub_database.proofs.RowLemmas.{last_low, last_shown}
use Rattle.hub_database.proofs.contents.Contents.last_before.Goals as goal

pub returns-in_err-seq : goal.returns-in_err-seq
returns-in_err-seq c =
    rw (sym c.self.view_is, c.from_residual.ensures)
    (last_nothing (latest_at (files c.self.inside.documents.items))
    (edits_inside c.self.inside) c.self.inside.index c.self.invariant.rows c.args.place
    c.in_err-seq.ensures.last)

pub index-document-requires : goal.index-document-requires
index-document-requires c = omega (
  arith,
  last_low c.self.inside.documents.items
      c.self.inside.journal.items c.self.inside.index c.self.invariant.rows c.args.place
      (c.in_ok-seq.seq, c.in_ok-seq.number) c.in_ok-seq.ensures.last,
  c.self.inside.documents.ok.0,
)

pub returns : goal.returns
returns c =
    rw (sym c.self.view_is, c.as_str.ensures.value)
    (last_shown c.self.inside.documents.items c.self.inside.journal.items
    c.self.inside.index c.self.invariant.rows c.args.place (c.in_ok-seq.seq, c.in_ok-seq.number)
    c.in_ok-seq.ensures.last c.index-document.result.now c.index-document.ensures)
