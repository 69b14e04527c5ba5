use Rattle.std.proofs.Common.{arith, slice_get, sym, ◌∙◌}
use Rattle.std.specs.BTreeMap.{get_by_text}
use Rattle.hub_index.proofs.IndexedLemmas.{next_nothing}
use Rattle.hub_model.specs.Updates.{edits_of_log}
use Rattle.hub_updates.specs.Kept.{ids_of, notes_of}
use Rattle.hub_updates.proofs.RowLemmas.{next_low, next_shown}
use Rattle.hub_updates.proofs.rows.LogSource.next_after.Goals as goal

pub returns-in_err-seq : goal.returns-in_err-seq
returns-in_err-seq c =
    let s = c.self.inside in
    rw (sym c.self.view_is, c.from_residual.ensures)
    (next_nothing (slice_get (ids_of s.pairs.items))
    (edits_of_log (notes_of (ids_of s.pairs.items) s.notes.items)) s.index c.self.invariant.rows c.args.place
    c.args.bound c.in_err-seq.ensures.next)

pub index-pair-requires : goal.index-pair-requires
index-pair-requires c =
    let s = c.self.inside in
    omega (
      arith,
      next_low (get_by_text s.numbers) s.pairs.items s.notes.items s.index c.self.invariant c.args.place
          c.args.bound (c.in_ok-seq.seq, c.in_ok-seq.number) c.in_ok-seq.ensures.next,
      s.pairs.ok.0,
    )

pub returns : goal.returns
returns c =
    let s = c.self.inside in
    rw (sym c.self.view_is, c.as_str.ensures.value)
    (next_shown (get_by_text s.numbers)
    s.pairs.items s.notes.items s.index c.self.invariant c.args.place c.args.bound
    (c.in_ok-seq.seq, c.in_ok-seq.number) c.in_ok-seq.ensures.next c.index-pair.result.now c.index-pair.ensures)
