use Rattle.std.proofs.Common.{◌∙◌, arith, string_bytes, sym}
use Rattle.std.specs.BTreeMap.{get_by_text}
use Rattle.hub_model.specs.Updates.{edits_of_log}
use Rattle.hub_updates.specs.Kept.{ids_of, notes_of}
use Rattle.hub_feed.proofs.CurrentLemmas.{next_ahead, next_apart, next_unknown}
use Rattle.hub_updates.proofs.RowLemmas.{numbered, pair_row, unnumbered}
use Rattle.hub_updates.proofs.rows.LogSource.next_of.Goals as goal

pub returns-in_err-number : goal.returns-in_err-number
returns-in_err-number c =
    let s = c.self.inside in
    rw (sym c.self.view_is, c.from_residual.ensures)
    (next_unknown (edits_of_log (notes_of (ids_of s.pairs.items) s.notes.items))
    c.args.id.now c.args.place c.args.bound
    (unnumbered (get_by_text s.numbers) s.pairs.items s.notes.items s.index c.self.invariant c.args.id.now
    (sym c.number_of.ensures ∙ c.in_err-number.was)))

pub index-pair-requires : goal.index-pair-requires
index-pair-requires c =
    let s = c.self.inside in
    omega (
      arith,
      (numbered (get_by_text s.numbers) s.pairs.items s.notes.items s.index c.self.invariant c.args.id.now
          c.in_ok-number.number (sym c.number_of.ensures ∙ c.in_ok-number.was)).0,
      s.pairs.ok.0,
    )

pub returns-then-is_ahead : goal.returns-then-is_ahead
returns-then-is_ahead c =
    let s = c.self.inside in
    let p = c.index-pair.result.now in
    let n =
    numbered (get_by_text s.numbers) s.pairs.items s.notes.items s.index c.self.invariant c.args.id.now
    c.in_ok-number.number (sym c.number_of.ensures ∙ c.in_ok-number.was) in
    let here =
    pair_row (get_by_text s.numbers) s.pairs.items s.notes.items s.index c.self.invariant c.in_ok-number.number
    p n.0 c.index-pair.ensures in
    rw (sym c.self.view_is, sym (n.1 p c.index-pair.ensures))
    (next_ahead (edits_of_log (notes_of (ids_of s.pairs.items) s.notes.items))
    (string_bytes p.id) p.latest c.args.place c.args.bound here (sym c.if-is_ahead.ensures))

pub returns : goal.returns
returns c =
    let s = c.self.inside in
    let p = c.index-pair.result.now in
    let n =
    numbered (get_by_text s.numbers) s.pairs.items s.notes.items s.index c.self.invariant c.args.id.now
    c.in_ok-number.number (sym c.number_of.ensures ∙ c.in_ok-number.was) in
    let here =
    pair_row (get_by_text s.numbers) s.pairs.items s.notes.items s.index c.self.invariant c.in_ok-number.number
    p n.0 c.index-pair.ensures in
    rw (sym c.self.view_is, sym (n.1 p c.index-pair.ensures))
    (next_apart (edits_of_log (notes_of (ids_of s.pairs.items) s.notes.items))
    (string_bytes p.id) p.latest c.args.place c.args.bound here (sym c.if-is_ahead.ensures))
