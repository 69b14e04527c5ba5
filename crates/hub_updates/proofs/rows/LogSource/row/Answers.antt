use Rattle.std.proofs.Common.{◌≡◌, ◌-◌, arith, ap, length, subst, sym, ◌∙◌, Contains, string_bytes}
use Rattle.std.specs.BTreeMap.{get_by_text}
use Rattle.std.proofs.lemmas.List.{length-map}
use Rattle.hub_index.proofs.IndexedLemmas.{row_lies}
use Rattle.hub_model.specs.Current.{Current, current}
use Rattle.hub_model.specs.Updates.{edit_of, edits_of_log, note_of, update_row_of}
use Rattle.hub_updates.specs.Kept.{ids_of, note_at}
use Rattle.hub_updates.specs.Log.{LogContents}
use Rattle.hub_updates.proofs.RowLemmas.{entry_low, entry_read, entry_row}
use Rattle.hub_updates.proofs.rows.LogSource.row.Goals as goal

pub overflow_sub-seq : goal.overflow_sub-seq
overflow_sub-seq c = (row_lies (edits_of_log c.args.self.now.notes) c.args.seq c.requires).0

pub index-number-requires : goal.index-number-requires
index-number-requires c =
    let s = c.self.inside in
    let noted = row_lies (edits_of_log c.args.self.now.notes) c.args.seq c.requires in
    let many : length (edits_of_log c.args.self.now.notes) ≡ length s.notes.items =
    length-map c.args.self.now.notes edit_of
    ∙ (sym (ap (λ (noted : LogContents). length noted.notes) c.self.view_is)
    ∙ length-map s.notes.items (note_at (ids_of s.pairs.items))) in
    omega (arith, noted.0, noted.1, many, s.notes.ok.0)

pub index-pair-requires : goal.index-pair-requires
index-pair-requires c =
    let s = c.self.inside in
    let noted = row_lies (edits_of_log c.args.self.now.notes) c.args.seq c.requires in
    let many : length (edits_of_log c.args.self.now.notes) ≡ length s.notes.items =
    length-map c.args.self.now.notes edit_of
    ∙ (sym (ap (λ (noted : LogContents). length noted.notes) c.self.view_is)
    ∙ length-map s.notes.items (note_at (ids_of s.pairs.items))) in
    omega (
      arith,
      entry_low (get_by_text s.numbers) s.pairs.items s.notes.items s.index c.self.invariant
          (c.args.seq - 1) c.index-number.result.now
          (omega (arith, noted.0, noted.1, many)) c.index-number.ensures,
      s.pairs.ok.0,
    )

pub read_id-kind-requires : goal.read_id-kind-requires
read_id-kind-requires c =
    let s = c.self.inside in
    let noted = row_lies (edits_of_log c.args.self.now.notes) c.args.seq c.requires in
    let many : length (edits_of_log c.args.self.now.notes) ≡ length s.notes.items =
    length-map c.args.self.now.notes edit_of
    ∙ (sym (ap (λ (noted : LogContents). length noted.notes) c.self.view_is)
    ∙ length-map s.notes.items (note_at (ids_of s.pairs.items))) in
    rw c.as_str.ensures.value
    (entry_read (get_by_text s.numbers) s.pairs.items s.notes.items s.index c.self.invariant
    (c.args.seq - 1) c.index-number.result.now
    (omega (arith, noted.0, noted.1, many)) c.index-number.ensures c.index-pair.result.now
    c.index-pair.ensures)

pub returns : goal.returns
returns c =
    let s = c.self.inside in
    let noted = row_lies (edits_of_log c.args.self.now.notes) c.args.seq c.requires in
    let many : length (edits_of_log c.args.self.now.notes) ≡ length s.notes.items =
    length-map c.args.self.now.notes edit_of
    ∙ (sym (ap (λ (noted : LogContents). length noted.notes) c.self.view_is)
    ∙ length-map s.notes.items (note_at (ids_of s.pairs.items))) in
    let id = c.index-pair.result.now.id in
    let kinds : c.read_id-kind.result.0 ≡ (note_of (string_bytes id)).kind =
    c.read_id-kind.ensures.kind ∙ ap (λ i. (note_of i).kind) c.as_str.ensures.value in
    let names : string_bytes c.in_ok-db_name.db_name ≡ (note_of (string_bytes id)).name =
    c.in_ok-db_name.ensures.ok
    ∙ (c.read_id-kind.ensures.name ∙ ap (λ i. (note_of i).name) c.as_str.ensures.value) in
    subst (λ (noted : LogContents). (row : Current) → Contains (current (edits_of_log noted.notes)) row
    → row.seq ≡ c.args.seq → record {
      db_name = string_bytes c.in_ok-db_name.db_name;
      kind = c.read_id-kind.result.0;
      seq = c.args.seq;
      seen = c.len.result;
    }
    ≡ update_row_of (edits_of_log noted.notes) c.args._style c.args._include_docs row) c.self.view_is
    (entry_row (get_by_text s.numbers) s.pairs.items s.notes.items s.index c.self.invariant
    (c.args.seq - 1) c.index-number.result.now (omega (arith, noted.0, noted.1, many))
    c.index-number.ensures c.index-pair.result.now c.index-pair.ensures c.read_id-kind.result.0
    (string_bytes c.in_ok-db_name.db_name) c.args.seq c.len.result c.args._style c.args._include_docs
    kinds names (omega (arith, noted.0)) (omega (arith, c.len.ensures, s.notes.ok.0)))
