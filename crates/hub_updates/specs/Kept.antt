-- The notes of a log as the log keeps them (own).
use Rattle.std.specs.Prelude.{◌≡◌, ℕ, ◌<◌, ◌≤◌, List, length, map, slice_get, slice_set, string_bytes, Option}
use Rattle.std.specs.Prelude.{Some}
use Rattle.std.specs.List.{All}
use Rattle.hub_index.specs.Indexed.{IsIndexed, id_in}
use Rattle.hub_index.specs.Rows.{seq_of}
use Rattle.hub_model.specs.Updates.{Note, edits_of_log, id_of, note_of}
use Rattle.hub_updates.specs.declared.log.Pair.{Pair}

-- a pair as its id and the sequence of its latest note
abbrev pub pair_of : Pair → List ℕ × ℕ
pair_of pair = (string_bytes pair.id, pair.latest)

-- the ids of the pairs, with the sequences of their latest notes
abbrev pub ids_of : List Pair → List (List ℕ × ℕ)
ids_of pairs = map pair_of pairs

-- these ids, once the latest note of the pair of this number is at this sequence
abbrev pub ids_with_sequence : ℕ → ℕ → List (List ℕ × ℕ) → List (List ℕ × ℕ)
ids_with_sequence number seq ids = slice_set ids number (id_in (slice_get ids number), seq)

-- the note that the pair of this number stands for
abbrev pub note_at : List (List ℕ × ℕ) → ℕ → Note
note_at ids k = note_of (id_in (slice_get ids k))

-- The notes. Each is kept as the number of its pair. Let d be created, updated and updated again. Then the
-- pairs are cd and ud, with the latest sequences 1 and 3, and the notes are kept as 0, 1 and 1.
abbrev pub notes_of : List (List ℕ × ℕ) → List ℕ → List Note
notes_of ids entries = map (note_at ids) entries

-- The row of the pair of this number may move to the end, to this sequence from 1 on. The row is at
-- `latest` now, or there is none, and each row lies below the sequence. Of rows (3, 1) and (5, 0) the row
-- of pair 1 may move from 3 to 6, and not to 5.
pub record IsMovable (number : ℕ) (latest : Option ℕ) (seq : ℕ) (rows : List (ℕ × ℕ)) : Type 0 where
  pub own : seq_of number rows ≡ latest
  pub positive : 0 < seq
  pub above : All (λ (r : ℕ × ℕ). r.0 < seq) rows

-- The invariant of a log's pairs, of their numbers by id, of its notes and of its rows. Just the ids of
-- pairs have numbers, each that of its pair. Each id of a pair reads back as a note's, and each note is of
-- a pair. There are no more pairs than notes, and the rows are the current rows of the notes.
pub record IsKept (numbers : List ℕ
    → Option ℕ) (ids : List (List ℕ × ℕ)) (entries : List ℕ) (index : List (ℕ × ℕ)) : Type 0 where
  pub found : (id : List ℕ) (k : ℕ) → numbers id ≡ Some k
      → (p : List ℕ × ℕ) × (slice_get ids k ≡ Some p) × (p.0 ≡ id)
  pub own : (k : ℕ) (p : List ℕ × ℕ) → slice_get ids k ≡ Some p → numbers p.0 ≡ Some k
  pub read : (k : ℕ) (p : List ℕ × ℕ) → slice_get ids k ≡ Some p → id_of (note_of p.0) ≡ p.0
  pub within : (i k : ℕ) → slice_get entries i ≡ Some k → (p : List ℕ × ℕ) × (slice_get ids k ≡ Some p)
  pub fewer : length ids ≤ length entries
  pub rows : IsIndexed (slice_get ids) (edits_of_log (notes_of ids entries)) index
