-- The decision whether items are an answer to a follower that asks for changes (own).
use Rattle.std.specs.Prelude.{◌≡◌, ◌≤◌, ◌<◌, ℕ, List, [], ◌∷◌, length, take, AllPairs}
use Rattle.std.specs.Prelude.{Bool, true, false, ◌&&◌, ◌||◌, nat_eq, nat_le, nat_lt}
use Rattle.std.specs.Prelude.{Option, Some, None, option_and_then, if◌then◌else◌}
use Rattle.std.specs.Prelude.{Result, IfOk, IfSome, OnErr}
use Rattle.std.specs.List.{list_all, list_any}
use Rattle.std.specs.Str.{bytes_eq}
use Rattle.hub_model.specs.declared.feeds.Item.TheVariants.{Row, Beat, End}
use Rattle.hub_model.specs.Journal.{Edit}
use Rattle.hub_model.specs.Revision.{Revision, is_same}
use Rattle.hub_model.specs.RightlyHanded.{ChangeItem, Follows, rows_of}
use Rattle.hub_model.specs.Row.{ChangeRow}
use Rattle.hub_model.specs.RowKind.{change_rows}
use Rattle.hub_follow_model.specs.ChangesFeed.{items_of, IsChangesAnswer}
use Rattle.hub_follower.specs.Listing.{all_above}

-- The items have the shape of an answer of a database with so many edits: rows, at most 100, and then their
-- end. The rows rise, each made no earlier than those before it, and the end lies between `since` and the
-- last edit.
abbrev pub IsNumbered : (edits since : ℕ) → List ChangeItem → Type 0
IsNumbered edits since items =
    (rows : List ChangeRow) × (last : ℕ) × (pending : ℕ) × (items ≡ items_of rows last pending)
    × (length rows ≤ 100) × AllPairs (Follows change_rows) rows × (since ≤ last) × (last ≤ edits)

-- It was decided whether the items are an answer above `since`. Where a sequence was found, they are an
-- answer that ends at it; where none was found, they are no answer. Memory runs out only where there is an
-- edit, and the numbers of the items are those of an answer.
pub record HasDecided {E : Type 0} (journal : List Edit) (since : ℕ) (items : List ChangeItem)
    (result : Result (Option ℕ) E) : Type 0 where
  pub right :
      IfOk result (λ end. IfSome end (λ last. IsChangesAnswer journal since items (rows_of items) last))
  pub wrong :
      IfOk result (λ end. end ≡ None → (rows : List ChangeRow) (last : ℕ)
      → ¬ IsChangesAnswer journal since items rows last)
  pub memory : OnErr result ((0 < length journal) × IsNumbered (length journal) since items)

-- the sequence that the end names, where the items are rows and then one end
abbrev pub end_of : List ChangeItem → Option ℕ
end_of [] = None
end_of (Row row ∷ items) = end_of items
end_of (Beat ∷ items) = None
end_of (End last pending ∷ []) = Some last
end_of (End last pending ∷ item ∷ items) = None

-- the row is above this sequence and not above `last`, and was made no earlier than at `seen`
abbrev pub is_after : (last seq seen : ℕ) → ChangeRow → Bool
is_after last seq seen row = nat_lt seq row.seq && (nat_le row.seq last && nat_le seen row.seen)

-- each row is after the row before it, by sequence and `seen`, and the first row is after these numbers
abbrev pub are_rising : (last seq seen : ℕ) → List ChangeRow → Bool
are_rising last seq seen [] = true
are_rising last seq seen (row ∷ rows) = is_after last seq seen row && are_rising last row.seq row.seen rows

-- whether items that end at `last` have the numbers of an answer
abbrev pub is_numbered : (edits since last : ℕ) → List ChangeItem → Bool
is_numbered edits since last items =
    nat_le (length items) 101
    && (nat_le since last && (nat_le last edits && are_rising last since 0 (rows_of items)))

-- the sequence that the end names, where the numbers are those of an answer
abbrev pub numbered_end : (edits since : ℕ) → List ChangeItem → Option ℕ
numbered_end edits since items =
    option_and_then (λ last. if is_numbered edits since last items then Some last else None) (end_of items)

-- whether two lists of revisions are the same
abbrev pub same_revs : List Revision → List Revision → Bool
same_revs [] [] = true
same_revs [] (revision ∷ others) = false
same_revs (other ∷ revs) [] = false
same_revs (other ∷ revs) (revision ∷ others) = is_same other revision && same_revs revs others

-- whether the members of two rows are the same
abbrev pub same_doc : Option (List ℕ) → Option (List ℕ) → Bool
same_doc None None = true
same_doc None (Some other) = false
same_doc (Some body) None = false
same_doc (Some body) (Some other) = bytes_eq body other

-- whether two marks are the same
abbrev pub same_mark : Bool → Bool → Bool
same_mark true b = b
same_mark false true = false
same_mark false false = true

-- whether two rows are the same, in each member
abbrev pub same_row : ChangeRow → ChangeRow → Bool
same_row row other =
    nat_eq row.seq other.seq
    && (nat_eq row.seen other.seen
    && (same_mark row.deleted other.deleted
    && (bytes_eq row.id other.id
    && (same_revs row.changes other.changes && same_doc row.doc other.doc))))

-- whether the row is one of those that were current when there were `seen` edits
abbrev pub is_shown : List Edit → ChangeRow → Bool
is_shown journal row = list_any (same_row row) (all_above (take row.seen journal) 0)

-- whether one of the rows has this sequence
abbrev pub has_sequence : List ChangeRow → ℕ → Bool
has_sequence rows seq = list_any (λ row. nat_eq row.seq seq) rows

-- whether each of the other rows that is not above `last` has its sequence among the rows
abbrev pub are_listed : ℕ → List ChangeRow → List ChangeRow → Bool
are_listed last rows all = list_all (λ row. nat_lt last row.seq || has_sequence rows row.seq) all
