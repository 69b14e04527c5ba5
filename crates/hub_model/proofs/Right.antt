-- A rightly handed list stays so as the journal grows, as the feed moves on, and with one more row.
use Rattle.std.proofs.Common.{◌≡◌, ℕ, ◌+◌, ◌<◌, ◌≤◌, List, [], ◌∷◌, ◌++◌, length, map, take}
use Rattle.std.proofs.Common.{get_or, false, inl, inr, sym, ◌∙◌, ap, subst, arith, length-append}
use Rattle.std.specs.Prelude.{All, Contains, Option, Some, None, IsTrue, IfSome, max}
use Rattle.std.specs.List.{list_any}
use Rattle.std.proofs.Math.Seq.{take-length}
use Rattle.std.proofs.lemmas.Bool.{cases_lt}
use Rattle.std.proofs.lemmas.List.{map-append, append-nil, take-append-le, length-take}
use Rattle.std.proofs.lemmas.List.Elements.{All-push, All-append, All-weaker}
use Rattle.std.proofs.lemmas.List.Elements.{Contains-push, Contains-append_left}
use Rattle.std.proofs.lemmas.List.Quantifiers.{all_pairs_push}
use Rattle.hub_model.specs.Current.{Current, current}
use Rattle.hub_model.specs.Feed.{Status, Feed}
use Rattle.hub_model.specs.Filter.{is_passing}
use Rattle.hub_model.specs.declared.feeds.Item.{Item}
use Rattle.hub_model.specs.declared.feeds.Item.TheVariants.{Row}
use Rattle.hub_model.specs.Journal.{Edit}
use Rattle.hub_model.specs.RightlyHanded.{is_end, rows_of, seqs_of, EndsAt, IsAsked}
use Rattle.hub_model.specs.RightlyHanded.{Follows, IsPassingRow, IsRowOf, RightlyHanded}
use Rattle.hub_model.specs.RowKind.{RowKind}
use Rattle.hub_model.proofs.Items.{rows_of-append, rows_of-row, ends_more}
use Rattle.hub_model.proofs.Rows.{current_before}

pub some_weaker : (o : Option ℕ) (P Q : ℕ → Type 0) → IfSome o P → ((n : ℕ) → P n → Q n) → IfSome o Q
some_weaker None P Q h f = tt
some_weaker (Some n) P Q h f = f n h

module _ {R : Type 0} (kind : RowKind R) where
  pub row_seen : (journal : List Edit) (feed : Feed) (row : R) → IsPassingRow kind journal feed row
      → kind.seen row ≡ length journal
  row_seen journal feed row p =
      ap kind.seen p.2 ∙ (kind.keeps journal feed.params.style feed.params.include_docs p.0).1

  pub seen_within : (journal : List Edit) (feed : Feed) (row : R) → IsRowOf kind journal feed row
      → kind.seen row ≤ length journal
  seen_within journal feed row r =
      omega (
        arith,
        row_seen (take (kind.seen row) journal) feed row r.shown,
        length-take (kind.seen row) journal,
      )

  row_grows : (journal edits : List Edit) (feed : Feed) (row : R) → IsRowOf kind journal feed row
      → IsRowOf kind (journal ++ edits) feed row
  row_grows journal edits feed row r = record {
    shown =
        subst (λ K. IsPassingRow kind K feed row)
        (sym (take-append-le (kind.seen row) journal edits (seen_within journal feed row r))) r.shown;
    above = r.above;
    reached = r.reached;
    bounded = r.bounded;
  }

  -- the list stays right after more edits
  pub right_grows : (journal edits : List Edit) (feed : Feed) (items : List (Item R))
      → RightlyHanded kind journal feed items → RightlyHanded kind (journal ++ edits) feed items
  right_grows journal edits feed items r = record {
    rising = r.rising;
    rows =
        All-weaker (IsRowOf kind journal feed) (IsRowOf kind (journal ++ edits) feed)
        (row_grows journal edits feed) (rows_of items) r.rows;
    from_since = r.from_since;
    to_length = omega (arith, r.to_length, length-append journal edits);
    ends = r.ends;
    whole = λ c h p a b. r.whole c (current_before 1 journal edits c h (omega (arith, r.to_length))) p a b;
    limited = r.limited;
    beats = r.beats;
  }

  -- the feed with another bound, place, number of rows and status
  abbrev moved : Feed → Option ℕ → ℕ → ℕ → Status → Feed
  moved feed bound place rows status =
      record feed { bound = bound; place = place; rows = rows; status = status }

  row_moves : (journal : List Edit) (feed : Feed) (bound : Option ℕ) (place rows : ℕ) (status : Status)
      → feed.place ≤ place → IfSome bound (λ b. feed.place ≤ b) → (row : R) → IsRowOf kind journal feed row
      → IsRowOf kind journal (moved feed bound place rows status) row
  row_moves journal feed bound place rows status p b row r = record {
    shown = r.shown;
    above = r.above;
    reached = omega (arith, r.reached);
    bounded = some_weaker bound _ _ b (λ n h. omega (arith, r.reached));
  }

  -- the list stays right where the feed's place moves past no row that passes
  pub right_moves : (journal : List Edit) (feed : Feed) (items more : List (Item R)) (bound : Option ℕ)
      (place rows : ℕ) (status : Status) →
      RightlyHanded kind journal feed items → rows_of more ≡ [] → feed.place ≤ place → place ≤ length journal
      → IfSome bound (λ b. feed.place ≤ b) → EndsAt place (items ++ more) →
      ((row : Current) → Contains (current journal) row → IsTrue (is_passing feed.params.filter row.id)
      → feed.place < row.seq → row.seq ≤ place → ⊥) →
      All (IsAsked feed.params.heartbeat) more →
      RightlyHanded kind journal (moved feed bound place rows status) (items ++ more)
  right_moves journal feed items more bound place rows status r none p l b ends gap beats = record {
    rising = rw same r.rising;
    rows =
        rw same
        (All-weaker (IsRowOf kind journal feed) _ (row_moves journal feed bound place rows status p b)
        (rows_of items) r.rows);
    from_since = omega (arith, r.from_since);
    to_length = l;
    ends = ends;
    whole = λ row h q a z. elim (cases_lt feed.place row.seq) [
      | inl y ↦ absurd (gap row h q y z)
      | inr y ↦ rw same (r.whole row h q a y)
    ];
    limited = rw same r.limited;
    beats = All-append (IsAsked feed.params.heartbeat) items more r.beats beats;
  }
    where
      same : rows_of (items ++ more) ≡ rows_of items
      same = rows_of-append items more ∙ (ap (λ rs. rows_of items ++ rs) none ∙ append-nil (rows_of items))

  -- the list with the next row is right where the feed's place moves to this row
  pub right_row : (journal : List Edit) (feed : Feed) (items : List (Item R)) (row : R) (seq : ℕ)
      → kind.seq row ≡ seq → (bound : Option ℕ) (rows : ℕ) (status : Status) →
      RightlyHanded kind journal feed items → IsPassingRow kind journal feed row → feed.place < seq
      → seq ≤ length journal →
      IfSome bound (λ b. seq ≤ b) → list_any is_end items ≡ false →
      ((c : Current) → Contains (current journal) c → IsTrue (is_passing feed.params.filter c.id)
      → feed.place < c.seq → c.seq ≤ seq → seq ≡ c.seq) →
      IfSome feed.params.limit (λ limit. length (rows_of items) + 1 ≤ max 1 limit) →
      RightlyHanded kind journal (moved feed bound seq rows status) (items ++ Row row ∷ [])
  right_row journal feed items row seq at bound rows status r shown above l b no_end gap limit = record {
    rising = rw rows_of-row (all_pairs_push (Follows kind) (rows_of items) row r.rising follows);
    rows =
        rw rows_of-row
        (All-push (IsRowOf kind journal (moved feed bound seq rows status)) (rows_of items) row
        (All-weaker (IsRowOf kind journal feed) _
        (row_moves journal feed bound seq rows status (omega arith)
        (some_weaker bound _ _ b (λ n h. omega arith)))
        (rows_of items) r.rows) new);
    from_since = omega (arith, r.from_since);
    to_length = l;
    ends = ends_more seq items (Row row ∷ []) no_end tt;
    whole = λ c h q a z. elim (cases_lt feed.place c.seq) [
      | inl y ↦
          subst (λ n. Contains (seqs_of kind (items ++ Row row ∷ [])) n) (gap c h q y z)
          (rw seqs (Contains-push (seqs_of kind items) seq))
      | inr y ↦ rw seqs (Contains-append_left (seqs_of kind items) (seq ∷ []) c.seq (r.whole c h q a y))
    ];
    limited =
        some_weaker feed.params.limit _ _ limit
        (λ n h.
        omega (arith, ap length (rows_of-row items row), length-append (rows_of items) (row ∷ []), h));
    beats = All-push (IsAsked feed.params.heartbeat) items (Row row) r.beats tt;
  }
    where
      seqs : seqs_of kind (items ++ Row row ∷ []) ≡ seqs_of kind items ++ seq ∷ []
      seqs =
          ap (map kind.seq) (rows_of-row items row)
          ∙ (map-append kind.seq (rows_of items) (row ∷ []) ∙ ap (λ n. seqs_of kind items ++ n ∷ []) at)

      now : kind.seen row ≡ length journal
      now = row_seen journal feed row shown

      follows : (k : ℕ) (d : R) → k < length (rows_of items) → Follows kind (get_or (rows_of items) k d) row
      follows k d h = let o = r.rows k d h in record {
        rises = omega (arith, o.reached, at);
        later = omega (arith, now, seen_within journal feed _ o);
      }

      new : IsRowOf kind journal (moved feed bound seq rows status) row
      new = record {
        shown =
            subst (λ K. IsPassingRow kind K feed row)
            (sym (take-length journal) ∙ ap (λ n. take n journal) (sym now)) shown;
        above = omega (arith, r.from_since, at);
        reached = omega (arith, at);
        bounded = some_weaker bound _ _ b (λ n h. omega (arith, at, h));
      }
