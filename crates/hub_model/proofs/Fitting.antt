-- A list that fits a feed still fits it after each step of the feed.
use Rattle.std.proofs.Common.{◌≡◌, ℕ, ◌+◌, ◌<◌, ◌≤◌, List, [], ◌∷◌, ◌++◌, length, true, false}
use Rattle.std.proofs.Common.{inl, inr, sym, ◌∙◌, ap, subst, refl, arith, length-append, ◌&&◌}
use Rattle.std.specs.Prelude.{Contains, Option, Some, None, IsTrue, IfSome, max}
use Rattle.std.specs.List.{list_any}
use Rattle.std.proofs.lemmas.Bool.{cases_Bool, both_ways, or_cases, and_parts, le-leb}
use Rattle.std.proofs.lemmas.List.{append-nil}
use Rattle.std.proofs.lemmas.Option.{same_Some, none-some}
use Rattle.std.proofs.lemmas.List.Elements.{All-nil, All-push}
use Rattle.std.proofs.lemmas.List.Folds.{list_any-append}
use Rattle.hub_model.specs.Current.{Current, current, pending}
use Rattle.hub_model.specs.declared.feeds.Mode.{Mode}
use Rattle.hub_model.specs.declared.feeds.Mode.TheVariants.{Normal, Longpoll, Continuous}
use Rattle.hub_model.specs.declared.feeds.Since.{Since}
use Rattle.hub_model.specs.declared.feeds.Since.TheVariants.{Now, Plain, Tagged}
use Rattle.hub_model.specs.declared.feeds.Item.{Item}
use Rattle.hub_model.specs.declared.feeds.Item.TheVariants.{Row, Beat, End}
use Rattle.hub_model.specs.Feed.{Status, Open, Ending, Ended, Finished, Feed, Due, DueRow, DueEnd}
use Rattle.hub_model.specs.Feed.{DueNothing, DueGone, since_of, bound_of, next_due, is_in_reach, bound_after}
use Rattle.hub_model.specs.Feed.{feed_after_due, after_row, after_end, after_nothing, is_open, is_over, is_waiting_mode}
use Rattle.hub_model.specs.Filter.{is_passing}
use Rattle.hub_model.specs.FeedLaws.{OpenedFits, GrownFits, HandedFits, WaitingFits, BeatFits}
use Rattle.hub_model.specs.FeedLaws.{ExpiredFits, EndedFits, FinishedFits, LimitedEnds}
use Rattle.hub_model.specs.Hand.{journal_due, item_of_due}
use Rattle.hub_model.specs.Journal.{Edit}
use Rattle.hub_model.specs.RightlyHanded.{is_end, EndsAt, IsAsked, RightlyHanded, Fits, rows_of}
use Rattle.hub_model.specs.RowKind.{RowKind}
use Rattle.hub_model.proofs.Due.{due_row, due_end, due_nothing, reach_parts, reach_from}
use Rattle.hub_model.proofs.Due.{within_bound, within_below, bound_after_row, open_after_row}
use Rattle.hub_model.proofs.Items.{rows_of-row, rows_of-beat, rows_of-end, ends_more}
use Rattle.hub_model.proofs.Right.{some_weaker, right_grows, right_moves, right_row}
use Rattle.hub_model.proofs.Rows.{current_within, find_first, find_none}

-- a feed begins no later than the last edit
pub since_within : (since : Since) (len life : ℕ) → since_of since len life ≤ len
since_within Now len life = omega arith
since_within (Plain seq) len life = omega arith
since_within (Tagged seq of) len life = omega arith

module _ {R : Type 0} (kind : RowKind R) where
  pub fits_grows : GrownFits kind
  fits_grows J es f items h = record {
    right = right_grows kind J es f items h.right;
    counted = h.counted;
    fewer = h.fewer;
    over = h.over;
    bounded = some_weaker f.bound _ _ h.bounded (λ n p. (p.0, omega (arith, p.1, length-append J es)));
  }

  bound_within : (mode : Mode) (s len : ℕ) → s ≤ len → IfSome (bound_of mode len) (λ b. (s ≤ b) × (b ≤ len))
  bound_within Normal s len h = (h, omega arith)
  bound_within Longpoll s len h = tt
  bound_within Continuous s len h = tt

  none_handed : (limit : Option ℕ) → IfSome limit (λ n. 0 < max 1 n)
  none_handed None = tt
  none_handed (Some n) = omega arith

  pub fits_begin : OpenedFits kind
  fits_begin J params life = record {
    right = record {
      rising = λ i j d a b. absurd (omega (arith, b));
      rows = All-nil _;
      from_since = omega arith;
      to_length = since_within params.since (length J) life;
      ends = tt;
      whole = λ c h q a b. absurd (omega arith);
      limited = some_weaker params.limit _ _ (none_handed params.limit) (λ n h. omega arith);
      beats = All-nil (IsAsked params.heartbeat);
    };
    counted = refl;
    fewer = λ e. none_handed params.limit;
    over = λ e. absurd (cc);
    bounded = bound_within params.mode _ (length J) (since_within params.since (length J) life);
  }

  -- only a feed that is over has handed an End
  no_end : (journal : List Edit) (feed : Feed) (items : List (Item R)) → Fits kind journal feed items
      → is_over feed.status ≡ false → list_any is_end items ≡ false
  no_end journal feed items h e =
      elim (cases_Bool (list_any is_end items)) [
        | inl t ↦ absurd (both_ways _ e (h.over t))
        | inr t ↦ t
      ]

  some_at : (o : Option ℕ) (n : ℕ) (P : ℕ → Type 0) → o ≡ Some n → IfSome o P → P n
  some_at None n P e h = absurd (cc)
  some_at (Some m) n P e h = subst P (cc) h

  end_more : (items : List (Item R)) (item : Item R) → is_end item ≡ false
      → list_any is_end (items ++ item ∷ []) ≡ true → list_any is_end items ≡ true
  end_more items item e h =
      elim (or_cases _ _ (sym (list_any-append is_end items (item ∷ [])) ∙ h)) [
        | inl t ↦ t
        | inr t ↦ absurd (let t' = rw e at t in cc)
      ]

  -- the list with a row that is due fits the feed after it
  fits_row : (journal : List Edit) (feed : Feed) (items : List (Item R)) (c : Current)
      → Fits kind journal feed items → next_due (current journal) feed ≡ DueRow c
      → Fits kind journal (after_row feed c.seq (length journal))
      (items ++ Row (kind.shown journal feed.params.style feed.params.include_docs c) ∷ [])
  fits_row journal feed items c h e =
      let row = kind.shown journal feed.params.style feed.params.include_docs c in
      let d = due_row (current journal) feed c e in
      let first = find_first (is_in_reach feed) 1 journal c d.1 in
      let parts = reach_parts feed c first.0 in
      let within : (1 ≤ c.seq) × (c.seq < 1 + length journal) = current_within 1 journal c first.1 in
      let to_length : c.seq ≤ length journal = omega arith in
      let bounds =
      bound_after_row feed.params.mode feed.bound (length journal) c.seq to_length
      (within_bound feed.bound c.seq parts.1)
      (some_weaker feed.bound _ _ h.bounded (λ n k. k.1)) in
      let open_before = no_end journal feed items h (ap is_over d.0) in
      record {
        right =
            right_row kind journal feed items row c.seq
            (kind.keeps journal feed.params.style feed.params.include_docs c).0
            _ _ _ h.right (c, first.1, refl, parts.2) parts.0 to_length
            (some_weaker (bound_after feed.params.mode feed.bound (length journal))
            (λ m. (c.seq ≤ m) × (m ≤ length journal))
            (λ m. c.seq ≤ m) bounds (λ n k. k.0)) open_before
            (λ x in_rows q a b.
            let least : c.seq ≤ x.seq =
            first.2 x in_rows (reach_from feed x a (within_below feed.bound x.seq c.seq parts.1 b) q) in
            omega arith)
            (some_weaker feed.params.limit _ _ (h.fewer d.0) (λ n k. omega (arith, h.counted)));
        counted =
            ap length (rows_of-row items row)
            ∙ (length-append (rows_of items) (row ∷ []) ∙ ap (λ n. n + 1) h.counted);
        fewer = λ t. open_after_row feed.params.limit (feed.rows + 1) t;
        over = λ t. absurd (both_ways _ open_before (end_more items (Row row) refl t));
        bounded = bounds;
      }

  -- the list with an End at this place fits, if no passing row lies between the feed's place and it
  fits_end_at : (journal : List Edit) (feed : Feed) (items : List (Item R)) (last n : ℕ)
      → Fits kind journal feed items
      → is_over feed.status ≡ false → feed.place ≤ last → last ≤ length journal
      → IfSome feed.bound (λ b. last ≤ b) →
      ((row : Current) → Contains (current journal) row → IsTrue (is_passing feed.params.filter row.id)
      → feed.place < row.seq → row.seq ≤ last → ⊥) →
      Fits kind journal (after_end feed last) (items ++ End last n ∷ [])
  fits_end_at journal feed items last n h over p l b gap = record {
    right =
        right_moves kind journal feed items (End last n ∷ []) feed.bound last feed.rows Ended h.right refl p l
        (some_weaker feed.bound _ _ h.bounded (λ m k. k.0))
        (ends_more last items (End last n ∷ []) (no_end journal feed items h over) (refl, refl)) gap
        (All-push (IsAsked feed.params.heartbeat) [] (End last n)
        (All-nil (IsAsked feed.params.heartbeat)) tt);
    counted = ap length (rows_of-end items last n) ∙ h.counted;
    fewer = λ e. absurd (cc);
    over = λ e. refl;
    bounded = both feed.bound b h.bounded;
  }
    where
      both : (o : Option ℕ) → IfSome o (λ m. last ≤ m)
          → IfSome o (λ m. (feed.place ≤ m) × (m ≤ length journal))
          → IfSome o (λ m. (last ≤ m) × (m ≤ length journal))
      both None x y = tt
      both (Some m) x y = (x, y.1)

  -- the list with an End that is due fits the feed after it
  fits_end : (journal : List Edit) (feed : Feed) (items : List (Item R)) (last n : ℕ)
      → Fits kind journal feed items
      → next_due (current journal) feed ≡ DueEnd last
      → Fits kind journal (after_end feed last) (items ++ End last n ∷ [])
  fits_end journal feed items last n h e =
      elim (due_end (current journal) feed last e) [
        | inl a ↦
            fits_end_at journal feed items last n h
            (ap is_over a.0) (omega (arith, a.1)) (omega (arith, a.1, h.right.to_length))
            (some_weaker feed.bound _ _ h.bounded (λ m k. omega (arith, a.1, k.0)))
            (λ c x q y z. absurd (omega (arith, a.1)))
        | inr a ↦ let at = some_at feed.bound last _ a.1 h.bounded in
            fits_end_at journal feed items last n h (ap is_over a.0) at.0 at.1 (rw a.1 (omega arith))
            (λ c x q y z. find_none _ (current journal) a.2 c x
            (reach_from feed c y (rw a.1 (le-leb c.seq last z)) q))
      ]

  -- the list with the item that is due fits the feed after it
  handed_as : (journal : List Edit) (feed : Feed) (items : List (Item R)) (item : Item R) (next_due : Due)
      → journal_due journal feed ≡ next_due
      → item_of_due (kind.shown journal feed.params.style feed.params.include_docs)
      (current journal) next_due ≡ Some item
      → Fits kind journal feed items
      → Fits kind journal (feed_after_due feed next_due (length journal)) (items ++ item ∷ [])
  handed_as journal feed items item (DueRow c) q e h =
      subst (λ (i : Item R). Fits kind journal (after_row feed c.seq (length journal)) (items ++ i ∷ []))
      (same_Some _ item e) (fits_row journal feed items c h q)
  handed_as journal feed items item (DueEnd last) q e h =
      subst (λ (i : Item R). Fits kind journal (after_end feed last) (items ++ i ∷ [])) (same_Some _ item e)
      (fits_end journal feed items last (pending (current journal) last) h q)
  handed_as journal feed items item DueNothing q e h = absurd (none-some item e)
  handed_as journal feed items item DueGone q e h = absurd (none-some item e)

  pub fits_handed : HandedFits kind
  fits_handed J f items item e h = handed_as J f items item (journal_due J f) refl e h

  open_when : (st : Status) → is_open st ≡ true → st ≡ Open
  open_when Open e = refl
  open_when Ending e = absurd (cc)
  open_when Ended e = absurd (cc)
  open_when Finished e = absurd (cc)

  -- the list with a heartbeat fits the feed
  pub fits_beat : BeatFits kind
  fits_beat J f items e h =
      let p = and_parts (is_open f.status) (is_waiting_mode f.params.mode && f.params.heartbeat) e in
      let q = and_parts (is_waiting_mode f.params.mode) f.params.heartbeat p.1 in
      let open_before = no_end J f items h (ap is_over (open_when f.status p.0)) in
      record {
        right =
            right_moves kind J f items (Beat ∷ []) f.bound f.place f.rows f.status h.right refl
            (omega arith) h.right.to_length (some_weaker f.bound _ _ h.bounded (λ m k. k.0))
            (ends_more f.place items (Beat ∷ []) open_before tt) (λ c x a y z. absurd (omega arith))
            (All-push (IsAsked f.params.heartbeat) [] Beat (All-nil (IsAsked f.params.heartbeat)) q.1);
        counted = ap length (rows_of-beat items) ∙ h.counted;
        fewer = h.fewer;
        over = λ t. absurd (both_ways _ open_before (end_more items Beat refl t));
        bounded = h.bounded;
      }

  -- the list fits the feed after it found nothing to hand
  pub fits_nothing : WaitingFits kind
  fits_nothing J f items e h =
      let d = due_nothing (current J) f e in
      record {
        right = subst (RightlyHanded kind J (after_nothing f (length J))) (append-nil items)
            (right_moves kind J f items [] f.bound (length J) f.rows f.status h.right refl h.right.to_length
            (omega arith) (some_weaker f.bound _ _ h.bounded (λ m k. k.0))
            (ends_more (length J) items [] (no_end J f items h (ap is_over d.0)) tt)
            (λ c x q y z. find_none _ (current J) d.2 c x (reach_from f c y (rw d.1 refl) q))
            (All-nil (IsAsked f.params.heartbeat)));
        counted = h.counted;
        fewer = h.fewer;
        over = h.over;
        bounded = rw d.1 tt;
      }

  -- the list fits the feed with another status, which is not open
  pub fits_status : (journal : List Edit) (feed : Feed) (items : List (Item R)) (status : Status)
      → (status ≡ Open → ⊥) → (list_any is_end items ≡ true → is_over status ≡ true)
      → Fits kind journal feed items → Fits kind journal (record feed { status = status }) items
  fits_status journal feed items status closed over h = record {
    right = subst (RightlyHanded kind journal (record feed { status = status })) (append-nil items)
        (right_moves kind journal feed items [] feed.bound feed.place feed.rows status h.right refl
        (omega arith) h.right.to_length (some_weaker feed.bound _ _ h.bounded (λ m k. k.0))
        (subst (EndsAt feed.place) (sym (append-nil items)) h.right.ends) (λ c x q y z. absurd (omega arith))
        (All-nil (IsAsked feed.params.heartbeat)));
    counted = h.counted;
    fewer = λ e. absurd (closed e);
    over = over;
    bounded = h.bounded;
  }

  fits_ending : (journal : List Edit) (feed : Feed) (items : List (Item R)) → is_open feed.status ≡ true
      → Fits kind journal feed items → Fits kind journal (record feed { status = Ending }) items
  fits_ending journal feed items e h =
      fits_status journal feed items Ending
      (λ t. cc) (λ t. absurd (both_ways _
      (no_end journal feed items h (ap is_over (open_when feed.status e))) t)) h

  pub fits_expire : ExpiredFits kind
  fits_expire J f items h =
      elim (cases_Bool (is_open f.status && is_waiting_mode f.params.mode)) [
        | inl t ↦ rw t (fits_ending J f items (and_parts _ _ t).0 h)
        | inr t ↦ rw t h
      ]

  pub fits_close : EndedFits kind
  fits_close J f items h =
      elim (cases_Bool (is_open f.status)) [
        | inl t ↦ rw t (fits_ending J f items t h)
        | inr t ↦ rw t h
      ]

  pub fits_finish : FinishedFits kind
  fits_finish J f items h = fits_status J f items Finished (λ t. cc) (λ t. refl) h

-- a feed that has handed as many rows as its limit is not open
below_limit : (limit : ℕ) (o : Option ℕ) (rows : ℕ) → o ≡ Some limit → IfSome o (λ limit. rows < max 1 limit)
    → rows < max 1 limit
below_limit limit o rows p h = subst (λ z. IfSome z (λ limit. rows < max 1 limit)) p h

pub limited_ends : {R : Type 0} (kind : RowKind R) → LimitedEnds kind
limited_ends kind J f items limit is full h e =
    let few = below_limit limit f.params.limit f.rows is (h.fewer e) in
    let counted = h.counted in omega (arith, few, full, counted)
