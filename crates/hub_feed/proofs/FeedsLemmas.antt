-- The feeds of a host: how they change, and that they stay behind the last edit (`AreBehind`).
use Rattle.std.proofs.Common.{◌≡◌, ◌∙◌, sym, inl, inr, All, ℕ, suc, ◌<◌, ◌≤◌, List, [], ◌∷◌, ◌++◌, Bool, true}
use Rattle.std.proofs.Common.{false, not, refl, subst, arith, find, map, nat_eq, Contains, AllPairs, IfSome}
use Rattle.std.specs.Prelude.{IfOk, OnErr, Result, Ok, Err, Option, Some, None}
use Rattle.std.specs.Prelude.{slice_set, get_or, position, nat_lt, ◌&&◌, if◌then◌else◌}
use Rattle.std.proofs.lemmas.Bool.{cases_Bool, ltb-true, ltb-false}
use Rattle.std.proofs.lemmas.List.Elements.{All-map, All-filter, All-push}
use Rattle.std.proofs.lemmas.List.Kept.{AllPairs-cons}
use Rattle.std.proofs.lemmas.Option.{none-some}
use Rattle.hub_model.specs.Current.{Current}
use Rattle.hub_model.specs.Entries.{with_change, entry_in, without, AreRising}
use Rattle.hub_model.specs.Feed.{Feed, Params, Status, Open, Ending, Ended, Finished, Due, DueRow, DueEnd}
use Rattle.hub_model.specs.Feed.{DueNothing, DueGone, new_feed, next_due, due_by_status, due_while_open, is_in_reach, is_open}
use Rattle.hub_model.specs.Feed.{is_waiting_mode, expired_feed, end, bound_of, bound_after, feed_after_due, after_nothing}
use Rattle.hub_model.specs.declared.feeds.Mode.{Mode}
use Rattle.hub_model.specs.declared.feeds.Mode.TheVariants.{Normal, Longpoll, Continuous}
use Rattle.hub_model.proofs.Fitting.{since_within}
use Rattle.hub_model.proofs.Entries.{changed_here, none_above, stays_here, rising_changed}
use Rattle.hub_model.proofs.Entries.{rising_without, below_changed, below_without}
use Rattle.hub_model.proofs.Shown.{find_is}
use Rattle.hub_feed.specs.Feeds.{AreBehind, AreNumbered, IsBehind, ended_entry}
use Rattle.hub_feed.specs.Host.{feeds_behind}
use Rattle.hub_feed.specs.Next.{feed_after_next, next_of_due}
use Rattle.hub_feed.specs.declared.next.Next.{Next}

-- the feeds without one feed
pub numbered_left : (next id : ℕ) (feeds : List (ℕ × Feed)) → AreNumbered next feeds
    → AreNumbered next (without id feeds)
numbered_left next id feeds x =
    record { rising = rising_without id feeds x.rising; given = below_without id next feeds x.given }

pub behind_left : (len id : ℕ) (feeds : List (ℕ × Feed)) → AreBehind len feeds
    → AreBehind len (without id feeds)
behind_left len id feeds behind =
    All-filter (λ (p : ℕ × Feed). not (nat_eq p.0 id)) (λ (p : ℕ × Feed). IsBehind len p.1) feeds behind

-- the number of a feed in the list was given
pub entry_given : (next id : ℕ) (feeds : List (ℕ × Feed)) (feed : Feed)
    → All (λ (p : ℕ × Feed). p.0 < next) feeds → entry_in id feeds ≡ Some feed → id < next
entry_given next id feeds feed given there =
    elim (cases_Bool (nat_lt id next)) [
      | inl low ↦ ltb-true id next low
      | inr high ↦ let above : next ≤ id = ltb-false id next high in
          absurd (none-some feed
          (sym (none_above id feeds (λ k d l. let h = given k d l in omega (arith, h, above))) ∙ there))
    ]

-- the feeds with one feed changed
module _ (id : ℕ) (change : Feed → Feed) where
  abbrev changed_one : ℕ × Feed → ℕ × Feed
  changed_one p = if nat_eq p.0 id then (p.0, change p.1) else p

  one_behind : (len : ℕ) → ((feed : Feed) → IsBehind len feed → IsBehind len (change feed)) → (p : ℕ × Feed)
      → IsBehind len p.1 → IsBehind len (changed_one p).1
  one_behind len keeps p h = from (nat_eq p.0 id)
    where
      from : (b : Bool) → IsBehind len (if b then (p.0, change p.1) else p).1
      from true = keeps p.1 h
      from false = h

  pub numbered_changed : (next : ℕ) (feeds : List (ℕ × Feed)) → AreNumbered next feeds
      → AreNumbered next (with_change id change feeds)
  numbered_changed next feeds x = record {
    rising = rising_changed id change feeds x.rising;
    given = below_changed id change next feeds x.given;
  }

  pub behind_changed : (len : ℕ) (feeds : List (ℕ × Feed))
      → ((feed : Feed) → IsBehind len feed → IsBehind len (change feed)) → AreBehind len feeds
      → AreBehind len (with_change id change feeds)
  behind_changed len feeds keeps behind =
      All-map (λ (p : ℕ × Feed). IsBehind len p.1) changed_one feeds
      (λ k d l. one_behind len keeps (get_or feeds k d) (behind k d l))

-- a feed that is opened begins behind the last edit
bound_behind : (mode : Mode) (len : ℕ) → IfSome (bound_of mode len) (λ bound. bound ≤ len)
bound_behind Normal len = omega arith
bound_behind Longpoll len = tt
bound_behind Continuous len = tt

pub behind_opened : (len life number : ℕ) (params : Params) (feeds : List (ℕ × Feed)) → AreBehind len feeds
    → AreBehind len (feeds ++ (number, new_feed params len life) ∷ [])
behind_opened len life number params feeds behind =
    All-push (λ (p : ℕ × Feed). IsBehind len p.1) feeds (number, new_feed params len life) behind
    (since_within params.since len life, bound_behind params.mode len)

-- a feed that is asked for its item, or hands it, stays behind the last edit
behind_bound : (len m : ℕ) → len ≤ m → (mode : Mode) (bound : Option ℕ) → IfSome bound (λ b. b ≤ m)
    → IfSome (bound_after mode bound len) (λ b. b ≤ m)
behind_bound len m le Normal bound h = h
behind_bound len m le Longpoll None h = le
behind_bound len m le Longpoll (Some bound) h = h
behind_bound len m le Continuous bound h = h

pub looks_behind : (len : ℕ) (due : Due) (feed : Feed) → IsBehind len feed
    → IsBehind len (feed_after_next feed due len)
looks_behind len (DueRow c) feed h = h
looks_behind len (DueEnd last_seq) feed h = h
looks_behind len DueNothing feed h = (omega arith, h.1)
looks_behind len DueGone feed h = h

pub goes_behind : (rows : List Current) (len m : ℕ) → len ≤ m
    → ((row : Current) → Contains rows row → row.seq ≤ len)
    → (feed : Feed) → IsBehind m feed → IsBehind m (feed_after_due feed (next_due rows feed) len)
goes_behind rows len m le within feed h = from feed.status
  where
    opened : (maybe_row : Option Current) (bound : Option ℕ) → find (is_in_reach feed) rows ≡ maybe_row
        → feed.bound ≡ bound → IsBehind m (feed_after_due feed (due_while_open maybe_row bound) len)
    opened (Some row) bound e q = (
      (let low = within row (find_is (is_in_reach feed) rows row e).1 in omega (arith, low, le)),
      behind_bound len m le feed.params.mode feed.bound h.1,
    )
    opened None (Some bound) e q = (subst (λ maybe_row. IfSome maybe_row (λ b. b ≤ m)) q h.1, h.1)
    opened None None e q = (le, h.1)

    from : (status : Status) → IsBehind m (feed_after_due feed (due_by_status status rows feed) len)
    from Open = opened (find (is_in_reach feed) rows) feed.bound refl refl
    from Ending = h
    from Ended = h
    from Finished = h

-- a feed whose time is over, or that ends, stays behind the last edit
pub expired_behind : (len : ℕ) (feed : Feed) → IsBehind len feed → IsBehind len (expired_feed feed)
expired_behind len feed h = from (is_open feed.status && is_waiting_mode feed.params.mode)
  where
    from : (b : Bool) → IsBehind len (if b then record feed { status = Ending } else feed)
    from true = h
    from false = h

ended_behind : (len : ℕ) (feed : Feed) → IsBehind len feed → IsBehind len (end feed)
ended_behind len feed h = from (is_open feed.status)
  where
    from : (b : Bool) → IsBehind len (if b then record feed { status = Ending } else feed)
    from true = h
    from false = h

-- a relation between the images of each element and each later element holds of the mapped list
pub pairs_map : {A B : Type 0} (R : B → B → Type 0) (f : A → B) (xs : List A)
    → AllPairs (λ a b. R (f a) (f b)) xs → AllPairs R (map f xs)
pairs_map R f [] pairs = λ i j d a b. absurd (omega arith)
pairs_map R f (x ∷ xs) pairs =
    AllPairs-cons R (f x) (map f xs)
    (All-map (R (f x)) f xs (λ k d l. pairs 0 (suc k) d (omega arith) (omega arith)))
    (pairs_map R f xs (λ i j d l m. pairs (suc i) (suc j) d (omega arith) (omega arith)))

pub numbered_ended : (next : ℕ) (feeds : List (ℕ × Feed)) → AreNumbered next feeds
    → AreNumbered next (map ended_entry feeds)
numbered_ended next feeds x = record {
  rising = pairs_map (λ (a b : ℕ × Feed). a.0 < b.0) ended_entry feeds x.rising;
  given = All-map (λ (p : ℕ × Feed). p.0 < next) ended_entry feeds x.given;
}

pub behind_ended : (len : ℕ) (feeds : List (ℕ × Feed)) → AreBehind len feeds → AreBehind len (map ended_entry feeds)
behind_ended len feeds behind =
    All-map (λ (p : ℕ × Feed). IsBehind len p.1) ended_entry feeds
    (λ k d l. ended_behind len (get_or feeds k d).1 (behind k d l))

-- the feed of this number stands at this place
module _ {R : Type 0} (id : ℕ) (feeds : List (ℕ × Feed))
    (at : ℕ) (placed : Some at ≡ position (λ (p : ℕ × Feed). nat_eq p.0 id) feeds) (p : ℕ × Feed)
    (is : p ≡ get_or feeds at p) where
  -- the feeds after the answer of the feed at this place
  pub behind_here : (show : Current → R) (rows : List Current) (len : ℕ) (new : Feed) → AreRising feeds
      → (next_due : Due) (next : Next R)
      → next ≡ next_of_due show rows next_due → new ≡ feed_after_next p.1 next_due len
      → slice_set feeds at (p.0, new) ≡ feeds_behind id len next feeds
  behind_here show rows len new rising (DueRow c) next e h = rw e (stays_here id feeds at placed p is new h)
  behind_here show rows len new rising (DueEnd last_seq) next e h =
      rw e (stays_here id feeds at placed p is new h)
  behind_here show rows len new rising DueNothing next e h =
      rw e (changed_here id feeds at placed p is (λ f. after_nothing f len) new rising h)
  behind_here show rows len new rising DueGone next e h = rw e (stays_here id feeds at placed p is new h)

-- two facts about a result give a third
pub both_ok : {T E : Type 0} {P Q R : T → Type 0} (r : Result T E) → ((x : T) → P x → Q x → R x)
    → IfOk r P → IfOk r Q → IfOk r R
both_ok (Ok x) f p q = f x p q
both_ok (Err e) f p q = tt

-- a fact that holds for a value and for an error holds
pub ok_or_err : {T E P W : Type 0} {Q : T → Type 0} (r : Result T E) → ((x : T) → Q x → P) → (W → P)
    → IfOk r Q → OnErr r W → P
ok_or_err (Ok x) f g q w = f x q
ok_or_err (Err e) f g q w = g w

-- a fact that follows from an error
pub err_then : {T E P W : Type 0} (r : Result T E) → (W → P) → OnErr r W → OnErr r P
err_then (Ok x) f w = tt
err_then (Err e) f w = f w
