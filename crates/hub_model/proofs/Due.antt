-- Facts about a feed to which a row, an End or nothing is due.
use Rattle.std.proofs.Common.{◌≡◌, ℕ, ◌<◌, ◌≤◌, List, true, false, ◌⊎◌, inl, inr, refl, arith}
use Rattle.std.specs.Prelude.{Option, Some, None, find, IsTrue, IfSome, max, nat_le}
use Rattle.std.proofs.lemmas.Bool.{and_parts, and_from, ltb-true, lt-ltb}
use Rattle.std.proofs.lemmas.Bool.{leb-true, le-leb, leb-false, cases_Bool}
use Rattle.hub_model.specs.Current.{Current}
use Rattle.hub_model.specs.declared.feeds.Mode.{Mode}
use Rattle.hub_model.specs.declared.feeds.Mode.TheVariants.{Normal, Longpoll, Continuous}
use Rattle.hub_model.specs.Feed.{Status, Open, Ending, Ended, Finished, Feed, DueRow, DueEnd, DueNothing}
use Rattle.hub_model.specs.Feed.{next_due, due_by_status, due_while_open, is_in_reach, is_within, bound_after, status_after}
use Rattle.hub_model.specs.Filter.{is_passing}

due_open_row : (maybe_row : Option Current) (b : Option ℕ) (other : Current)
    → due_while_open maybe_row b ≡ DueRow other → maybe_row ≡ Some other
due_open_row (Some row) b other e = cc
due_open_row None (Some b) other e = absurd (cc)
due_open_row None None other e = absurd (cc)

due_open_end : (maybe_row : Option Current) (b : Option ℕ) (last : ℕ) → due_while_open maybe_row b ≡ DueEnd last
    → (b ≡ Some last) × (maybe_row ≡ None)
due_open_end (Some row) b last e = absurd (cc)
due_open_end None (Some b) last e = (cc, refl)
due_open_end None None last e = absurd (cc)

due_open_nothing : (maybe_row : Option Current) (b : Option ℕ) → due_while_open maybe_row b ≡ DueNothing
    → (b ≡ None) × (maybe_row ≡ None)
due_open_nothing (Some row) b e = absurd (cc)
due_open_nothing None (Some b) e = absurd (cc)
due_open_nothing None None e = (refl, refl)

due_at_row : (st : Status) (rows : List Current) (feed : Feed) (row : Current)
    → due_by_status st rows feed ≡ DueRow row → (st ≡ Open) × (find (is_in_reach feed) rows ≡ Some row)
due_at_row Open rows feed row e = (refl, due_open_row _ feed.bound row e)
due_at_row Ending rows feed row e = absurd (cc)
due_at_row Ended rows feed row e = absurd (cc)
due_at_row Finished rows feed row e = absurd (cc)

due_at_end : (st : Status) (rows : List Current) (feed : Feed) (last : ℕ) → due_by_status st rows feed ≡ DueEnd last
    → ((st ≡ Ending) × (last ≡ feed.place))
    ⊎ ((st ≡ Open) × (feed.bound ≡ Some last) × (find (is_in_reach feed) rows ≡ None))
due_at_end Open rows feed last e = let p = due_open_end _ feed.bound last e in inr (refl, p.0, p.1)
due_at_end Ending rows feed last e = inl (refl, cc)
due_at_end Ended rows feed last e = absurd (cc)
due_at_end Finished rows feed last e = absurd (cc)

due_at_nothing : (st : Status) (rows : List Current) (feed : Feed) → due_by_status st rows feed ≡ DueNothing
    → (st ≡ Open) × (feed.bound ≡ None) × (find (is_in_reach feed) rows ≡ None)
due_at_nothing Open rows feed e = let p = due_open_nothing _ feed.bound e in (refl, p.0, p.1)
due_at_nothing Ending rows feed e = absurd (cc)
due_at_nothing Ended rows feed e = absurd (cc)
due_at_nothing Finished rows feed e = absurd (cc)

pub due_row : (rows : List Current) (feed : Feed) (row : Current) → next_due rows feed ≡ DueRow row
    → (feed.status ≡ Open) × (find (is_in_reach feed) rows ≡ Some row)
due_row rows feed row e = due_at_row feed.status rows feed row e

pub due_end : (rows : List Current) (feed : Feed) (last : ℕ) → next_due rows feed ≡ DueEnd last
    → ((feed.status ≡ Ending) × (last ≡ feed.place))
    ⊎ ((feed.status ≡ Open) × (feed.bound ≡ Some last) × (find (is_in_reach feed) rows ≡ None))
due_end rows feed last e = due_at_end feed.status rows feed last e

pub due_nothing : (rows : List Current) (feed : Feed) → next_due rows feed ≡ DueNothing
    → (feed.status ≡ Open) × (feed.bound ≡ None) × (find (is_in_reach feed) rows ≡ None)
due_nothing rows feed e = due_at_nothing feed.status rows feed e

-- the parts of the test `is_in_reach`
pub reach_parts : (feed : Feed) (row : Current) → is_in_reach feed row ≡ true
    → (feed.place < row.seq) × (is_within feed.bound row.seq ≡ true)
    × IsTrue (is_passing feed.params.filter row.id)
reach_parts feed row e =
    let p = and_parts _ _ e in let q = and_parts _ _ p.1 in (ltb-true feed.place row.seq p.0, q.0, q.1)

pub reach_from : (feed : Feed) (row : Current) → feed.place < row.seq → is_within feed.bound row.seq ≡ true
    → IsTrue (is_passing feed.params.filter row.id) → is_in_reach feed row ≡ true
reach_from feed row a b p = and_from _ _ (lt-ltb feed.place row.seq a) (and_from _ _ b p)

pub within_bound : (b : Option ℕ) (n : ℕ) → is_within b n ≡ true → IfSome b (λ m. n ≤ m)
within_bound None n e = tt
within_bound (Some m) n e = leb-true n m e

pub within_below : (b : Option ℕ) (m n : ℕ) → is_within b n ≡ true → m ≤ n → is_within b m ≡ true
within_below None m n e h = refl
within_below (Some k) m n e h = le-leb m k (let i : n ≤ k = leb-true n k e in omega arith)

-- the bound after a row lies between the row and the length
pub bound_after_row : (mode : Mode) (b : Option ℕ) (len seq : ℕ) → seq ≤ len → IfSome b (λ m. seq ≤ m)
    → IfSome b (λ m. m ≤ len) → IfSome (bound_after mode b len) (λ m. (seq ≤ m) × (m ≤ len))
bound_after_row Normal None len seq h p q = tt
bound_after_row Normal (Some m) len seq h p q = (p, q)
bound_after_row Longpoll None len seq h p q = (h, omega arith)
bound_after_row Longpoll (Some m) len seq h p q = (p, q)
bound_after_row Continuous None len seq h p q = tt
bound_after_row Continuous (Some m) len seq h p q = (p, q)

-- a feed that stays open after a row has handed fewer rows than its limit
pub open_after_row : (limit : Option ℕ) (rows : ℕ) → status_after limit rows ≡ Open
    → IfSome limit (λ n. rows < max 1 n)
open_after_row None rows e = tt
open_after_row (Some n) rows e = from (cases_Bool _)
  where
    from : ((nat_le n rows ≡ true) ⊎ (nat_le n rows ≡ false)) → rows < max 1 n
    from (inl t) = absurd (let e' = rw t at e in cc)
    from (inr t) = let i : rows < n = leb-false n rows t in omega arith
