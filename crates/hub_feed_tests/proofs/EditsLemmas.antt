-- A feed that is not beyond the edits stays so.
use Rattle.std.proofs.Common.{◌≡◌, ℕ, ◌≤◌, Bool, ◌&&◌, List, refl, sym, ◌∙◌, subst}
use Rattle.std.proofs.Common.{Option, Some, None, IfSome, find, Contains, arith}
use Rattle.std.proofs.lemmas.Bool.{cond_both}
use Rattle.hub_model.specs.Current.{Current}
use Rattle.hub_model.specs.Feed.{Feed, Status, Open, Ending, Ended, Finished, Due, DueRow}
use Rattle.hub_model.specs.Feed.{DueEnd, DueNothing, DueGone, expired_feed, is_open, is_waiting_mode, next_due}
use Rattle.hub_model.specs.Feed.{due_by_status, due_while_open, is_in_reach, bound_after, feed_after_due}
use Rattle.hub_model.specs.Hand.{item_of_due}
use Rattle.hub_model.specs.declared.feeds.Item.{Item}
use Rattle.hub_model.specs.declared.feeds.Mode.{Mode}
use Rattle.hub_model.specs.declared.feeds.Mode.TheVariants.{Normal, Longpoll, Continuous}
use Rattle.hub_model.proofs.Shown.{find_is}
use Rattle.hub_feed_tests.specs.Edits.{IsWithin}
use Rattle.hub_feed.specs.Next.{next_of_due, feed_after_next}
use Rattle.hub_feed.specs.declared.next.Next.TheVariants.{Give}

-- an item that is given is due (given_due), and its feed has not moved (given_stays)
given_due : {R : Type 0} (show : Current → R) (rows : List Current) (due : Due) (item : Item R)
    → Give item ≡ next_of_due show rows due → item_of_due show rows due ≡ Some item
given_due show rows (DueRow c) item e = cc
given_due show rows (DueEnd last_seq) item e = cc
given_due show rows DueNothing item e = absurd (cc)
given_due show rows DueGone item e = absurd (cc)

given_stays : {R : Type 0} (show : Current → R) (rows : List Current) (due : Due)
    (item : Item R) (feed : Feed) (len : ℕ)
    → Give item ≡ next_of_due show rows due → feed_after_next feed due len ≡ feed
given_stays show rows (DueRow c) item feed len e = refl
given_stays show rows (DueEnd last_seq) item feed len e = refl
given_stays show rows DueNothing item feed len e = absurd (cc)
given_stays show rows DueGone item feed len e = absurd (cc)

pub within_next : (feed : Feed) (due : Due) (len : ℕ) → IsWithin feed len
    → IsWithin (feed_after_next feed due len) len
within_next feed (DueRow c) len h = h
within_next feed (DueEnd last_seq) len h = h
within_next feed DueNothing len h = (omega arith, h.1)
within_next feed DueGone len h = h

bound_within : (mode : Mode) (bound : Option ℕ) (len : ℕ) → IfSome bound (λ b. b ≤ len)
    → IfSome (bound_after mode bound len) (λ b. b ≤ len)
bound_within Normal bound len h = h
bound_within Longpoll None len h = omega arith
bound_within Longpoll (Some bound) len h = h
bound_within Continuous bound len h = h

found_within : (p : Current → Bool) (rows : List Current) (len : ℕ)
    → ((row : Current) → Contains rows row → row.seq ≤ len) → (maybe_row : Option Current)
    → find p rows ≡ maybe_row → IfSome maybe_row (λ row. row.seq ≤ len)
found_within p rows len inside None e = tt
found_within p rows len inside (Some row) e = inside row (find_is p rows row e).1

within_open : (maybe_row : Option Current) (bound : Option ℕ) (feed : Feed) (len : ℕ)
    → IfSome maybe_row (λ row. row.seq ≤ len)
    → IfSome bound (λ b. b ≤ len) → IsWithin feed len
    → IsWithin (feed_after_due feed (due_while_open maybe_row bound) len) len
within_open (Some row) bound feed len found ends h = (found, bound_within feed.params.mode feed.bound len h.1)
within_open None (Some bound) feed len found ends h = (ends, h.1)
within_open None None feed len found ends h = (omega arith, h.1)

within_at : (status : Status) (rows : List Current) (feed : Feed) (len : ℕ)
    → ((row : Current) → Contains rows row → row.seq ≤ len) → IsWithin feed len
    → IsWithin (feed_after_due feed (due_by_status status rows feed) len) len
within_at Open rows feed len inside h =
    within_open (find (is_in_reach feed) rows) feed.bound feed len
    (found_within (is_in_reach feed) rows len inside (find (is_in_reach feed) rows) refl) h.1 h
within_at Ending rows feed len inside h = h
within_at Ended rows feed len inside h = h
within_at Finished rows feed len inside h = h

pub within_due : (rows : List Current) (feed : Feed) (len : ℕ)
    → ((row : Current) → Contains rows row → row.seq ≤ len)
    → IsWithin feed len → IsWithin (feed_after_due feed (next_due rows feed) len) len
within_due rows feed len inside h = within_at feed.status rows feed len inside h

pub within_expire : (feed : Feed) (len : ℕ) → IsWithin feed len → IsWithin (expired_feed feed) len
within_expire feed len h =
    cond_both (is_open feed.status && is_waiting_mode feed.params.mode) (record feed { status = Ending }) feed
    (λ x. IsWithin x len) (λ _. h) (λ _. h)

-- an item that is given may be accepted
pub given_accepted : {R : Type 0} (show : Feed → Current → R) (rows : List Current)
    (item : Item R) (feed other : Feed) (len : ℕ)
    → Give item ≡ next_of_due (show feed) rows (next_due rows feed) → other ≡ feed_after_next feed (next_due rows feed) len
    → item_of_due (show other) rows (next_due rows other) ≡ Some item
given_accepted show rows item feed other len e moved =
    let same : other ≡ feed = moved ∙ given_stays (show feed) rows (next_due rows feed) item feed len e in
    subst (λ (x : Feed). item_of_due (show x) rows (next_due rows x) ≡ Some item) (sym same)
    (given_due (show feed) rows (next_due rows feed) item e)
