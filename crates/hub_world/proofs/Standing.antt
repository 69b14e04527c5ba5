-- A core and the world that it shows: the parts of one by the parts of the other, and the changes of both.
use Rattle.std.proofs.Common.{◌≡◌, ℕ, List, [], ◌∷◌, ◌++◌, length, map, drop, Bool, true, false}
use Rattle.std.proofs.Common.{ap, refl, sym, ◌∙◌, ap₂, subst, arith, inl, inr, map-id}
use Rattle.std.specs.Prelude.{Option, Some, None, get_or, if◌then◌else◌, ⊤}
use Rattle.std.proofs.lemmas.Bool.{cases_Bool, both_ways, and_left}
use Rattle.std.proofs.lemmas.List.{length-set, length_push, length-map}
use Rattle.std.proofs.lemmas.List.Elements.{All-map, All-push, All-set}
use Rattle.std.proofs.lemmas.Option.{none-some, same_Some, slice_get_within, get_or_from_slice_get}
use Rattle.hub_database.proofs.ListLemmas.{set_back}
use Rattle.hub_database.specs.Feeds.{deleted_database}
use Rattle.hub_database.specs.Hosting.{hosted_of, with_hosted}
use Rattle.hub_feed.specs.Host.{hosted_after_opening, is_full}
use Rattle.hub_model.specs.Feed.{Feed, Params, Status, Open, Ending, Ended}
use Rattle.hub_model.specs.Feed.{Finished, new_feed, is_open, is_waiting_mode, finished_feed}
use Rattle.hub_model.specs.Journal.{Edit}
use Rattle.hub_model.specs.RightlyHanded.{ChangeItem}
use Rattle.hub_world.specs.Core.{Core, Shows, IsEmptied}
use Rattle.hub_model.specs.Entries.{entry_in, with_change, is_of, without}
use Rattle.hub_model.proofs.Entries.{without_absent}
use Rattle.hub_feed.specs.Feeds.{ended_entry}
use Rattle.hub_world.specs.Lane.{Lanes}
use Rattle.hub_world.specs.World.{World, Subscription, is_finished, open_feeds, has_no_room, subscription}
use Rattle.hub_world.specs.World.{with_subscription, lane_of, with_feed, world_after_expiry, world_after_take, world_after_finish, ended_subscription}
pub use Rattle.hub_model.proofs.Entries.{changed_absent}
use Rattle.hub_world.proofs.StandingLists.{shown, seen, looked, turned, left_out, added}
use Rattle.hub_world.proofs.StandingLists.{counted, ended_stands, all_ended}

-- a change that changes no value leaves the entries as they are
pub changed_same : {A : Type 0} (number : ℕ) (entries : List (ℕ × A))
    → with_change number (λ a. a) entries ≡ entries
changed_same number [] = refl
changed_same {A = A} number (p ∷ entries) = from (is_of number p) (changed_same number entries)
  where
    from : (b : Bool) → with_change number (λ a. a) entries ≡ entries
        → ◌≡◌ {A = List (ℕ × A)}
        ((if b then (p.0, p.1) else p) ∷ with_change number (λ a. a) entries) (p ∷ entries)
    from true e = ap (λ (ps : List (ℕ × A)). p ∷ ps) e
    from false e = ap (λ (ps : List (ℕ × A)). p ∷ ps) e

-- there is no feed, or it is finished
abbrev pub IsGone : Option Subscription → Type 0
IsGone None = ⊤
IsGone (Some subscription) = is_finished subscription.feed.status ≡ true

-- the core with the feed and the lane of this number changed
abbrev pub with_entry : Core → ℕ → (Feed → Feed) → (List ChangeItem → List ChangeItem) → Core
with_entry core f change refill =
    record {
      db = record core.db { feeds = with_change f change core.db.feeds };
      lanes = with_change f refill core.lanes;
    }

-- the core's entry of a feed is the world's feed, unless it is finished
feed_seen : (core : Core) (world : World) (f : ℕ) → Shows core world
    → entry_in f core.db.feeds ≡ seen (λ s. s.feed) (subscription world f)
feed_seen core world f sh =
    ap (entry_in f) (sym sh.feeds) ∙ looked (λ s. s.feed) 0 f f world.feeds (omega arith)

-- the core's entry of its lane, likewise
lane_seen : (core : Core) (world : World) (f : ℕ) → Shows core world
    → entry_in f core.lanes ≡ seen (λ s. s.lane) (subscription world f)
lane_seen core world f sh =
    ap (entry_in f) (sym sh.lanes) ∙ looked (λ s. s.lane) 0 f f world.feeds (omega arith)

-- the world's feed of this number, by the entry that the core has of it
pub feed_found : (core : Core) (world : World) (f : ℕ) (feed : Feed) → Shows core world
    → entry_in f core.db.feeds ≡ Some feed
    → (s : Subscription) × (subscription world f ≡ Some s) × (s.feed ≡ feed)
    × (is_finished s.feed.status ≡ false) × (entry_in f core.lanes ≡ Some s.lane)
feed_found core world f feed sh e =
    from (subscription world f) refl (sym (feed_seen core world f sh) ∙ e) (lane_seen core world f sh)
  where
    from : (maybe_subscription : Option Subscription) → subscription world f ≡ maybe_subscription
        → seen (λ s. s.feed) maybe_subscription ≡ Some feed
        → entry_in f core.lanes ≡ seen (λ s. s.lane) maybe_subscription
        → (s : Subscription) × (subscription world f ≡ Some s) × (s.feed ≡ feed)
        × (is_finished s.feed.status ≡ false) × (entry_in f core.lanes ≡ Some s.lane)
    from None q e l = absurd (none-some feed e)
    from (Some s) q e l =
        elim (cases_Bool (is_finished s.feed.status)) [
          | inl t ↦ absurd (none-some feed (rw t at e))
          | inr t ↦ (s, q, same_Some s.feed feed (rw t at e), t, rw t at l)
        ]

-- the world has no such feed, or a finished one, where the core has no entry
pub feed_gone : (core : Core) (world : World) (f : ℕ) → Shows core world → entry_in f core.db.feeds ≡ None
    → IsGone (subscription world f) × (entry_in f core.lanes ≡ None)
feed_gone core world f sh e =
    from (subscription world f) (sym (feed_seen core world f sh) ∙ e) (lane_seen core world f sh)
  where
    from : (maybe_subscription : Option Subscription) → seen (λ s. s.feed) maybe_subscription ≡ None
        → entry_in f core.lanes ≡ seen (λ s. s.lane) maybe_subscription
        → IsGone maybe_subscription × (entry_in f core.lanes ≡ None)
    from None e l = (tt, l)
    from (Some s) e l =
        elim (cases_Bool (is_finished s.feed.status)) [
          | inl t ↦ (t, rw t at l)
          | inr t ↦ absurd (none-some s.feed (sym (rw t at e)))
        ]

-- a feed that is not finished changes in the core and in the world
pub entry_changed : (core : Core) (world : World) (f : ℕ) (φ : Feed → Feed)
    (ψ : List ChangeItem → List ChangeItem)
    (s : Subscription) (new : Subscription)
    → Shows core world → subscription world f ≡ Some s → is_finished s.feed.status ≡ false
    → is_finished new.feed.status ≡ false
    → φ s.feed ≡ new.feed → ψ s.lane ≡ new.lane
    → Shows (with_entry core f φ ψ) (with_subscription world f new)
entry_changed core world f φ ψ s new sh i stands stands' feed lane = record {
  limits = sh.limits;
  life = sh.life;
  journal = sh.journal;
  deleted = sh.deleted;
  given = length-set world.feeds f new ∙ sh.given;
  feeds =
      turned (λ s. s.feed) 0 f f world.feeds φ s new (omega arith) i stands stands' feed
      ∙ ap (with_change f φ) sh.feeds;
  lanes =
      turned (λ s. s.lane) 0 f f world.feeds ψ s new (omega arith) i stands stands' lane
      ∙ ap (with_change f ψ) sh.lanes;
  emptied = All-set IsEmptied world.feeds f new (λ t. absurd (both_ways _ stands' t)) sh.emptied;
}

-- the journal changes in the core and in the world
pub journal_changed : (core : Core) (world : World) (journal : List Edit) → Shows core world
    → Shows (record core { db = record core.db { journal = journal } }) (record world { journal = journal })
journal_changed core world journal sh = record {
  limits = sh.limits;
  life = sh.life;
  journal = refl;
  deleted = sh.deleted;
  given = sh.given;
  feeds = sh.feeds;
  lanes = sh.lanes;
  emptied = sh.emptied;
}

-- the core has room for one more feed just where the world has
pub room_shown : (core : Core) (world : World) → Shows core world
    → is_full (hosted_of core.db) ≡ has_no_room world
room_shown core world sh =
    let limit : world.limits.feeds ≡ core.db.limits.feeds = ap (λ l. l.feeds) sh.limits in
    let standing_feeds : length core.db.feeds ≡ open_feeds world =
    ap length (sym sh.feeds) ∙ counted (λ s. s.feed) 0 world.feeds in
    rw (sh.given, limit, standing_feeds) refl

-- a feed is opened in the core and in the world
pub feed_opened : (core : Core) (world : World) (params : Params) → Shows core world
    → Shows (record {
      db = with_hosted core.db (hosted_after_opening (hosted_of core.db) params);
      lanes = core.lanes ++ (core.db.next_feed, []) ∷ [];
    }) (with_feed world params)
feed_opened core world params sh =
    let new : Subscription = record { feed = new_feed params (length world.journal) world.life; lane = [] } in
    let begun : new.feed ≡ new_feed params (length core.db.journal) core.db.life =
    ap₂ (λ (journal : List Edit) (life : ℕ). new_feed params (length journal) life) sh.journal sh.life in
    record {
      limits = sh.limits;
      life = sh.life;
      journal = sh.journal;
      deleted = sh.deleted;
      given = omega (arith, length_push world.feeds new, sh.given);
      feeds =
          added (λ s. s.feed) 0 core.db.next_feed world.feeds new (omega (arith, sh.given)) refl
          ∙ ap₂ (λ (fs : List (ℕ × Feed)) (feed : Feed). fs ++ (core.db.next_feed, feed) ∷ []) sh.feeds begun;
      lanes =
          added (λ s. s.lane) 0 core.db.next_feed world.feeds new (omega (arith, sh.given)) refl
          ∙ ap (λ (lanes : Lanes). lanes ++ (core.db.next_feed, []) ∷ []) sh.lanes;
      emptied = All-push IsEmptied world.feeds new sh.emptied (λ t. refl);
    }

-- a feed whose subscriber is gone is finished in the core and in the world
pub feed_finished : (core : Core) (world : World) (f : ℕ) → Shows core world
    → Shows (record { db = record core.db { feeds = without f core.db.feeds }; lanes = without f core.lanes })
    (world_after_finish (subscription world f) f world)
feed_finished core world f sh =
    from (subscription world f) refl (feed_seen core world f sh) (lane_seen core world f sh)
  where
    from : (maybe_subscription : Option Subscription) → subscription world f ≡ maybe_subscription
        → entry_in f core.db.feeds ≡ seen (λ s. s.feed) maybe_subscription
        → entry_in f core.lanes ≡ seen (λ s. s.lane) maybe_subscription
        → Shows (record {
          db = record core.db { feeds = without f core.db.feeds };
          lanes = without f core.lanes;
        })
        (world_after_finish maybe_subscription f world)
    from None q e l = record {
      limits = sh.limits;
      life = sh.life;
      journal = sh.journal;
      deleted = sh.deleted;
      given = sh.given;
      feeds = sh.feeds ∙ sym (without_absent f core.db.feeds e);
      lanes = sh.lanes ∙ sym (without_absent f core.lanes l);
      emptied = sh.emptied;
    }
    from (Some s) q e l =
        let new : Subscription = record { feed = finished_feed s.feed; lane = [] } in
        record {
          limits = sh.limits;
          life = sh.life;
          journal = sh.journal;
          deleted = sh.deleted;
          given = length-set world.feeds f new ∙ sh.given;
          feeds =
              left_out (λ s. s.feed) 0 f f world.feeds s new (omega arith) q refl ∙ ap (without f) sh.feeds;
          lanes =
              left_out (λ s. s.lane) 0 f f world.feeds s new (omega arith) q refl ∙ ap (without f) sh.lanes;
          emptied = All-set IsEmptied world.feeds f new (λ t. refl) sh.emptied;
        }

-- the database is deleted in the core and in the world
pub feeds_deleted : (core : Core) (world : World) → Shows core world
    → Shows (record core { db = deleted_database core.db })
    (record world { deleted = true; feeds = map ended_subscription world.feeds })
feeds_deleted core world sh = record {
  limits = sh.limits;
  life = sh.life;
  journal = sh.journal;
  deleted = refl;
  given = length-map world.feeds ended_subscription ∙ sh.given;
  feeds = all_ended (λ s. s.feed) 0 world.feeds ended_entry (λ m s. refl) ∙ ap (map ended_entry) sh.feeds;
  lanes =
      all_ended (λ s. s.lane) 0 world.feeds (λ p. p) (λ m s. refl)
      ∙ (map-id (shown (λ s. s.lane) 0 world.feeds) ∙ sh.lanes);
  emptied =
      All-map IsEmptied ended_subscription world.feeds
      (λ k d l. λ t. sh.emptied k d l (sym (ended_stands (get_or world.feeds k d)) ∙ t));
}

-- a finished feed is not open
over : (st : Status) → is_finished st ≡ true → is_open st ≡ false
over Open t = sym t
over Ending t = refl
over Ended t = refl
over Finished t = refl

-- the time of a gone feed changes nothing
pub gone_expires : (core : Core) (world : World) (f : ℕ) → Shows core world → IsGone (subscription world f)
    → world_after_expiry (subscription world f) f world ≡ world
gone_expires core world f sh gone = from (subscription world f) refl gone
  where
    from : (maybe_subscription : Option Subscription) → subscription world f ≡ maybe_subscription
        → IsGone maybe_subscription → world_after_expiry maybe_subscription f world ≡ world
    from None q t = refl
    from (Some s) q t =
        rw (and_left (is_open s.feed.status) (is_waiting_mode s.feed.params.mode) (over s.feed.status t))
        (ap (λ (subscriptions : List Subscription). record world { feeds = subscriptions })
        (set_back world.feeds f s q))

-- a take from the lane of a gone feed finds nothing and changes nothing
pub gone_takes : (core : Core) (world : World) (f : ℕ) → Shows core world → IsGone (subscription world f)
    → (lane_of (subscription world f) ≡ []) × (world_after_take (subscription world f) f world ≡ world)
gone_takes core world f sh gone = from (subscription world f) refl gone
  where
    from : (maybe_subscription : Option Subscription) → subscription world f ≡ maybe_subscription
        → IsGone maybe_subscription → (lane_of maybe_subscription ≡ [])
        × (world_after_take maybe_subscription f world ≡ world)
    from None q t = (refl, refl)
    from (Some s) q t =
        let none : s.lane ≡ [] =
        subst IsEmptied (get_or_from_slice_get world.feeds f s s q)
        (sh.emptied f s (slice_get_within world.feeds f s q)) t in
        let same : drop 1 s.lane ≡ s.lane = ap (drop 1) none ∙ sym none in (
          none,
          ap (λ (lane : List ChangeItem). with_subscription world f (record s { lane = lane })) same
              ∙ ap (λ (subscriptions : List Subscription). record world { feeds = subscriptions })
              (set_back world.feeds f s q),
        )
