-- Each change of a core is a step of the worlds that it shows.
use Rattle.std.proofs.Common.{◌≡◌, ◌∙◌, ℕ, ◌<◌, ◌≤◌, List, [], ◌∷◌, ◌++◌, true, false}
use Rattle.std.proofs.Common.{map, length, refl, sym, ap, subst, arith}
use Rattle.std.specs.Prelude.{Option, Some, None, Bool, ◌&&◌, nat_le, slice_get}
use Rattle.std.specs.Prelude.{drop, take, unwrap_or, option_and_then, if◌then◌else◌}
use Rattle.std.proofs.lemmas.Option.{none-some}
use Rattle.hub_model.specs.Current.{Current, current}
use Rattle.hub_model.specs.Feed.{Feed, Status, Open, Ending, Ended, Finished, Due}
use Rattle.hub_model.specs.Feed.{DueRow, DueEnd, DueNothing, DueGone, due_by_status, feed_after_due}
use Rattle.hub_model.specs.Feed.{after_nothing, status_after, is_open, is_waiting_mode, expired_feed, is_beat_allowed}
use Rattle.hub_model.specs.Hand.{next_change, journal_due}
use Rattle.hub_model.specs.Journal.{Edit}
use Rattle.hub_model.specs.Outcome.{Stores, StoresAll, merge_result, stores_all}
use Rattle.hub_model.specs.Draft.{draft_result}
use Rattle.hub_model.specs.Revision.{Revision}
use Rattle.hub_model.specs.RightlyHanded.{ChangeItem}
use Rattle.hub_model.specs.Row.{ChangeRow, row_of}
use Rattle.hub_model.specs.declared.feeds.Item.TheVariants.{Beat}
use Rattle.hub_model.specs.declared.outcomes.Outcome.{Outcome}
use Rattle.hub_model.specs.declared.outcomes.Outcome.TheVariants as outcome
use Rattle.hub_model.specs.declared.outcomes.Fault.TheVariants as fault
use Rattle.hub_document.specs.declared.doc.Doc.{Doc}
use Rattle.hub_feed.specs.Host as feeds
use Rattle.hub_feed.specs.Next.{next_of_due}
use Rattle.hub_feed.specs.declared.host.FeedId.{FeedId}
use Rattle.hub_feed.specs.declared.next.Next.{Next}
use Rattle.hub_feed.specs.declared.next.Next.TheVariants as next
use Rattle.hub_feed.specs.declared.host.OpenFault.TheVariants as open_fault
use Rattle.hub_database.specs.Edits.{edit_of, draft_of, docs_result}
use Rattle.hub_database.specs.Feeds.{deleted_database}
use Rattle.hub_database.specs.Hosting.{hosted_of, with_hosted}
use Rattle.hub_database.specs.declared.batch.Batch.{Batch}
use Rattle.hub_params.specs.FeedModel.{params_of}
use Rattle.hub_params.specs.declared.feed_params.FeedParams.{FeedParams}
use Rattle.hub_world.specs.Applied.{Answers, Applies, CoreStep, IsAnsweredFor, write_of}
use Rattle.hub_world.specs.Core.{Core, Shows}
use Rattle.hub_world.specs.Growth.{MayFail}
use Rattle.hub_model.specs.Entries.{entry_in, with_change, without}
use Rattle.hub_world.specs.declared.event.Event.{Event}
use Rattle.hub_world.specs.declared.event.Event.TheVariants.{Write, Interactive, Begin, Hand, Heartbeat}
use Rattle.hub_world.specs.declared.event.Event.TheVariants.{Expire, Take, Finish, Delete}
use Rattle.hub_world.specs.declared.reply.Reply.{Reply}
use Rattle.hub_world.specs.declared.reply.Reply.TheVariants.{Outcomes, Opened, TooManyFeeds}
use Rattle.hub_world.specs.declared.reply.Reply.TheVariants.{Pushed, Full, Nothing, Gone, Took, Left}
use Rattle.hub_world.specs.Lane.{front, without_front, lane_items}
use Rattle.hub_world.specs.Step.{Step, whole_batch}
use Rattle.hub_world.specs.World.{World, Limits, Subscription, subscription, with_subscription}
use Rattle.hub_world.specs.World.{is_finished, feed_of, lane_of, merges_result, drafts_result, subscription_after_push, world_after_expiry, world_after_take}
use Rattle.hub_world.proofs.Standing.{IsGone, feed_found, feed_gone, entry_changed, changed_same}
use Rattle.hub_world.proofs.Standing.{changed_absent, feed_finished, feed_opened, room_shown}
use Rattle.hub_world.proofs.Standing.{feeds_deleted, journal_changed, gone_expires, gone_takes}

abbrev pub Leads : Core → Event → Reply → Core → Type 0
Leads core event reply other = CoreStep core event reply other

-- ---- writes

stores_map : {A B : Type 0} (store : List Edit → B → Stores) (f : A → B) (deleted : Bool)
    (journal : List Edit) (xs : List A)
    → stores_all (λ K x. store K (f x)) deleted journal xs ≡ stores_all store deleted journal (map f xs)
stores_map store f deleted journal [] = refl
stores_map store f true journal (x ∷ xs) =
    ap (λ (s : StoresAll). record
    { outcomes = outcome.Refused fault.Deleted ∷ s.outcomes; journal = journal })
    (stores_map store f true journal xs)
stores_map store f false journal (x ∷ xs) =
    ap (λ (s : StoresAll). record
    { outcomes = (store journal (f x)).outcome ∷ s.outcomes; journal = s.journal })
    (stores_map store f false (store journal (f x)).journal xs)

write_leads : (core : Core) (docs : List Doc) (outcomes : List (Outcome Revision)) (journal : List Edit)
    → docs_result false core.db.deleted core.db.limits.journal core.db.journal docs
    ≡ record { outcomes = outcomes; journal = journal }
    → Leads core (Write docs) (Outcomes (whole_batch outcomes))
    (record core { db = record core.db { journal = journal } })
write_leads core docs outcomes journal e w h =
    let same : merges_result w (map edit_of docs) ≡ record { outcomes = outcomes; journal = journal } =
    rw (h.limits, h.journal, h.deleted)
    (sym (stores_map (merge_result core.db.limits.journal) edit_of core.db.deleted core.db.journal docs) ∙ e) in (
      record w { journal = journal },
      (
        ap (λ (s : StoresAll). whole_batch s.outcomes) (sym same),
        ap (λ (s : StoresAll). record w { journal = s.journal }) (sym same),
      ),
      journal_changed core w journal h,
    )

make_leads : (core : Core) (docs : List Doc) (outcomes : List (Outcome Revision)) (journal : List Edit)
    → docs_result true core.db.deleted core.db.limits.journal core.db.journal docs
    ≡ record { outcomes = outcomes; journal = journal }
    → Leads core (Interactive docs) (Outcomes (whole_batch outcomes))
    (record core { db = record core.db { journal = journal } })
make_leads core docs outcomes journal e w h =
    let same : drafts_result w (map draft_of docs) ≡ record { outcomes = outcomes; journal = journal } =
    rw (h.limits, h.journal, h.deleted)
    (sym (stores_map (draft_result core.db.limits.journal) draft_of core.db.deleted core.db.journal docs) ∙ e) in (
      record w { journal = journal },
      (
        ap (λ (s : StoresAll). whole_batch s.outcomes) (sym same),
        ap (λ (s : StoresAll). record w { journal = s.journal }) (sym same),
      ),
      journal_changed core w journal h,
    )

-- a write of documents leads from a core to the core with the journal after it, whichever write it is
pub stored_leads : (new_edits : Bool) (core : Core) (docs : List Doc) (outcomes : List (Outcome Revision))
    (journal : List Edit)
    → docs_result new_edits core.db.deleted core.db.limits.journal core.db.journal docs
    ≡ record { outcomes = outcomes; journal = journal }
    → Leads core (write_of new_edits docs) (Outcomes (whole_batch outcomes))
    (record core { db = record core.db { journal = journal } })
stored_leads false core docs outcomes journal e = write_leads core docs outcomes journal e
stored_leads true core docs outcomes journal e = make_leads core docs outcomes journal e

-- a batch that leads so applies: the front of its documents was written, and its reply has their outcomes
pub stored_applies : (new_edits : Bool) (old new : Core) (docs : List Doc) (batch : Batch)
    → Leads old (write_of new_edits (take (length batch.replies) docs))
    (Outcomes (whole_batch batch.replies)) new
    → IsAnsweredFor new_edits old docs batch new
    → Applies old (write_of new_edits docs) (Outcomes batch) new
    × Answers old (write_of new_edits docs) (Outcomes batch) new
stored_applies false old new docs batch l a = (l, a)
stored_applies true old new docs batch l a = (l, a)

-- a write of one document or more takes memory
pub stored_may_fail : (new_edits : Bool) (core : Core) (docs : List Doc) → 0 < length docs
    → MayFail core (write_of new_edits docs)
stored_may_fail false core docs n w h = n
stored_may_fail true core docs n w h = n

-- ---- beginning and ending

refused : (deleted full : Bool)
    → (if deleted then Some open_fault.Deleted else if full then Some open_fault.TooManyFeeds else None)
    ≡ None
    → (deleted ≡ false) × (full ≡ false)
refused true full e = absurd (none-some _ (sym e))
refused false true e = absurd (none-some _ (sym e))
refused false false e = (refl, refl)

pub begin_leads : (core : Core) (params : FeedParams) (id : FeedId) → id.number ≡ core.db.next_feed
    → feeds.opening_refusal (hosted_of core.db) ≡ None
    → Leads core (Begin params) (Opened id)
    (record {
      db = with_hosted core.db (feeds.hosted_after_opening (hosted_of core.db) (params_of params));
      lanes = core.lanes ++ (core.db.next_feed, []) ∷ [];
    })
begin_leads core params id named e w h =
    let free = refused core.db.deleted (feeds.is_full (hosted_of core.db)) e in (
      _,
      (h.deleted ∙ free.0, sym (room_shown core w h) ∙ free.1, named ∙ sym h.given, refl),
      feed_opened core w (params_of params) h,
    )

told_full : (deleted full : Bool)
    → (if deleted then Some open_fault.Deleted else if full then Some open_fault.TooManyFeeds else None)
    ≡ Some open_fault.TooManyFeeds
    → (deleted ≡ false) × (full ≡ true)
told_full true full e = absurd (cc)
told_full false true e = (refl, refl)
told_full false false e = absurd (none-some _ e)

pub begin_full : (core : Core) (params : FeedParams)
    → feeds.opening_refusal (hosted_of core.db) ≡ Some open_fault.TooManyFeeds
    → Leads core (Begin params) TooManyFeeds core
begin_full core params e w h =
    let t = told_full core.db.deleted (feeds.is_full (hosted_of core.db)) e in
    (w, (h.deleted ∙ t.0, sym (room_shown core w h) ∙ t.1, refl), h)

pub finish_leads : (core : Core) (id : FeedId)
    → Leads core (Finish id) (Left (lane_items id.number core.lanes))
    (record {
      db = with_hosted core.db (feeds.hosted_after_finish (hosted_of core.db) id.number);
      lanes = without id.number core.lanes;
    })
finish_leads core id w h =
    (_, (held_lane (entry_in id.number core.db.feeds) refl, refl), feed_finished core w id.number h)
  where
    held_lane : (maybe_feed : Option Feed) → entry_in id.number core.db.feeds ≡ maybe_feed
        → lane_items id.number core.lanes ≡ lane_of (subscription w id.number)
    held_lane None e =
        let g = feed_gone core w id.number h e in
        ap (λ (x : Option (List ChangeItem)). unwrap_or x []) g.1 ∙ sym (gone_takes core w id.number h g.0).0
    held_lane (Some feed) e =
        let s = feed_found core w id.number feed h e in
        ap (λ (x : Option (List ChangeItem)). unwrap_or x []) s.4 ∙ ap lane_of (sym s.1)

pub delete_leads : (core : Core) → core.db.deleted ≡ false
    → Leads core Delete Nothing (record core { db = deleted_database core.db })
delete_leads core e w h = (_, (h.deleted ∙ e, refl), feeds_deleted core w h)

-- ---- due items

stays_open : (limit : Option ℕ) (rows : ℕ) → is_finished (status_after limit rows) ≡ false
stays_open None rows = refl
stays_open (Some limit) rows = from (nat_le limit rows)
  where
    from : (b : Bool) → is_finished (if b then Ending else Open) ≡ false
    from true = refl
    from false = refl

-- a feed that goes on after a due item is not finished
goes_on : (feed : Feed) (due : Due) (len : ℕ) → is_finished feed.status ≡ false
    → is_finished (feed_after_due feed due len).status ≡ false
goes_on feed (DueRow c) len u = stays_open feed.params.limit _
goes_on feed (DueEnd last_seq) len u = refl
goes_on feed DueNothing len u = u
goes_on feed DueGone len u = u

-- the feed to which an item is due
pub due_feed : (journal : List Edit) (maybe_feed : Option Feed) (item : ChangeItem)
    → option_and_then (next_change journal) maybe_feed ≡ Some item → (feed : Feed) × (maybe_feed ≡ Some feed)
    × (next_change journal feed ≡ Some item)
due_feed journal None item e = absurd (none-some item e)
due_feed journal (Some feed) item e = (feed, refl, e)

module _ (core : Core) (f : ℕ) (item : ChangeItem) (ready : feeds.item_of_number (hosted_of core.db) f ≡ Some item)
    (world : World) (h : Shows core world) where
  abbrev pub found : (feed : Feed) × (entry_in f core.db.feeds ≡ Some feed) ×
      (next_change core.db.journal feed ≡ Some item)
  found = due_feed core.db.journal (entry_in f core.db.feeds) item ready

  abbrev pub at : (s : Subscription) × (subscription world f ≡ Some s) × (s.feed ≡ found.0)
      × (is_finished s.feed.status ≡ false) × (entry_in f core.lanes ≡ Some s.lane)
  at = feed_found core world f found.0 h found.1

  due_here : next_change world.journal at.0.feed ≡ Some item
  due_here =
      ap (λ (journal : List Edit). next_change journal at.0.feed) h.journal
      ∙ (ap (next_change core.db.journal) at.2 ∙ found.2)

lane_limit : (core : Core) (world : World) → Shows core world → world.limits.lane ≡ core.db.limits.lane
lane_limit core world h = ap (λ (limits : Limits). limits.lane) h.limits

-- the lane of the feed to which an item is due
pub due_lane : (core : Core) (f : ℕ) (item : ChangeItem) → feeds.item_of_number (hosted_of core.db) f ≡ Some item
    → (world : World) → Shows core world → (items : List ChangeItem) × (entry_in f core.lanes ≡ Some items)
due_lane core f item ready world h = let s = at core f item ready world h in (s.0.lane, s.4)

-- the number of items in a lane that the core has
held_is : (core : Core) (f : ℕ) (items : List ChangeItem) → entry_in f core.lanes ≡ Some items
    → length (lane_items f core.lanes) ≡ length items
held_is core f items is = ap (λ (o : Option (List ChangeItem)). length (unwrap_or o [])) is

-- a feed with its lane once the item that was due to it was handed
abbrev pub handed_over : World → Subscription → ChangeItem → Subscription
handed_over world subscription item =
    subscription_after_push subscription (feed_after_due subscription.feed (journal_due world.journal subscription.feed)
    (length world.journal)) item

-- the world once the item that was due to a feed was handed
pub hand_shows : (core : Core) (id : FeedId) (item : ChangeItem)
    (ready : feeds.item_of_number (hosted_of core.db) id.number ≡ Some item) (world : World) (h : Shows core world)
    → Shows (record {
      db = with_hosted core.db (feeds.hosted_after_hand (hosted_of core.db) id.number);
      lanes = with_change id.number (λ items. items ++ item ∷ []) core.lanes;
    }) (with_subscription world id.number (handed_over world (at core id.number item ready world h).0 item))
hand_shows core id item ready world h =
    let s = at core id.number item ready world h in
    entry_changed core world id.number
    (λ g. feed_after_due g (journal_due core.db.journal g) (length core.db.journal)) (λ items. items ++ item ∷ []) s.0
    (handed_over world s.0 item) h s.1 s.3
    (goes_on s.0.feed (journal_due world.journal s.0.feed) (length world.journal) s.3)
    (ap (λ (journal : List Edit). feed_after_due s.0.feed (journal_due journal s.0.feed) (length journal))
    (sym h.journal)) refl

pub hand_pushed : (core : Core) (id : FeedId) (item : ChangeItem)
    → feeds.item_of_number (hosted_of core.db) id.number ≡ Some item
    → length (lane_items id.number core.lanes) < core.db.limits.lane
    → Leads core (Hand id) (Pushed item)
    (record {
      db = with_hosted core.db (feeds.hosted_after_hand (hosted_of core.db) id.number);
      lanes = with_change id.number (λ items. items ++ item ∷ []) core.lanes;
    })
hand_pushed core id item ready room w h =
    let s = at core id.number item ready w h in
    let holds = held_is core id.number s.0.lane s.4 in (
      _,
      (
        s.0,
        s.1,
        due_here core id.number item ready w h,
        (omega (arith, room, holds, lane_limit core w h), refl),
      ),
      hand_shows core id item ready w h,
    )

pub hand_full : (core : Core) (id : FeedId) (item : ChangeItem)
    → feeds.item_of_number (hosted_of core.db) id.number ≡ Some item
    → core.db.limits.lane ≤ length (lane_items id.number core.lanes) → Leads core (Hand id) Full core
hand_full core id item ready full w h =
    let s = at core id.number item ready w h in
    let holds = held_is core id.number s.0.lane s.4 in (
      w,
      (
        s.0,
        s.1,
        (item, due_here core id.number item ready w h),
        omega (arith, full, holds, lane_limit core w h),
        refl,
      ),
      h,
    )

-- a feed whose next item is Nothing has nothing due
due_nothing : (show : Current → ChangeRow) (rows : List Current) (due : Due)
    → next_of_due show rows due ≡ next.Nothing → due ≡ DueNothing
due_nothing show rows (DueRow c) e = absurd (cc)
due_nothing show rows (DueEnd last_seq) e = absurd (cc)
due_nothing show rows DueNothing e = refl
due_nothing show rows DueGone e = absurd (cc)

due_gone : (show : Current → ChangeRow) (rows : List Current) (due : Due) → next_of_due show rows due ≡ next.Gone
    → due ≡ DueGone
due_gone show rows (DueRow c) e = absurd (cc)
due_gone show rows (DueEnd last_seq) e = absurd (cc)
due_gone show rows DueNothing e = absurd (cc)
due_gone show rows DueGone e = refl

pub hand_nothing : (core : Core) (id : FeedId) → next.Nothing ≡ feeds.next_of_number (hosted_of core.db) id.number
    → Leads core (Hand id) Nothing
    (record core {
      db = with_hosted core.db
          (feeds.hosted_after_next (hosted_of core.db) id.number next.Nothing);
    })
hand_nothing core id e w h = from (entry_in id.number core.db.feeds) refl
  where
    from : (maybe_feed : Option Feed) → entry_in id.number core.db.feeds ≡ maybe_feed
        → (new : World) × Step w (Hand id) Nothing new
        × Shows
        (record core {
          db = with_hosted core.db
              (feeds.hosted_after_next (hosted_of core.db) id.number next.Nothing);
        }) new
    from None q = absurd (nothing_gone (e ∙ ap (feeds.next_if_any (hosted_of core.db)) q))
      where
        nothing_gone : ◌≡◌ {A = Next ChangeRow} next.Nothing next.Gone → ⊥
        nothing_gone x = cc
    from (Some feed) q =
        let s = feed_found core w id.number feed h q in
        let none : journal_due core.db.journal feed ≡ DueNothing =
        due_nothing (row_of core.db.journal feed.params.style feed.params.include_docs)
        (current core.db.journal)
        (journal_due core.db.journal feed) (sym (e ∙ ap (feeds.next_if_any (hosted_of core.db)) q)) in
        let here : journal_due w.journal s.0.feed ≡ DueNothing =
        ap (λ (journal : List Edit). journal_due journal s.0.feed) h.journal
        ∙ (ap (journal_due core.db.journal) s.2 ∙ none) in
        let shown =
        entry_changed core w id.number (λ g. after_nothing g (length core.db.journal))
        (λ items. items) s.0 (record s.0 { feed = after_nothing s.0.feed (length w.journal) }) h s.1 s.3 s.3
        (ap (λ (journal : List Edit). after_nothing s.0.feed (length journal)) (sym h.journal)) refl in (
          _,
          (s.0, s.1, here, refl),
          subst (λ ls. Shows (record {
            db = with_hosted core.db (feeds.hosted_after_next (hosted_of core.db) id.number next.Nothing);
            lanes = ls;
          })
              (with_subscription w id.number
              (record s.0 { feed = after_nothing s.0.feed (length w.journal) })))
              (changed_same id.number core.lanes) shown,
        )

-- to a feed that is gone neither an item nor a heartbeat is due
gone_due : (world : World) (maybe_subscription : Option Subscription) → IsGone maybe_subscription
    → feeds.due_if_any (current world.journal) (feed_of maybe_subscription) ≡ DueGone
gone_due world None g = refl
gone_due world (Some subscription) g = from subscription.feed.status g
  where
    from : (status : Status) → is_finished status ≡ true
        → due_by_status status (current world.journal) subscription.feed ≡ DueGone
    from Open u = absurd (cc)
    from Ending u = absurd (cc)
    from Ended u = absurd (cc)
    from Finished u = refl

gone_still : (maybe_subscription : Option Subscription) → IsGone maybe_subscription
    → feeds.is_beat_allowed_if_any (feed_of maybe_subscription) ≡ false
gone_still None g = refl
gone_still (Some subscription) g = from subscription.feed.status refl g
  where
    from : (status : Status) → subscription.feed.status ≡ status → is_finished status ≡ true
        → is_beat_allowed subscription.feed ≡ false
    from Open q u = absurd (cc)
    from Ending q u = absurd (cc)
    from Ended q u = absurd (cc)
    from Finished q u = rw q refl

pub hand_gone : (core : Core) (id : FeedId) → next.Gone ≡ feeds.next_of_number (hosted_of core.db) id.number
    → Leads core (Hand id) Gone core
hand_gone core id e w h = from (entry_in id.number core.db.feeds) refl
  where
    from : (maybe_feed : Option Feed) → entry_in id.number core.db.feeds ≡ maybe_feed
        → (new : World) × Step w (Hand id) Gone new × Shows core new
    from None q = (w, (gone_due w (subscription w id.number) (feed_gone core w id.number h q).0, refl), h)
    from (Some feed) q =
        let s = feed_found core w id.number feed h q in
        let gone : journal_due core.db.journal feed ≡ DueGone =
        due_gone (row_of core.db.journal feed.params.style feed.params.include_docs) (current core.db.journal)
        (journal_due core.db.journal feed) (sym (e ∙ ap (feeds.next_if_any (hosted_of core.db)) q)) in (
          w,
          (
            ap (λ maybe_feed. feeds.due_if_any (current w.journal) (feed_of maybe_feed)) s.1
                ∙ (ap (λ (journal : List Edit). journal_due journal s.0.feed) h.journal
                ∙ (ap (journal_due core.db.journal) s.2 ∙ gone)),
            refl,
          ),
          h,
        )

-- ---- heartbeats

pub beating : (maybe_feed : Option Feed) → feeds.is_beat_allowed_if_any maybe_feed ≡ true → (feed : Feed)
    × (maybe_feed ≡ Some feed) × (is_beat_allowed feed ≡ true)
beating None e = absurd (cc)
beating (Some feed) e = (feed, refl, e)

-- the lane of the feed to which a heartbeat is due
pub beat_lane : (core : Core) (f : ℕ) → feeds.is_beat_allowed_if_any (entry_in f core.db.feeds) ≡ true → (world : World)
    → Shows core world → (items : List ChangeItem) × (entry_in f core.lanes ≡ Some items)
beat_lane core f beats world h =
    let b = beating (entry_in f core.db.feeds) beats in
    let s = feed_found core world f b.0 h b.1 in
    (s.0.lane, s.4)

-- the feed to which a heartbeat is due, with its lane
abbrev pub beaten : (core : Core) (f : ℕ) → feeds.is_beat_allowed_if_any (entry_in f core.db.feeds) ≡ true
    → (world : World) → Shows core world
    → (s : Subscription) × (subscription world f ≡ Some s) × (is_beat_allowed s.feed ≡ true)
    × (is_finished s.feed.status ≡ false) × (entry_in f core.lanes ≡ Some s.lane)
beaten core f beats world h =
    let b = beating (entry_in f core.db.feeds) beats in
    let s = feed_found core world f b.0 h b.1 in
    (s.0, s.1, ap is_beat_allowed s.2 ∙ b.2, s.3, s.4)

-- the world once a heartbeat was handed
pub beat_shows : (core : Core) (id : FeedId)
    (beats : feeds.is_beat_allowed_if_any (entry_in id.number core.db.feeds) ≡ true)
    (world : World) (h : Shows core world)
    → Shows (record core { lanes = with_change id.number (λ items. items ++ Beat ∷ []) core.lanes })
    (with_subscription world id.number
    (subscription_after_push (beaten core id.number beats world h).0 (beaten core id.number beats world h).0.feed Beat))
beat_shows core id beats world h =
    let s = beaten core id.number beats world h in
    let shown =
    entry_changed core world id.number (λ g. g) (λ items. items ++ Beat ∷ []) s.0
    (subscription_after_push s.0 s.0.feed Beat) h s.1 s.3 s.3 refl refl in
    subst (λ fs. Shows (record {
      db = record core.db { feeds = fs };
      lanes = with_change id.number (λ items. items ++ Beat ∷ []) core.lanes;
    })
    (with_subscription world id.number (subscription_after_push s.0 s.0.feed Beat)))
    (changed_same id.number core.db.feeds) shown

pub beat_pushed : (core : Core) (id : FeedId) → feeds.is_beat_allowed_if_any (entry_in id.number core.db.feeds) ≡ true
    → length (lane_items id.number core.lanes) < core.db.limits.lane
    → Leads core (Heartbeat id) (Pushed Beat)
    (record core { lanes = with_change id.number (λ items. items ++ Beat ∷ []) core.lanes })
beat_pushed core id beats room w h =
    let s = beaten core id.number beats w h in
    let holds = held_is core id.number s.0.lane s.4 in (
      _,
      (s.0, s.1, s.2, refl, (omega (arith, room, holds, lane_limit core w h), refl)),
      beat_shows core id beats w h,
    )

pub beat_full : (core : Core) (id : FeedId) → feeds.is_beat_allowed_if_any (entry_in id.number core.db.feeds) ≡ true
    → core.db.limits.lane ≤ length (lane_items id.number core.lanes) → Leads core (Heartbeat id) Full core
beat_full core id beats full w h =
    let b = beating (entry_in id.number core.db.feeds) beats in
    let s = feed_found core w id.number b.0 h b.1 in
    let holds = held_is core id.number s.0.lane s.4 in
    (w, (s.0, s.1, ap is_beat_allowed s.2 ∙ b.2, omega (arith, full, holds, lane_limit core w h), refl), h)

pub beat_nothing : (core : Core) (id : FeedId) → feeds.is_beat_allowed_if_any (entry_in id.number core.db.feeds) ≡ false
    → Leads core (Heartbeat id) Nothing core
beat_nothing core id e w h = from (entry_in id.number core.db.feeds) refl
  where
    from : (maybe_feed : Option Feed) → entry_in id.number core.db.feeds ≡ maybe_feed
        → (new : World) × Step w (Heartbeat id) Nothing new × Shows core new
    from None q = (w, (gone_still (subscription w id.number) (feed_gone core w id.number h q).0, refl), h)
    from (Some feed) q =
        let s = feed_found core w id.number feed h q in (
          w,
          (
            ap (λ maybe_feed. feeds.is_beat_allowed_if_any (feed_of maybe_feed)) s.1
                ∙ (ap is_beat_allowed s.2 ∙ (ap feeds.is_beat_allowed_if_any (sym q) ∙ e)),
            refl,
          ),
          h,
        )

-- ---- expiry and takes

expire_on : (feed : Feed) → is_finished feed.status ≡ false → is_finished (expired_feed feed).status ≡ false
expire_on feed u = from (is_open feed.status && is_waiting_mode feed.params.mode)
  where
    from : (b : Bool) → is_finished (if b then record feed { status = Ending } else feed).status ≡ false
    from true = refl
    from false = u

pub expire_leads : (core : Core) (id : FeedId)
    → Leads core (Expire id) Nothing
    (record core { db = with_hosted core.db (feeds.hosted_after_expiry (hosted_of core.db) id.number) })
expire_leads core id w h = from (entry_in id.number core.db.feeds) refl
  where
    from : (maybe_feed : Option Feed) → entry_in id.number core.db.feeds ≡ maybe_feed
        → (new : World) × Step w (Expire id) Nothing new
        × Shows (record core { db = with_hosted core.db (feeds.hosted_after_expiry (hosted_of core.db) id.number) }) new
    from None q = (
      w,
      sym (gone_expires core w id.number h (feed_gone core w id.number h q).0),
      subst (λ fs. Shows (record { db = record core.db { feeds = fs }; lanes = core.lanes }) w)
          (sym (changed_absent id.number expired_feed core.db.feeds q)) h,
    )
    from (Some feed) q =
        let s = feed_found core w id.number feed h q in
        let shown =
        entry_changed core w id.number expired_feed (λ items. items) s.0
        (record s.0 { feed = expired_feed s.0.feed }) h s.1 s.3
        (expire_on s.0.feed s.3) refl refl in (
          _,
          ap (λ maybe_feed. world_after_expiry maybe_feed id.number w) (sym s.1),
          subst (λ ls. Shows
              (record { db = with_hosted core.db (feeds.hosted_after_expiry (hosted_of core.db) id.number); lanes = ls })
              (with_subscription w id.number (record s.0 { feed = expired_feed s.0.feed })))
              (changed_same id.number core.lanes) shown,
        )

pub take_leads : (core : Core) (id : FeedId)
    → Leads core (Take id) (Took (front id.number core.lanes))
    (record core { lanes = without_front id.number core.lanes })
take_leads core id w h = from (entry_in id.number core.db.feeds) refl
  where
    from : (maybe_feed : Option Feed) → entry_in id.number core.db.feeds ≡ maybe_feed
        → (new : World) × Step w (Take id) (Took (front id.number core.lanes)) new
        × Shows (record core { lanes = without_front id.number core.lanes }) new
    from None q =
        let g = feed_gone core w id.number h q in
        let t = gone_takes core w id.number h g.0 in (
          w,
          (
            ap (option_and_then (λ (items : List ChangeItem). slice_get items 0)) g.1
                ∙ ap (λ (items : List ChangeItem). slice_get items 0) (sym t.0),
            sym t.1,
          ),
          subst (λ ls. Shows (record { db = core.db; lanes = ls }) w)
              (sym (changed_absent id.number (drop 1) core.lanes g.1)) h,
        )
    from (Some feed) q =
        let s = feed_found core w id.number feed h q in
        let shown =
        entry_changed core w id.number (λ g. g) (drop 1) s.0
        (record s.0 { lane = drop 1 s.0.lane }) h s.1 s.3 s.3 refl refl in (
          _,
          (
            ap (option_and_then (λ (items : List ChangeItem). slice_get items 0)) s.4
                ∙ ap (λ maybe_feed. slice_get (lane_of maybe_feed) 0) (sym s.1),
            ap (λ maybe_feed. world_after_take maybe_feed id.number w) (sym s.1),
          ),
          subst (λ fs. Shows
              (record { db = record core.db { feeds = fs }; lanes = without_front id.number core.lanes })
              (with_subscription w id.number (record s.0 { lane = drop 1 s.0.lane })))
              (changed_same id.number core.db.feeds) shown,
        )

-- ---- cores that are the same, and that show some world

pub from_same : (old now new : Core) (event : Event) (reply : Reply) → old ≡ now → Leads old event reply new
    → Leads now event reply new
from_same old now new event reply e l = subst (λ c. Leads c event reply new) e l

pub to_same : (old new now : Core) (event : Event) (reply : Reply) → new ≡ now → Leads old event reply new
    → Leads old event reply now
to_same old new now event reply e l = subst (λ c. Leads old event reply c) e l
