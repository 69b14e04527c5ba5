-- An event that finds no memory is an event that takes memory.
use Rattle.std.proofs.Common.{◌≡◌, ◌∙◌, List, refl, sym, ap, subst}
use Rattle.std.specs.Prelude.{Option, Some, None}
use Rattle.hub_feed.specs.Host as feeds
use Rattle.hub_feed.specs.Next.{IsRowDue}
use Rattle.hub_feed.specs.declared.host.FeedId.{FeedId}
use Rattle.hub_database.specs.Hosting.{hosted_of}
use Rattle.hub_model.specs.Current.{current}
use Rattle.hub_model.specs.Entries.{entry_in}
use Rattle.hub_model.specs.Feed.{Feed}
use Rattle.hub_model.specs.Hand.{journal_due}
use Rattle.hub_model.specs.Journal.{Edit}
use Rattle.hub_params.specs.declared.feed_params.FeedParams.{FeedParams}
use Rattle.hub_world.specs.Core.{Core, Shows}
use Rattle.hub_world.specs.Growth.{NeedsMemory, MayFail}
use Rattle.hub_world.specs.declared.event.Event.{Event}
use Rattle.hub_world.specs.declared.event.Event.TheVariants.{Begin, Hand}
use Rattle.hub_world.specs.World.{World}
use Rattle.hub_world.proofs.Standing.{feed_found}
use Rattle.hub_world.proofs.Stepping.{begin_leads}

-- a Hand takes memory where a row is due
pub row_grows : (core : Core) (id : FeedId) → IsRowDue (feeds.due_of_number (hosted_of core.db) id.number)
    → (world : World) → Shows core world → NeedsMemory world (Hand id)
row_grows core id due world h = from (entry_in id.number core.db.feeds) refl due
  where
    from : (maybe_feed : Option Feed) → entry_in id.number core.db.feeds ≡ maybe_feed
        → IsRowDue (feeds.due_if_any (current core.db.journal) maybe_feed)
        → NeedsMemory world (Hand id)
    from None is due = absurd due
    from (Some feed) is due =
        let s = feed_found core world id.number feed h is in
        let same : journal_due world.journal s.0.feed ≡ journal_due core.db.journal feed =
        ap (λ (journal : List Edit). journal_due journal s.0.feed) h.journal ∙ ap (journal_due core.db.journal) s.2 in
        rw s.1 (subst IsRowDue (sym same) due)

-- a Begin takes memory where no refusal stands against the opening
pub begin_grows : (core : Core) (params : FeedParams) → feeds.opening_refusal (hosted_of core.db) ≡ None
    → (world : World) → Shows core world → NeedsMemory world (Begin params)
begin_grows core params free world h =
    let m = (begin_leads core params (record { number = core.db.next_feed }) refl free world h).1 in
    (m.0, m.1)

-- the same of the core of a program's world, as contracts see it
pub fails_as : (core seen : Core) (event : Event) → core ≡ seen → MayFail core event → MayFail seen event
fails_as core seen event same fails = subst (λ (other : Core). MayFail other event) same fails
