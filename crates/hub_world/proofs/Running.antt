-- A run of the program is a run of the definitions.
use Rattle.std.proofs.Common.{◌≡◌, ◌∙◌, ℕ, List, [], ◌∷◌, ◌++◌, false}
use Rattle.std.proofs.Common.{length, refl, sym, ap, subst, arith}
use Rattle.std.specs.Prelude.{Bool, take}
use Rattle.std.proofs.Math.Seq.{take-length}
use Rattle.hub_document.specs.declared.limits.Limits as hub
use Rattle.hub_document.specs.declared.doc.Doc.{Doc}
use Rattle.hub_database.specs.declared.batch.Batch.{Batch}
use Rattle.hub_world.specs.Applied.{CoreStep, event_as_applied, whole_reply, is_stopped, Answers, Applies}
use Rattle.hub_world.specs.Core.{Core, Shows, limits_of}
use Rattle.hub_world.specs.Step.{Step, Run, whole_batch}
use Rattle.hub_world.specs.World.{World, empty}
use Rattle.hub_world.specs.declared.event.Event.{Event}
use Rattle.hub_world.specs.declared.event.Event.TheVariants as event
use Rattle.hub_world.specs.declared.reply.Reply.{Reply}
use Rattle.hub_world.specs.declared.reply.Reply.TheVariants as reply

-- a core without edits and feeds shows an empty world
pub new_shows : (core : Core) (limits : hub.Limits) → core.db.journal ≡ [] → core.db.deleted ≡ false
    → core.db.feeds ≡ [] → core.db.next_feed ≡ 0 → core.db.limits ≡ limits → core.db.life ≡ 1
    → core.lanes ≡ [] → Shows core (empty (limits_of limits))
new_shows core limits journal deleted feeds next_feed same life lanes = record {
  limits = ap limits_of (sym same);
  life = sym life;
  journal = sym journal;
  deleted = sym deleted;
  given = sym next_feed;
  feeds = sym feeds;
  lanes = sym lanes;
  emptied = λ k d l. absurd (omega arith);
}

-- the event as it took place is the whole event, unless a batch stopped
whole_docs : (docs : List Doc) (n : ℕ) → n ≡ length docs → take n docs ≡ docs
whole_docs docs n e = ap (λ (k : ℕ). take k docs) e ∙ take-length docs

happened_whole : (old new : Core) (e : Event) (r : Reply) → Answers old e r new → is_stopped r ≡ false
    → event_as_applied e r ≡ e
happened_whole old new (event.Write docs) (reply.Outcomes batch) a s =
    ap event.Write (whole_docs docs (length batch.replies) (a.whole s))
happened_whole old new (event.Write docs) _ a s = refl
happened_whole old new (event.Interactive docs) (reply.Outcomes batch) a s =
    ap event.Interactive (whole_docs docs (length batch.replies) (a.whole s))
happened_whole old new (event.Interactive docs) _ a s = refl
happened_whole old new (event.Begin params) r a s = refl
happened_whole old new (event.Hand feed) r a s = refl
happened_whole old new (event.Heartbeat feed) r a s = refl
happened_whole old new (event.Expire feed) r a s = refl
happened_whole old new (event.Take feed) r a s = refl
happened_whole old new (event.Finish feed) r a s = refl
happened_whole old new event.Delete r a s = refl

-- the reply to the event as it took place is the reply itself, unless a batch stopped
pub same_batch : (batch : Batch) → batch.stopped ≡ false → whole_batch batch.replies ≡ batch
same_batch batch s = ap (λ (b : Bool). record { replies = batch.replies; stopped = b }) (sym s)

replied_whole : (r : Reply) → is_stopped r ≡ false → whole_reply r ≡ r
replied_whole (reply.Outcomes batch) s = ap reply.Outcomes (same_batch batch s)
replied_whole (reply.Opened feed) s = refl
replied_whole reply.TooManyFeeds s = refl
replied_whole reply.DatabaseDeleted s = refl
replied_whole (reply.Pushed item) s = refl
replied_whole reply.Full s = refl
replied_whole reply.Nothing s = refl
replied_whole reply.Gone s = refl
replied_whole (reply.Took item) s = refl
replied_whole (reply.Left items) s = refl

pub applied_whole : (old new : Core) (event : Event) (reply : Reply) → Applies old event reply new
    → Answers old event reply new → is_stopped reply ≡ false
    → CoreStep old event reply new
applied_whole old new event reply applies answers whole w h =
    let s = applies w h in (
      s.0,
      subst (λ (x : Event). Step w x reply s.0) (happened_whole old new event reply answers whole)
          (subst (λ (x : Reply). Step w (event_as_applied event reply) x s.0) (replied_whole reply whole) s.1),
      s.2,
    )

-- a run with one step more is a run
pub run_more : (old : World) (events : List Event) (replies : List Reply) (mid : World) (e : Event)
    (r : Reply) (new : World)
    → Run old events replies mid → Step mid e r new → Run old (events ++ e ∷ []) (replies ++ r ∷ []) new
run_more old [] [] mid e r new run step = (new, subst (λ (world : World). Step world e r new) run step, refl)
run_more old [] (reply ∷ replies) mid e r new run step = absurd run
run_more old (event ∷ events) [] mid e r new run step = absurd run
run_more old (event ∷ events) (reply ∷ replies) mid e r new run step =
    (run.0, run.1, run_more run.0 events replies mid e r new run.2 step)
