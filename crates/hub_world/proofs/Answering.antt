-- Each event has a step, which `answer` gives, and no other.
use Rattle.std.proofs.Common.{◌≡◌, ℕ, ◌≤◌, List, [], ◌∷◌, length, false, inl, inr, sym, ◌∙◌, ap, subst, refl}
use Rattle.std.specs.Prelude.{Option, Some, None, nat_lt}
use Rattle.std.proofs.lemmas.Bool.{cases_Bool, ltb-true, ltb-false, lt-ltb, le-ltb}
use Rattle.std.proofs.lemmas.Option.{same_Some, none-some}
use Rattle.hub_feed.specs.Host.{due_if_any, is_beat_allowed_if_any}
use Rattle.hub_feed.specs.declared.host.FeedId.{FeedId}
use Rattle.hub_model.specs.Current.{current}
use Rattle.hub_model.specs.Feed.{Feed, Due, DueRow, DueEnd, DueNothing}
use Rattle.hub_model.specs.Feed.{DueGone, feed_after_due, after_row, after_end, is_beat_allowed}
use Rattle.hub_model.specs.Hand.{journal_due, item_of_due, next_change}
use Rattle.hub_model.specs.RightlyHanded.{ChangeItem}
use Rattle.hub_model.specs.Row.{row_of}
use Rattle.hub_params.specs.FeedModel.{params_of}
use Rattle.hub_params.specs.declared.feed_params.FeedParams.{FeedParams}
use Rattle.hub_world.specs.World.{Limits, World, Subscription, empty, has_no_room, subscription}
use Rattle.hub_world.specs.World.{with_feed, with_subscription, subscription_after_push, feed_of}
use Rattle.hub_world.specs.declared.event.Event.{Event}
use Rattle.hub_world.specs.declared.event.Event.TheVariants.{Write, Interactive, Begin, Hand, Heartbeat}
use Rattle.hub_world.specs.declared.event.Event.TheVariants.{Expire, Take, Finish, Delete}
use Rattle.hub_world.specs.declared.reply.Reply.{Reply}
use Rattle.hub_world.specs.declared.reply.Reply.TheVariants.{Outcomes, Opened, TooManyFeeds, DatabaseDeleted}
use Rattle.hub_world.specs.declared.reply.Reply.TheVariants.{Pushed, Full, Nothing, Gone, Took, Left}
use Rattle.hub_world.specs.Step.{Step, Run}
use Rattle.hub_world.proofs.Answer.{Answer, answer_with, push, hand_due, hand}
use Rattle.hub_world.proofs.Answer.{beat, opened, answer, replies_to, after}
use Rattle.hub_world.specs.Handed.{items_handed, items_taken}
use Rattle.hub_world.specs.Laws.{IsAnswered, IsOnlyAnswer, RunsOnce}
use Rattle.hub_world.specs.Worked.{HasReplies, HasHanded, HasTaken}

-- the steps of Hand
push_steps : (world : World) (id : FeedId) (s : Subscription) (feed : Feed) (item : ChangeItem)
    → subscription world id.number ≡ Some s
    → feed_after_due s.feed (journal_due world.journal s.feed) (length world.journal) ≡ feed
    → next_change world.journal s.feed ≡ Some item
    → Step world (Hand id) (push world id.number s feed item).reply (push world id.number s feed item).world
push_steps world id s feed item e p i =
    elim (cases_Bool (nat_lt (length s.lane) world.limits.lane)) [
      | inl t ↦
          rw t (
            s,
            e,
            i,
            (ltb-true _ _ t, ap (λ (x : Feed). with_subscription world id.number (subscription_after_push s x item)) (sym p)),
          )
      | inr t ↦ rw t (s, e, (item, i), ltb-false _ _ t, refl)
    ]

-- the item that is made of a due
abbrev item_at : World → Subscription → Due → Option ChangeItem
item_at world subscription due =
    item_of_due (row_of world.journal subscription.feed.params.style subscription.feed.params.include_docs)
    (current world.journal) due

due_steps : (world : World) (id : FeedId) (s : Subscription) (due : Due)
    → subscription world id.number ≡ Some s → journal_due world.journal s.feed ≡ due
    → Step world (Hand id) (hand_due world id.number s due).reply (hand_due world id.number s due).world
due_steps world id s (DueRow c) e q =
    push_steps world id s _ _ e (ap (λ (due : Due). feed_after_due s.feed due (length world.journal)) q)
    (ap (item_at world s) q)
due_steps world id s (DueEnd last) e q =
    push_steps world id s _ _ e (ap (λ (due : Due). feed_after_due s.feed due (length world.journal)) q)
    (ap (item_at world s) q)
due_steps world id s DueNothing e q = (s, e, q, refl)
due_steps world id s DueGone e q = (ap (λ o. due_if_any (current world.journal) (feed_of o)) e ∙ q, refl)

hand_steps : (world : World) (id : FeedId) (maybe_subscription : Option Subscription)
    → subscription world id.number ≡ maybe_subscription
    → Step world (Hand id) (hand world id.number maybe_subscription).reply
    (hand world id.number maybe_subscription).world
hand_steps world id None e =
    (ap (λ maybe_subscription. due_if_any (current world.journal) (feed_of maybe_subscription)) e, refl)
hand_steps world id (Some s) e = due_steps world id s (journal_due world.journal s.feed) e refl

-- the steps of Heartbeat
beat_steps : (world : World) (id : FeedId) (maybe_subscription : Option Subscription)
    → subscription world id.number ≡ maybe_subscription
    → Step world (Heartbeat id) (beat world id.number maybe_subscription).reply
    (beat world id.number maybe_subscription).world
beat_steps world id None e = (ap (λ maybe_subscription. is_beat_allowed_if_any (feed_of maybe_subscription)) e, refl)
beat_steps world id (Some s) e =
    elim (cases_Bool (is_beat_allowed s.feed)) [
      | inl t ↦ rw t (elim (cases_Bool (nat_lt (length s.lane) world.limits.lane)) [
        | inl u ↦ rw u (s, e, t, refl, (ltb-true _ _ u, refl))
        | inr u ↦ rw u (s, e, t, ltb-false _ _ u, refl)
      ])
      | inr t ↦ rw t (ap (λ maybe_subscription. is_beat_allowed_if_any (feed_of maybe_subscription)) e ∙ t, refl)
    ]

begin_steps : (world : World) (params : FeedParams)
    → Step world (Begin params) (opened world (params_of params)).reply
    (opened world (params_of params)).world
begin_steps world params =
    elim (cases_Bool world.deleted) [
      | inl t ↦ rw t (refl, refl)
      | inr t ↦ rw t (elim (cases_Bool (has_no_room world)) [
        | inl u ↦ rw u (refl, u, refl)
        | inr u ↦ rw u (refl, u, refl, refl)
      ])
    ]

delete_steps : (world : World) → Step world Delete (answer world Delete).reply (answer world Delete).world
delete_steps world =
    elim (cases_Bool world.deleted) [
      | inl t ↦ rw t (refl, refl)
      | inr t ↦ rw t (refl, refl)
    ]

answer_steps : (world : World) (event : Event)
    → Step world event (answer world event).reply (answer world event).world
answer_steps world (Write docs) = (refl, refl)
answer_steps world (Interactive docs) = (refl, refl)
answer_steps world (Begin params) = begin_steps world params
answer_steps world (Hand f) = hand_steps world f (subscription world f.number) refl
answer_steps world (Heartbeat f) = beat_steps world f (subscription world f.number) refl
answer_steps world (Expire f) = refl
answer_steps world (Take f) = (refl, refl)
answer_steps world (Finish f) = (refl, refl)
answer_steps world Delete = delete_steps world

pub is_answered : IsAnswered
is_answered answered event =
    ((answer answered event).reply, (answer answered event).world, answer_steps answered event)

-- ---- each step is the answer

item_pushes : (world : World) (f : ℕ) (subscription : Subscription) (due : Due) (item : ChangeItem)
    → item_at world subscription due ≡ Some item
    → hand_due world f subscription due ≡ push world f subscription
    (feed_after_due subscription.feed due (length world.journal)) item
item_pushes world f subscription (DueRow c) item i =
    ap (push world f subscription (after_row subscription.feed c.seq (length world.journal)))
    (same_Some _ item i)
item_pushes world f subscription (DueEnd last) item i =
    ap (push world f subscription (after_end subscription.feed last)) (same_Some _ item i)
item_pushes world f subscription DueNothing item i = absurd (none-some item i)
item_pushes world f subscription DueGone item i = absurd (none-some item i)

due_full : (world : World) (f : ℕ) (subscription : Subscription) (due : Due) (item : ChangeItem)
    → item_at world subscription due ≡ Some item
    → world.limits.lane ≤ length subscription.lane
    → hand_due world f subscription due ≡ answer_with Full world
due_full world f subscription due item i l =
    item_pushes world f subscription due item i ∙ rw (le-ltb _ _ l) refl

gone_answer : (world : World) (f : ℕ) (maybe_subscription : Option Subscription)
    → due_if_any (current world.journal) (feed_of maybe_subscription) ≡ DueGone
    → hand world f maybe_subscription ≡ answer_with Gone world
gone_answer world f None e = refl
gone_answer world f (Some subscription) e = ap (hand_due world f subscription) e

still_answer : (world : World) (f : ℕ) (maybe_subscription : Option Subscription)
    → is_beat_allowed_if_any (feed_of maybe_subscription) ≡ false
    → beat world f maybe_subscription ≡ answer_with Nothing world
still_answer world f None e = refl
still_answer world f (Some subscription) e = rw e

from_same : (answer other : Answer) (reply : Reply) (new : World) → answer ≡ other → reply ≡ other.reply
    → new ≡ other.world → (reply ≡ answer.reply) × (new ≡ answer.world)
from_same answer other reply new e p q =
    (p ∙ ap (λ (x : Answer). x.reply) (sym e), q ∙ ap (λ (x : Answer). x.world) (sym e))

answers_so : (world new : World) (event : Event) (reply : Reply) → Step world event reply new
    → (reply ≡ (answer world event).reply) × (new ≡ (answer world event).world)
answers_so world new (Write docs) (Outcomes batch) m = (ap Outcomes m.0, m.1)
answers_so world new (Write docs) _ m = absurd m
answers_so world new (Interactive docs) (Outcomes batch) m = (ap Outcomes m.0, m.1)
answers_so world new (Interactive docs) _ m = absurd m
answers_so world new (Begin params) (Opened feed) m =
    from_same (opened world (params_of params))
    (answer_with (Opened (record { number = length world.feeds })) (with_feed world (params_of params))) _ new
    (rw m.0 (rw m.1 refl))
    (ap (λ (n : ℕ). Opened (record { number = n })) m.2) m.3
answers_so world new (Begin params) DatabaseDeleted m =
    from_same (opened world (params_of params)) (answer_with DatabaseDeleted world) _ new
    (rw m.0 refl) refl m.1
answers_so world new (Begin params) TooManyFeeds m =
    from_same (opened world (params_of params)) (answer_with TooManyFeeds world) _ new
    (rw m.0 (rw m.1 refl)) refl m.2
answers_so world new (Begin params) _ m = absurd m
answers_so world new (Hand f) (Pushed item) m =
    from_same (hand world f.number (subscription world f.number))
    (answer_with (Pushed item)
    (with_subscription world f.number
    (subscription_after_push m.0 (feed_after_due m.0.feed (journal_due world.journal m.0.feed) (length world.journal)) item)))
    _ new (ap (hand world f.number) m.1
    ∙ (item_pushes world f.number m.0 _ item m.2 ∙ rw (lt-ltb _ _ m.3.0) refl))
    refl m.3.1
answers_so world new (Hand f) Full m =
    from_same (hand world f.number (subscription world f.number)) (answer_with Full world) _ new
    (ap (hand world f.number) m.1 ∙ due_full world f.number m.0 _ m.2.0 m.2.1 m.3) refl m.4
answers_so world new (Hand f) Nothing m =
    from_same (hand world f.number (subscription world f.number))
    (hand_due world f.number m.0 DueNothing) _ new
    (ap (hand world f.number) m.1 ∙ ap (hand_due world f.number m.0) m.2) refl m.3
answers_so world new (Hand f) Gone m =
    from_same (hand world f.number (subscription world f.number)) (answer_with Gone world) _ new
    (gone_answer world f.number _ m.0) refl m.1
answers_so world new (Hand f) _ m = absurd m
answers_so world new (Heartbeat f) (Pushed item) m =
    from_same (beat world f.number (subscription world f.number))
    (answer_with (Pushed item) (with_subscription world f.number (subscription_after_push m.0 m.0.feed item))) _ new
    (ap (beat world f.number) m.1 ∙ rw (m.2, m.3) (rw (lt-ltb _ _ m.4.0) refl)) refl m.4.1
answers_so world new (Heartbeat f) Full m =
    from_same (beat world f.number (subscription world f.number)) (answer_with Full world) _ new
    (ap (beat world f.number) m.1 ∙ rw m.2 (rw (le-ltb _ _ m.3) refl)) refl m.4
answers_so world new (Heartbeat f) Nothing m =
    from_same (beat world f.number (subscription world f.number)) (answer_with Nothing world) _ new
    (still_answer world f.number _ m.0) refl m.1
answers_so world new (Heartbeat f) _ m = absurd m
answers_so world new (Expire f) Nothing m = (refl, m)
answers_so world new (Expire f) _ m = absurd m
answers_so world new (Take f) (Took item) m = (ap Took m.0, m.1)
answers_so world new (Take f) _ m = absurd m
answers_so world new (Finish f) (Left items) m = (ap Left m.0, m.1)
answers_so world new (Finish f) _ m = absurd m
answers_so world new Delete Nothing m =
    from_same (answer world Delete) (answer_with Nothing _) _ new (rw m.0 refl) refl m.1
answers_so world new Delete DatabaseDeleted m =
    from_same (answer world Delete) (answer_with DatabaseDeleted world) _ new (rw m.0 refl) refl m.1
answers_so world new Delete _ m = absurd m

pub is_only_answer : IsOnlyAnswer
is_only_answer old new other_new event reply other_reply m other =
    let here = answers_so old new event reply m in
    let there = answers_so old other_new event other_reply other in
    (there.0 ∙ sym here.0, there.1 ∙ sym here.1)

-- ---- runs

pub runs : (world : World) (events : List Event)
    → Run world events (replies_to world events) (after world events)
runs world [] = refl
runs world (event ∷ events) =
    ((answer world event).world, answer_steps world event, runs (answer world event).world events)

run_so : (world new : World) (events : List Event) (replies : List Reply) → Run world events replies new
    → (replies ≡ replies_to world events) × (new ≡ after world events)
run_so world new [] [] r = (refl, r)
run_so world new [] (reply ∷ replies) r = absurd r
run_so world new (event ∷ events) [] r = absurd r
run_so world new (event ∷ events) (reply ∷ replies) r =
    let one = answers_so world r.0 event reply r.1 in
    let rest =
    run_so (answer world event).world new events replies
    (subst (λ (other : World). Run other events replies new) one.1 r.2) in (
      ap (λ (x : Reply). x ∷ replies) one.0
          ∙ ap (λ (xs : List Reply). (answer world event).reply ∷ xs) rest.0,
      rest.1,
    )

-- the run of the events is the only one
pub only_run : (old new other_new : World) (events : List Event) (replies other_replies : List Reply)
    → Run old events replies new → Run old events other_replies other_new
    → (other_replies ≡ replies) × (other_new ≡ new)
only_run old new other_new events replies other_replies r other =
    let here = run_so old new events replies r in
    let there = run_so old other_new events other_replies other in
    (there.0 ∙ sym here.0, there.1 ∙ sym here.1)

pub runs_once : RunsOnce
runs_once old events = (
  replies_to old events,
  after old events,
  runs old events,
  λ other_replies other_new other. run_so old other_new events other_replies other,
)

-- ---- the replies of a worked run, by computing them

pub has_replies : (limits : Limits) (events : List Event) (replies : List Reply)
    → replies_to (empty limits) events ≡ replies → HasReplies limits events replies
has_replies limits events replies e = record {
  world = after (empty limits) events;
  run = subst (λ (told : List Reply). Run (empty limits) events told (after (empty limits) events)) e
      (runs (empty limits) events);
}

pub has_handed : (limits : Limits) (events : List Event) (number : ℕ) (items : List ChangeItem)
    → items_handed number events (replies_to (empty limits) events) ≡ items → HasHanded limits events number items
has_handed limits events number items e = record {
  replies = replies_to (empty limits) events;
  has_replies = has_replies limits events (replies_to (empty limits) events) refl;
  items_are = e;
}

pub has_taken : (limits : Limits) (events : List Event) (number : ℕ) (items : List ChangeItem)
    → items_taken number events (replies_to (empty limits) events) ≡ items → HasTaken limits events number items
has_taken limits events number items e = record {
  replies = replies_to (empty limits) events;
  has_replies = has_replies limits events (replies_to (empty limits) events) refl;
  items_are = e;
}
