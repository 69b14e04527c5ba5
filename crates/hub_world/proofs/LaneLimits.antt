-- A lane never holds more items than the limit says.
use Rattle.std.proofs.Common.{◌≡◌, ℕ, ◌≤◌, ◌+◌, List, [], ◌∷◌, ◌++◌, length, map}
use Rattle.std.proofs.Common.{drop, inl, inr, sym, ◌∙◌, ap, subst, refl, arith}
use Rattle.std.specs.Prelude.{Option, Some, None, slice_get, slice_set, option_map}
use Rattle.std.proofs.lemmas.Bool.{cases_eq}
use Rattle.std.proofs.lemmas.Option.{same_Some, none-some, slice_get-map}
use Rattle.std.proofs.lemmas.List.{length_push, length-drop}
use Rattle.hub_model.specs.Feed.{Feed, new_feed, expired_feed, finished_feed}
use Rattle.hub_model.specs.RightlyHanded.{ChangeItem}
use Rattle.hub_params.specs.FeedModel.{params_of}
use Rattle.hub_world.specs.World.{World, Subscription, subscription, with_subscription}
use Rattle.hub_world.specs.World.{empty, subscription_after_push, world_after_expiry, world_after_take, world_after_finish, ended_subscription}
use Rattle.hub_world.specs.declared.event.Event.{Event}
use Rattle.hub_world.specs.declared.event.Event.TheVariants.{Write, Interactive, Begin, Hand, Heartbeat}
use Rattle.hub_world.specs.declared.event.Event.TheVariants.{Expire, Take, Finish, Delete}
use Rattle.hub_world.specs.declared.reply.Reply.{Reply}
use Rattle.hub_world.specs.declared.reply.Reply.TheVariants.{Outcomes, Opened, TooManyFeeds, DatabaseDeleted}
use Rattle.hub_world.specs.declared.reply.Reply.TheVariants.{Pushed, Full, Nothing, Gone, Took, Left}
use Rattle.hub_world.specs.Step.{Step, Run}
use Rattle.hub_world.specs.Laws.{LanesAreLimited}
use Rattle.hub_world.proofs.Kept.{get_set_same, get_set_other, get_push}

-- each of these lanes holds at most n items
abbrev AreLimited : ℕ → List Subscription → Type 0
AreLimited n feeds =
    (g : ℕ) (subscription : Subscription) → slice_get feeds g ≡ Some subscription
    → length subscription.lane ≤ n

-- the world has the limit n, and its lanes are within it
record HasLimit (n : ℕ) (world : World) : Type 0 where
  limit : world.limits.lane ≡ n
  lanes : AreLimited n world.feeds

-- a feed changes, and its lane is within the limit
changed_limited : (n : ℕ) (feeds : List Subscription) (f : ℕ) (subscription t : Subscription)
    → slice_get feeds f ≡ Some subscription → length t.lane ≤ n → AreLimited n feeds
    → AreLimited n (slice_set feeds f t)
changed_limited n feeds f subscription t here fits all g u there =
    elim (cases_eq f g) [
      | inl same ↦
          let is : Some t ≡ Some u =
          sym (get_set_same feeds f subscription t here)
          ∙ (ap (slice_get (slice_set feeds f t)) same ∙ there) in
          subst (λ (x : Subscription). length x.lane ≤ n) (same_Some _ _ is) fits
      | inr other ↦ all g u (sym (get_set_other feeds f g t other) ∙ there)
    ]

-- a feed is opened, with an empty lane
opened_limited : (n : ℕ) (feeds : List Subscription) (feed : Feed) → AreLimited n feeds
    → AreLimited n (feeds ++ record { feed = feed; lane = [] } ∷ [])
opened_limited n feeds feed all g u there =
    elim (get_push feeds (record { feed = feed; lane = [] }) g) [
      | inl old ↦ all g u (sym old ∙ there)
      | inr new ↦
          subst (λ (subscription : Subscription). length subscription.lane ≤ n)
          (same_Some _ _ (sym new.1 ∙ there)) (omega arith)
    ]

-- every open feed ends, and its lane stays
ended_limited : (n : ℕ) (feeds : List Subscription) → AreLimited n feeds → AreLimited n (map ended_subscription feeds)
ended_limited n feeds all g u there =
    from (slice_get feeds g) refl (sym (slice_get-map ended_subscription feeds g) ∙ there)
  where
    from : (maybe_subscription : Option Subscription) → slice_get feeds g ≡ maybe_subscription
        → option_map ended_subscription maybe_subscription ≡ Some u → length u.lane ≤ n
    from None is e = absurd (none-some _ e)
    from (Some s) is e =
        subst (λ (subscription : Subscription). length subscription.lane ≤ n) (same_Some _ _ e) (all g s is)

expired_limited : (n f : ℕ) (world : World) (maybe_subscription : Option Subscription)
    → subscription world f ≡ maybe_subscription → HasLimit n world
    → HasLimit n (world_after_expiry maybe_subscription f world)
expired_limited n f world None is h = h
expired_limited n f world (Some s) is h = record {
  limit = h.limit;
  lanes = changed_limited n world.feeds f s (record s { feed = expired_feed s.feed }) is (h.lanes f s is) h.lanes;
}

finished_limited : (n f : ℕ) (world : World) (maybe_subscription : Option Subscription)
    → subscription world f ≡ maybe_subscription → HasLimit n world
    → HasLimit n (world_after_finish maybe_subscription f world)
finished_limited n f world None is h = h
finished_limited n f world (Some s) is h = record {
  limit = h.limit;
  lanes =
      changed_limited n world.feeds f s (record { feed = finished_feed s.feed; lane = [] }) is (omega arith) h.lanes;
}

taken_limited : (n f : ℕ) (world : World) (maybe_subscription : Option Subscription)
    → subscription world f ≡ maybe_subscription → HasLimit n world
    → HasLimit n (world_after_take maybe_subscription f world)
taken_limited n f world None is h = h
taken_limited n f world (Some s) is h =
    let below : length s.lane ≤ n = h.lanes f s is in
    record {
      limit = h.limit;
      lanes =
          changed_limited n world.feeds f s (record s { lane = drop 1 s.lane }) is
          (omega (arith, below, length-drop 1 s.lane)) h.lanes;
    }

-- an item goes into a lane that has room
pushed_limited : (n f : ℕ) (world : World) (s : Subscription) (feed : Feed) (item : ChangeItem)
    → subscription world f ≡ Some s → length s.lane + 1 ≤ world.limits.lane → HasLimit n world
    → HasLimit n (with_subscription world f (subscription_after_push s feed item))
pushed_limited n f world s feed item is room h =
    record {
      limit = h.limit;
      lanes =
          changed_limited n world.feeds f s (subscription_after_push s feed item) is
          (omega (arith, room, h.limit, length_push s.lane item)) h.lanes;
    }

step_limited : (n : ℕ) (old : World) (event : Event) (reply : Reply) (new : World) → Step old event reply new
    → HasLimit n old → HasLimit n new
step_limited n old (Write docs) (Outcomes batch) new m h =
    rw m.1 (record { limit = h.limit; lanes = h.lanes })
step_limited n old (Write docs) _ new m h = absurd m
step_limited n old (Interactive docs) (Outcomes batch) new m h =
    rw m.1 (record { limit = h.limit; lanes = h.lanes })
step_limited n old (Interactive docs) _ new m h = absurd m
step_limited n old (Begin params) (Opened f) new m h =
    rw m.3
    (record {
      limit = h.limit;
      lanes = opened_limited n old.feeds (new_feed (params_of params) (length old.journal) old.life) h.lanes;
    })
step_limited n old (Begin params) DatabaseDeleted new m h = rw m.1 h
step_limited n old (Begin params) TooManyFeeds new m h = rw m.2 h
step_limited n old (Begin params) _ new m h = absurd m
step_limited n old (Hand feed) (Pushed item) new m h =
    rw m.3.1 (pushed_limited n feed.number old m.0 _ item m.1 (omega (arith, m.3.0)) h)
step_limited n old (Hand feed) Full new m h = rw m.4 h
step_limited n old (Hand feed) Nothing new m h =
    rw m.3
    (record {
      limit = h.limit;
      lanes = changed_limited n old.feeds feed.number m.0 _ m.1 (h.lanes feed.number m.0 m.1) h.lanes;
    })
step_limited n old (Hand feed) Gone new m h = rw m.1 h
step_limited n old (Hand feed) _ new m h = absurd m
step_limited n old (Heartbeat feed) (Pushed item) new m h =
    rw m.4.1 (pushed_limited n feed.number old m.0 _ item m.1 (omega (arith, m.4.0)) h)
step_limited n old (Heartbeat feed) Full new m h = rw m.4 h
step_limited n old (Heartbeat feed) Nothing new m h = rw m.1 h
step_limited n old (Heartbeat feed) _ new m h = absurd m
step_limited n old (Expire feed) Nothing new m h =
    rw m (expired_limited n feed.number old (subscription old feed.number) refl h)
step_limited n old (Expire feed) _ new m h = absurd m
step_limited n old (Take feed) (Took item) new m h =
    rw m.1 (taken_limited n feed.number old (subscription old feed.number) refl h)
step_limited n old (Take feed) _ new m h = absurd m
step_limited n old (Finish feed) (Left items) new m h =
    rw m.1 (finished_limited n feed.number old (subscription old feed.number) refl h)
step_limited n old (Finish feed) _ new m h = absurd m
step_limited n old Delete Nothing new m h =
    rw m.1 (record { limit = h.limit; lanes = ended_limited n old.feeds h.lanes })
step_limited n old Delete DatabaseDeleted new m h = rw m.1 h
step_limited n old Delete _ new m h = absurd m

run_limited : (n : ℕ) (old : World) (events : List Event) (replies : List Reply) (new : World)
    → Run old events replies new → HasLimit n old → HasLimit n new
run_limited n old [] [] new r h = rw r h
run_limited n old [] (reply ∷ replies) new r h = absurd r
run_limited n old (event ∷ events) [] new r h = absurd r
run_limited n old (event ∷ events) (reply ∷ replies) new r h =
    run_limited n r.0 events replies new r.2 (step_limited n old event reply r.0 r.1 h)

no_lanes : (n : ℕ) → AreLimited n []
no_lanes n g u there = absurd (none-some _ there)

pub lanes_are_limited : LanesAreLimited
lanes_are_limited limits events replies w f s r is =
    let h =
    run_limited limits.lane (empty limits) events replies w r
    (record { limit = refl; lanes = no_lanes limits.lane }) in
    h.lanes f s is
