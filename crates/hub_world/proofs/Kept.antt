-- A fact about a subscription, its handed items and its taken items holds after every run, if each change
-- that an event may make to a subscription keeps it.
use Rattle.std.proofs.Common.{◌≡◌, ℕ, zero, suc, List, [], ◌∷◌, ◌++◌, length, map, drop, true}
use Rattle.std.proofs.Common.{◌⊎◌, inl, inr, sym, ◌∙◌, ap, subst, refl, append_assoc, ◌≢◌}
use Rattle.std.specs.Prelude.{Option, Some, None, slice_get, slice_set, option_map, ◌==◌, if◌then◌else◌}
use Rattle.std.proofs.lemmas.Bool.{cases_eq, eq-eqb, ne_eqb}
use Rattle.std.proofs.lemmas.Option.{slice_get-map}
use Rattle.std.proofs.lemmas.List.{append-nil}
use Rattle.hub_model.proofs.Adds.{merge_adds, make_adds, all_add}
use Rattle.hub_database.specs.Edits.{edit_of, draft_of}
use Rattle.hub_feed.specs.declared.host.FeedId.{FeedId}
use Rattle.hub_model.specs.Draft.{draft_result}
use Rattle.hub_model.specs.Feed.{Params, DueNothing, new_feed, feed_after_due}
use Rattle.hub_model.specs.Feed.{after_nothing, is_beat_allowed, expired_feed, finished_feed}
use Rattle.hub_model.specs.Hand.{journal_due, next_change}
use Rattle.hub_model.specs.declared.feeds.Item.TheVariants.{Beat}
use Rattle.hub_model.specs.Journal.{Edit}
use Rattle.hub_model.specs.Outcome.{merge_result}
use Rattle.hub_model.specs.RightlyHanded.{ChangeItem}
use Rattle.hub_params.specs.FeedModel.{params_of}
use Rattle.hub_world.specs.World.{World, Subscription, subscription, lane_of, merges_result}
use Rattle.hub_world.specs.World.{drafts_result, subscription_after_push, world_after_expiry, world_after_take, world_after_finish, ended_subscription}
use Rattle.hub_world.specs.declared.event.Event.{Event}
use Rattle.hub_world.specs.declared.event.Event.TheVariants.{Write, Interactive, Begin, Hand, Heartbeat}
use Rattle.hub_world.specs.declared.event.Event.TheVariants.{Expire, Take, Finish, Delete}
use Rattle.hub_world.specs.declared.reply.Reply.{Reply}
use Rattle.hub_world.specs.declared.reply.Reply.TheVariants.{Outcomes, Opened, TooManyFeeds, DatabaseDeleted}
use Rattle.hub_world.specs.declared.reply.Reply.TheVariants.{Pushed, Full, Nothing, Gone, Took, Left}
use Rattle.hub_world.specs.Step.{Step, Run}
use Rattle.hub_world.specs.Handed.{handed_by, taken_by, items_handed, items_taken}

-- each change of a subscription keeps the fact Q, where h lists the handed items and t the taken ones
pub record IsKept (Q : List Edit → Subscription → List ChangeItem → List ChangeItem → Type 0) : Type 0 where
  pub grows : (journal edits : List Edit) (subscription : Subscription) (h t : List ChangeItem)
      → Q journal subscription h t → Q (journal ++ edits) subscription h t
  pub begins : (journal : List Edit) (params : Params) (life : ℕ)
      → Q journal (record { feed = new_feed params (length journal) life; lane = [] }) [] []
  pub hands : (journal : List Edit) (subscription : Subscription) (h t : List ChangeItem) (item : ChangeItem)
      → next_change journal subscription.feed ≡ Some item → Q journal subscription h t
      → Q journal (subscription_after_push subscription
      (feed_after_due subscription.feed (journal_due journal subscription.feed) (length journal)) item)
      (h ++ item ∷ []) t
  pub beats : (journal : List Edit) (subscription : Subscription) (h t : List ChangeItem)
      → is_beat_allowed subscription.feed ≡ true → Q journal subscription h t
      → Q journal (subscription_after_push subscription subscription.feed Beat) (h ++ Beat ∷ []) t
  pub waits : (journal : List Edit) (subscription : Subscription) (h t : List ChangeItem)
      → journal_due journal subscription.feed ≡ DueNothing
      → Q journal subscription h t
      → Q journal (record subscription { feed = after_nothing subscription.feed (length journal) }) h t
  pub expires : (journal : List Edit) (subscription : Subscription) (h t : List ChangeItem)
      → Q journal subscription h t → Q journal (record subscription { feed = expired_feed subscription.feed }) h t
  pub ends : (journal : List Edit) (subscription : Subscription) (h t : List ChangeItem)
      → Q journal subscription h t → Q journal (ended_subscription subscription) h t
  pub finishes : (journal : List Edit) (subscription : Subscription) (h t : List ChangeItem)
      → Q journal subscription h t → Q journal (record { feed = finished_feed subscription.feed; lane = [] }) h t
  pub takes : (journal : List Edit) (subscription : Subscription) (h t : List ChangeItem) (item : ChangeItem)
      (items : List ChangeItem)
      → subscription.lane ≡ item ∷ items → Q journal subscription h t
      → Q journal (record subscription { lane = items }) h (t ++ item ∷ [])

-- the fact at a feed's number; where there is no such feed, nothing was handed and nothing was taken
abbrev pub In : (List Edit → Subscription → List ChangeItem → List ChangeItem → Type 0) → List Edit
    → Option Subscription → List ChangeItem → List ChangeItem → Type 0
In Q journal None items others = (items ≡ []) × (others ≡ [])
In Q journal (Some subscription) items others = Q journal subscription items others

-- the entry of a list at a place that was written
pub get_set_same : (subscriptions : List Subscription) (f : ℕ) (other t : Subscription)
    → slice_get subscriptions f ≡ Some other → slice_get (slice_set subscriptions f t) f ≡ Some t
get_set_same [] f other t e = absurd (cc)
get_set_same (subscription ∷ subscriptions) zero other t e = refl
get_set_same (subscription ∷ subscriptions) (suc f) other t e = get_set_same subscriptions f other t e

pub get_set_other : (subscriptions : List Subscription) (f g : ℕ) (other : Subscription) → f ≢ g
    → slice_get (slice_set subscriptions f other) g ≡ slice_get subscriptions g
get_set_other [] f g other n = refl
get_set_other (subscription ∷ subscriptions) zero zero other n = absurd (n refl)
get_set_other (subscription ∷ subscriptions) zero (suc g) other n = refl
get_set_other (subscription ∷ subscriptions) (suc f) zero other n = refl
get_set_other (subscription ∷ subscriptions) (suc f) (suc g) other n =
    get_set_other subscriptions f g other (λ e. n (ap suc e))

-- the entries of a list with one more at the back
pub get_push : (subscriptions : List Subscription) (other : Subscription) (g : ℕ)
    → (slice_get (subscriptions ++ other ∷ []) g ≡ slice_get subscriptions g)
    ⊎ ((slice_get subscriptions g ≡ None) × (slice_get (subscriptions ++ other ∷ []) g ≡ Some other))
get_push [] other zero = inr (refl, refl)
get_push [] other (suc g) = inl refl
get_push (subscription ∷ subscriptions) other zero = inl refl
get_push (subscription ∷ subscriptions) other (suc g) = get_push subscriptions other g

module _ (Q : List Edit → Subscription → List ChangeItem → List ChangeItem → Type 0) (k : IsKept Q) where
  -- an event that leaves the feed as it is
  stays : (journal : List Edit) (maybe_subscription : Option Subscription) (items others : List ChangeItem)
      → In Q journal maybe_subscription items others
      → In Q journal maybe_subscription (items ++ []) (others ++ [])
  stays journal maybe_subscription items others i = simp append-nil i

  -- the subscription f changes: an item is handed, an item is taken, or neither
  changes : (journal : List Edit) (subscriptions : List Subscription) (f g : ℕ)
      (subscription s' : Subscription)
      (rest t items others : List ChangeItem)
      → slice_get subscriptions f ≡ Some subscription
      → (Q journal subscription rest t → Q journal s' (rest ++ items) (t ++ others)) →
      In Q journal (slice_get subscriptions g) rest t
      → In Q journal (slice_get (slice_set subscriptions f s') g) (rest ++ (if f == g then items else []))
      (t ++ (if f == g then others else []))
  changes journal subscriptions f g subscription s' rest t items others e q i =
      elim (cases_eq f g) [
        | inl same ↦
            rw (eq-eqb f g same)
            (subst (λ n. In Q journal (slice_get (slice_set subscriptions f s') n) (rest ++ items)
            (t ++ others)) same
            (subst (λ o. In Q journal o (rest ++ items) (t ++ others))
            (sym (get_set_same subscriptions f subscription s' e))
            (q (subst (λ o. In Q journal o rest t) (ap (slice_get subscriptions) (sym same) ∙ e) i))))
        | inr other ↦
            rw (ne_eqb f g other)
            (subst (λ o. In Q journal o (rest ++ []) (t ++ []))
            (sym (get_set_other subscriptions f g s' other))
            (stays journal (slice_get subscriptions g) rest t i))
      ]

  -- the subscription f changes, and nothing is handed or taken
  turns : (journal : List Edit) (subscriptions : List Subscription) (f g : ℕ) (subscription s' : Subscription)
      (items others : List ChangeItem)
      → slice_get subscriptions f ≡ Some subscription
      → (Q journal subscription items others → Q journal s' items others) →
      In Q journal (slice_get subscriptions g) items others
      → In Q journal (slice_get (slice_set subscriptions f s') g) (items ++ []) (others ++ [])
  turns journal subscriptions f g subscription s' items others e q i =
      elim (cases_eq f g) [
        | inl same ↦ subst (λ n. In Q journal (slice_get (slice_set subscriptions f s') n) (items ++ [])
            (others ++ [])) same
            (stays journal _ items others
            (subst (λ o. In Q journal o items others) (sym (get_set_same subscriptions f subscription s' e))
            (q (subst (λ o. In Q journal o items others) (ap (slice_get subscriptions) (sym same) ∙ e) i))))
        | inr other ↦
            subst (λ o. In Q journal o (items ++ []) (others ++ []))
            (sym (get_set_other subscriptions f g s' other))
            (stays journal (slice_get subscriptions g) items others i)
      ]

  -- edits are added to the journal
  more_edits : (journal other_journal : List Edit) (maybe_subscription : Option Subscription)
      (items others : List ChangeItem)
      → ((edits : List Edit) × (other_journal ≡ journal ++ edits))
      → In Q journal maybe_subscription items others
      → In Q other_journal maybe_subscription (items ++ []) (others ++ [])
  more_edits journal other_journal None items others a i = (append-nil items ∙ i.0, append-nil others ∙ i.1)
  more_edits journal other_journal (Some subscription) items others a i =
      simp append-nil (subst (λ L. Q L subscription items others) (sym a.1)
      (k.grows journal a.0 subscription items others i))

  -- a feed is opened
  opens : (journal : List Edit) (subscriptions : List Subscription) (params : Params) (life g : ℕ)
      (items others : List ChangeItem) → In Q journal (slice_get subscriptions g) items others
      → In Q journal
      (slice_get (subscriptions ++ record { feed = new_feed params (length journal) life; lane = [] } ∷ []) g)
      (items ++ []) (others ++ [])
  opens journal subscriptions params life g items others i =
      elim (get_push subscriptions (record { feed = new_feed params (length journal) life; lane = [] }) g) [
        | inl e ↦ subst (λ o. In Q journal o (items ++ []) (others ++ [])) (sym e)
            (stays journal (slice_get subscriptions g) items others i)
        | inr e ↦ let none : In Q journal None items others =
            subst (λ o. In Q journal o items others) e.0 i in
            subst (λ o. In Q journal o (items ++ []) (others ++ [])) (sym e.1)
            (rw (append-nil items ∙ none.0, append-nil others ∙ none.1) (k.begins journal params life))
      ]

  -- the database is deleted, and every open feed ends
  closes : (journal : List Edit) (subscriptions : List Subscription) (g : ℕ) (items others : List ChangeItem)
      → In Q journal (slice_get subscriptions g) items others
      → In Q journal (slice_get (map ended_subscription subscriptions) g) (items ++ []) (others ++ [])
  closes journal subscriptions g items others i =
      subst (λ maybe_subscription. In Q journal maybe_subscription (items ++ []) (others ++ []))
      (sym (slice_get-map ended_subscription subscriptions g)) (each (slice_get subscriptions g) i)
    where
      each : (maybe_subscription : Option Subscription) → In Q journal maybe_subscription items others
          → In Q journal (option_map ended_subscription maybe_subscription) (items ++ []) (others ++ [])
      each None j = (append-nil items ∙ j.0, append-nil others ∙ j.1)
      each (Some s) j = simp append-nil (k.ends journal s items others j)

  expires_at : (world : World) (f g : ℕ) (maybe_subscription : Option Subscription)
      (items others : List ChangeItem)
      → subscription world f ≡ maybe_subscription → In Q world.journal (subscription world g) items others
      → In Q (world_after_expiry maybe_subscription f world).journal
      (subscription (world_after_expiry maybe_subscription f world) g) (items ++ []) (others ++ [])
  expires_at world f g None items others e i = stays world.journal (subscription world g) items others i
  expires_at world f g (Some s) items others e i =
      turns world.journal world.feeds f g s (record s { feed = expired_feed s.feed }) items others e
      (k.expires world.journal s items others) i

  finishes_at : (world : World) (f g : ℕ) (maybe_subscription : Option Subscription)
      (items others : List ChangeItem)
      → subscription world f ≡ maybe_subscription → In Q world.journal (subscription world g) items others
      → In Q (world_after_finish maybe_subscription f world).journal
      (subscription (world_after_finish maybe_subscription f world) g) (items ++ []) (others ++ [])
  finishes_at world f g None items others e i = stays world.journal (subscription world g) items others i
  finishes_at world f g (Some s) items others e i =
      turns world.journal world.feeds f g s (record { feed = finished_feed s.feed; lane = [] }) items others e
      (k.finishes world.journal s items others) i

  takes_from : (world : World) (feed : FeedId) (g : ℕ) (s : Subscription) (lane : List ChangeItem)
      (h t : List ChangeItem)
      → s.lane ≡ lane → subscription world feed.number ≡ Some s
      → In Q world.journal (subscription world g) h t →
      In Q world.journal (slice_get (slice_set world.feeds feed.number (record s { lane = drop 1 lane })) g)
      (h ++ [])
      (t ++ taken_by g (Take feed) (Took (slice_get lane 0)))
  takes_from world feed g s [] h t l e i =
      turns world.journal world.feeds feed.number g s (record s { lane = [] }) h t e
      (λ q. subst (λ (x : List ChangeItem). Q world.journal (record s { lane = x }) h t) l q) i
  takes_from world feed g s (item ∷ items) h t l e i =
      elim (cases_eq feed.number g) [
        | inl same ↦
            let c =
            changes world.journal world.feeds feed.number g s (record s { lane = items }) h t [] (item ∷ []) e
            (λ q. simp append-nil (k.takes world.journal s h t item items l q)) i in
            rw (eq-eqb feed.number g same) (rw (eq-eqb feed.number g same) at c)
        | inr other ↦
            let c =
            changes world.journal world.feeds feed.number g s (record s { lane = items }) h t [] (item ∷ []) e
            (λ q. simp append-nil (k.takes world.journal s h t item items l q)) i in
            rw (ne_eqb feed.number g other) (rw (ne_eqb feed.number g other) at c)
      ]

  takes_at : (world : World) (feed : FeedId) (g : ℕ) (maybe_subscription : Option Subscription)
      (items others : List ChangeItem)
      → subscription world feed.number ≡ maybe_subscription
      → In Q world.journal (subscription world g) items others →
      In Q (world_after_take maybe_subscription feed.number world).journal
      (subscription (world_after_take maybe_subscription feed.number world) g) (items ++ [])
      (others ++ taken_by g (Take feed) (Took (slice_get (lane_of maybe_subscription) 0)))
  takes_at world feed g None items others e i = stays world.journal (subscription world g) items others i
  takes_at world feed g (Some s) items others e i = takes_from world feed g s s.lane items others refl e i

  hands_at : (world : World) (f g : ℕ) (s s' : Subscription) (item : ChangeItem)
      (items others : List ChangeItem)
      → subscription world f ≡ Some s
      → (Q world.journal s items others → Q world.journal s' (items ++ item ∷ []) others)
      → In Q world.journal (subscription world g) items others →
      In Q world.journal (slice_get (slice_set world.feeds f s') g)
      (items ++ (if f == g then item ∷ [] else [])) (others ++ [])
  hands_at world f g s s' item items others e q i =
      let c = changes world.journal world.feeds f g s s' items others (item ∷ []) [] e
      (λ x. simp append-nil (q x)) i in
      elim (cases_eq f g) [
        | inl same ↦ rw (eq-eqb f g same) (rw (eq-eqb f g same) at c)
        | inr other ↦ rw (ne_eqb f g other) (rw (ne_eqb f g other) at c)
      ]

  -- one step keeps the fact at every feed's number
  pub step_keeps : (old : World) (event : Event) (reply : Reply) (new : World) (g : ℕ) (h t : List ChangeItem)
      → Step old event reply new → In Q old.journal (subscription old g) h t →
      In Q new.journal (subscription new g) (h ++ handed_by g event reply) (t ++ taken_by g event reply)
  step_keeps old (Write docs) (Outcomes batch) new g h t m i =
      let edits = map edit_of docs in
      rw m.1
      (more_edits old.journal (merges_result old edits).journal (subscription old g) h t
      (all_add (merge_result old.limits.journal) (merge_adds old.limits.journal) old.deleted old.journal edits) i)
  step_keeps old (Write docs) _ new g h t m i = absurd m
  step_keeps old (Interactive docs) (Outcomes batch) new g h t m i =
      let drafts = map draft_of docs in
      rw m.1
      (more_edits old.journal (drafts_result old drafts).journal (subscription old g) h t
      (all_add (draft_result old.limits.journal) (make_adds old.limits.journal) old.deleted old.journal drafts) i)
  step_keeps old (Interactive docs) _ new g h t m i = absurd m
  step_keeps old (Begin params) (Opened f) new g h t m i =
      rw m.3 (opens old.journal old.feeds (params_of params) old.life g h t i)
  step_keeps old (Begin params) DatabaseDeleted new g h t m i =
      rw m.1 (stays old.journal (subscription old g) h t i)
  step_keeps old (Begin params) TooManyFeeds new g h t m i =
      rw m.2 (stays old.journal (subscription old g) h t i)
  step_keeps old (Begin params) _ new g h t m i = absurd m
  step_keeps old (Hand feed) (Pushed item) new g h t m i =
      rw m.3.1 (hands_at old feed.number g m.0 _ item h t m.1 (k.hands old.journal m.0 h t item m.2) i)
  step_keeps old (Hand feed) Full new g h t m i = rw m.4 (stays old.journal (subscription old g) h t i)
  step_keeps old (Hand feed) Nothing new g h t m i =
      rw m.3 (turns old.journal old.feeds feed.number g m.0 _ h t m.1 (k.waits old.journal m.0 h t m.2) i)
  step_keeps old (Hand feed) Gone new g h t m i = rw m.1 (stays old.journal (subscription old g) h t i)
  step_keeps old (Hand feed) _ new g h t m i = absurd m
  step_keeps old (Heartbeat feed) (Pushed item) new g h t m i =
      rw m.4.1
      (hands_at old feed.number g m.0 _ item h t m.1 (λ q. rw m.3 (k.beats old.journal m.0 h t m.2 q)) i)
  step_keeps old (Heartbeat feed) Full new g h t m i = rw m.4 (stays old.journal (subscription old g) h t i)
  step_keeps old (Heartbeat feed) Nothing new g h t m i =
      rw m.1 (stays old.journal (subscription old g) h t i)
  step_keeps old (Heartbeat feed) _ new g h t m i = absurd m
  step_keeps old (Expire feed) Nothing new g h t m i =
      rw m (expires_at old feed.number g (subscription old feed.number) h t refl i)
  step_keeps old (Expire feed) _ new g h t m i = absurd m
  step_keeps old (Take feed) (Took item) new g h t m i =
      rw (m.1, m.0) (takes_at old feed g (subscription old feed.number) h t refl i)
  step_keeps old (Take feed) _ new g h t m i = absurd m
  step_keeps old (Finish feed) (Left items) new g h t m i =
      rw m.1 (finishes_at old feed.number g (subscription old feed.number) h t refl i)
  step_keeps old (Finish feed) _ new g h t m i = absurd m
  step_keeps old Delete Nothing new g h t m i = rw m.1 (closes old.journal old.feeds g h t i)
  step_keeps old Delete DatabaseDeleted new g h t m i = rw m.1 (stays old.journal (subscription old g) h t i)
  step_keeps old Delete _ new g h t m i = absurd m

  -- a whole run keeps the fact at every feed's number
  pub run_keeps : (old : World) (events : List Event) (replies : List Reply) (new : World)
      (g : ℕ) (items others : List ChangeItem)
      → Run old events replies new → In Q old.journal (subscription old g) items others →
      In Q new.journal (subscription new g) (items ++ items_handed g events replies)
      (others ++ items_taken g events replies)
  run_keeps old [] [] new g items others r i = rw r (stays old.journal (subscription old g) items others i)
  run_keeps old [] (reply ∷ replies) new g items others r i = absurd r
  run_keeps old (event ∷ events) [] new g items others r i = absurd r
  run_keeps old (event ∷ events) (reply ∷ replies) new g items others r i =
      rw (
        ← append_assoc items (handed_by g event reply) (items_handed g events replies),
        ← append_assoc others (taken_by g event reply) (items_taken g events replies),
      )
      (run_keeps r.0 events replies new g (items ++ handed_by g event reply)
      (others ++ taken_by g event reply) r.2
      (step_keeps old event reply r.0 g items others r.1 i))
