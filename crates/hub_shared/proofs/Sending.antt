-- The items that an outbox may be sent, and the result of each step of a host with its outboxes.
use Rattle.std.proofs.Common.{◌≡◌, ℕ, ◌+◌, List, [], ◌∷◌, ◌++◌, true, ◌&&◌, ap}
use Rattle.std.proofs.Common.{refl, sym, ◌∙◌, subst, Option, Some, None, option_map}
use Rattle.std.specs.Prelude.{option_and_then}
use Rattle.std.proofs.lemmas.Option.{none-some}
use Rattle.std.proofs.lemmas.Bool.{cases_Bool}
use Rattle.std.proofs.Common.{inl, inr}
use Rattle.hub_model.specs.Current.{Current}
use Rattle.hub_model.specs.Entries.{entry_in, with_change, without}
use Rattle.hub_model.specs.Feed.{Feed, Params, Due, DueRow, DueEnd, DueNothing, DueGone, new_feed}
use Rattle.hub_model.specs.Feed.{next_due, feed_after_due, after_nothing, is_beat_allowed, expired_feed, is_open, is_waiting_mode}
use Rattle.hub_model.specs.declared.feeds.Item.{Item}
use Rattle.hub_model.specs.declared.feeds.Item.TheVariants.{Beat}
use Rattle.hub_model.proofs.Entries.{own_changed, other_changed, own_without}
use Rattle.hub_model.proofs.Entries.{other_without, own_added, other_added}
use Rattle.hub_params.specs.FeedModel.{params_in, params_of}
use Rattle.hub_params.specs.declared.feed_params.FeedParams.{FeedParams}
use Rattle.hub_feed.specs.Host.{Hosted, with_feeds, next_if_any, next_of_number, item_of_feed, item_of_number, hosted_feed_after_due}
use Rattle.hub_feed.specs.Host.{hosted_after_next, hosted_after_hand, hosted_after_expiry, hosted_after_finish, hosted_after_opening, is_beat_allowed_if_any}
use Rattle.hub_feed.specs.Next.{next_of_due}
use Rattle.hub_feed.specs.declared.next.Next.TheVariants.{Nothing}
use Rattle.hub_params.specs.FeedShown.{params_asked}
use Rattle.hub_shared.specs.Label.{Label, label_of}
use Rattle.hub_shared.specs.Locked.{IsSenderOf, IsServed, AreSendersOf}
use Rattle.hub_shared.specs.Senders.{sends, MaySend}
use Rattle.hub_shared.proofs.Serving.{sender_of, moves, sender_changes, sender_comes, sender_goes}
use Rattle.hub_shared.proofs.Serving.{served_still, stays_served}

-- a step keeps a feed's parameters and its since
step_keeps : (feed : Feed) (due : Due) (len : ℕ)
    → ((feed_after_due feed due len).params ≡ feed.params) × ((feed_after_due feed due len).since ≡ feed.since)
step_keeps feed (DueRow c) len = (refl, refl)
step_keeps feed (DueEnd last_seq) len = (refl, refl)
step_keeps feed DueNothing len = (refl, refl)
step_keeps feed DueGone len = (refl, refl)

expire_keeps : (feed : Feed) → ((expired_feed feed).params ≡ feed.params) × ((expired_feed feed).since ≡ feed.since)
expire_keeps feed = elim (cases_Bool (is_open feed.status && is_waiting_mode feed.params.mode)) [
  | inl t ↦ rw t (refl, refl)
  | inr t ↦ rw t (refl, refl)
]

beat_feed : (maybe_feed : Option Feed) → is_beat_allowed_if_any maybe_feed ≡ true → (feed : Feed)
    × (maybe_feed ≡ Some feed) × (is_beat_allowed feed ≡ true)
beat_feed None e = absurd (cc)
beat_feed (Some feed) e = (feed, refl, e)

nothing_due : {R : Type 0} (show : Current → R) (rows : List Current) (due : Due)
    → Nothing ≡ next_of_due show rows due → due ≡ DueNothing
nothing_due show rows (DueRow c) e = absurd (cc)
nothing_due show rows (DueEnd last_seq) e = absurd (cc)
nothing_due show rows DueNothing e = refl
nothing_due show rows DueGone e = absurd (cc)

-- of an outbox that as a sink took the items sent to it: one more taken item is one more sent item
pub adds_item : {I K : Type 0} (sent items : K → List I) (behind : K → I → K) → ((k : K) → sent k ≡ items k)
    → ((k : K) (item : I) → sent (behind k item) ≡ sent k ++ item ∷ []) → (k : K) (item : I)
    → items (behind k item) ≡ items k ++ item ∷ []
adds_item sent items behind same adds k item =
    sym (same (behind k item)) ∙ (adds k item ∙ ap (λ list. list ++ item ∷ []) (same k))

-- such an outbox allows an item that is right after the items sent to it
pub takes_item : {I K : Type 0} (sent items : K → List I) (allows permits : K → List I → Type 0)
    → ((k : K) → sent k ≡ items k) → ((k : K) (list : List I) → permits k list → allows k list) → (k : K)
    (item : I) → permits k (items k ++ item ∷ []) → allows k (sent k ++ item ∷ [])
takes_item sent items allows permits same may k item right =
    may k (sent k ++ item ∷ [])
    (subst (λ list. permits k (list ++ item ∷ [])) (sym (same k)) right)

-- after an item, the outbox of a feed is the outbox of the feed that moved on
pub sender_behind : {R K : Type 0} (label : K → Label) (sent : K → List (Item R)) (behind : K → Item R → K)
    (stays : (k : K) (item : Item R) → label (behind k item) ≡ label k)
    (adds : (k : K) (item : Item R) → sent (behind k item) ≡ sent k ++ item ∷ [])
    (old_fits new_fits : Feed → List (Item R) → Type 0) (feed other : Feed) (k : K) (item : Item R)
    → (other.params ≡ feed.params) × (other.since ≡ feed.since) → new_fits other (sent k ++ item ∷ [])
    → IsSenderOf label sent old_fits feed k → IsSenderOf label sent new_fits other (behind k item)
sender_behind label sent behind stays adds old_fits new_fits feed other k item same fit is = record {
  asks = ap (λ (l : Label). params_in l.asked) (stays k item) ∙ (is.asks ∙ sym same.0);
  begins = ap (λ (l : Label). l.since) (stays k item) ∙ (is.begins ∙ sym same.1);
  list = subst (λ items. new_fits other items) (sym (adds k item)) fit;
}

-- a feed with its outbox, after the feed changed, alone or with the outbox
module _ {R K : Type 0} (label : K → Label) (sent : K → List (Item R)) (fits : Feed → List (Item R) → Type 0)
    (change : Feed → Feed) where
  both_change : (turn : K → K) (maybe_feed : Option Feed) (s : Option K) (feed : Feed) (x : K)
      → maybe_feed ≡ Some feed → s ≡ Some x → IsSenderOf label sent fits (change feed) (turn x)
      → IsServed label sent fits (option_map change maybe_feed) (option_map turn s)
  both_change turn maybe_feed s feed x is holds mine = rw (is, holds) mine

  one_changes : (maybe_feed : Option Feed) (s : Option K)
      → ((feed : Feed) (x : K) → maybe_feed ≡ Some feed → s ≡ Some x
      → IsSenderOf label sent fits (change feed) x)
      → IsServed label sent fits maybe_feed s → IsServed label sent fits (option_map change maybe_feed) s
  one_changes None None each i = tt
  one_changes None (Some x) each i = absurd i
  one_changes (Some feed) None each i = absurd i
  one_changes (Some feed) (Some x) each i = each feed x refl refl

module _ {S R K : Type 0} (label : K → Label) (sent : K → List (Item R)) (hosted : S → Hosted R)
    (with_hosted : S → Hosted R → S)
    (fits : S → Feed → List (Item R) → Type 0) (right : Params → ℕ → List (Item R) → Type 0)
    (hosts : (s : S) (feeds : List (ℕ × Feed)) (next : ℕ)
    → hosted (with_hosted s (with_feeds (hosted s) feeds next)) ≡ with_feeds (hosted s) feeds next)
    (rightly : (s : S) (feed : Feed) (items : List (Item R)) → fits s feed items
    → right feed.params feed.since items)
    (stays : (s : S) (h : Hosted R) (feed : Feed) (items : List (Item R)) → fits s feed items
    → fits (with_hosted s h) feed items) where
  -- these are the senders of a host
  abbrev pub Serves : S → List (ℕ × K) → Type 0
  Serves s senders = AreSendersOf label sent (fits s) (hosted s) senders

  -- the list is right for a feed of this label
  abbrev pub Allows : Label → List (Item R) → Type 0
  Allows label items = right (params_in label.asked) label.since items

  -- the list is right for the feed of this outbox
  abbrev pub Permits : K → List (Item R) → Type 0
  Permits k items = Allows (label k) items

  -- the state with these feeds
  abbrev moved : S → List (ℕ × Feed) → ℕ → S
  moved s feeds next = with_hosted s (with_feeds (hosted s) feeds next)

  seen : (s : S) (feeds : List (ℕ × Feed)) (next : ℕ) (senders : List (ℕ × K))
      → AreSendersOf label sent (fits (moved s feeds next)) (with_feeds (hosted s) feeds next) senders
      → Serves (moved s feeds next) senders
  seen s feeds next senders d =
      subst (λ (h : Hosted R). AreSendersOf label sent (fits (moved s feeds next)) h senders)
      (sym (hosts s feeds next)) d

  -- a list that fits the feed after a step may be sent
  allowed : (s : S) (feed other : Feed) (x : K) (items : List (Item R)) → other.params ≡ feed.params
      → other.since ≡ feed.since → IsSenderOf label sent (fits s) feed x → fits s other items
      → Permits x items
  allowed s feed other x items p b i h =
      subst (λ (z : Params × ℕ). right z.0 z.1 items)
      (λ k. ((p ∙ sym i.asks) k, (b ∙ sym i.begins) k)) (rightly s other items h)

  due_feed : (h : Hosted R) (maybe_feed : Option Feed) (item : Item R)
      → option_and_then (item_of_feed h) maybe_feed ≡ Some item
      → (feed : Feed) × (maybe_feed ≡ Some feed) × (item_of_feed h feed ≡ Some item)
  due_feed h None item e = absurd (none-some item e)
  due_feed h (Some feed) item e = (feed, refl, e)

  -- an item that is due may be sent, and its feed moves on
  module _
      (handed_fits : (s : S) (feed : Feed) (items : List (Item R)) (item : Item R)
      → item_of_feed (hosted s) feed ≡ Some item → fits s feed items
      → fits s (hosted_feed_after_due (hosted s) feed) (items ++ item ∷ []))
      (s : S) (id : ℕ) (senders : List (ℕ × K)) (item : Item R) (d : Serves s senders)
      (is : item_of_number (hosted s) id ≡ Some item) where
    pub may_give : MaySend Permits sent senders id item
    may_give =
        let at = due_feed (hosted s) (entry_in id (hosted s).feeds) item is in
        let feed = at.0 in
        let x = sender_of label sent (fits s) (entry_in id (hosted s).feeds) (entry_in id senders) feed at.1
        (d.each id) in
        let keeps = step_keeps feed (next_due (hosted s).current feed) (hosted s).length in (
          x.0,
          x.1,
          allowed s feed (hosted_feed_after_due (hosted s) feed) x.0 (sent x.0 ++ item ∷ []) keeps.0 keeps.1 x.2
              (handed_fits s feed (sent x.0) item at.2 x.2.list),
        )

    pub gives : (behind : K → Item R → K) → ((k : K) (item : Item R) → label (behind k item) ≡ label k)
        → ((k : K) (item : Item R) → sent (behind k item) ≡ sent k ++ item ∷ [])
        → Serves (with_hosted s (hosted_after_hand (hosted s) id)) (sends behind id item senders)
    gives behind label_stays sent_adds =
        let h = hosted s in
        let change : Feed → Feed = hosted_feed_after_due h in
        let feeds = with_change id change h.feeds in
        let new = moved s feeds h.next_feed in
        let at = due_feed h (entry_in id h.feeds) item is in
        let feed = at.0 in
        let x =
        sender_of label sent (fits s) (entry_in id h.feeds) (entry_in id senders) feed at.1 (d.each id) in
        let mine =
        sender_behind label sent behind label_stays sent_adds (fits s) (fits new) feed (change feed) x.0 item
        (step_keeps feed (next_due h.current feed) h.length)
        (stays s (with_feeds h feeds h.next_feed) (change feed) (sent x.0 ++ item ∷ [])
        (handed_fits s feed (sent x.0) item at.2 x.2.list)) x.2 in
        let both =
        both_change label sent (fits new) change (λ k. behind k item) (entry_in id h.feeds)
        (entry_in id senders) feed x.0 at.1 x.1 mine in
        seen s feeds h.next_feed (sends behind id item senders)
        (sender_changes label sent (fits s) (fits new) (stays s (with_feeds h feeds h.next_feed)) id h
        (with_feeds h feeds h.next_feed) (λ q n. other_changed id change q n h.feeds) senders
        (λ k. behind k item) refl d
        (subst (λ o. IsServed label sent (fits new) o (option_map (λ k. behind k item) (entry_in id senders)))
        (sym (own_changed id change h.feeds)) both))

  -- a heartbeat that is due may be sent
  module _
      (beat_fits : (s : S) (feed : Feed) (items : List (Item R)) → is_beat_allowed feed ≡ true → fits s feed items
      → fits s feed (items ++ Beat ∷ []))
      (s : S) (id : ℕ) (senders : List (ℕ × K)) (d : Serves s senders)
      (is : is_beat_allowed_if_any (entry_in id (hosted s).feeds) ≡ true) where
    pub may_beat : MaySend Permits sent senders id Beat
    may_beat =
        let at = beat_feed (entry_in id (hosted s).feeds) is in
        let feed = at.0 in
        let x =
        sender_of label sent (fits s) (entry_in id (hosted s).feeds) (entry_in id senders) feed at.1
        (d.each id) in (
          x.0,
          x.1,
          allowed s feed feed x.0 (sent x.0 ++ Beat ∷ []) refl refl x.2
              (beat_fits s feed (sent x.0) at.2 x.2.list),
        )

    pub beats : (behind : K → Item R → K) → ((k : K) (item : Item R) → label (behind k item) ≡ label k)
        → ((k : K) (item : Item R) → sent (behind k item) ≡ sent k ++ item ∷ [])
        → Serves s (sends behind id Beat senders)
    beats behind label_stays sent_adds =
        let h = hosted s in
        let at = beat_feed (entry_in id h.feeds) is in
        let feed = at.0 in
        let x =
        sender_of label sent (fits s) (entry_in id h.feeds) (entry_in id senders) feed at.1 (d.each id) in
        let mine =
        sender_behind label sent behind label_stays sent_adds (fits s) (fits s) feed feed x.0 Beat
        (refl, refl)
        (beat_fits s feed (sent x.0) at.2 x.2.list) x.2 in
        sender_changes label sent (fits s) (fits s) (λ g items fit. fit) id h h (λ q n. refl) senders
        (λ k. behind k Beat) refl d
        (subst (λ (z : Option Feed × Option K).
        IsServed label sent (fits s) z.0 (option_map (λ k. behind k Beat) z.1))
        (λ k. (sym at.1 k, sym x.1 k)) mine)

  -- a feed changes alone, and the items that it handed still fit it
  module _ (s : S) (id : ℕ) (senders : List (ℕ × K)) (d : Serves s senders) where
    changes : (change : Feed → Feed)
        → ((feed : Feed) → ((change feed).params ≡ feed.params) × ((change feed).since ≡ feed.since))
        → ((feed : Feed) (items : List (Item R)) → entry_in id (hosted s).feeds ≡ Some feed
        → fits s feed items → fits s (change feed) items)
        → Serves (moved s (with_change id change (hosted s).feeds) (hosted s).next_feed) senders
    changes change keeps fit =
        let h = hosted s in
        let feeds = with_change id change h.feeds in
        let new = moved s feeds h.next_feed in
        let one = one_changes label sent (fits new) change (entry_in id h.feeds) (entry_in id senders)
        (λ feed x is holds. let mine = mine_of feed x is holds in record {
          asks = mine.asks ∙ sym (keeps feed).0;
          begins = mine.begins ∙ sym (keeps feed).1;
          list =
              stays s (with_feeds h feeds h.next_feed) (change feed) (sent x)
              (fit feed (sent x) is mine.list);
        })
        (stays_served label sent (fits s) (fits new) (stays s (with_feeds h feeds h.next_feed))
        (entry_in id h.feeds)
        (entry_in id senders) (d.each id)) in
        seen s feeds h.next_feed senders
        (moves label sent (fits s) (fits new) (stays s (with_feeds h feeds h.next_feed)) id h
        (with_feeds h feeds h.next_feed) (λ q n. other_changed id change q n h.feeds) senders refl d
        (subst (λ o. IsServed label sent (fits new) o (entry_in id senders))
        (sym (own_changed id change h.feeds)) one))
      where
        mine_of : (feed : Feed) (x : K) → entry_in id (hosted s).feeds ≡ Some feed
            → entry_in id senders ≡ Some x → IsSenderOf label sent (fits s) feed x
        mine_of feed x is holds =
            subst (λ (z : Option Feed × Option (K)). IsServed label sent (fits s) z.0 z.1)
            (λ k. (is k, holds k)) (d.each id)

    -- the feed's time is over
    pub expires : ((s : S) (feed : Feed) (items : List (Item R)) → fits s feed items
        → fits s (expired_feed feed) items) → Serves (with_hosted s (hosted_after_expiry (hosted s) id)) senders
    expires expired_fits = changes expired_feed expire_keeps (λ feed items is fit. expired_fits s feed items fit)

    -- the feed had nothing to hand
    pub rests : ((s : S) (feed : Feed) (items : List (Item R)) → next_due (hosted s).current feed ≡ DueNothing
        → fits s feed items → fits s (after_nothing feed (hosted s).length) items)
        → Nothing ≡ next_of_number (hosted s) id
        → Serves (with_hosted s (hosted_after_next (hosted s) id Nothing)) senders
    rests waiting_fits nothing =
        changes (λ feed. after_nothing feed (hosted s).length) (λ feed. (refl, refl))
        (λ feed items is fit. waiting_fits s feed items
        (nothing_due _ (hosted s).current (next_due (hosted s).current feed)
        (nothing ∙ ap (next_if_any (hosted s)) is))
        fit)

    -- the feed is finished, and its sender is gone
    pub finishes : Serves (with_hosted s (hosted_after_finish (hosted s) id)) (without id senders)
    finishes =
        let h = hosted s in
        let feeds = without id h.feeds in
        seen s feeds h.next_feed (without id senders)
        (sender_goes label sent (fits s) (fits (moved s feeds h.next_feed))
        (stays s (with_feeds h feeds h.next_feed)) id h (with_feeds h feeds h.next_feed)
        (λ q n. other_without id q n h.feeds) senders refl d (own_without id h.feeds))

  -- the label of a feed that begins now allows the empty list
  pub nothing_allowed : (s : S) (params : FeedParams)
      → ((p : Params) → fits s (new_feed p (hosted s).length (hosted s).life) [])
      → Allows (label_of (params_asked params) (hosted s)) []
  nothing_allowed s params begins =
      rightly s (new_feed (params_of params) (hosted s).length (hosted s).life) [] (begins (params_of params))

  -- a new feed comes; its outbox stands at the end, and nothing was sent to it
  pub comes : (s : S) (params : FeedParams) (x : K) (senders : List (ℕ × K))
      → label x ≡ label_of (params_asked params) (hosted s) → sent x ≡ []
      → ((p : Params) → fits s (new_feed p (hosted s).length (hosted s).life) [])
      → entry_in (hosted s).next_feed (hosted s).feeds ≡ None → Serves s senders
      → Serves (with_hosted s (hosted_after_opening (hosted s) (params_of params)))
      (senders ++ ((hosted s).next_feed, x) ∷ [])
  comes s params x senders labelled nothing begins fresh d =
      let h = hosted s in
      let feed = new_feed (params_of params) h.length h.life in
      let feeds = h.feeds ++ (h.next_feed, feed) ∷ [] in
      let new = moved s feeds (h.next_feed + 1) in
      let mine : IsSenderOf label sent (fits new) feed x = record {
        asks = ap (λ (l : Label). params_in l.asked) labelled;
        begins = ap (λ (l : Label). l.since) labelled;
        list =
            subst (λ items. fits new feed items) (sym nothing)
            (stays s (with_feeds h feeds (h.next_feed + 1)) feed [] (begins (params_of params)));
      } in
      seen s feeds (h.next_feed + 1) (senders ++ (h.next_feed, x) ∷ [])
      (sender_comes label sent (fits s) (fits new) (stays s (with_feeds h feeds (h.next_feed + 1)))
      h.next_feed h (with_feeds h feeds (h.next_feed + 1))
      (λ q n. other_added h.next_feed feed q n h.feeds) senders x refl refl d
      (subst (λ o. IsServed label sent (fits new) o (Some x)) (sym (own_added h.next_feed feed h.feeds fresh))
      mine))

  -- an outbox changes, and keeps its label and its sent items
  pub still : (s : S) (id : ℕ) (senders : List (ℕ × K)) (change : K → K)
      → ((k : K) → (label (change k) ≡ label k) × (sent (change k) ≡ sent k)) → Serves s senders
      → Serves s (with_change id change senders)
  still s id senders change same d =
      sender_changes label sent (fits s) (fits s) (λ g items fit. fit) id (hosted s) (hosted s)
      (λ q n. refl) senders change refl d
      (served_still label sent (fits s) change same (entry_in id (hosted s).feeds) (entry_in id senders)
      (d.each id))
