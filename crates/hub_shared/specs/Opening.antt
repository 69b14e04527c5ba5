-- How a feed is opened under a lock (own).
use Rattle.std.specs.Prelude.{◌≡◌, ℕ, [], ◌∷◌, ◌++◌, None}
use Rattle.hub_model.specs.Entries.{entry_in}
use Rattle.hub_params.specs.FeedModel.{params_of}
use Rattle.hub_params.specs.FeedShown.{params_asked}
use Rattle.hub_params.specs.declared.feed_params.FeedParams.{FeedParams}
use Rattle.hub_feed.specs.Host.{Hosted, hosted_after_opening, opening_refusal}
use Rattle.hub_shared.specs.Label.{Label, label_of}
use Rattle.hub_shared.specs.Locked.{LockedState}

-- `made end label capacity` is the new outbox with this other end, this label and this capacity. `takes end
-- label` says that `end` is the other end of such an outbox.
module _ {S R K T : Type 0} (hosted : S → Hosted R) (with_hosted : S → Hosted R → S)
    (made : T → Label → ℕ → K) (takes : T → Label → Type 0) where
  -- the state with one feed more, whose outbox is the last, and has this other end
  abbrev pub begun : LockedState S K → T → FeedParams → LockedState S K
  begun l end params =
      let h = hosted l.state in
      record l {
        state = with_hosted l.state (hosted_after_opening h (params_of params));
        senders = l.senders ++ (h.next_feed, made end (label_of (params_asked params) h) l.lane) ∷ [];
      }

  -- A feed of a new number was opened; `end` takes, and the feed's outbox is the other end. The host had no
  -- reason to refuse, and no feed had the number. The label is that of a feed that this host opens now.
  pub record Begins (params : FeedParams) (l : LockedState S K) (number : ℕ) (end : T)
      (new : LockedState S K) : Type 0 where
    pub free : opening_refusal (hosted l.state) ≡ None
    pub fresh : entry_in number (hosted l.state).feeds ≡ None
    pub next : number ≡ (hosted l.state).next_feed
    pub taker : takes end (label_of (params_asked params) (hosted l.state))
    pub step : new ≡ begun l end params
