-- A list goes on fitting its feed, and the taken items are the handed items, in order.
use Rattle.std.proofs.Common.{◌≡◌, ℕ, List, [], ◌∷◌, ◌++◌, false, sym, ◌∙◌}
use Rattle.std.proofs.Common.{ap, subst, refl, append_assoc, inl, inr, ◌&&◌}
use Rattle.std.specs.Prelude.{Option, Some, None}
use Rattle.std.proofs.lemmas.List.{append-nil}
use Rattle.std.proofs.lemmas.Option.{none-some}
use Rattle.std.proofs.lemmas.Bool.{cases_Bool, and_parts}
use Rattle.hub_model.specs.Feed.{Status, Open, Ending, Ended, Finished, Feed, is_open, is_waiting_mode, expired_feed, end}
use Rattle.hub_model.specs.Hand.{next_change}
use Rattle.hub_model.specs.declared.feeds.Item.TheVariants.{Beat}
use Rattle.hub_model.specs.Journal.{Edit}
use Rattle.hub_model.specs.RightlyHanded.{ChangeItem, Fits}
use Rattle.hub_model.specs.RowKind.{change_rows}
use Rattle.hub_world.specs.Laws.{IsRight, FitsIn, TakesInOrder, HoldsTheRest, HandsRightly, KeepsFitting}
use Rattle.hub_world.specs.World.{Limits, World, Subscription, subscription, empty, is_finished}
use Rattle.hub_world.specs.declared.event.Event.{Event}
use Rattle.hub_world.specs.declared.reply.Reply.{Reply}
use Rattle.hub_world.specs.Step.{Run}
use Rattle.hub_world.specs.Handed.{items_handed, items_taken, IsPrefixOf}
use Rattle.hub_model.proofs.Fitting.{fits_grows, fits_begin, fits_handed, fits_beat}
use Rattle.hub_model.proofs.Fitting.{fits_nothing, fits_expire, fits_close, fits_finish}
use Rattle.hub_world.proofs.StandingLists.{open_stands}
use Rattle.hub_world.proofs.Kept.{IsKept, In, step_keeps, run_keeps}

-- the fact that the handed items fit the feed
FitsAlone : List Edit → Subscription → List ChangeItem → List ChangeItem → Type 0
FitsAlone journal subscription items others = Fits change_rows journal subscription.feed items

fitting_kept : IsKept FitsAlone
unfolding FitsAlone
fitting_kept = record {
  grows = λ J es s h t q. fits_grows change_rows J es s.feed h q;
  begins = λ J params life. fits_begin change_rows J params life;
  hands = λ J s h t item d q. fits_handed change_rows J s.feed h item d q;
  beats = λ J s h t d q. fits_beat change_rows J s.feed h d q;
  waits = λ J s h t d q. fits_nothing change_rows J s.feed h d q;
  expires = λ J s h t q. fits_expire change_rows J s.feed h q;
  ends = λ J s h t q. fits_close change_rows J s.feed h q;
  finishes = λ J s h t q. fits_finish change_rows J s.feed h q;
  takes = λ J s h t item items e q. q;
}

to_fits : (journal : List Edit) (maybe_subscription : Option Subscription) (items others : List ChangeItem)
    → In FitsAlone journal maybe_subscription items others → FitsIn journal maybe_subscription items
unfolding FitsAlone
to_fits J None h t i = i.0
to_fits J (Some s) h t i = i

from_fits : (journal : List Edit) (maybe_subscription : Option Subscription) (items : List ChangeItem)
    → FitsIn journal maybe_subscription items → In FitsAlone journal maybe_subscription items []
unfolding FitsAlone
from_fits J None h i = (i, refl)
from_fits J (Some s) h i = i

pub keeps_fitting : KeepsFitting
keeps_fitting old new event reply f items m i =
    to_fits new.journal (subscription new f) _ _
    (step_keeps FitsAlone fitting_kept old event reply new f items [] m
    (from_fits old.journal (subscription old f) items i))

-- the taken items, then the lane's, then the items that a finished feed dropped, are the handed items
record Told (journal : List Edit) (subscription : Subscription)
    (items others : List ChangeItem) : Type 0 where
  pub fits : Fits change_rows journal subscription.feed items
  pub dropped : List ChangeItem
  pub in_order : others ++ (subscription.lane ++ dropped) ≡ items
  pub none : is_finished subscription.feed.status ≡ false → dropped ≡ []

-- a feed that has an item due is not finished
due_unfinished : (journal : List Edit) (subscription : Subscription) (item : ChangeItem)
    → next_change journal subscription.feed ≡ Some item → is_finished subscription.feed.status ≡ false
due_unfinished journal subscription item i = from subscription.feed.status refl
  where
    from : (st : Status) → subscription.feed.status ≡ st → is_finished subscription.feed.status ≡ false
    from Open e = ap is_finished e
    from Ending e = ap is_finished e
    from Ended e = ap is_finished e
    from Finished e = absurd (none-some item (rw e at i))

expire_unfinished : (feed : Feed) → is_finished (expired_feed feed).status ≡ false → is_finished feed.status ≡ false
expire_unfinished feed h =
    elim (cases_Bool (is_open feed.status && is_waiting_mode feed.params.mode)) [
      | inl t ↦ open_stands feed.status (and_parts _ _ t).0
      | inr t ↦ let h' = rw t at h in h'
    ]

end_unfinished : (feed : Feed) → is_finished (end feed).status ≡ false → is_finished feed.status ≡ false
end_unfinished feed h =
    elim (cases_Bool (is_open feed.status)) [
      | inl t ↦ open_stands feed.status t
      | inr t ↦ let h' = rw t at h in h'
    ]

-- an item goes into the lane
goes_in : (items lane dropped others : List ChangeItem) (item : ChangeItem) → dropped ≡ [] → items
    ++ (lane ++ dropped) ≡ others → items ++ ((lane ++ item ∷ []) ++ []) ≡ others ++ item ∷ []
goes_in items lane dropped others item d e =
    let e' : items ++ lane ≡ others =
    ap (λ (rest : List ChangeItem). items ++ rest)
    (sym (append-nil lane) ∙ ap (λ (rest : List ChangeItem). lane ++ rest) (sym d))
    ∙ e in
    ap (λ (rest : List ChangeItem). items ++ rest) (append-nil (lane ++ item ∷ []))
    ∙ (sym (append_assoc items lane (item ∷ [])) ∙ ap (λ (rest : List ChangeItem). rest ++ item ∷ []) e')

told_kept : IsKept Told
told_kept = record {
  grows = λ J es s h t q. record {
    fits = fits_grows change_rows J es s.feed h q.fits;
    dropped = q.dropped;
    in_order = q.in_order;
    none = q.none;
  };
  begins = λ J params life.
      record { fits = fits_begin change_rows J params life; dropped = []; in_order = refl; none = λ e. refl };
  hands = λ J s h t item d q. record {
    fits = fits_handed change_rows J s.feed h item d q.fits;
    dropped = [];
    in_order = goes_in t s.lane q.dropped h item (q.none (due_unfinished J s item d)) q.in_order;
    none = λ e. refl;
  };
  beats = λ J s h t d q. record {
    fits = fits_beat change_rows J s.feed h d q.fits;
    dropped = [];
    in_order =
        goes_in t s.lane q.dropped h Beat (q.none (open_stands s.feed.status (and_parts _ _ d).0)) q.in_order;
    none = λ e. refl;
  };
  waits = λ J s h t d q. record {
    fits = fits_nothing change_rows J s.feed h d q.fits;
    dropped = q.dropped;
    in_order = q.in_order;
    none = q.none;
  };
  expires = λ J s h t q. record {
    fits = fits_expire change_rows J s.feed h q.fits;
    dropped = q.dropped;
    in_order = q.in_order;
    none = λ e. q.none (expire_unfinished s.feed e);
  };
  ends = λ J s h t q. record {
    fits = fits_close change_rows J s.feed h q.fits;
    dropped = q.dropped;
    in_order = q.in_order;
    none = λ e. q.none (end_unfinished s.feed e);
  };
  finishes = λ J s h t q. record {
    fits = fits_finish change_rows J s.feed h q.fits;
    dropped = s.lane ++ q.dropped;
    in_order = q.in_order;
    none = λ e. absurd (cc);
  };
  takes = λ J s h t item items e q. record {
    fits = q.fits;
    dropped = q.dropped;
    in_order =
        append_assoc t (item ∷ []) (items ++ q.dropped)
        ∙ subst (λ (x : List ChangeItem). t ++ (x ++ q.dropped) ≡ h) e q.in_order;
    none = q.none;
  };
}

told : (limits : Limits) (events : List Event) (replies : List Reply) (world : World) (f : ℕ)
    → Run (empty limits) events replies world
    → In Told world.journal (subscription world f) (items_handed f events replies) (items_taken f events replies)
told limits events replies world f r =
    run_keeps Told told_kept (empty limits) events replies world f [] [] r (refl, refl)

pub takes_in_order : TakesInOrder
takes_in_order limits events replies w f r = from (subscription w f) (told limits events replies w f r)
  where
    from : (maybe_subscription : Option Subscription)
        → In Told w.journal maybe_subscription (items_handed f events replies) (items_taken f events replies)
        → IsPrefixOf (items_taken f events replies) (items_handed f events replies)
    from None i = ([], append-nil _ ∙ (i.1 ∙ sym i.0))
    from (Some s) i = (s.lane ++ i.dropped, i.in_order)

pub hands_rightly : HandsRightly
hands_rightly limits events replies w f r = from (subscription w f) (told limits events replies w f r)
  where
    from : (maybe_subscription : Option Subscription)
        → In Told w.journal maybe_subscription (items_handed f events replies) (items_taken f events replies)
        → IsRight w.journal maybe_subscription (items_handed f events replies)
    from None i = i.0
    from (Some s) i = i.fits.right

pub holds_the_rest : HoldsTheRest
holds_the_rest limits events replies w f s r e n =
    let i =
    subst (λ o. In Told w.journal o (items_handed f events replies) (items_taken f events replies)) e
    (told limits events replies w f r) in
    ap (λ (items : List ChangeItem). items_taken f events replies ++ items)
    (sym (append-nil s.lane) ∙ ap (λ (items : List ChangeItem). s.lane ++ items) (sym (i.none n)))
    ∙ i.in_order
