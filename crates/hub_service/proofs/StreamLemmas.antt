-- The items of a stream are the front of a list that is rightly handed.
use Rattle.std.proofs.Common.{◌≡◌, ℕ, List, [], ◌∷◌, ◌++◌, true, false, refl}
use Rattle.std.proofs.Common.{sym, ap, ◌∙◌, subst, append_assoc, append-nil}
use Rattle.std.specs.Prelude.{◌≢◌, Option, Some, None, map, if◌then◌else◌}
use Rattle.hub_database.specs.Handing as changes
use Rattle.hub_updates.specs.Log as updates
use Rattle.hub_model.specs.Descending.{Descending}
use Rattle.hub_model.specs.RightlyHanded.{EndsAt, is_end}
use Rattle.hub_model.specs.Row.{ChangeRow}
use Rattle.hub_model.specs.Updates.{UpdateRow}
use Rattle.hub_model.specs.declared.feeds.Item.{Item}
use Rattle.hub_model.specs.declared.feeds.Item.TheVariants.{Row, Beat, End}
use Rattle.hub_lane.specs.Ends.{IsAllowedBeginning}
use Rattle.hub_params.specs.FeedModel.{params_in}
use Rattle.hub_session.specs.Feeds.{Streams}
use Rattle.hub_session.specs.Items as stream
use Rattle.hub_session.specs.declared.closing.StreamEnd.{StreamEnd}
use Rattle.hub_session.specs.declared.closing.StreamEnd.TheVariants.{Complete, Stopped, NoMemory}
use Rattle.hub_session.specs.declared.closing.StreamEnd.TheVariants.{Broken, Exhausted}
use Rattle.hub_session.specs.StreamItem.{StreamItem, Change, Update}
use Rattle.hub_shared.specs.Feeds.{FeedState, behind_item, receiver_of}
use Rattle.hub_shared.specs.Label.{Label}
use Rattle.hub_service.specs.Feeds.{Gives, behind_listed, next_listed}
use Rattle.hub_service.specs.Laws.{connection_rules, StreamsOfChangesAreRight}
use Rattle.hub_service.specs.Laws.{CompleteChangesAreRight, StreamsOfUpdatesAreRight}
use Rattle.hub_service.specs.Laws.{CompleteUpdatesAreRight, CompleteListIsWhole, whole_list}
use Rattle.hub_service.specs.declared.sent.Sent.{Sent}
use Rattle.hub_service.specs.declared.sent.Sent.TheVariants.{Listed, Changes, Updates}

-- no item stands behind an end
nothing_behind : {R : Type 0} (place : ℕ) (xs : List (Item R)) (item : Item R) (rest : List (Item R))
    → is_end item ≡ true → EndsAt place (xs ++ item ∷ rest) → rest ≡ []
nothing_behind place [] (Row row) rest end ends = absurd (cc)
nothing_behind place [] Beat rest end ends = absurd (cc)
nothing_behind place [] (End l p) rest end ends = ends.1
nothing_behind place (Row row ∷ xs) item rest end ends = nothing_behind place xs item rest end ends
nothing_behind place (Beat ∷ xs) item rest end ends = nothing_behind place xs item rest end ends
nothing_behind place (End l p ∷ []) item rest end ends = absurd (let e : item ∷ rest ≡ [] = ends.1 in cc)
nothing_behind place (End l p ∷ x ∷ xs) item rest end ends =
    absurd (let e : x ∷ xs ++ item ∷ rest ≡ [] = ends.1 in cc)

-- the items that were sent of a feed of one kind, after the items that were taken before
record IsSentOf {R : Type 0} (wrap : Item R → StreamItem) (right : Label → List (Item R) → Type 0)
    (feed : FeedState R) (items : List StreamItem) (end : StreamEnd) : Type 0 where
  handed : List (Item R)
  wrapped : items ≡ map wrap handed
  rest : List (Item R)
  front : right feed.label (feed.taken ++ (handed ++ rest))
  whole : end ≡ Complete → rest ≡ []

-- one step of a stream of one kind, with its item
record IsStep {R : Type 0} (wrap : Item R → StreamItem) (sent : FeedState R → Sent)
    (right : Label → List (Item R) → Type 0)
    (feed : FeedState R) (streamed : StreamItem) (mid : Option Sent) : Type 0 where
  item : Item R
  wrapped : streamed ≡ wrap item
  ends : stream.is_end streamed ≡ is_end item
  behind : mid ≡ if stream.is_end streamed then None else Some (sent (behind_item feed item))
  allowed : IsAllowedBeginning right (receiver_of (behind_item feed item))

-- the items that a stream sends of a feed of one kind, by its steps
module _ {R : Type 0} (wrap : Item R → StreamItem) (sent : FeedState R → Sent)
    (right : Label → List (Item R) → Type 0)
    (step : (feed : FeedState R) (item : StreamItem) (mid : Option Sent)
    → Gives (Some (sent feed)) (Some item) mid → IsStep wrap sent right feed item mid)
    (ends : (label : Label) (items : List (Item R)) → right label items → (place : ℕ)
    × EndsAt place items) where
  -- the front of a list grows by an item that is taken
  grown : (label : Label) (taken : List (Item R)) (i : Item R) (items : List (Item R))
      → right label ((taken ++ i ∷ []) ++ items) → right label (taken ++ i ∷ items)
  grown label taken i items r = subst (right label) (append_assoc taken (i ∷ []) items) r

  -- an item that is no End, and the items that are sent after it
  one_more : (feed : FeedState R) (item : StreamItem) (items : List StreamItem) (end : StreamEnd)
      (mid : Option Sent) (s : IsStep wrap sent right feed item mid)
      → IsSentOf wrap right (behind_item feed s.item) items end → IsSentOf wrap right feed (item ∷ items) end
  one_more feed item items end mid s later = record {
    handed = s.item ∷ later.handed;
    wrapped = ap (λ i. i ∷ items) s.wrapped ∙ ap (λ tail. wrap s.item ∷ tail) later.wrapped;
    rest = later.rest;
    front = grown feed.label feed.taken s.item (later.handed ++ later.rest) later.front;
    whole = later.whole;
  }

  -- an End
  last : (feed : FeedState R) (item : StreamItem) (end : StreamEnd) (mid : Option Sent)
      (s : IsStep wrap sent right feed item mid)
      → stream.is_end item ≡ true
      → IsSentOf wrap right feed (item ∷ []) end
  last feed item end mid s is =
      let right_is = grown feed.label feed.taken s.item s.allowed.0 s.allowed.1 in
      record {
        handed = s.item ∷ [];
        wrapped = ap (λ i. i ∷ []) s.wrapped;
        rest = s.allowed.0;
        front = right_is;
        whole = λ c.
            let e = ends feed.label _ right_is in
            nothing_behind e.0 feed.taken s.item s.allowed.0 (sym s.ends ∙ is) e.1;
      }

  -- no more items
  none_more : (feed : FeedState R) (end : StreamEnd) → IsAllowedBeginning right (receiver_of feed)
      → (end ≡ Complete → ⊥) → IsSentOf wrap right feed [] end
  none_more feed end allowed stops = record {
    handed = [];
    wrapped = refl;
    rest = allowed.0;
    front = allowed.1;
    whole = λ c. absurd (stops c);
  }

  step_from : (feed : FeedState R) (maybe_sent : Option Sent) (item : StreamItem) (mid : Option Sent)
      → maybe_sent ≡ Some (sent feed) → Gives maybe_sent (Some item) mid
      → IsStep wrap sent right feed item mid
  step_from feed maybe_sent item mid is given =
      step feed item mid (subst (λ o. Gives o (Some item) mid) is given)

  -- after an item that is no End the feed is still sent
  still_sent : (feed : FeedState R) (item : StreamItem) (mid : Option Sent)
      (s : IsStep wrap sent right feed item mid)
      → stream.is_end item ≡ false → mid ≡ Some (sent (behind_item feed s.item))
  still_sent feed item mid s is =
      s.behind ∙ ap (λ b. if b then None else Some (sent (behind_item feed s.item))) is

  -- the items that are sent, after items that were taken before
  sent_after_taken : {n : ℕ} {s t : Option Sent} {items : List StreamItem} {end : StreamEnd}
      → Streams connection_rules n s items end t
      → (feed : FeedState R) → s ≡ Some (sent feed) → IsAllowedBeginning right (receiver_of feed)
      → IsSentOf wrap right feed items end
  sent_after_taken
      (Streams.goes_on {s = s} {mid = mid} {item = item} {items = items} {end = end} given is more) feed
      at allowed =
      let x = step_from feed s item mid at given in
      one_more feed item items end mid x
      (sent_after_taken more (behind_item feed x.item) (still_sent feed item mid x is) x.allowed)
  sent_after_taken (Streams.ends {s = s} {t = t} {item = item} given is) feed at allowed =
      last feed item Complete t (step_from feed s item t at given) is
  sent_after_taken (Streams.ends_broken {s = s} {t = t} {item = item} given is) feed at allowed =
      last feed item Broken t (step_from feed s item t at given) is
  sent_after_taken (Streams.stops mid given dropped) feed at allowed =
      none_more feed Stopped allowed (λ c. cc)
  sent_after_taken (Streams.loses mid lost given dropped) feed at allowed =
      none_more feed NoMemory allowed (λ c. cc)
  sent_after_taken (Streams.breaks dropped) feed at allowed = none_more feed Broken allowed (λ c. cc)
  sent_after_taken (Streams.gives_up dropped many) feed at allowed =
      none_more feed Exhausted allowed (λ c. cc)

  -- the items that are sent of a feed, where there is one
  sent_of : {n : ℕ} {s t : Option Sent} {items : List StreamItem} {end : StreamEnd}
      → Streams connection_rules n s items end t
      → (feed : FeedState R) → s ≡ Some (sent feed) → items ≢ [] → IsSentOf wrap right feed items end
  sent_of (Streams.goes_on {s = s} {mid = mid} {item = item} {items = items} {end = end} given is more) feed
      at some =
      let x = step_from feed s item mid at given in
      one_more feed item items end mid x
      (sent_after_taken more (behind_item feed x.item) (still_sent feed item mid x is) x.allowed)
  sent_of (Streams.ends {s = s} {t = t} {item = item} given is) feed at some =
      last feed item Complete t (step_from feed s item t at given) is
  sent_of (Streams.ends_broken {s = s} {t = t} {item = item} given is) feed at some =
      last feed item Broken t (step_from feed s item t at given) is
  sent_of (Streams.stops mid given dropped) feed at some = absurd (some refl)
  sent_of (Streams.loses mid lost given dropped) feed at some = absurd (some refl)
  sent_of (Streams.breaks dropped) feed at some = absurd (some refl)
  sent_of (Streams.gives_up dropped many) feed at some = absurd (some refl)

-- ---- feeds of changes

-- the lists that are rightly handed for the label of a feed of changes, and of updates
abbrev right_changes : Label → List (Item ChangeRow) → Type 0
right_changes label items = changes.IsRightFor (params_in label.asked) label.since items

abbrev right_updates : Label → List (Item UpdateRow) → Type 0
right_updates label items = updates.IsRightFor (params_in label.asked) label.since items

step_of_changes : (feed : FeedState ChangeRow) (item : StreamItem) (mid : Option Sent)
    → Gives (Some (Changes feed)) (Some item) mid → IsStep Change Changes right_changes feed item mid
step_of_changes feed (Change item) mid given = record {
  item = item;
  wrapped = refl;
  ends = refl;
  behind = given.2 ∙ ap (λ left. if is_end item then None else Some left) given.1.0;
  allowed = given.1.1;
}
step_of_changes feed (Update item) mid given = absurd given.1

step_of_updates : (feed : FeedState UpdateRow) (item : StreamItem) (mid : Option Sent)
    → Gives (Some (Updates feed)) (Some item) mid → IsStep Update Updates right_updates feed item mid
step_of_updates feed (Change item) mid given = absurd given.1
step_of_updates feed (Update item) mid given = record {
  item = item;
  wrapped = refl;
  ends = refl;
  behind = given.2 ∙ ap (λ left. if is_end item then None else Some left) given.1.0;
  allowed = given.1.1;
}

sent_changes : (items : List StreamItem) (feed : FeedState ChangeRow) (end : StreamEnd)
    (maybe_sent : Option Sent)
    → Streams connection_rules 0 (Some (Changes feed)) items end maybe_sent → items ≢ []
    → IsSentOf Change right_changes feed items end
sent_changes items feed end maybe_sent goes some =
    sent_of Change Changes right_changes step_of_changes
    (λ l items r. (r.feed.place, r.right.ends)) goes feed refl some

sent_updates : (items : List StreamItem) (feed : FeedState UpdateRow) (end : StreamEnd)
    (maybe_sent : Option Sent)
    → Streams connection_rules 0 (Some (Updates feed)) items end maybe_sent → items ≢ []
    → IsSentOf Update right_updates feed items end
sent_updates items feed end maybe_sent goes some =
    sent_of Update Updates right_updates step_of_updates
    (λ l items r. (r.feed.place, r.right.ends)) goes feed refl some

-- a feed of which nothing was taken before
from_nothing : {R : Type 0} (right : Label → List (Item R) → Type 0)
    (feed : FeedState R) (items : List (Item R))
    → feed.taken ≡ [] → right feed.label (feed.taken ++ items) → right feed.label items
from_nothing right feed items none r = subst (λ taken. right feed.label (taken ++ items)) none r

-- a stream that came to its end sent an item
some_handed : {n : ℕ} {s t : Option Sent} {items : List StreamItem} {end : StreamEnd}
    → Streams connection_rules n s items end t → end ≡ Complete → items ≢ []
some_handed (Streams.goes_on given is more) c none = cc
some_handed (Streams.ends given is) c none = cc
some_handed (Streams.ends_broken given is) c none = cc
some_handed (Streams.stops mid given dropped) c none = cc
some_handed (Streams.loses mid lost given dropped) c none = cc
some_handed (Streams.breaks dropped) c none = cc
some_handed (Streams.gives_up dropped many) c none = cc

pub streams_of_changes : StreamsOfChangesAreRight
streams_of_changes feed items end t none some goes =
    let s = sent_changes items feed end t goes some in
    (s.handed, s.wrapped, (s.rest, from_nothing right_changes feed _ none s.front))

pub complete_changes : CompleteChangesAreRight
complete_changes feed items t none goes =
    let s = sent_changes items feed Complete t goes (some_handed goes refl) in
    let front = from_nothing right_changes feed _ none s.front in (
      s.handed,
      s.wrapped,
      subst (right_changes feed.label)
          (ap (λ rest. s.handed ++ rest) (s.whole refl) ∙ append-nil s.handed) front,
    )

pub streams_of_updates : StreamsOfUpdatesAreRight
streams_of_updates feed items end t none some goes =
    let s = sent_updates items feed end t goes some in
    (s.handed, s.wrapped, (s.rest, from_nothing right_updates feed _ none s.front))

pub complete_updates : CompleteUpdatesAreRight
complete_updates feed items t none goes =
    let s = sent_updates items feed Complete t goes (some_handed goes refl) in
    let front = from_nothing right_updates feed _ none s.front in (
      s.handed,
      s.wrapped,
      subst (right_updates feed.label)
          (ap (λ rest. s.handed ++ rest) (s.whole refl) ∙ append-nil s.handed) front,
    )

-- ---- an answer that was made at once

-- the answer of these members
abbrev left_of : List ChangeRow → (last_seq pending life : ℕ) → Descending
left_of rows last_seq pending life =
    record { rows = rows; last_seq = last_seq; pending = pending; life = life }

-- one step of an answer that was made at once
listed_step : (answer : Descending) (maybe_sent : Option Sent) (item : StreamItem) (mid : Option Sent)
    → maybe_sent ≡ Some (Listed answer) → Gives maybe_sent (Some item) mid
    → (item ≡ Change (next_listed answer))
    × (mid ≡ if stream.is_end item then None else Some (Listed (behind_listed answer)))
listed_step answer maybe_sent item mid at given = by_kind item (subst (λ o. Gives o (Some item) mid) at given)
  where
    by_kind : (item : StreamItem) → Gives (Some (Listed answer)) (Some item) mid
        → (item ≡ Change (next_listed answer))
        × (mid ≡ if stream.is_end item then None else Some (Listed (behind_listed answer)))
    by_kind (Change i) g =
        (ap Change g.1.0, g.2 ∙ ap (λ left. if is_end i then None else Some left) g.1.1)
    by_kind (Update i) g = absurd g.1

-- after an item that is no end the answer is still sent
listed_left : {mid : Option Sent} {left : Sent} (item : StreamItem) → stream.is_end item ≡ false
    → mid ≡ (if stream.is_end item then None else Some left) → mid ≡ Some left
listed_left {left = left} item is behind = behind ∙ ap (λ b. if b then None else Some left) is

-- an end is no row
no_end : (item : StreamItem) (last pending : ℕ) → item ≡ Change (End last pending)
    → stream.is_end item ≡ false → ⊥
no_end item last pending e is = let both : true ≡ false = sym (ap stream.is_end e) ∙ is in cc

no_row : (item : StreamItem) (row : ChangeRow) → item ≡ Change (Row row) → stream.is_end item ≡ true → ⊥
no_row item row e is = let both : false ≡ true = sym (ap stream.is_end e) ∙ is in cc

-- an answer that was made at once hands its rows, and its end
list_whole : {n : ℕ} {s t : Option Sent} {items : List StreamItem} {end : StreamEnd}
    → Streams connection_rules n s items end t → end ≡ Complete
    → (rows : List ChangeRow) (l pending life : ℕ) → s ≡ Some (Listed (left_of rows l pending life))
    → items ≡ whole_list (left_of rows l pending life)
list_whole (Streams.goes_on {s = s} {mid = mid} {item = item} given is more) c [] l pending life at =
    absurd (no_end item l pending (listed_step (left_of [] l pending life) s item mid at given).0 is)
list_whole (Streams.goes_on {s = s} {mid = mid} {item = item} {items = items} given is more) c
    (row ∷ rows) l pending life at =
    let x = listed_step (left_of (row ∷ rows) l pending life) s item mid at given in
    ap (λ i. i ∷ items) x.0
    ∙ ap (λ xs. Change (Row row) ∷ xs) (list_whole more c rows l pending life (listed_left item is x.1))
list_whole (Streams.ends {s = s} {t = t} {item = item} given is) c [] l pending life at =
    ap (λ i. i ∷ []) (listed_step (left_of [] l pending life) s item t at given).0
list_whole (Streams.ends {s = s} {t = t} {item = item} given is) c (row ∷ rows) l pending life at =
    absurd (no_row item row (listed_step (left_of (row ∷ rows) l pending life) s item t at given).0 is)
list_whole (Streams.ends_broken given is) c rows l pending life at = absurd (cc)
list_whole (Streams.stops mid given dropped) c rows l pending life at = absurd (cc)
list_whole (Streams.loses mid lost given dropped) c rows l pending life at = absurd (cc)
list_whole (Streams.breaks dropped) c rows l pending life at = absurd (cc)
list_whole (Streams.gives_up dropped many) c rows l pending life at = absurd (cc)

pub complete_list : CompleteListIsWhole
complete_list answer items t goes =
    list_whole goes refl answer.rows answer.last_seq answer.pending answer.life refl
