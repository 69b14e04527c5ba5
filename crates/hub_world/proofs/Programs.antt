-- The effect of each call of the program on the core.
use Rattle.std.proofs.Common.{◌≡◌, ◌∙◌, ℕ, ◌+◌, ◌≤◌, List, [], ◌∷◌, ◌++◌, map, length, true, false, Bool}
use Rattle.std.proofs.Common.{refl, sym, ap, subst, arith, ◌⊎◌, inl, inr}
use Rattle.std.specs.Prelude.{Option, Some, None, All, option_and_then, unwrap_or, drop}
use Rattle.std.specs.Prelude.{if◌then◌else◌, ⊤}
use Rattle.hub_model.specs.Entries.{entry_in, with_change, without}
use Rattle.hub_model.specs.Row.{ChangeRow}
use Rattle.hub_model.specs.RightlyHanded.{ChangeItem}
use Rattle.hub_model.specs.declared.feeds.Item.TheVariants.{Beat}
use Rattle.hub_feed.specs.Host as feeds
use Rattle.hub_feed.specs.declared.handed.Handed.{Handed}
use Rattle.hub_feed.specs.declared.handed.Handed.TheVariants as did
use Rattle.hub_feed.specs.declared.host.FeedId.{FeedId}
use Rattle.hub_feed.specs.declared.host.OpenFault.{OpenFault}
use Rattle.hub_feed.specs.declared.host.OpenFault.TheVariants as open_fault
use Rattle.hub_feed.specs.declared.next.Next.{Next}
use Rattle.hub_feed.specs.declared.next.Next.TheVariants as next
use Rattle.hub_database.specs.Database.{Database}
use Rattle.hub_database.specs.Hosting.{hosted_of, with_hosted}
use Rattle.hub_params.specs.FeedModel.{params_of}
use Rattle.hub_params.specs.FeedShown.{params_asked}
use Rattle.hub_params.specs.declared.feed_params.FeedParams.{FeedParams}
use Rattle.hub_shared.specs.Label.{Label, label_of}
use Rattle.hub_shared.specs.Opening.{Begins}
use Rattle.hub_shared.specs.Locked.{Beats, Hands, LockedState, handed_on, stepped}
use Rattle.hub_shared.proofs.Handing.{given_by}
use Rattle.hub_world.specs.Applied.{last_reply, whole_reply}
use Rattle.hub_world.specs.Core.{IsWorld, Shows, core_of, held_entry}
use Rattle.hub_world.specs.Growth.{MayFail}
use Rattle.hub_world.specs.Lane.{back, front, lane_items, without_front}
use Rattle.hub_world.specs.PlainList.{ListState, behind, held_of, last, new_list}
use Rattle.hub_world.specs.PlainList as list
use Rattle.hub_world.specs.World.{World}
use Rattle.hub_world.specs.declared.event.Event.{Event}
use Rattle.hub_world.specs.declared.event.Event.TheVariants as event
use Rattle.hub_world.specs.declared.reply.Reply.{Reply}
use Rattle.hub_world.specs.declared.reply.Reply.TheVariants as reply
use Rattle.hub_world.proofs.Growing.{begin_grows}
use Rattle.hub_world.proofs.Held.{Fits, added_held, all_held, back_held, changed_held, fits_added}
use Rattle.hub_world.proofs.Held.{fits_changed, fits_entry, fits_without, front_held, without_held}
use Rattle.hub_world.proofs.LaneLemmas.{pushed_back}
use Rattle.hub_world.proofs.Stepping.{Leads, beat_full, beat_lane, beat_pushed, beat_shows, begin_full}
use Rattle.hub_world.proofs.Stepping.{begin_leads, due_lane, finish_leads, hand_full, hand_gone, hand_nothing}
use Rattle.hub_world.proofs.Stepping.{hand_pushed, hand_shows, take_leads}

-- the state under the lock
abbrev pub Program : Type 0
Program = LockedState Database ListState

-- the fact about a list that gave an item back: it holds as many items as it may
abbrev pub Refuses : ListState → ChangeItem → Type 0
Refuses state item = state.capacity ≤ length state.held

-- the capacity of each list is the limit of a lane
abbrev pub HasLists : Program → Type 0
HasLists program = (program.lane ≡ program.state.limits.lane) × All (Fits program.lane) program.senders

-- a program that is of a world leads to one that is of a world
pub leads_world : (old new : Program) (event : Event) (reply : Reply) → IsWorld old
    → Leads (core_of old) event reply (core_of new) → HasLists new → IsWorld new
leads_world old new event reply of leads lists =
    let shown = leads of.shown.0 of.shown.1 in
    record { lane = lists.0; room = lists.1; shown = (shown.0, shown.2) }

-- a list that refuses is a lane that is full
is_full : (program : Program) (number : ℕ) (state : ListState) → IsWorld program
    → entry_in number program.senders ≡ Some state → state.capacity ≤ length state.held
    → program.state.limits.lane ≤ length (lane_items number (map held_entry program.senders))
is_full program number state of is full =
    let all : length (lane_items number (map held_entry program.senders)) ≡ length state.held =
    ap length (all_held number program.senders ∙ ap held_of is) in
    omega (arith, full, all, fits_entry program.lane number state program.senders of.room is, of.lane)

-- ---- the last item of a lane

module _ (program : Program) (number : ℕ) where
  pub no_list : entry_in number program.senders ≡ None → back number (core_of program).lanes ≡ None
  no_list none = back_held number program.senders ∙ rw none refl

  pub no_list_within : entry_in number program.senders ≡ None
      → length (lane_items number (core_of program).lanes) ≤ program.state.limits.lane
  no_list_within none =
      let all : length (lane_items number (map held_entry program.senders)) ≡ 0 =
      ap length (all_held number program.senders ∙ ap held_of none) in
      omega (arith, all)

  module _ (k : ListState) (is : entry_in number program.senders ≡ Some k) where
    pub list_back : back number (core_of program).lanes ≡ last k
    list_back = back_held number program.senders ∙ rw is refl

    pub list_within : IsWorld program → length k.held ≤ k.capacity
        → length (lane_items number (core_of program).lanes) ≤ program.state.limits.lane
    list_within of within =
        let all : length (lane_items number (map held_entry program.senders)) ≡ length k.held =
        ap length (all_held number program.senders ∙ ap held_of is) in
        omega (arith, within, all, fits_entry program.lane number k program.senders of.room is, of.lane)

-- ---- hands

-- an item was handed: the result is Row or End
abbrev pub HasHanded : Handed → Type 0
HasHanded did.Row = ⊤
HasHanded did.End = ⊤
HasHanded did.Full = ⊥
HasHanded did.Nothing = ⊥
HasHanded did.Gone = ⊥

pub has_handed : (told : Handed) → (told ≡ did.Row) ⊎ (told ≡ did.End) → HasHanded told
has_handed told (inl is) = subst HasHanded (sym is) tt
has_handed told (inr is) = subst HasHanded (sym is) tt

-- an item is pushed into the lane of this number
module _ (program : Program) (number : ℕ) (item : ChangeItem) where
  pub sent_held : map held_entry (with_change number (λ (state : ListState). behind state item) program.senders)
      ≡ with_change number (λ (items : List ChangeItem). items ++ item ∷ []) (map held_entry program.senders)
  sent_held =
      changed_held number (λ (state : ListState). behind state item)
      (λ (items : List ChangeItem). items ++ item ∷ [])
      (λ state. refl) program.senders

  pub sent_fits : All (Fits program.lane) program.senders
      → All (Fits program.lane) (with_change number (λ (state : ListState). behind state item) program.senders)
  sent_fits =
      fits_changed program.lane number (λ (state : ListState). behind state item)
      (λ state. refl) program.senders

-- A hand of the program to the feed of this number, whose next item is this answer.
module _ (program new : Program) (id : FeedId) (of : IsWorld program) where
  abbrev pub Handing : Next ChangeRow → Handed → Type 0
  Handing next done = Hands hosted_of with_hosted behind Refuses next program id.number done new

  abbrev answer : Next ChangeRow
  answer = feeds.next_of_number (hosted_of program.state) id.number

  -- the result of the hand is this answer
  abbrev pub told_as : Handed → Type 0
  told_as answers = Handing answer answers

  -- an item was due, and was handed
  abbrev pub IsGiven : ChangeItem → Type 0
  IsGiven item =
      (feeds.item_of_number (hosted_of program.state) id.number ≡ Some item)
      × (new ≡ handed_on hosted_of with_hosted behind program id.number item)

  due_now : (item : ChangeItem) → next.Give item ≡ answer
      → feeds.item_of_number (hosted_of program.state) id.number ≡ Some item
  due_now item gives = given_by (hosted_of program.state) (entry_in id.number program.state.feeds) item gives

  pub given : (told : Handed) → HasHanded told → Handing answer told → (item : ChangeItem) × IsGiven item
  given told has hands = from answer refl told has hands
    where
      from : (x : Next ChangeRow) → x ≡ answer → (told : Handed) → HasHanded told → Handing x told
          → (item : ChangeItem) × IsGiven item
      from (next.Give item) now did.Row has hands = (item, (due_now item now, hands.1))
      from (next.Give item) now did.End has hands = (item, (due_now item now, hands.1))
      from (next.Give item) now did.Full has hands = absurd has
      from (next.Give item) now did.Nothing has hands = absurd has
      from (next.Give item) now did.Gone has hands = absurd has
      from next.Nothing now told has hands = absurd (subst HasHanded hands.0 has)
      from next.Gone now told has hands = absurd (subst HasHanded hands.0 has)

  module _ (item : ChangeItem) (gives : IsGiven item) where
    given_lanes : (core_of new).lanes
        ≡ with_change id.number (λ (items : List ChangeItem). items ++ item ∷ []) (core_of program).lanes
    given_lanes = ap (λ (q : Program). (core_of q).lanes) gives.1 ∙ sent_held program id.number item

    found : (items : List ChangeItem) × (entry_in id.number (core_of program).lanes ≡ Some items)
    found = due_lane (core_of program) id.number item gives.0 of.shown.0 of.shown.1

    -- the item is the last of the lane
    given_back : back id.number (core_of new).lanes ≡ Some item
    given_back = ap (back id.number) given_lanes ∙
        (pushed_back id.number item (core_of program).lanes found.0 found.1).0

    given_core : record {
      db = with_hosted program.state (feeds.hosted_after_hand (hosted_of program.state) id.number);
      lanes = with_change id.number (λ (items : List ChangeItem). items ++ item ∷ []) (core_of program).lanes;
    } ≡ core_of new
    given_core =
        sym (ap core_of gives.1
        ∙ ap (λ ls. record {
          db = with_hosted program.state (feeds.hosted_after_hand (hosted_of program.state) id.number);
          lanes = ls;
        }) (sent_held program id.number item))

    -- the program after the hand is of a world
    pub given_world : IsWorld new
    given_world =
        let lists : HasLists new = subst HasLists (sym gives.1)
        (of.lane, sent_fits program id.number item of.room)
        in
        record {
          lane = lists.0;
          room = lists.1;
          shown =
              subst (λ c. (w : World) × Shows c w) given_core
              (_, hand_shows (core_of program) id item gives.0 of.shown.0 of.shown.1);
        }

    -- where the lane has room for the item, the hand is a step
    pub given_leads : (said : Reply) → said ≡ last_reply (back id.number (core_of new).lanes)
        → length (lane_items id.number (core_of new).lanes) ≤ new.state.limits.lane
        → Leads (core_of program) (event.Hand id) (whole_reply said) (core_of new)
    given_leads said last within =
        let lanes = pushed_back id.number item (core_of program).lanes found.0 found.1 in
        let grown : length (lane_items id.number (core_of new).lanes)
        ≡ length (lane_items id.number (core_of program).lanes) + 1 =
        ap (λ ls. length (lane_items id.number ls)) given_lanes ∙ lanes.1 in
        let limit : new.state.limits.lane ≡ program.state.limits.lane =
        ap (λ (q : Program). q.state.limits.lane) gives.1 in
        subst (λ x. Leads (core_of program) (event.Hand id) (whole_reply x) (core_of new))
        (sym (last ∙ ap last_reply given_back))
        (subst (λ c. Leads (core_of program) (event.Hand id) (reply.Pushed item) c) given_core
        (hand_pushed (core_of program) id item gives.0 (omega (arith, within, grown, limit))))

  -- a hand with the result Full is a step
  pub full_leads : Handing answer did.Full
      → (new ≡ program) × Leads (core_of program) (event.Hand id) reply.Full (core_of program)
  full_leads hands = from answer refl hands
    where
      from : (x : Next ChangeRow) → x ≡ answer → Handing x did.Full
          → (new ≡ program) × Leads (core_of program) (event.Hand id) reply.Full (core_of program)
      from (next.Give item) now hands = (
        hands.1,
        hand_full (core_of program) id item (due_now item now)
            (is_full program id.number hands.0.0 of hands.0.1 hands.0.2),
      )
      from next.Nothing now hands = absurd (cc)
      from next.Gone now hands = absurd (cc)

  pub nothing_leads : Handing answer did.Nothing
      → HasLists new × Leads (core_of program) (event.Hand id) reply.Nothing (core_of new)
  nothing_leads hands = from answer refl hands
    where
      from : (x : Next ChangeRow) → x ≡ answer → Handing x did.Nothing
          → HasLists new × Leads (core_of program) (event.Hand id) reply.Nothing (core_of new)
      from (next.Give item) now hands = absurd hands
      from next.Nothing now hands = (
        subst HasLists (sym hands.1) (of.lane, of.room),
        subst (λ (other : Program). Leads (core_of program) (event.Hand id) reply.Nothing (core_of other))
            (sym hands.1)
            (hand_nothing (core_of program) id now),
      )
      from next.Gone now hands = absurd (cc)

  pub gone_leads : Handing answer did.Gone
      → (new ≡ program) × Leads (core_of program) (event.Hand id) reply.Gone (core_of program)
  gone_leads hands = from answer refl hands
    where
      from : (x : Next ChangeRow) → x ≡ answer → Handing x did.Gone
          → (new ≡ program) × Leads (core_of program) (event.Hand id) reply.Gone (core_of program)
      from (next.Give item) now hands = absurd hands
      from next.Nothing now hands = absurd (cc)
      from next.Gone now hands = (hands.1, hand_gone (core_of program) id now)

-- ---- heartbeats

module _ (program new : Program) (id : FeedId) (of : IsWorld program)
    (due : feeds.is_beat_allowed_if_any (entry_in id.number program.state.feeds) ≡ true) where
  abbrev pub Beating : Handed → Type 0
  Beating done = Beats {S = Database} behind Refuses true program id.number done new

  -- the heartbeat was due, so the beat is as told
  pub as_due : (told : Handed)
      → Beats {S = Database} behind Refuses
      (feeds.is_beat_allowed_if_any (entry_in id.number program.state.feeds)) program id.number
      told new
      → Beating told
  as_due told = subst (λ (b : Bool). Beats {S = Database} behind Refuses b program id.number told new) due

  pub beat_full_leads : Beating did.Full
      → (new ≡ program) × Leads (core_of program) (event.Heartbeat id) reply.Full (core_of program)
  beat_full_leads beats = (
    beats.1,
    beat_full (core_of program) id due (is_full program id.number beats.0.0 of beats.0.1 beats.0.2),
  )

  -- a heartbeat that was not refused is in the lane
  pub beat_sent : (told : Handed) → (told ≡ did.Full → ⊥) → Beating told
      → new ≡ record program {
        senders = with_change id.number (λ (k : ListState). behind k Beat) program.senders;
      }
  beat_sent did.Full refused beats = absurd (refused refl)
  beat_sent did.Nothing refused beats = beats
  beat_sent did.Row refused beats = absurd beats
  beat_sent did.End refused beats = absurd beats
  beat_sent did.Gone refused beats = absurd beats

  module _ (sent : new ≡ record program {
    senders = with_change id.number (λ (k : ListState). behind k Beat) program.senders;
  })
    where
      beat_lanes : (core_of new).lanes
          ≡ with_change id.number (λ (items : List ChangeItem). items ++ Beat ∷ []) (core_of program).lanes
      beat_lanes = ap (λ (q : Program). (core_of q).lanes) sent ∙ sent_held program id.number Beat

      beat_found : (items : List ChangeItem) × (entry_in id.number (core_of program).lanes ≡ Some items)
      beat_found = beat_lane (core_of program) id.number due of.shown.0 of.shown.1

      beat_back : back id.number (core_of new).lanes ≡ Some Beat
      beat_back =
          ap (back id.number) beat_lanes
          ∙ (pushed_back id.number Beat (core_of program).lanes beat_found.0 beat_found.1).0

      beat_core : record {
        db = program.state;
        lanes = with_change id.number (λ (items : List ChangeItem). items ++ Beat ∷ []) (core_of program).lanes;
      } ≡ core_of new
      beat_core =
          sym (ap core_of sent ∙ ap (λ ls. record { db = program.state; lanes = ls })
          (sent_held program id.number Beat))

      pub beat_world : IsWorld new
      beat_world =
          let lists : HasLists new = subst HasLists (sym sent)
          (of.lane, sent_fits program id.number Beat of.room)
          in
          record {
            lane = lists.0;
            room = lists.1;
            shown =
                subst (λ c. (w : World) × Shows c w) beat_core
                (_, beat_shows (core_of program) id due of.shown.0 of.shown.1);
          }

      pub beat_leads : (said : Reply) → said ≡ last_reply (back id.number (core_of new).lanes)
          → length (lane_items id.number (core_of new).lanes) ≤ new.state.limits.lane
          → Leads (core_of program) (event.Heartbeat id) (whole_reply said) (core_of new)
      beat_leads said last within =
          let lanes = pushed_back id.number Beat (core_of program).lanes beat_found.0 beat_found.1 in
          let grown : length (lane_items id.number (core_of new).lanes)
          ≡ length (lane_items id.number (core_of program).lanes) + 1 =
          ap (λ ls. length (lane_items id.number ls)) beat_lanes ∙ lanes.1 in
          let limit : new.state.limits.lane ≡ program.state.limits.lane =
          ap (λ (q : Program). q.state.limits.lane) sent in
          subst (λ x. Leads (core_of program) (event.Heartbeat id) (whole_reply x) (core_of new))
          (sym (last ∙ ap last_reply beat_back))
          (subst (λ c. Leads (core_of program) (event.Heartbeat id) (reply.Pushed Beat) c) beat_core
          (beat_pushed (core_of program) id due (omega (arith, within, grown, limit))))

-- ---- steps that keep the lanes

pub kept_lists : (old new : Program) → IsWorld old → new ≡ record old { state = new.state }
    → new.state.limits.lane ≡ old.state.limits.lane → HasLists new
kept_lists old new of rest limit = (
  ap (λ (program : Program). program.lane) rest ∙ (of.lane ∙ sym limit),
  subst (λ (program : Program). All (Fits program.lane) program.senders) (sym rest) of.room,
)

-- ---- beginning, taking and ending

module _ (old new : Program) (params : FeedParams) (id : FeedId) (of : IsWorld old) {T : Type 0} (end : T)
    (takes : T → Label → Type 0)
    (begun : Begins hosted_of with_hosted (λ (e : T) (label : Label) (capacity : ℕ). new_list label capacity)
    takes params old id.number end new) where
  pub begun_leads : Leads (core_of old) (event.Begin params) (reply.Opened id) (core_of new)
  begun_leads =
      let k = new_list (label_of (params_asked params) (hosted_of old.state)) old.lane in
      let db = with_hosted old.state (feeds.hosted_after_opening (hosted_of old.state) (params_of params)) in
      subst (λ c. Leads (core_of old) (event.Begin params) (reply.Opened id) c)
      (sym (ap core_of begun.step
      ∙ ap (λ lanes. record { db = db; lanes = lanes }) (added_held old.state.next_feed k old.senders)))
      (begin_leads (core_of old) params id begun.next begun.free)

  pub begun_lists : HasLists new
  begun_lists =
      let k = new_list (label_of (params_asked params) (hosted_of old.state)) old.lane in
      subst HasLists (sym begun.step)
      (of.lane, fits_added old.lane old.state.next_feed k old.senders refl of.room)

-- the fault for which no feed is opened
abbrev fault_of : (deleted full : Bool) → OpenFault
fault_of deleted full =
    unwrap_or (if deleted then Some open_fault.Deleted else if full then Some open_fault.TooManyFeeds else
    None)
    open_fault.NoMemory

pub told_deleted : (program : Program) (params : FeedParams)
    → open_fault.Deleted ≡ feeds.opening_fault (hosted_of program.state)
    → Leads (core_of program) (event.Begin params) reply.DatabaseDeleted (core_of program)
told_deleted program params is w h =
    (w, (h.deleted ∙ from program.state.deleted (feeds.is_full (hosted_of program.state)) is, refl), h)
  where
    from : (deleted full : Bool) → open_fault.Deleted ≡ fault_of deleted full → deleted ≡ true
    from true full e = refl
    from false true e = absurd (cc)
    from false false e = absurd (cc)

pub told_full : (program : Program) (params : FeedParams)
    → open_fault.TooManyFeeds ≡ feeds.opening_fault (hosted_of program.state)
    → Leads (core_of program) (event.Begin params) reply.TooManyFeeds (core_of program)
told_full program params is =
    begin_full (core_of program) params
    (from program.state.deleted (feeds.is_full (hosted_of program.state)) is)
  where
    from : (deleted full : Bool) → open_fault.TooManyFeeds ≡ fault_of deleted full
        → (if deleted then Some open_fault.Deleted else if full then Some open_fault.TooManyFeeds else None)
        ≡ Some open_fault.TooManyFeeds
    from true full e = absurd (cc)
    from false true e = refl
    from false false e = absurd (cc)

pub told_memory : (program : Program) (params : FeedParams)
    → open_fault.NoMemory ≡ feeds.opening_fault (hosted_of program.state)
    → MayFail (core_of program) (event.Begin params)
told_memory program params is =
    begin_grows (core_of program) params
    (from program.state.deleted (feeds.is_full (hosted_of program.state)) is)
  where
    from : (deleted full : Bool) → open_fault.NoMemory ≡ fault_of deleted full
        → (if deleted then Some open_fault.Deleted else if full then Some open_fault.TooManyFeeds else None)
        ≡ None
    from true full e = absurd (cc)
    from false true e = absurd (cc)
    from false false e = refl

module _ (old new : Program) (id : FeedId) (of : IsWorld old) where
  -- a take from the lane of this feed
  module _ (rest : new ≡ record old { senders = with_change id.number list.without_front old.senders }) where
    pub took_leads : (item : Option ChangeItem)
        → item ≡ option_and_then list.front (entry_in id.number old.senders)
        → Leads (core_of old) (event.Take id) (reply.Took item) (core_of new)
    took_leads item is =
        let core : core_of new
        ≡ record (core_of old) { lanes = without_front id.number (map held_entry old.senders) } =
        ap core_of rest
        ∙ ap (λ lanes. record { db = old.state; lanes = lanes })
        (changed_held id.number list.without_front (drop 1) (λ k. refl) old.senders) in
        subst (λ r. Leads (core_of old) (event.Take id) (reply.Took r) (core_of new))
        (front_held id.number old.senders ∙ sym is)
        (subst (λ c. Leads (core_of old) (event.Take id)
        (reply.Took (front id.number (map held_entry old.senders))) c) (sym core)
        (take_leads (core_of old) id))

    pub took_lists : HasLists new
    took_lists =
        subst HasLists (sym rest)
        (of.lane, fits_changed old.lane id.number list.without_front (λ k. refl) old.senders of.room)

  -- a finish of this feed
  module _
      (step : new ≡ record (stepped hosted_of with_hosted old (λ h. feeds.hosted_after_finish h id.number)) {
        senders = without id.number old.senders;
      }) where
    pub left_leads : (items : List ChangeItem) → items ≡ held_of (entry_in id.number old.senders)
        → Leads (core_of old) (event.Finish id) (reply.Left items) (core_of new)
    left_leads items is =
        let db = with_hosted old.state (feeds.hosted_after_finish (hosted_of old.state) id.number) in
        let core : core_of new
        ≡ record { db = db; lanes = without id.number (map held_entry old.senders) } =
        ap core_of step
        ∙ ap (λ lanes. record { db = db; lanes = lanes }) (without_held id.number old.senders) in
        subst (λ r. Leads (core_of old) (event.Finish id) (reply.Left r) (core_of new))
        (all_held id.number old.senders ∙ sym is)
        (subst (λ c. Leads (core_of old) (event.Finish id)
        (reply.Left (lane_items id.number (map held_entry old.senders))) c) (sym core)
        (finish_leads (core_of old) id))

    pub left_lists : HasLists new
    left_lists =
        subst HasLists (sym step) (of.lane, fits_without old.lane id.number old.senders of.room)
