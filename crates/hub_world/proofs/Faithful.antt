-- The replies of a run are faithful to each of its feeds.
use Rattle.std.proofs.Common.{◌≡◌, ℕ, zero, suc, ◌≤◌, List, [], ◌∷◌, ◌++◌, length, map, take, drop, Bool}
use Rattle.std.proofs.Common.{true, false, inl, inr, sym, ◌∙◌, ap, subst, refl, append_assoc, arith}
use Rattle.std.specs.Prelude.{All, Contains, IsTrue, Option, Some, ◌==◌, if◌then◌else◌}
use Rattle.std.proofs.Math.Seq.{take-append_seam}
use Rattle.std.proofs.lemmas.List.{take-append-drop}
use Rattle.std.proofs.lemmas.List.Elements.{All-contains, All-weaker}
use Rattle.std.proofs.lemmas.List.Elements.{Contains-append_left, Contains-append_right}
use Rattle.std.proofs.lemmas.Option.{same_Some, none-some}
use Rattle.hub_model.specs.Current.{Current, current}
use Rattle.hub_model.specs.Feed.{Feed, Due, DueRow, DueEnd, DueNothing, DueGone}
use Rattle.hub_model.specs.Filter.{is_passing}
use Rattle.hub_model.specs.Hand.{journal_due, item_of_due, next_change}
use Rattle.hub_model.specs.Journal.{Edit}
use Rattle.hub_model.specs.Row.{ChangeRow, IsRow, row_of}
use Rattle.hub_model.specs.RightlyHanded.{ChangeItem, rows_of, EndsAt, IsRowOf, RightlyHanded}
use Rattle.hub_model.specs.RowKind.{change_rows}
use Rattle.hub_model.specs.declared.feeds.Item.TheVariants.{Row, Beat, End}
use Rattle.hub_world.specs.World.{Limits, World, Subscription, subscription, empty}
use Rattle.hub_world.specs.Step.{Step, Run, journal_at}
use Rattle.hub_world.specs.Handed.{IsStepAt, items_handed, handed_by}
use Rattle.hub_world.specs.Laws.{IsRight}
use Rattle.hub_world.specs.Headline.{IsFaithful, AreRight, Headline}
use Rattle.hub_world.specs.declared.event.Event.{Event}
use Rattle.hub_world.specs.declared.event.Event.TheVariants.{Hand, Heartbeat}
use Rattle.hub_world.specs.declared.reply.Reply.{Reply}
use Rattle.hub_world.specs.declared.reply.Reply.TheVariants.{Pushed}
use Rattle.hub_model.proofs.Items.{rows_of-append}
use Rattle.hub_model.proofs.Lists.{contains_none, contains_here, contains_there, contains_cases, same_split}
use Rattle.hub_model.proofs.Shown.{current_is}
use Rattle.hub_model.proofs.Sorted.{all_from}
use Rattle.hub_world.proofs.Answering.{only_run}
use Rattle.hub_world.proofs.Journals.{run_adds}
use Rattle.hub_world.proofs.Lanes.{takes_in_order, hands_rightly}

-- an End among the items names the place
ends_place : (place : ℕ) (items : List ChangeItem) (last n : ℕ) → EndsAt place items
    → Contains items (End last n) → last ≡ place
ends_place place [] last n h c = absurd (contains_none _ c)
ends_place place (Row row ∷ items) last n h c =
    elim (contains_cases _ _ items c) [ inl e ↦ absurd (cc) | inr d ↦ ends_place place items last n h d ]
ends_place place (Beat ∷ items) last n h c =
    elim (contains_cases _ _ items c) [ inl e ↦ absurd (cc) | inr d ↦ ends_place place items last n h d ]
ends_place place (End l m ∷ items) last n h c = elim (contains_cases _ _ items c) [
  | inl e ↦ let same : l ≡ last = cc in sym same ∙ h.0
  | inr d ↦ absurd (contains_none _ (subst (λ (xs : List ChangeItem). Contains xs (End last n)) h.1 d))
]

-- no item comes after an End
ends_last : (place : ℕ) (before later : List ChangeItem) (last n : ℕ)
    → EndsAt place (before ++ End last n ∷ later) → later ≡ []
ends_last place [] later last n h = h.1
ends_last place (Row row ∷ before) later last n h = ends_last place before later last n h
ends_last place (Beat ∷ before) later last n h = ends_last place before later last n h
ends_last place (End l m ∷ before) later last n h =
    absurd (contains_none (End last n)
    (subst (λ (items : List ChangeItem). Contains items (End last n)) h.1
    (Contains-append_right before (End last n ∷ later) (End last n) (contains_here _ _))))

-- the row that has this sequence, where the sequence is among those of the rows
row_at : (rows : List ChangeRow) (n : ℕ) → Contains (map (λ (r : ChangeRow). r.seq) rows) n
    → (row : ChangeRow) × Contains rows row × (row.seq ≡ n)
row_at [] n c = absurd (contains_none n c)
row_at (row ∷ rows) n c = elim (contains_cases _ _ _ c) [
  | inl e ↦ (row, contains_here row rows, e)
  | inr d ↦ let i = row_at rows n d in (i.0, contains_there row i.0 rows i.1, i.2)
]

-- two current rows of one sequence, one in a front of the journal and one in all of it, are of one document
same_document : (journal : List Edit) (n : ℕ) (row other : Current) → Contains (current journal) row
    → Contains (current (take n journal)) other → other.seq ≡ row.seq → other.id ≡ row.id
same_document journal n row other p q s =
    let x = current_is journal row p in
    let y = current_is (take n journal) other q in
    let whole : y.1.0 ++ y.0 ∷ (y.1.1 ++ drop n journal) ≡ x.1.0 ++ x.0 ∷ x.1.1 =
    sym (append_assoc y.1.0 (y.0 ∷ y.1.1) (drop n journal))
    ∙ (ap (λ (other_journal : List Edit). other_journal ++ drop n journal) (sym y.1.2)
    ∙ (take-append-drop n journal ∙ x.1.2)) in
    let one =
    same_split y.1.0 x.1.0 (y.1.1 ++ drop n journal) x.1.1 y.0 x.0 (omega (arith, x.1.3, y.1.3, s)) whole in
    sym y.2 ∙ (ap (λ (edit : Edit). edit.id) one.1 ∙ x.2)

row_document : (journal : List Edit) (feed : Feed) (row : ChangeRow) (c : Current)
    → IsRowOf change_rows journal feed row → Contains (current journal) c → row.seq ≡ c.seq → row.id ≡ c.id
row_document journal feed row c r p s =
    let d = r.shown.0 in
    let seq : row.seq ≡ d.seq = ap (λ (x : ChangeRow). x.seq) r.shown.2 in
    ap (λ (x : ChangeRow). x.id) r.shown.2 ∙ same_document journal row.seen c d p r.shown.1 (sym seq ∙ s)

-- the row that a step hands has seen the journal of that step
due_seen : (journal : List Edit) (feed : Feed) (due : Due) (row : ChangeRow)
    → item_of_due (row_of journal feed.params.style feed.params.include_docs) (current journal) due ≡ Some
    (Row row) → row.seen ≡ length journal
due_seen journal feed (DueRow c) row e =
    let same : Row (row_of journal feed.params.style feed.params.include_docs c) ≡ Row row = same_Some _ _ e
    in
    let r : row_of journal feed.params.style feed.params.include_docs c ≡ row = cc in
    ap (λ (x : ChangeRow). x.seen) (sym r)
due_seen journal feed (DueEnd last) row e = absurd (cc)
due_seen journal feed DueNothing row e = absurd (none-some _ e)
due_seen journal feed DueGone row e = absurd (none-some _ e)

item_seen : (journal : List Edit) (feed : Feed) (item : ChangeItem) (row : ChangeRow) (b : Bool)
    → next_change journal feed ≡ Some item → Contains (rows_of (if b then item ∷ [] else [])) row
    → row.seen ≡ length journal
item_seen journal feed (Row r) row true e c = elim (contains_cases r row [] c) [
  | inl s ↦ due_seen journal feed (journal_due journal feed) row
      (subst (λ (x : ChangeRow). next_change journal feed ≡ Some (Row x)) s e)
  | inr d ↦ absurd (contains_none row d)
]
item_seen journal feed Beat row true e c = absurd (contains_none row c)
item_seen journal feed (End last n) row true e c = absurd (contains_none row c)
item_seen journal feed item row false e c = absurd (contains_none row c)

beat_rows : (b : Bool) (row : ChangeRow) → Contains (rows_of (if b then Beat ∷ [] else [])) row → ⊥
beat_rows true row c = contains_none row c
beat_rows false row c = contains_none row c

step_seen : (old : World) (event : Event) (reply : Reply) (new : World) (f : ℕ) (row : ChangeRow)
    → Step old event reply new → Contains (rows_of (handed_by f event reply)) row
    → row.seen ≡ length old.journal
step_seen old (Hand feed) (Pushed item) new f row m c =
    item_seen old.journal m.0.feed item row (feed.number == f) m.2 c
step_seen old (Heartbeat feed) (Pushed item) new f row m c =
    absurd (beat_rows (feed.number == f) row
    (subst (λ (x : ChangeItem). Contains (rows_of (if feed.number == f then x ∷ [] else [])) row) m.3 c))
step_seen old _ _ new f row m c = absurd (contains_none row c)

-- the rows that a step hands are among the rows that the run hands
rows_in : (f place : ℕ) (events : List Event) (replies : List Reply) (event : Event) (reply : Reply)
    (row : ChangeRow)
    → IsStepAt events replies place event reply → Contains (rows_of (handed_by f event reply)) row
    → Contains (rows_of (items_handed f events replies)) row
rows_in f place [] replies event reply row at c = absurd (none-some _ at.0)
rows_in f place (e ∷ events) [] event reply row at c = absurd (none-some _ at.1)
rows_in f zero (e ∷ events) (r ∷ replies) event reply row at c =
    let here : handed_by f event reply ≡ handed_by f e r =
    ap (λ (x : Event). handed_by f x reply) (sym (same_Some _ _ at.0))
    ∙ ap (handed_by f e) (sym (same_Some _ _ at.1)) in
    subst (λ (rows : List ChangeRow). Contains rows row)
    (sym (rows_of-append (handed_by f e r) (items_handed f events replies)))
    (Contains-append_left (rows_of (handed_by f e r)) (rows_of (items_handed f events replies)) row
    (subst (λ (items : List ChangeItem). Contains (rows_of items) row) here c))
rows_in f (suc place) (e ∷ events) (r ∷ replies) event reply row at c =
    subst (λ (rows : List ChangeRow). Contains rows row)
    (sym (rows_of-append (handed_by f e r) (items_handed f events replies)))
    (Contains-append_right (rows_of (handed_by f e r)) (rows_of (items_handed f events replies)) row
    (rows_in f place events replies event reply row at c))

-- The step at a place of a run. The world before it has the journal of that place, and the run adds to that
-- journal.
record HasStepAt (J : List Edit) (event : Event) (reply : Reply) (new : World) : Type 0 where
  before : World
  behind : World
  journal : before.journal ≡ J
  step : Step before event reply behind
  added : List Edit
  adds : new.journal ≡ J ++ added

step_at : (place : ℕ) (old : World) (events : List Event) (replies : List Reply) (new : World)
    (run : Run old events replies new) (event : Event) (reply : Reply)
    → IsStepAt events replies place event reply
    → HasStepAt (journal_at old events replies new run place) event reply new
step_at place old [] replies new run event reply at = absurd (none-some _ at.0)
step_at place old (e ∷ events) [] new run event reply at = absurd (none-some _ at.1)
step_at zero old (e ∷ events) (r ∷ replies) new run event reply at =
    let more = run_adds old (e ∷ events) (r ∷ replies) new run in
    record {
      before = old;
      behind = run.0;
      journal = refl;
      step = subst (λ (x : Event). Step old x reply run.0) (same_Some _ _ at.0)
          (subst (λ (x : Reply). Step old e x run.0) (same_Some _ _ at.1) run.1);
      added = more.0;
      adds = more.1;
    }
step_at (suc place) old (e ∷ events) (r ∷ replies) new run event reply at =
    step_at place run.0 events replies new run.2 event reply at

-- the journal after the last event is that of the world which the run leaves
journal_left : (old : World) (events : List Event) (replies : List Reply) (new : World)
    (run : Run old events replies new)
    → journal_at old events replies new run (length events) ≡ new.journal
journal_left old [] [] new run = ap (λ (world : World). world.journal) (sym run)
journal_left old [] (reply ∷ replies) new run = absurd run
journal_left old (event ∷ events) [] new run = absurd run
journal_left old (event ∷ events) (reply ∷ replies) new run =
    journal_left run.0 events replies new run.2

-- each handed row is current at its step
current_at : (old : World) (events : List Event) (replies : List Reply) (new : World)
    (run : Run old events replies new) (f : ℕ) (feed : Feed)
    → RightlyHanded change_rows new.journal feed (items_handed f events replies)
    → (place : ℕ) (event : Event) (reply : Reply) → IsStepAt events replies place event reply
    → All (IsRow (journal_at old events replies new run place) feed.params.style feed.params.include_docs)
    (rows_of (handed_by f event reply))
current_at old events replies new run f feed right place event reply at = all_from _ _ (λ row c.
    let J = journal_at old events replies new run place in
    let here = step_at place old events replies new run event reply at in
    let of : IsRowOf change_rows new.journal feed row =
    All-contains (IsRowOf change_rows new.journal feed) _ row right.rows
    (rows_in f place events replies event reply row at c) in
    let seen : row.seen ≡ length J =
    step_seen here.before event reply here.behind f row here.step c ∙ ap length here.journal in
    let front : take row.seen new.journal ≡ J =
    ap (λ (n : ℕ). take n new.journal) seen
    ∙ (ap (take (length J)) here.adds ∙ take-append_seam J here.added) in
    subst (λ (other_journal : List Edit). IsRow other_journal feed.params.style feed.params.include_docs row)
    front
    (of.shown.0, of.shown.1, of.shown.2))

-- the items that a run handed are rightly handed
rightly : (limits : Limits) (events : List Event) (replies : List Reply) (world : World)
    → Run (empty limits) events replies world → (f : ℕ) (s : Subscription) → subscription world f ≡ Some s
    → RightlyHanded change_rows world.journal s.feed (items_handed f events replies)
rightly limits events replies world run f s e =
    subst (λ (maybe_subscription : Option Subscription).
    IsRight world.journal maybe_subscription (items_handed f events replies)) e
    (hands_rightly limits events replies world f run)

-- the replies of a run are faithful by its own journals
own_faithful : (limits : Limits) (events : List Event) (replies : List Reply) (world : World)
    (run : Run (empty limits) events replies world) (f : ℕ) (s : Subscription) → subscription world f ≡ Some s
    → IsFaithful (journal_at (empty limits) events replies world run) events replies f s.feed
own_faithful limits events replies world run f s e =
    let items = items_handed f events replies in
    let right = rightly limits events replies world run f s e in
    record {
      prefix = takes_in_order limits events replies world f run;
      rising = λ i k d a b. (right.rising i k d a b).rises;
      at_step = current_at (empty limits) events replies world run f s.feed right;
      passing =
          All-weaker (IsRowOf change_rows world.journal s.feed) _
          (λ row r.
          subst (λ (x : ChangeRow). IsTrue (is_passing s.feed.params.filter x.id)) (sym r.shown.2) r.shown.3)
          (rows_of items) right.rows;
      below = λ last n c.
          let at = ends_place s.feed.place items last n right.ends c in
          All-weaker (IsRowOf change_rows world.journal s.feed) (λ (row : ChangeRow). row.seq ≤ last)
          (λ row r. omega (arith, r.reached, at)) (rows_of items) right.rows;
      last = λ before later last n same.
          ends_last s.feed.place before later last n (subst (EndsAt s.feed.place) same right.ends);
      whole = λ c in_rows q a z.
          let here : Contains (current world.journal) c =
          subst (λ (journal : List Edit). Contains (current journal) c)
          (journal_left (empty limits) events replies world run) in_rows in
          let found = row_at (rows_of items) c.seq (right.whole c here q a z) in (
            found.0,
            found.1,
            found.2,
            row_document world.journal s.feed found.0 c
                (All-contains (IsRowOf change_rows world.journal s.feed) _ found.0 right.rows found.1) here
                found.2,
          );
    }

pub faithful : Headline
faithful limits events replies world run own own_world own_run f s e =
    let same =
    (only_run (empty limits) own_world world events own replies own_run run).0 in
    subst (λ (told : List Reply).
    IsFaithful (journal_at (empty limits) events own own_world own_run) events told f s.feed) (sym same)
    (own_faithful limits events own own_world own_run f s e)

-- the replies of a run are right by its own journal
pub handed_right : (limits : Limits) (events : List Event) (replies : List Reply) (world : World)
    → Run (empty limits) events replies world → AreRight limits events replies
handed_right limits events replies world run own own_world own_run f s e =
    let same =
    (only_run (empty limits) own_world world events own replies own_run run).0 in
    subst (λ (told : List Reply). RightlyHanded change_rows own_world.journal s.feed (items_handed f events told))
    (sym same) (rightly limits events own own_world own_run f s e)
