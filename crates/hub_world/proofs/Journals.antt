-- The effect of a run on the journal: the run adds edits at the end, and leaves the journal legal.
use Rattle.std.proofs.Common.{◌≡◌, ℕ, List, [], ◌∷◌, map, sym, ◌∙◌, ap, subst, refl}
use Rattle.std.specs.Prelude.{Option, Some, None}
use Rattle.std.proofs.lemmas.List.{append-nil}
use Rattle.hub_database.specs.Edits.{edit_of, draft_of}
use Rattle.hub_model.specs.Draft.{draft_result}
use Rattle.hub_model.specs.Journal.{Edit, IsLegal}
use Rattle.hub_model.specs.Outcome.{merge_result}
use Rattle.hub_world.specs.Laws.{StaysLegal}
use Rattle.hub_world.specs.World.{World, Subscription, empty, subscription}
use Rattle.hub_world.specs.World.{merges_result, drafts_result, world_after_expiry, world_after_take, world_after_finish}
use Rattle.hub_world.specs.declared.event.Event.{Event}
use Rattle.hub_world.specs.declared.event.Event.TheVariants.{Write, Interactive, Begin, Hand, Heartbeat}
use Rattle.hub_world.specs.declared.event.Event.TheVariants.{Expire, Take, Finish, Delete}
use Rattle.hub_world.specs.declared.reply.Reply.{Reply}
use Rattle.hub_world.specs.declared.reply.Reply.TheVariants.{Outcomes, Opened, TooManyFeeds, DatabaseDeleted}
use Rattle.hub_world.specs.declared.reply.Reply.TheVariants.{Pushed, Full, Nothing, Gone, Took, Left}
use Rattle.hub_world.specs.Step.{Step, Run}
use Rattle.hub_model.proofs.Adds.{Adds, adds_both, merge_adds, make_adds, all_add}
use Rattle.hub_model.proofs.Writes.{all_legal, merges_legal, makes_legal}

-- the journal after an event
abbrev journal_after : World → Event → List Edit
journal_after world (Write docs) = (merges_result world (map edit_of docs)).journal
journal_after world (Interactive docs) = (drafts_result world (map draft_of docs)).journal
journal_after world _ = world.journal

journal_expired : (maybe_subscription : Option Subscription) (f : ℕ) (world : World)
    → (world_after_expiry maybe_subscription f world).journal ≡ world.journal
journal_expired None f world = refl
journal_expired (Some subscription) f world = refl

journal_took : (maybe_subscription : Option Subscription) (f : ℕ) (world : World)
    → (world_after_take maybe_subscription f world).journal ≡ world.journal
journal_took None f world = refl
journal_took (Some subscription) f world = refl

journal_finished : (maybe_subscription : Option Subscription) (f : ℕ) (world : World)
    → (world_after_finish maybe_subscription f world).journal ≡ world.journal
journal_finished None f world = refl
journal_finished (Some subscription) f world = refl

j : {a b : World} → a ≡ b → a.journal ≡ b.journal
j e = ap (λ (world : World). world.journal) e

step_journal : (old : World) (event : Event) (reply : Reply) (new : World) → Step old event reply new
    → new.journal ≡ journal_after old event
step_journal old (Write docs) (Outcomes batch) new m = j m.1
step_journal old (Write docs) _ new m = absurd m
step_journal old (Interactive docs) (Outcomes batch) new m = j m.1
step_journal old (Interactive docs) _ new m = absurd m
step_journal old (Begin params) (Opened f) new m = j m.3
step_journal old (Begin params) DatabaseDeleted new m = j m.1
step_journal old (Begin params) TooManyFeeds new m = j m.2
step_journal old (Begin params) _ new m = absurd m
step_journal old (Hand feed) (Pushed item) new m = j m.3.1
step_journal old (Hand feed) Full new m = j m.4
step_journal old (Hand feed) Nothing new m = j m.3
step_journal old (Hand feed) Gone new m = j m.1
step_journal old (Hand feed) _ new m = absurd m
step_journal old (Heartbeat feed) (Pushed item) new m = j m.4.1
step_journal old (Heartbeat feed) Full new m = j m.4
step_journal old (Heartbeat feed) Nothing new m = j m.1
step_journal old (Heartbeat feed) _ new m = absurd m
step_journal old (Expire feed) Nothing new m =
    j m ∙ journal_expired (subscription old feed.number) feed.number old
step_journal old (Expire feed) _ new m = absurd m
step_journal old (Take feed) (Took item) new m =
    j m.1 ∙ journal_took (subscription old feed.number) feed.number old
step_journal old (Take feed) _ new m = absurd m
step_journal old (Finish feed) (Left items) new m =
    j m.1 ∙ journal_finished (subscription old feed.number) feed.number old
step_journal old (Finish feed) _ new m = absurd m
step_journal old Delete Nothing new m = j m.1
step_journal old Delete DatabaseDeleted new m = j m.1
step_journal old Delete _ new m = absurd m

-- a fact about journals that each event keeps is kept by each step and each run
module _ (P : List Edit → Type 0)
    (keeps : (world : World) (event : Event) → P world.journal → P (journal_after world event)) where
  pub run_journal : (old : World) (events : List Event) (replies : List Reply) (new : World)
      → Run old events replies new → P old.journal → P new.journal
  run_journal old [] [] new r h = subst P (sym (j r)) h
  run_journal old [] (reply ∷ replies) new r h = absurd r
  run_journal old (event ∷ events) [] new r h = absurd r
  run_journal old (event ∷ events) (reply ∷ replies) new r h =
      run_journal r.0 events replies new r.2
      (subst P (sym (step_journal old event reply r.0 r.1)) (keeps old event h))

legal_after : (world : World) (event : Event) → IsLegal world.journal → IsLegal (journal_after world event)
legal_after world (Write docs) h =
    all_legal (merge_result world.limits.journal) (merges_legal world.limits.journal) world.deleted world.journal
    (map edit_of docs)
    h
legal_after world (Interactive docs) h =
    all_legal (draft_result world.limits.journal) (makes_legal world.limits.journal) world.deleted world.journal
    (map draft_of docs)
    h
legal_after world _ h = h

pub stays_legal : StaysLegal
stays_legal limits events replies w r = run_journal IsLegal legal_after (empty limits) events replies w r tt

-- an event adds edits to a journal that had edits added to it
adds_after : (journal : List Edit) (world : World) (event : Event) → Adds journal world.journal
    → Adds journal (journal_after world event)
adds_after journal world (Write docs) a =
    adds_both journal world.journal _ a
    (all_add (merge_result world.limits.journal) (merge_adds world.limits.journal) world.deleted world.journal
    (map edit_of docs))
adds_after journal world (Interactive docs) a =
    adds_both journal world.journal _ a
    (all_add (draft_result world.limits.journal) (make_adds world.limits.journal) world.deleted world.journal
    (map draft_of docs))
adds_after journal world _ a = a

pub run_adds : (old : World) (events : List Event) (replies : List Reply) (new : World)
    → Run old events replies new → Adds old.journal new.journal
run_adds old events replies new r =
    run_journal (Adds old.journal) (adds_after old.journal) old events replies new r
    ([], sym (append-nil old.journal))
