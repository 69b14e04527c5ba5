-- The laws of every step and every run of a database with feeds (CouchDB API reference, _changes).
use Rattle.std.specs.Prelude.{◌≡◌, ℕ, ◌≤◌, List, [], ◌++◌, length, false, Option, Some, None}
use Rattle.hub_model.specs.Journal.{Edit, IsLegal}
use Rattle.hub_model.specs.RightlyHanded.{ChangeItem, RightlyHanded, Fits}
use Rattle.hub_model.specs.RowKind.{change_rows}
use Rattle.hub_world.specs.World.{Limits, World, Subscription, subscription, empty, is_finished}
use Rattle.hub_world.specs.Step.{Step, Run}
use Rattle.hub_world.specs.Handed.{items_handed, handed_by, items_taken, IsPrefixOf}
use Rattle.hub_world.specs.declared.event.Event.{Event}
use Rattle.hub_world.specs.declared.reply.Reply.{Reply}

-- from each world each event has a step
abbrev pub IsAnswered : Type 0
IsAnswered = (old : World) (event : Event) → (reply : Reply) × (new : World) × Step old event reply new

-- an event has no other step from a world: no other reply, and no other new world
abbrev pub IsOnlyAnswer : Type 0
IsOnlyAnswer =
    (old new other_new : World) (event : Event) (reply other_reply : Reply)
    → Step old event reply new → Step old event other_reply other_new
    → (other_reply ≡ reply) × (other_new ≡ new)

-- each list of events has one run
abbrev pub RunsOnce : Type 0
RunsOnce = (old : World) (events : List Event) →
    (replies : List Reply) × (new : World) × Run old events replies new
    × ((other_replies : List Reply) (other_new : World) → Run old events other_replies other_new
    → (other_replies ≡ replies) × (other_new ≡ new))

-- after every run each edit of the journal was acceptable after the edits before it
abbrev pub StaysLegal : Type 0
StaysLegal =
    (limits : Limits) (events : List Event) (replies : List Reply) (world : World)
    → Run (empty limits) events replies world → IsLegal world.journal

-- the list is rightly handed for the feed; where there is no feed, the list is empty
abbrev pub IsRight : List Edit → Option Subscription → List ChangeItem → Type 0
IsRight journal None items = items ≡ []
IsRight journal (Some found) items = RightlyHanded change_rows journal found.feed items

-- the list fits the feed; where there is no feed, the list is empty
abbrev pub FitsIn : List Edit → Option Subscription → List ChangeItem → Type 0
FitsIn journal None items = items ≡ []
FitsIn journal (Some found) items = Fits change_rows journal found.feed items

-- a list that fits a feed fits it after each event, with the item that the event handed
abbrev pub KeepsFitting : Type 0
KeepsFitting = (old new : World) (event : Event) (reply : Reply) (number : ℕ) (items : List ChangeItem) →
    Step old event reply new → FitsIn old.journal (subscription old number) items
    → FitsIn new.journal (subscription new number) (items ++ handed_by number event reply)

-- the items that a feed handed are rightly handed for the journal at the end
abbrev pub HandsRightly : Type 0
HandsRightly = (limits : Limits) (events : List Event) (replies : List Reply) (world : World) (number : ℕ) →
    Run (empty limits) events replies world
    → IsRight world.journal (subscription world number) (items_handed number events replies)

-- the items that were taken from a feed are a prefix of the items that it handed
abbrev pub TakesInOrder : Type 0
TakesInOrder = (limits : Limits) (events : List Event) (replies : List Reply) (world : World) (number : ℕ) →
    Run (empty limits) events replies world
    → IsPrefixOf (items_taken number events replies) (items_handed number events replies)

-- for a feed that is not finished, the items that were taken, and then those in its lane, are the items that
-- it handed. Where the rows 6, 7 and 8 were handed and row 6 was taken, the lane holds the rows 7 and 8.
abbrev pub HoldsTheRest : Type 0
HoldsTheRest =
    (limits : Limits) (events : List Event) (replies : List Reply) (world : World) (number : ℕ)
    (found : Subscription) →
    Run (empty limits) events replies world → subscription world number ≡ Some found
    → is_finished found.feed.status ≡ false
    → items_taken number events replies ++ found.lane ≡ items_handed number events replies

-- a lane never holds more items than the limit says
abbrev pub LanesAreLimited : Type 0
LanesAreLimited =
    (limits : Limits) (events : List Event) (replies : List Reply) (world : World) (number : ℕ)
    (found : Subscription) →
    Run (empty limits) events replies world → subscription world number ≡ Some found
    → length found.lane ≤ limits.lane
