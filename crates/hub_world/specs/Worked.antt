-- Worked runs over small databases (own).
use Rattle.std.specs.Prelude.{◌≡◌, ℕ, List, [], ◌∷◌, map, true, false, Option, Some, None, codes}
use Rattle.hub_document.specs.declared.doc.Doc.{Doc}
use Rattle.hub_feed.specs.declared.host.FeedId.{FeedId}
use Rattle.hub_filter.specs.declared.filter.Filter.{Filter}
use Rattle.hub_filter.specs.declared.filter.Filter.TheVariants.{All, DocIds, Design}
use Rattle.hub_model.specs.Journal.{Edit}
use Rattle.hub_model.specs.Revision.{Revision}
use Rattle.hub_model.specs.RightlyHanded.{ChangeItem}
use Rattle.hub_model.specs.WorkedFeeds.{rev, doc}
use Rattle.hub_model.specs.declared.feeds.Item.TheVariants.{Row, Beat, End}
use Rattle.hub_model.specs.declared.feeds.Mode.{Mode}
use Rattle.hub_model.specs.declared.feeds.Mode.TheVariants.{Normal, Longpoll, Continuous}
use Rattle.hub_model.specs.declared.feeds.Since.{Since}
use Rattle.hub_model.specs.declared.feeds.Since.TheVariants.{Plain, Tagged, Now}
use Rattle.hub_model.specs.declared.feeds.Style.{Style}
use Rattle.hub_model.specs.declared.feeds.Style.TheVariants.{MainOnly, AllDocs}
use Rattle.hub_model.specs.declared.outcomes.Fault.TheVariants.{Deleted, Contradicts, Conflict}
use Rattle.hub_model.specs.declared.outcomes.Outcome.{Outcome}
use Rattle.hub_model.specs.declared.outcomes.Outcome.TheVariants.{Stored, Known, Refused}
use Rattle.hub_params.specs.declared.feed_params.FeedParams.{FeedParams}
use Rattle.hub_world.specs.World.{Limits, World, empty}
use Rattle.hub_world.specs.Step.{Run, whole_batch}
use Rattle.hub_world.specs.Handed.{items_handed, items_taken}
use Rattle.hub_world.specs.declared.event.Event.{Event}
use Rattle.hub_world.specs.declared.event.Event.TheVariants.{Write, Interactive, Begin, Hand, Heartbeat}
use Rattle.hub_world.specs.declared.event.Event.TheVariants.{Expire, Take, Finish, Delete}
use Rattle.hub_world.specs.declared.reply.Reply.{Reply}
use Rattle.hub_world.specs.declared.reply.Reply.TheVariants.{Outcomes, Opened, TooManyFeeds, DatabaseDeleted}
use Rattle.hub_world.specs.declared.reply.Reply.TheVariants.{Pushed, Full, Nothing, Gone, Took, Left}

-- on a new database the events have a run with these replies; it is the only one (law `answers`)
pub record HasReplies (limits : Limits) (events : List Event) (replies : List Reply) : Type 0 where
  pub world : World
  pub run : Run (empty limits) events replies world

-- in the run of the events the feed of this number hands out these items
pub record HasHanded (limits : Limits) (events : List Event) (number : ℕ) (items : List ChangeItem) :
    Type 0 where
  pub replies : List Reply
  pub has_replies : HasReplies limits events replies
  pub items_are : items_handed number events replies ≡ items

-- in the run of the events these items are taken from the feed of this number
pub record HasTaken (limits : Limits) (events : List Event) (number : ℕ) (items : List ChangeItem) :
    Type 0 where
  pub replies : List Reply
  pub has_replies : HasReplies limits events replies
  pub items_are : items_taken number events replies ≡ items

-- room for one feed, and for two items in its lane
abbrev pub narrow_limits : Limits
narrow_limits = record { journal = 100; feeds = 1; lane = 2 }

-- limits that the worked runs do not reach
abbrev pub roomy : Limits
roomy = record { journal = 100; feeds = 10; lane = 64 }

-- the feed of this number
abbrev pub feed : ℕ → FeedId
feed number = record { number = number }

-- the document with the history of this edit: it is stored as the edit
abbrev pub document : Edit → Doc
document edit =
    record { id = edit.id; rev = None; path = Some edit.path; deleted = edit.deleted; body = edit.body }

-- the write of the documents of these edits
abbrev pub write_event : List Edit → Event
write_event edits = Write (map document edits)

-- the reply to a write that has these outcomes
abbrev pub outcomes : List (Outcome Revision) → Reply
outcomes list = Outcomes (whole_batch list)

-- the parameters of a feed that shows winners alone, without documents and heartbeats
abbrev pub main_only_params : Mode → Since → Option ℕ → Filter → FeedParams
main_only_params mode since limit filter =
    record {
      mode = mode;
      since = since;
      limit = limit;
      descending = false;
      style = MainOnly;
      include_docs = false;
      filter = filter;
      heartbeat = None;
      timeout = 60000;
    }

-- a row that shows this winner, made when the journal had `seen` edits
abbrev pub row : ℕ → List ℕ → Revision → ℕ → ChangeItem
row seq id winner seen =
    Row (record { seq = seq; id = id; changes = winner ∷ []; deleted = false; doc = None; seen = seen })

-- a first edit of the document
abbrev pub first : List ℕ → Edit
first id = doc id (rev 1 (codes "a") ∷ [])

-- a second edit of the document, whose parent is its first edit
abbrev pub second : List ℕ → Edit
second id = doc id (rev 2 (codes "b") ∷ rev 1 (codes "a") ∷ [])

-- edits of a, b, then a again: a feed hands b at 2, a at 3, and nothing at 1
abbrev pub AgainIsLater : Type 0
AgainIsLater =
    HasReplies roomy (write_event (first (codes "a") ∷ first (codes "b") ∷ second (codes "a") ∷ [])
    ∷ Begin (main_only_params Normal (Plain 0) None All) ∷ Hand (feed 0) ∷ Hand (feed 0) ∷ Hand (feed 0) ∷ Hand (feed 0)
    ∷ [])
    (outcomes (Stored (rev 1 (codes "a")) ∷ Stored (rev 1 (codes "a")) ∷ Stored (rev 2 (codes "b")) ∷ [])
    ∷ Opened (feed 0) ∷ Pushed (row 2 (codes "b") (rev 1 (codes "a")) 3)
    ∷ Pushed (row 3 (codes "a") (rev 2 (codes "b")) 3) ∷ Pushed (End 3 0) ∷ Gone ∷ [])

-- three leaves of a document, of which 2-b is deleted
abbrev pub three_leaves : List Edit
three_leaves =
    record {
      id = codes "x";
      path = rev 2 (codes "b") ∷ rev 1 (codes "q")
          ∷ [];
      deleted = true;
      body = codes "{}";
    }
    ∷ doc (codes "x") (rev 2 (codes "a") ∷ rev 1 (codes "q") ∷ []) ∷ doc (codes "x") (rev 1 (codes "z") ∷ [])
    ∷ []

-- the write of these leaves, and two Hands to a feed of this style that shows documents
abbrev pub style_events : Style → List Event
style_events style =
    write_event three_leaves
    ∷ Begin (record {
      mode = Continuous;
      since = Plain 0;
      limit = None;
      descending = false;
      style = style;
      include_docs = true;
      filter = All;
      heartbeat = None;
      timeout = 60000;
    }) ∷ Hand (feed 0) ∷ Hand (feed 0) ∷ []

-- the row of the document x that lists these revisions
abbrev pub shown_row : List Revision → ChangeItem
shown_row changes =
    Row (record {
      seq = 3;
      id = codes "x";
      changes = changes;
      deleted = false;
      doc = Some (codes "{}");
      seen = 3;
    })

-- main_only lists the winner, all_docs every leaf, best first
abbrev pub StylesList : Type 0
StylesList =
    HasHanded roomy (style_events MainOnly) 0 (shown_row (rev 2 (codes "a") ∷ []) ∷ [])
    × HasHanded roomy (style_events AllDocs) 0
    (shown_row (rev 2 (codes "a") ∷ rev 1 (codes "z") ∷ rev 2 (codes "b") ∷ []) ∷ [])

-- eight documents, whose ids are one byte
abbrev pub eight : List Edit
eight =
    first (1 ∷ []) ∷ first (2 ∷ []) ∷ first (3 ∷ []) ∷ first (4 ∷ []) ∷ first (5 ∷ []) ∷ first (6 ∷ [])
    ∷ first (7 ∷ []) ∷ first (8 ∷ []) ∷ []

-- a normal feed on the eight: after its third row those at 3 and 5 are written again, and so lie above its
-- bound
abbrev pub BoundHolds : Type 0
BoundHolds =
    HasHanded roomy (write_event eight ∷ Begin (main_only_params Normal (Plain 0) None All) ∷ Hand (feed 0) ∷ Hand (feed 0)
    ∷ Hand (feed 0) ∷ write_event (second (3 ∷ []) ∷ second (5 ∷ []) ∷ []) ∷ Hand (feed 0) ∷ Hand (feed 0)
    ∷ Hand (feed 0) ∷ Hand (feed 0) ∷ Hand (feed 0) ∷ []) 0
    (row 1 (1 ∷ []) (rev 1 (codes "a")) 8 ∷ row 2 (2 ∷ []) (rev 1 (codes "a")) 8
    ∷ row 3 (3 ∷ []) (rev 1 (codes "a")) 8
    ∷ row 4 (4 ∷ []) (rev 1 (codes "a")) 10 ∷ row 6 (6 ∷ []) (rev 1 (codes "a")) 10
    ∷ row 7 (7 ∷ []) (rev 1 (codes "a")) 10 ∷ row 8 (8 ∷ []) (rev 1 (codes "a")) 10 ∷ End 8 2 ∷ [])

-- with narrow limits, the events after the write of three documents have these replies
abbrev pub HasThree : List Event → List Reply → Type 0
HasThree events replies =
    HasReplies narrow_limits (write_event (first (1 ∷ []) ∷ first (2 ∷ []) ∷ first (3 ∷ []) ∷ []) ∷ events)
    (outcomes (Stored (rev 1 (codes "a")) ∷ Stored (rev 1 (codes "a")) ∷ Stored (rev 1 (codes "a")) ∷ [])
    ∷ replies)

-- the row of one of the three documents: its id is one byte, its sequence
abbrev pub third : ℕ → ChangeItem
third seq = row seq (seq ∷ []) (rev 1 (codes "a")) 3

-- a lane of two takes a third item only once one was taken
abbrev pub LaneFills : Type 0
LaneFills =
    HasThree (Begin (main_only_params Continuous (Plain 0) None All) ∷ Hand (feed 0) ∷ Hand (feed 0) ∷ Hand (feed 0)
    ∷ Take (feed 0) ∷ Hand (feed 0) ∷ [])
    (Opened (feed 0) ∷ Pushed (third 1) ∷ Pushed (third 2) ∷ Full ∷ Took (Some (third 1))
    ∷ Pushed (third 3) ∷ [])

-- a feed that begins after 2 of the database's life begins with the third row; one that begins after 2 of
-- another life begins with the first
abbrev pub LivesCount : Type 0
LivesCount =
    HasThree (Begin (main_only_params Normal (Tagged 2 1) None All) ∷ Hand (feed 0) ∷ Hand (feed 0) ∷ [])
    (Opened (feed 0) ∷ Pushed (third 3) ∷ Pushed (End 3 0) ∷ [])
    × HasThree (Begin (main_only_params Normal (Tagged 2 7) None All) ∷ Hand (feed 0) ∷ [])
    (Opened (feed 0) ∷ Pushed (third 1) ∷ [])

-- a feed hands out three rows, and is finished after one of them was taken
abbrev pub left_early : List Event
left_early =
    write_event eight ∷ Begin (main_only_params Normal (Plain 5) None All) ∷ Hand (feed 0) ∷ Hand (feed 0) ∷ Take (feed 0)
    ∷ Hand (feed 0) ∷ Finish (feed 0) ∷ Take (feed 0) ∷ []

-- the items in the lane of a finished feed are never taken
abbrev pub TakesAFront : Type 0
TakesAFront =
    HasHanded roomy left_early 0
    (row 6 (6 ∷ []) (rev 1 (codes "a")) 8 ∷ row 7 (7 ∷ []) (rev 1 (codes "a")) 8
    ∷ row 8 (8 ∷ []) (rev 1 (codes "a")) 8 ∷ [])
    × HasTaken roomy left_early 0 (row 6 (6 ∷ []) (rev 1 (codes "a")) 8 ∷ [])

-- a longpoll feed for design documents waits for one, and then ends
abbrev pub LongpollWaits : Type 0
LongpollWaits =
    HasThree (Begin (main_only_params Longpoll (Plain 0) None Design) ∷ Hand (feed 0)
    ∷ write_event (first (codes "_design/x") ∷ []) ∷ Hand (feed 0) ∷ Hand (feed 0) ∷ Hand (feed 0) ∷ [])
    (Opened (feed 0) ∷ Nothing ∷ outcomes (Stored (rev 1 (codes "a")) ∷ [])
    ∷ Pushed (row 4 (codes "_design/x") (rev 1 (codes "a")) 4) ∷ Pushed (End 4 0) ∷ Gone ∷ [])

-- a longpoll feed whose time is over ends at its place; a normal feed's time is never over
abbrev pub TimeEnds : Type 0
TimeEnds =
    HasThree (Begin (main_only_params Longpoll (Plain 0) None Design) ∷ Hand (feed 0) ∷ Expire (feed 0) ∷ Hand (feed 0)
    ∷ []) (Opened (feed 0) ∷ Nothing ∷ Nothing ∷ Pushed (End 3 0) ∷ [])
    × HasThree (Begin (main_only_params Normal (Plain 0) None All) ∷ Expire (feed 0) ∷ Hand (feed 0) ∷ [])
    (Opened (feed 0) ∷ Nothing ∷ Pushed (third 1) ∷ [])

-- a known edit, an edit that contradicts, and a draft on no leaf change nothing
abbrev pub WritesAnswer : Type 0
WritesAnswer =
    HasReplies roomy (write_event (second (codes "b") ∷ []) ∷ write_event (second (codes "b") ∷ [])
    ∷ write_event (doc (codes "b") (rev 3 (codes "w") ∷ rev 2 (codes "b") ∷ rev 1 (codes "q") ∷ []) ∷ [])
    ∷ Interactive (record {
      id = codes "b";
      rev = Some (rev 1 (codes "a"));
      path = None;
      deleted = false;
      body = codes "{}";
    } ∷ []) ∷ Begin (main_only_params Normal Now None All) ∷ Hand (feed 0) ∷ [])
    (outcomes (Stored (rev 2 (codes "b")) ∷ []) ∷ outcomes (Known ∷ [])
    ∷ outcomes (Refused Contradicts ∷ []) ∷ outcomes (Refused Conflict ∷ []) ∷ Opened (feed 0)
    ∷ Pushed (End 1 0) ∷ [])

-- a feed that asks for a heartbeat
abbrev pub asks_beats : Mode → FeedParams
asks_beats mode = record (main_only_params mode (Plain 0) None All) { heartbeat = Some 60000 }

-- a feed of a mode that waits hands heartbeats where it asks for them, while its lane has room
abbrev pub BeatsAreAsked : Type 0
BeatsAreAsked =
    HasThree (Begin (asks_beats Continuous) ∷ Heartbeat (feed 0) ∷ Heartbeat (feed 0) ∷ Heartbeat (feed 0)
    ∷ Hand (feed 0) ∷ Finish (feed 0) ∷ Take (feed 0) ∷ Hand (feed 0) ∷ [])
    (Opened (feed 0) ∷ Pushed Beat ∷ Pushed Beat ∷ Full ∷ Full ∷ Left (Beat ∷ Beat ∷ []) ∷ Took None ∷ Gone
    ∷ [])
    × HasThree (Begin (asks_beats Normal) ∷ Heartbeat (feed 0) ∷ []) (Opened (feed 0) ∷ Nothing ∷ [])
    × HasThree (Begin (main_only_params Continuous (Plain 0) None All) ∷ Heartbeat (feed 0) ∷ Heartbeat (feed 7) ∷ [])
    (Opened (feed 0) ∷ Nothing ∷ Nothing ∷ [])

-- a deleted database ends its feeds, and takes nothing more
abbrev pub DeletionEnds : Type 0
DeletionEnds =
    HasThree (Begin (main_only_params Continuous (Plain 1) None All) ∷ Hand (feed 0) ∷ Delete ∷ Hand (feed 0)
    ∷ Hand (feed 0) ∷ Delete ∷ Begin (main_only_params Normal Now None All) ∷ write_event (first (codes "a") ∷ []) ∷ [])
    (Opened (feed 0) ∷ Pushed (third 2) ∷ Nothing ∷ Pushed (End 2 1) ∷ Gone ∷ DatabaseDeleted
    ∷ DatabaseDeleted ∷ outcomes (Refused Deleted ∷ []) ∷ [])

-- the limit counts the rows that pass, and 0 acts as 1
abbrev pub LimitCountsRows : Type 0
LimitCountsRows =
    HasThree (Begin (main_only_params Normal (Plain 0) (Some 0) (DocIds ((3 ∷ []) ∷ (2 ∷ []) ∷ []))) ∷ Hand (feed 0)
    ∷ Hand (feed 0) ∷ []) (Opened (feed 0) ∷ Pushed (third 2) ∷ Pushed (End 2 1) ∷ [])

-- one feed more than the limit allows is refused until another is finished; no number is given twice
abbrev pub FeedsAreCounted : Type 0
FeedsAreCounted =
    HasThree (Begin (main_only_params Continuous Now None All) ∷ Begin (main_only_params Continuous Now None All) ∷ Finish (feed 0)
    ∷ Begin (main_only_params Continuous Now None All) ∷ [])
    (Opened (feed 0) ∷ TooManyFeeds ∷ Left [] ∷ Opened (feed 1) ∷ [])
