-- The knowledge that a handle has of its database (own).
use Rattle.std.specs.Prelude.{◌≡◌, ℕ, ◌+◌, ◌≤◌, ◌<◌, ◌^◌, List, [], length, take, min, Bool, true, false}
use Rattle.std.specs.Prelude.{IsTrue, Result}
use Rattle.hub_model.specs.Feed.{counted_in}
use Rattle.hub_model.specs.Journal.{IsLegal}
use Rattle.hub_model.specs.Revision.{Revision}
use Rattle.hub_model.specs.declared.feeds.Since.{Since}
use Rattle.hub_model.specs.declared.feeds.Since.TheVariants.{Now, Plain, Tagged}
use Rattle.hub_document.specs.declared.doc.Doc.{Doc}
use Rattle.hub_database.specs.Database.{Database}
use Rattle.hub_database.specs.Edits.{StopsAt, docs_result}
use Rattle.hub_database.specs.declared.batch.Batch.{Batch}
use Rattle.hub_database.specs.declared.batch.DbFault.{DbFault}
use Rattle.hub_params.specs.FeedParams.{FeedAsked}
use Rattle.hub_shared.specs.Edits.{IsEditAnswer}
use Rattle.hub_shared.specs.Feeds.{FeedState}
use Rattle.hub_shared.specs.Label.{Label}
use Rattle.hub_database.specs.Receipts.{ids_of, receipts_from}
use Rattle.hub_shared.specs.declared.write.Accepted.{Accepted}
use Rattle.hub_shared.specs.Stored.{batch_of}

-- the view of a handle
pub record HandleState : Type 0 where
  pub parts : ℕ  -- its parts of the right to know how many edits were accepted through all handles
  pub count : ℕ  -- how many edits were accepted through it, and through the handles joined to it

-- the view of a handle with this share; `parts` and `amount` give a share's parts and its counted edits
abbrev pub handle_of : {S : Type 0} → (parts amount : S → ℕ) → S → HandleState
handle_of parts amount share = record { parts = parts share; count = amount share }

-- a handle after a call through which so many edits were accepted: it counted these edits, where it counts at
-- all, and its parts are as they were
abbrev pub HasCounted : (counts : Bool) → (edits : ℕ) → (old new : HandleState) → Type 0
HasCounted counts edits old new =
    (counts ≡ true → new.count ≡ old.count + edits) × (new.parts ≡ old.parts)

-- The effect on a share of a call through which `edits` edits were accepted, and by which its amount rose by
-- `rise`. Both numbers are equal where the share counts at all. Its new amount is below 2^32, and its parts
-- are as they were.
pub record HasRisen (counts : Bool) (edits rise : ℕ) (old new : HandleState) : Type 0 where
  pub raised : new.count ≡ old.count + rise
  pub counted : counts ≡ true → rise ≡ edits
  pub within : new.count < 2 ^ 32
  pub parts : new.parts ≡ old.parts

-- A database as a call through the handle finds it. Its journal is legal, and has at least the edits that the
-- handle counted. Where the handle has every part, the journal has just these edits.
-- A handle that counted 3 finds 5 edits where another counted 2. Both joined count 5, and find 5.
pub record IsFoundBy (counts : Bool) (all_parts : ℕ) (state : HandleState) (db : Database) : Type 0 where
  pub legal : IsLegal db.journal
  pub counted : state.count ≤ length db.journal
  pub whole : counts ≡ true → state.parts ≡ all_parts → length db.journal ≡ state.count

module _ (counts : Bool) (all_parts : ℕ) (state : HandleState) where
  -- a call that only looks: `holds_of` holds of a database that the handle may find; the handle stays
  pub record IsLook (new : HandleState) (holds_of : Database → Type 0) : Type 0 where
    pub db : Database
    pub found : IsFoundBy counts all_parts state db
    pub held : holds_of db
    pub same : new ≡ state

  -- The result of a batch that was stored in some database that the handle may find: a reply to each
  -- document, unless memory ran out. It stops only at a document that needed room.
  pub record IsStoredBy (new_edits : Bool) (docs : List Doc) (batch : Batch) : Type 0 where
    pub db : Database
    pub found : IsFoundBy counts all_parts state db
    pub replies : batch.replies ≡ (docs_result new_edits db.deleted db.limits.journal db.journal
        (take (length batch.replies) docs)).outcomes
    pub whole : batch.stopped ≡ false → length batch.replies ≡ length docs
    pub stopped : IsTrue batch.stopped → length batch.replies < length docs
    pub stops : IsTrue batch.stopped → StopsAt new_edits db.deleted
        (docs_result new_edits db.deleted db.limits.journal db.journal (take (length batch.replies) docs)).journal
        (length batch.replies) docs

  -- the result of a write: the replies to its documents, and the receipts of the stored documents
  pub record IsWrittenBy (new_edits : Bool) (docs : List Doc) (accepted : Accepted) : Type 0 where
    pub stored : IsStoredBy new_edits docs (batch_of accepted)
    pub receipts : accepted.receipts.items ≡ receipts_from (length stored.db.journal)
        (ids_of docs) accepted.replies

  -- some database that the handle may find gave this answer to one edit that is made here
  pub record IsEditedBy (doc : Doc) (answer : Result Revision DbFault) : Type 0 where
    pub db : Database
    pub found : IsFoundBy counts all_parts state db
    pub answered : IsEditAnswer db doc answer

-- The sequence at which a feed begins that asked for `seq`, by a handle that counted `count` edits. It is not
-- above `seq`, and not below it unless the journal is shorter.
-- At 7, by a handle that counted 5, a feed begins at 5, 6 or 7.
abbrev pub IsBeginningAt : (seq count since : ℕ) → Type 0
IsBeginningAt seq count since = (since ≤ seq) × (min seq count ≤ since)

-- The label of a feed that was asked for with this since, by a handle that counted `count` edits. With `now`
-- the feed begins after all of these edits. A sequence of another life counts as 0.
-- With since=7-2, by a handle that counted 5, it begins at 5, 6 or 7 in life 2, and in any other life at 0.
abbrev pub IsBeginningFor : Since → (count : ℕ) → Label → Type 0
IsBeginningFor Now count label = count ≤ label.since
IsBeginningFor (Plain seq) count label = IsBeginningAt seq count label.since
IsBeginningFor (Tagged seq of) count label =
    IsBeginningAt (counted_in label.life seq of) count label.since

-- A feed that was opened with these parameters, by a handle that counted `count` edits, and of which no item
-- was taken. It begins at a sequence that is not above the asked one. It begins below the asked one only
-- where the journal did not have so many edits yet. A sequence of another life counts as 0.
pub record IsNew {R : Type 0} (asked : FeedAsked) (count : ℕ) (feed : FeedState R) : Type 0 where
  pub asks : feed.label.asked ≡ asked
  pub begins : IsBeginningFor asked.since count feed.label
  pub none : feed.taken ≡ []
