-- A database as it was when it had fewer edits (own).
use Rattle.std.specs.Prelude.{◌≡◌, ◌≤◌, ◌<◌, ℕ, List, length, take, Bool, false, Result, IfOk, OnOk, OnErr}
use Rattle.hub_model.specs.Journal.{Edit, IsLegal}
use Rattle.hub_database.specs.Database.{Database}

-- The copy holds the first edits of a legal journal, and may hold all of them. Where the journal has edits of
-- a, b and a again, it may hold none, a, a and b, or all three.
pub record IsRebuilt (journal : List Edit) (copy : Database) : Type 0 where
  pub legal : IsLegal journal
  pub fits : length journal ≤ copy.limits.journal
  pub stands : copy.deleted ≡ false
  pub first : copy.journal ≡ take (length copy.journal) journal

-- The copy can be made the database as it was when it had so many edits: it is a copy, and the journal has at
-- least so many.
pub record IsRebuildable (edits : ℕ) (journal : List Edit) (db : Database) : Type 0 where
  pub copy : IsRebuilt journal db
  pub within : edits ≤ length journal

-- The answer to a question about the rows of a journal, by the help of a copy, which stays a copy. Memory
-- runs out only where the journal has an edit.
pub record IsJudged {E : Type 0} (journal : List Edit) (answer : Bool) (result : Result Bool E)
    (db : Database) : Type 0 where
  pub ok : IfOk result (λ judged. judged ≡ answer)
  pub copy : OnOk result (IsRebuilt journal db)
  pub memory : OnErr result (0 < length journal)

-- The copy was made the database as it was when it had so many edits. Memory runs out only where the journal
-- has an edit.
pub record IsRebuiltTo {A E : Type 0} (edits : ℕ) (journal : List Edit) (result : Result A E) (db : Database)
    : Type 0 where
  pub copy : OnOk result (IsRebuilt journal db)
  pub count : OnOk result (length db.journal ≡ edits)
  pub first : OnOk result (db.journal ≡ take edits journal)
  pub memory : OnErr result (0 < length journal)
