-- The answers of a call on a database that others write too (own).
use Rattle.std.specs.Prelude.{◌≡◌, ◌⊎◌, ℕ, List, map}
use Rattle.hub_model.specs.Journal.{Edit, IsLegal}
use Rattle.hub_model.specs.Missing.{diffs}
use Rattle.hub_model.specs.Outcome.{merges_all}
use Rattle.hub_model.specs.Revision.{Revision}
use Rattle.hub_model.specs.Walk.{shown_edit}
use Rattle.hub_model.specs.declared.outcomes.Fault.TheVariants.{Deleted}
use Rattle.hub_model.specs.declared.outcomes.Outcome.{Outcome}
use Rattle.hub_model.specs.declared.outcomes.Outcome.TheVariants.{Refused}
use Rattle.hub_follow_model.specs.Follower as follow

-- the outcomes of documents that a deleted database was to store
abbrev pub all_deleted : List Edit → List (Outcome Revision)
all_deleted docs = map (λ _. Refused Deleted) docs

-- The answer is one that some database with a legal journal gives: a call that takes the lock once shows no
-- more. Of the changes and of the logs nothing is said here.
abbrev pub IsShared : follow.Call → follow.Answer → Type 0
IsShared (follow.RevsDiff asked) (follow.RevsDiffAnswer answered) =
    (journal : List Edit) × IsLegal journal × (answered ≡ diffs journal asked)
IsShared (follow.OpenRevs id revs) (follow.OpenRevsAnswer docs) =
    (journal : List Edit) × IsLegal journal × (docs ≡ map (shown_edit journal id) revs)
IsShared (follow.Merge docs) (follow.MergeAnswer outcomes) =
    (journal : List Edit) × (limit : ℕ) × IsLegal journal
    × ((outcomes ≡ (merges_all limit journal docs).outcomes) ⊎ (outcomes ≡ all_deleted docs))
IsShared call answer = Unit {0}
