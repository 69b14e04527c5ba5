-- The answers of a database to questions (CouchDB API reference: documents, GET /{db}, _revs_diff, _changes).
use Rattle.std.specs.Prelude.{◌≡◌, ℕ, List, [], option_map, string_bytes, IsSome}
use Rattle.hub_model.specs.Descending.{descending}
use Rattle.hub_model.specs.Leaves.{leaves_of}
use Rattle.hub_model.specs.Missing.{diffs}
use Rattle.hub_params.specs.FeedModel.{params_of}
use Rattle.hub_revtree.specs.Winner.{winner_of}
use Rattle.hub_database.specs.Database.{Database, Local}
use Rattle.hub_database.specs.Locals.{local_of}
use Rattle.hub_database.specs.Reads.{HasDocument, info_of, lookup, open_revs}
use Rattle.hub_database.specs.declared.local.Local as kept
use Rattle.hub_database.specs.declared.question.Question.{Question}
use Rattle.hub_database.specs.declared.question.Question.TheVariants as asks
use Rattle.hub_database.specs.declared.question.Answer.{Answer}
use Rattle.hub_database.specs.declared.question.Answer.TheVariants as says

-- a local document as the database keeps it, by its id
abbrev pub local_named : List ℕ → kept.Local → Local
local_named id local = record { id = id; count = local.count; body = local.body }

-- an answer is of its question's kind, and is the one that the definitions give for this database
abbrev pub IsAnswer : Database → Question → Answer → Type 0
IsAnswer db asks.Info (says.Info info) = info ≡ info_of db.journal db.life
IsAnswer db (asks.Get id revs) (says.Get found) = found ≡ lookup db.journal (string_bytes id) revs
IsAnswer db (asks.Winner id) (says.Winner found) = found ≡ winner_of (leaves_of db.journal (string_bytes id))
IsAnswer db (asks.OpenRevs id which revs) (says.OpenRevs found) =
    found.items ≡ open_revs db.journal (string_bytes id) which revs
IsAnswer db (asks.RevsDiff asked) (says.RevsDiff found) = found.items ≡ diffs db.journal asked.items
IsAnswer db (asks.Descending params) (says.Descending found) =
    found ≡ descending db.journal db.life (params_of params)
IsAnswer db (asks.Local id) (says.Local found) =
    option_map (local_named (string_bytes id)) found ≡ local_of db.locals (string_bytes id)
IsAnswer db question answer = ⊥

-- The answer takes memory: a document that is found, revisions that are shown, differences, rows, a local
-- document. So the counts take none, and neither does a winner's mark or an unknown document.
abbrev pub TakesMemory : Database → Question → Type 0
TakesMemory db asks.Info = ⊥
TakesMemory db (asks.Get id revs) = HasDocument db.journal (string_bytes id) revs
TakesMemory db (asks.Winner id) = ⊥
TakesMemory db (asks.OpenRevs id which revs) = ¬ (open_revs db.journal (string_bytes id) which revs ≡ [])
TakesMemory db (asks.RevsDiff asked) = ¬ (diffs db.journal asked.items ≡ [])
TakesMemory db (asks.Descending params) = ¬ ((descending db.journal db.life (params_of params)).rows ≡ [])
TakesMemory db (asks.Local id) = IsSome (local_of db.locals (string_bytes id))
