use Rattle.std.proofs.Common.{◌≡◌, ℕ, ◌<◌, List, length, get_or, lit<, subst, arith}
use Rattle.std.proofs.lemmas.Str.{IsCharBoundary-after_ascii}
use Rattle.hub_model.specs.Updates.{Note, id_of, letter_of}
use Rattle.hub_model.specs.declared.updates.UpdateKind.{UpdateKind}
use Rattle.hub_model.specs.declared.updates.UpdateKind.TheVariants.{Created, Updated, Deleted}
use Rattle.hub_updates.proofs.notice.read_id.Goals as goal

letter_low : (kind : UpdateKind) → letter_of kind < 128
letter_low Created = lit< tt
letter_low Updated = lit< tt
letter_low Deleted = lit< tt

-- an id begins with a letter, which is one byte
begins_low : (note : Note) (id : List ℕ) → id_of note ≡ id → (0 < length id) × (get_or id 0 0 < 128)
begins_low note id is =
    let P : List ℕ → Type 0 = λ bytes. (0 < length bytes) × (get_or bytes 0 0 < 128) in
    subst P is (omega arith, letter_low note.kind)

pub range_from-requires : goal.range_from-requires
range_from-requires c =
    let id = c.args.id.now in
    let first = begins_low _ id c.requires in
    λ _. IsCharBoundary-after_ascii id 0 c.utf8.id first.0 first.1
