-- The rows of a database by sequence, by the laws of the rows of any index.
use Rattle.std.proofs.Common.{◌≡◌, ◌≢◌, ℕ, ◌+◌, ◌<◌, List, [], ◌∷◌, ◌++◌, length, ap, refl, sym, ◌∙◌, subst}
use Rattle.std.proofs.Common.{arith}
use Rattle.std.proofs.Common.{slice_get}
use Rattle.std.specs.Prelude.{Option, Some, None, option_map}
use Rattle.std.specs.List.{All}
use Rattle.std.proofs.lemmas.List.{length-map}
use Rattle.std.proofs.lemmas.Option.{same_Some, none-some}
use Rattle.hub_index.specs.Indexed as indexed
use Rattle.hub_index.specs.Rows.{rows_after_move}
use Rattle.hub_index.proofs.IndexedLemmas.{indexed_more, rows_within}
use Rattle.hub_model.specs.Journal.{Edit}
use Rattle.hub_database.specs.declared.entry.Entry.{Entry}
use Rattle.hub_database.specs.Filed.{FiledDocument, edit_with_id, edit_at, journal_of, IsFiled}
use Rattle.hub_database.specs.Indexed.{IsIndexed, latest_at, latest_of}
use Rattle.hub_database.proofs.FiledLemmas.{Was, at_k, apart}

-- the document of a number that has an id
pub document_at : (documents : List FiledDocument) (k : ℕ) (p : List ℕ × ℕ) → latest_at documents k ≡ Some p
    → (filed : FiledDocument) × (slice_get documents k ≡ Some filed) × (latest_of filed ≡ p)
document_at documents k p is = from (slice_get documents k) refl is
  where
    from : (maybe_filed : Option FiledDocument) → slice_get documents k ≡ maybe_filed
        → option_map latest_of maybe_filed ≡ Some p
        → (filed : FiledDocument) × (slice_get documents k ≡ Some filed) × (latest_of filed ≡ p)
    from None e q = absurd (none-some p q)
    from (Some filed) e q = (filed, e, same_Some (latest_of filed) p q)

-- a row lies at an entry
pub rows_below : (documents : List FiledDocument) (entries : List Entry) (index : List (ℕ × ℕ))
    → IsIndexed documents entries index → All (λ (row : ℕ × ℕ). row.0 < length entries + 1) index
rows_below documents entries index ix k d low =
    let within = rows_within (latest_at documents) (journal_of documents entries) index ix k d low in
    omega (arith, within, length-map entries (edit_at documents))

-- One more edit of a document that is there or new: the rows go on to be the current rows.
module _ (limit : ℕ) (numbers : List ℕ → Option ℕ) (documents : List FiledDocument) (entries : List Entry)
    (index : List (ℕ × ℕ)) (st : IsFiled limit numbers documents entries)
    (ix : IsIndexed documents entries index)
    (id : List ℕ) (k : ℕ) (edits : List Edit) (was : Was numbers documents id k edits) (edit : Edit)
    (documents' : List FiledDocument) (entries' : List Entry)
    (at : slice_get documents' k
    ≡ Some (record { id = id; latest = length entries + 1; edits = edits ++ edit ∷ [] }))
    (other : (j : ℕ) → j ≢ k → slice_get documents' j ≡ slice_get documents j)
    (more : journal_of documents' entries' ≡ journal_of documents entries ++ edit_with_id id edit ∷ []) where
  own : (p : List ℕ × ℕ) → latest_at documents k ≡ Some p → p.0 ≡ id
  own p is =
      let d = document_at documents k p is in
      ap (λ (q : List ℕ × ℕ). q.0) (sym d.2)
      ∙ (at_k limit numbers documents entries st id k edits was d.0 d.1).0

  others_apart : (j : ℕ) (p : List ℕ × ℕ) → latest_at documents j ≡ Some p → j ≢ k → p.0 ≢ id
  others_apart j p is n =
      let d = document_at documents j p is in
      subst (λ (q : List ℕ × ℕ). q.0 ≢ id) d.2
      (apart limit numbers documents entries st id k edits was j d.0 d.1 n)

  pub indexed_edit : IsIndexed documents' entries' (rows_after_move index k (length entries + 1))
  indexed_edit =
      let last : length entries + 1 ≡ length (journal_of documents entries) + 1 =
      omega (arith, length-map entries (edit_at documents)) in
      subst (λ J. indexed.IsIndexed (latest_at documents') J (rows_after_move index k (length entries + 1))) (sym more)
      (indexed_more (latest_at documents) (journal_of documents entries) index ix (edit_with_id id edit) k
      (length entries + 1) last own others_apart (latest_at documents') (ap (option_map latest_of) at)
      (λ j n. ap (option_map latest_of) (other j n)))
