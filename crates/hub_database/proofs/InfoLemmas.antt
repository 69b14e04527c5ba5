-- The counts of a database, by the counts that are kept.
use Rattle.std.proofs.Common.{◌≡◌, ◌∙◌, ℕ, ◌+◌, ◌≤◌, ap, length, arith}
use Rattle.std.specs.Prelude.{count_by, not}
use Rattle.std.proofs.lemmas.List.{length-map}
use Rattle.hub_model.specs.Leaves.{leaves_of}
use Rattle.hub_model.specs.Current.{current}
use Rattle.hub_model.specs.Row.{is_deleted}
use Rattle.hub_database.specs.declared.answers.Info.{Info}
use Rattle.hub_database.specs.declared.contents.Contents.TheInside.{Inside}
use Rattle.hub_database.specs.Reads.{info_of}
use Rattle.hub_database.specs.Documents.{filed_document, files, deleted_in}
use Rattle.hub_database.specs.Inside.{HasDocuments, IsCounted, edits_inside}
use Rattle.hub_database.proofs.CountLemmas.{live_in, deleted_few}

-- the count is at most the number of documents
pub count_below : (inside : Inside) → HasDocuments inside → IsCounted inside
    → inside.deleted ≤ length inside.documents.items
count_below inside st counted = omega (
  arith,
  counted,
  deleted_few (edits_inside inside),
  st.filed.each,
  length-map inside.documents.items filed_document,
)

-- the answer with the counts
pub info_by : (inside : Inside) → HasDocuments inside → IsCounted inside → (live updates life : ℕ)
    → live + inside.deleted ≡ length inside.documents.items → updates ≡ length (edits_inside inside)
    → ◌≡◌ {A = Info}
    (record { doc_count = live; doc_del_count = inside.deleted; update_seq = updates; life = life })
    (info_of (edits_inside inside) life)
info_by inside st counted live updates life sum many =
    let documents : length (files inside.documents.items) ≡ length inside.documents.items =
    length-map inside.documents.items filed_document in
    let lives : live ≡ count_by (λ c. not (is_deleted (leaves_of (edits_inside inside) c.id)))
    (current (edits_inside inside)) =
    omega (arith, sum, counted, documents, st.filed.each, live_in (edits_inside inside)) in
    ap (λ (n : ℕ). record
    { doc_count = n; doc_del_count = inside.deleted; update_seq = updates; life = life })
    lives
    ∙ (ap (λ (n : ℕ). record {
      doc_count =
          count_by (λ c. not (is_deleted (leaves_of (edits_inside inside) c.id)))
          (current (edits_inside inside));
      doc_del_count = n;
      update_seq = updates;
      life = life;
    }) counted
    ∙ ap (λ (n : ℕ). record {
      doc_count =
          count_by (λ c. not (is_deleted (leaves_of (edits_inside inside) c.id)))
          (current (edits_inside inside));
      doc_del_count = deleted_in (edits_inside inside);
      update_seq = n;
      life = life;
    }) many)
