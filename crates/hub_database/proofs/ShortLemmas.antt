-- A call that reads fails for memory only where its answer is not empty.
use Rattle.std.proofs.Common.{◌≡◌, ℕ, List, [], ◌∷◌, ◌++◌, Bool, true}
use Rattle.std.proofs.Common.{false, inl, inr, ap, refl, sym, ◌∙◌, subst}
use Rattle.std.specs.Prelude.{Contains, Some, None, map, if◌then◌else◌}
use Rattle.std.proofs.lemmas.Bool.{cases_Bool}
use Rattle.hub_model.specs.Revision.{Revision}
use Rattle.hub_model.specs.Journal.{Edit, IsLegal, edits_of}
use Rattle.hub_model.specs.Leaves.{leaves_of, revisions_of}
use Rattle.hub_model.specs.Missing.{RevisionsOfDoc, diff_of, diffs, is_wanted}
use Rattle.hub_model.proofs.Drafts.{has_leaf}
use Rattle.hub_model.proofs.Leaves.{is_leaf_from}
use Rattle.hub_model.proofs.Legal.{first_in, has_first, legal_sound}
use Rattle.hub_model.proofs.Lists.{contains_none, contains_here}
use Rattle.hub_model.proofs.Tests.{edits_in}
use Rattle.hub_document.specs.declared.open_revs.OpenRevs.TheVariants.{All, Listed}
use Rattle.hub_database.specs.declared.document.Document.{Document}
use Rattle.hub_database.specs.Filed.{edit_with_id}
use Rattle.hub_database.specs.Found.{IsFound, wanted_diff}
use Rattle.hub_database.specs.Reads.{open_rev, open_revs}
use Rattle.hub_database.proofs.ShownLemmas.{leaves_same}

-- the image of a list that is not empty is not empty
pub map_some : {A B : Type 0} (f : A → B) (xs : List A) → ¬ (xs ≡ []) → ¬ (map f xs ≡ [])
map_some f [] some = absurd (some refl)
map_some f (x ∷ xs) some = λ e. absurd (cc)

-- a document that has an edit has a leaf
leaves_some : (journal : List Edit) (id : List ℕ) → IsLegal journal → ¬ (edits_of journal id ≡ [])
    → ¬ (revisions_of (leaves_of journal id) ≡ [])
leaves_some journal id legal some = from (edits_of journal id) refl
  where
    from : (edits : List Edit) → edits_of journal id ≡ edits → ¬ (revisions_of (leaves_of journal id) ≡ [])
    from [] q = absurd (some q)
    from (e ∷ edits) q =
        let own = edits_in journal id e (subst (λ z. Contains z e) (sym q) (contains_here e edits)) in
        let first = has_first e.path ((legal_sound journal legal).paths e own.0) in
        let leaf = has_leaf journal legal id first.0 (e, own, first_in e.path first.0 first.1) in
        λ none. contains_none leaf.0
        (subst (λ z. Contains z leaf.0) none (is_leaf_from journal id leaf.0 leaf.1))

module _ (journal : List Edit) (id : List ℕ) (document : Document) (f : IsFound journal id document)
    (revs : Bool) where
  -- where a document's tree has an edit, a leaf is shown
  pub edits_open : IsLegal journal → ¬ (document.tree.edits ≡ []) → ¬ (open_revs journal id All revs ≡ [])
  edits_open legal some =
      map_some (open_rev journal id revs) (revisions_of (leaves_of journal id))
      (leaves_some journal id legal (λ e. map_some (edit_with_id id) document.tree.edits some (sym f.kept ∙ e)))

  -- where there is a leaf, a leaf is shown
  pub leaves_open : (revisions : List Revision) → revisions ≡ revisions_of (leaves_of document.tree.edits [])
      → ¬ (revisions ≡ []) → ¬ (open_revs journal id All revs ≡ [])
  leaves_open revisions same some =
      map_some (open_rev journal id revs) (revisions_of (leaves_of journal id))
      (λ e. some (same ∙ (leaves_same journal id document f ∙ e)))

-- where revisions are listed, the answer is not empty
pub listed_open : (journal : List Edit) (id : List ℕ) (revs : Bool) (revisions : List Revision)
    → ¬ (revisions ≡ []) → ¬ (open_revs journal id (Listed revisions) revs ≡ [])
listed_open journal id revs revisions some = map_some (open_rev journal id revs) revisions some

-- a document that misses a revision has its difference in the answer
pub diffs_some : (journal : List Edit) (before later : List RevisionsOfDoc) (asked : RevisionsOfDoc)
    → ¬ (wanted_diff journal asked ≡ None) → ¬ (diffs journal (before ++ asked ∷ later) ≡ [])
diffs_some journal [] later asked some = from (is_wanted (diff_of journal asked)) refl
  where
    from : (b : Bool) → is_wanted (diff_of journal asked) ≡ b → ¬ (diffs journal (asked ∷ later) ≡ [])
    from true q = λ e. absurd (let none = rw q at e in cc)
    from false q = absurd (some (ap (λ b. if b then Some (diff_of journal asked) else None) q))
diffs_some journal (other ∷ before) later asked some = elim (cases_Bool (is_wanted (diff_of journal other))) [
  | inl q ↦ λ e. absurd (let none = rw q at e in cc)
  | inr q ↦ λ e. diffs_some journal before later asked some (rw q at e)
]
