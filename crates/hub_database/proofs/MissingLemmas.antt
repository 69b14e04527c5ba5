-- The revisions that a document misses, by its tree, and those that an unknown document misses.
use Rattle.std.proofs.Common.{◌≡◌, ◌≢◌, ℕ, List, [], ◌∷◌, ◌++◌, length}
use Rattle.std.proofs.Common.{Bool, true, false, ap, refl, sym, ◌∙◌, arith}
use Rattle.std.specs.Prelude.{Option, Some, None, filter, nat_lt, if◌then◌else◌, not, ◌==◌}
use Rattle.std.specs.List.{list_any}
use Rattle.std.proofs.lemmas.Bool.{eqb-true, lt-ltb}
use Rattle.hub_model.specs.Revision.{Revision}
use Rattle.hub_model.specs.Path.{names}
use Rattle.hub_model.specs.Journal.{Edit, edits_of, is_known}
use Rattle.hub_model.specs.Leaves.{leaves_of, revisions_of}
use Rattle.hub_model.specs.Missing.{RevisionsOfDoc, Diff, unknown_revisions, highest}
use Rattle.hub_model.specs.Missing.{possible_ancestors, diff_of, is_wanted, diffs}
use Rattle.hub_database.specs.declared.document.Document.{Document}
use Rattle.hub_database.specs.Found.{IsFound, wanted_diff}
use Rattle.hub_database.proofs.NamedLemmas.{known_named}
use Rattle.hub_database.proofs.ShownLemmas.{leaves_same, no_leaves}

-- a difference, where these revisions are missing
abbrev chosen : List ℕ → List Revision → List Revision → Option Diff
chosen id revisions others =
    if nat_lt 0 (length revisions) then
    Some (record { id = id; missing = revisions; possible_ancestors = others }) else None

chosen_some : (id : List ℕ) (others revisions : List Revision) → others ≢ []
    → Some (record { id = id; missing = others; possible_ancestors = revisions }) ≡ chosen id others revisions
chosen_some id [] revisions some = absurd (some refl)
chosen_some id (revision ∷ others) revisions some =
    let long : nat_lt 0 (length (revision ∷ others)) ≡ true = lt-ltb 0 (length (revision ∷ others))
    (omega arith) in
    sym (ap (λ (b : Bool).
    if b then Some (record { id = id; missing = revision ∷ others; possible_ancestors = revisions }) else
    None) long)

chosen_not : (id : List ℕ) (revisions others : List Revision) → revisions ≢ []
    → ¬ (chosen id revisions others ≡ None)
chosen_not id revisions others some = λ e. absurd (let never = chosen_some id revisions others some ∙ e in cc)

-- a list that passes the test for an empty list is empty
pub none_of : (revisions : List Revision) → true ≡ (length revisions == 0) → revisions ≡ []
none_of [] e = refl
none_of (revision ∷ revisions) e =
    let z : length (revision ∷ revisions) ≡ 0 = eqb-true (length (revision ∷ revisions)) 0 (sym e) in
    absurd (omega (arith, z))

pub some_of : (revisions : List Revision) → false ≡ (length revisions == 0) → revisions ≢ []
some_of [] e = absurd (cc)
some_of (revision ∷ revisions) e = λ n. absurd (cc)

-- the difference for a document that is asked for
module _ (journal : List Edit) (id : List ℕ) (document : Document) (f : IsFound journal id document) where
  missing_same : (revisions : List Revision)
      → unknown_revisions document.tree.edits [] revisions ≡ unknown_revisions journal id revisions
  missing_same [] = refl
  missing_same (revision ∷ revisions) =
      ap (λ b. if not b then (revision ∷ unknown_revisions document.tree.edits [] revisions) else
      unknown_revisions document.tree.edits [] revisions)
      (sym (known_named journal id document.tree.edits f.kept f.one revision))
      ∙ ap (λ ms. if not (is_known journal id revision) then (revision ∷ ms) else ms) (missing_same revisions)

  ancestors_same : (revisions : List Revision)
      → possible_ancestors document.tree.edits [] revisions ≡ possible_ancestors journal id revisions
  ancestors_same revisions =
      ap (λ ms. filter (λ r. nat_lt r.generation (highest ms))
      (revisions_of (leaves_of document.tree.edits [])))
      (missing_same revisions)
      ∙ ap (filter (λ r. nat_lt r.generation (highest (unknown_revisions journal id revisions))))
      (leaves_same journal id document f)

  -- no difference, where no revision is missing
  pub whole_found : (revisions others : List Revision) → others ≡ unknown_revisions document.tree.edits [] revisions
      → others ≡ [] → None ≡ wanted_diff journal (record { id = id; revs = revisions })
  whole_found revisions others is none =
      ap (λ ns. chosen id ns (possible_ancestors journal id revisions))
      (sym none ∙ (is ∙ missing_same revisions))

  -- the difference, where a revision is missing
  pub diff_found : (revisions others ancestors : List Revision)
      → others ≡ unknown_revisions document.tree.edits [] revisions
      → ancestors ≡ possible_ancestors document.tree.edits [] revisions → others ≢ []
      → Some (record { id = id; missing = others; possible_ancestors = ancestors })
      ≡ wanted_diff journal (record { id = id; revs = revisions })
  diff_found revisions others ancestors is same some =
      chosen_some id others ancestors some
      ∙ (ap (chosen id others) (same ∙ ancestors_same revisions)
      ∙ ap (λ ns. chosen id ns (possible_ancestors journal id revisions)) (is ∙ missing_same revisions))

  -- where a revision is missing, there is a difference
  pub some_wanted : (revisions : List Revision) → ¬ (unknown_revisions document.tree.edits [] revisions ≡ [])
      → ¬ (wanted_diff journal (record { id = id; revs = revisions }) ≡ None)
  some_wanted revisions some =
      chosen_not id (unknown_revisions journal id revisions) (possible_ancestors journal id revisions)
      (λ e. some (missing_same revisions ∙ e))

-- an unknown document misses all revisions
module _ (journal : List Edit) (id : List ℕ) (none : edits_of journal id ≡ []) where
  all_missing : (revisions : List Revision) → unknown_revisions journal id revisions ≡ revisions
  all_missing [] = refl
  all_missing (revision ∷ revisions) =
      ap (λ es.
      if not (list_any (λ (edit : Edit). names edit.path revision) es) then
      (revision ∷ unknown_revisions journal id revisions) else unknown_revisions journal id revisions)
      none
      ∙ ap (λ ms. revision ∷ ms) (all_missing revisions)

  pub unknown_diff : (revisions ancestors : List Revision) → ancestors ≡ [] → revisions ≢ []
      → Some (record { id = id; missing = revisions; possible_ancestors = ancestors })
      ≡ wanted_diff journal (record { id = id; revs = revisions })
  unknown_diff revisions ancestors empty some =
      chosen_some id revisions ancestors some
      ∙ (ap (chosen id revisions)
      (empty
      ∙ ap (λ ls.
      filter (λ (revision : Revision). nat_lt revision.generation (highest (unknown_revisions journal id revisions)))
      (revisions_of ls))
      (sym (no_leaves journal id none)))
      ∙ ap (λ ns. chosen id ns (possible_ancestors journal id revisions)) (sym (all_missing revisions)))

-- the differences, after one more document that misses nothing
pub diffs_none : (journal : List Edit) (before : List RevisionsOfDoc) (asked : RevisionsOfDoc)
    → None ≡ wanted_diff journal asked → diffs journal (before ++ asked ∷ []) ≡ diffs journal before
diffs_none journal [] asked e = from (is_wanted (diff_of journal asked)) e
  where
    from : (b : Bool) → None ≡ (if b then Some (diff_of journal asked) else None)
        → (if b then (diff_of journal asked ∷ []) else []) ≡ []
    from true h = absurd (cc)
    from false h = refl
diffs_none journal (other ∷ before) asked e =
    ap (λ ds. if is_wanted (diff_of journal other) then (diff_of journal other ∷ ds) else ds)
    (diffs_none journal before asked e)
