-- A document's tree shows the same as the journal.
use Rattle.std.proofs.Common.{◌≡◌, ℕ, zero, suc, List, [], ◌∷◌, take, Bool, true, false, ap, refl, sym, ◌∙◌}
use Rattle.std.proofs.Common.{subst}
use Rattle.std.specs.Prelude.{Option, Some, None, Contains, map, find, option_map, slice_get, get_or}
use Rattle.std.specs.Prelude.{if◌then◌else◌}
use Rattle.std.proofs.lemmas.Option.{same_Some, none-some, slice_get-map}
use Rattle.hub_model.specs.Revision.{Revision}
use Rattle.hub_model.specs.Path.{IsFirst, names, is_first}
use Rattle.hub_model.specs.Journal.{Edit, IsLegal, edits_of, is_known}
use Rattle.hub_model.specs.Leaves.{Leaf, leaves_among, best_first, leaves_of, revisions_of}
use Rattle.hub_model.specs.Walk.{line_of, is_head, shown_edit, shown_of}
use Rattle.hub_model.proofs.Lists.{contains_here}
use Rattle.hub_model.proofs.Legal.{first_in}
use Rattle.hub_model.specs.Row.{doc_of}
use Rattle.hub_model.proofs.Tests.{at_any, is_named, known_is, same_is}
use Rattle.hub_model.proofs.Walks.{line_of_walk}
use Rattle.hub_model.proofs.Shown.{find_is, head_is}
use Rattle.hub_document.specs.declared.doc.Doc.{Doc}
use Rattle.hub_document.specs.declared.open_revs.OpenRevs.TheVariants.{All, Listed}
use Rattle.hub_revtree.specs.declared.leaf.Winner.{Winner}
use Rattle.hub_revtree.specs.Extend.{path_to}
use Rattle.hub_revtree.specs.Tree.{Tip, tip, tip_of}
use Rattle.hub_revtree.specs.Winner.{winner_of}
use Rattle.hub_revtree.proofs.HeadLemmas.{leaf_headed}
use Rattle.hub_database.specs.declared.document.Document.{Document}
use Rattle.hub_database.specs.declared.answers.Lookup.TheVariants as looked
use Rattle.hub_database.specs.declared.entry.Entry.{Entry}
use Rattle.hub_database.specs.Filed.{FiledDocument, edit_with_id, journal_of, IsFiled}
use Rattle.hub_database.specs.Documents.{filed_document, files}
use Rattle.hub_database.specs.Found.{IsFound, shown_in, history_of}
use Rattle.hub_database.specs.Reads.{HasDocument, doc_shown, lookup, lookup_of, open_rev_of, open_rev}
use Rattle.hub_database.specs.Reads.{open_revs}
use Rattle.hub_database.proofs.NamedLemmas.{renamed, revisions_named, leaves_named, shown_named}
use Rattle.hub_index.proofs.ListLemmas.{at_place}
use Rattle.hub_database.proofs.StoreLemmas.{number_below}

winner_renamed : (id : List ℕ) (leaves : List Leaf) → winner_of (map (renamed id) leaves) ≡ winner_of leaves
winner_renamed id [] = refl
winner_renamed id (leaf ∷ leaves) = refl

module _ (journal : List Edit) (id : List ℕ) (document : Document) (f : IsFound journal id document) where
  -- the winner
  pub winner_found : winner_of (leaves_of journal id) ≡ winner_of (leaves_of document.tree.edits [])
  winner_found =
      ap winner_of (leaves_named journal id document.tree.edits f.kept f.one)
      ∙ winner_renamed id (leaves_of document.tree.edits [])

  -- the edit that is shown for a revision
  pub shown_found : (revision : Revision) → shown_edit journal id revision ≡ shown_in document revision
  shown_found revision =
      shown_named journal id document.tree.edits f.kept f.one revision
      ∙ ap (λ i. option_map (edit_with_id i) (shown_edit document.tree.edits [] revision)) (sym f.same)

  -- the leaves
  pub leaves_same : revisions_of (leaves_of document.tree.edits []) ≡ revisions_of (leaves_of journal id)
  leaves_same =
      sym (revisions_named id (leaves_of document.tree.edits []))
      ∙ ap revisions_of (sym (leaves_named journal id document.tree.edits f.kept f.one))

head_first : (revisions : List Revision) (revision other : Revision) → is_first revision revisions ≡ true
    → slice_get revisions 0 ≡ Some other → revision ≡ other
head_first [] revision other t e = absurd (cc)
head_first (x ∷ revisions) revision other t e = same_is revision x t ∙ same_Some x other e

-- the parts that are lent of an edit that is found
lent : {P : Type 0} (maybe_edit : Option Edit) (tip : Tip) (p : Option (List Revision))
    → Some tip ≡ option_map tip_of maybe_edit → Some p ≡ option_map (λ edit. Some edit.path) maybe_edit
    → ((edit : Edit) → maybe_edit ≡ Some edit → tip ≡ tip_of edit → p ≡ Some edit.path → P) → P
lent None tip p same on next = absurd (none-some tip (sym same))
lent (Some edit) tip p same on next =
    next edit refl (same_Some tip (tip_of edit) same) (same_Some p (Some edit.path) on)

-- a document that is copied from the edit which a revision heads
module _ (document : Document) (revision other : Revision) (deleted : Bool) (body : List ℕ) where
  abbrev edits : List Edit
  edits = document.tree.edits

  module _ (e : Edit) (found : find (is_head revision) (edits_of edits []) ≡ Some e)
      (same : tip other deleted body ≡ tip_of e)
      (count : ℕ) (on : option_map (take count) (path_to edits other) ≡ Some e.path) where
    is : (is_first revision e.path ≡ true) × Contains (edits_of edits []) e
    is = find_is (is_head revision) (edits_of edits []) e found

    known : is_known edits [] revision ≡ true
    known =
        at_any (λ (f : Edit). names f.path revision) (edits_of edits []) e is.1
        (is_named e.path revision (first_in e.path revision (head_is e.path revision is.0)))

    rev : other ≡ revision
    rev = sym (head_first e.path revision other is.0 (sym (ap (λ (t : Tip). t.rev) same)))

    -- the edit's path is the front of all that stands behind its revision
    front : take count (line_of edits [] revision) ≡ e.path
    front =
        same_Some (take count (line_of edits [] revision)) e.path
        (sym (ap (λ b. option_map (take count) (if b then Some (line_of edits [] revision) else None)) known)
        ∙ subst (λ z. option_map (take count) (path_to edits z) ≡ Some e.path) rev on)

    first_of_front : (n : ℕ) (p : List Revision) → Some other ≡ slice_get (take n p) 0
        → Some other ≡ slice_get p 0
    first_of_front zero p t = absurd (cc)
    first_of_front (suc n) [] t = t
    first_of_front (suc n) (x ∷ p) t = t

    whole : (revs : Bool)
        → history_of revs edits revision ≡ (if revs then Some (line_of edits [] revision) else None)
    whole true = ap (λ b. if b then Some (line_of edits [] revision) else None) known
    whole false = refl

    head : Some other ≡ slice_get (line_of edits [] revision) 0
    head =
        first_of_front count (line_of edits [] revision)
        (ap (λ (t : Tip). t.rev) same ∙ ap (λ (p : List Revision). slice_get p 0) (sym front))

    doc_of_edit : (revs : Bool) (history : Option (List Revision)) → history ≡ history_of revs edits revision
        → Some (record { id = document.id; rev = Some other; path = history; deleted = deleted; body = body })
        ≡ option_map (doc_shown revs) (shown_in document revision)
    doc_of_edit revs history is_so =
        ap
        (λ (p : Option (List Revision)).
        Some (record { id = document.id; rev = Some other; path = p; deleted = deleted; body = body }))
        (is_so ∙ whole revs)
        ∙ (ap (λ (o : Option Revision). Some (record {
          id = document.id;
          rev = o;
          path = if revs then Some (line_of edits [] revision) else None;
          deleted = deleted;
          body = body;
        })) head
        ∙ (ap (λ (t : Tip). Some (record {
          id = document.id;
          rev = slice_get (line_of edits [] revision) 0;
          path = if revs then Some (line_of edits [] revision) else None;
          deleted = t.deleted;
          body = t.body;
        })) same
        ∙ ap (λ o. option_map (doc_shown revs)
        (option_map (edit_with_id document.id) (shown_of edits [] revision o)))
        (sym found)))

  pub doc_found : Some (tip other deleted body) ≡ option_map tip_of
      (find (is_head revision) (edits_of edits [])) → (count : ℕ)
      → Some (option_map (take count) (path_to edits other))
      ≡ option_map (λ e. Some e.path) (find (is_head revision) (edits_of edits []))
      → (revs : Bool) (history : Option (List Revision)) → history ≡ history_of revs edits revision
      → Some (record { id = document.id; rev = Some other; path = history; deleted = deleted; body = body })
      ≡ option_map (doc_shown revs) (shown_in document revision)
  doc_found same count on revs history is_so =
      lent (find (is_head revision) (edits_of edits [])) (tip other deleted body)
      (option_map (take count) (path_to edits other)) same on
      (λ e found tips path. doc_of_edit e found tips count path revs history is_so)

-- a document that is copied from the edit of a leaf, or of the winner
module _ (document : Document) (legal : IsLegal document.tree.edits) where
  abbrev own : List Edit
  own = document.tree.edits

  leaf_known : (leaf : Leaf) → Contains (leaves_of own []) leaf → is_known own [] leaf.rev ≡ true
  leaf_known leaf c =
      let is = find_is (is_head leaf.rev) (edits_of own []) leaf.edit (leaf_headed own [] legal leaf c) in
      at_any (λ (f : Edit). names f.path leaf.rev) (edits_of own []) leaf.edit is.1
      (is_named leaf.edit.path leaf.rev (first_in leaf.edit.path leaf.rev (head_is leaf.edit.path leaf.rev is.0)))

  leaf_first : (leaf : Leaf) → Contains (leaves_of own []) leaf
      → Some leaf.rev ≡ slice_get (line_of own [] leaf.rev) 0
  leaf_first leaf c =
      from (line_of own [] leaf.rev)
      (line_of_walk own [] legal leaf.rev (known_is own [] leaf.rev (leaf_known leaf c))).0
    where
      from : (revisions : List Revision) → IsFirst revisions leaf.rev → Some leaf.rev ≡ slice_get revisions 0
      from [] first = absurd first
      from (x ∷ revisions) first = ap Some (sym first)

  leaf_history : (leaf : Leaf) → Contains (leaves_of own []) leaf → (revs : Bool)
      → history_of revs own leaf.rev ≡ (if revs then Some (line_of own [] leaf.rev) else None)
  leaf_history leaf c true = ap (λ b. if b then Some (line_of own [] leaf.rev) else None) (leaf_known leaf c)
  leaf_history leaf c false = refl

  leaf_copied : (leaf : Leaf) → Contains (leaves_of own []) leaf → (revs : Bool)
      → Some (record {
        id = document.id;
        rev = Some leaf.rev;
        path = history_of revs own leaf.rev;
        deleted = leaf.edit.deleted;
        body = leaf.edit.body;
      }) ≡ option_map (doc_shown revs) (shown_in document leaf.rev)
  leaf_copied leaf c revs =
      ap (λ (p : Option (List Revision)). Some (record {
        id = document.id;
        rev = Some leaf.rev;
        path = p;
        deleted = leaf.edit.deleted;
        body = leaf.edit.body;
      })) (leaf_history leaf c revs)
      ∙ (ap (λ (o : Option Revision). Some (record {
        id = document.id;
        rev = o;
        path = if revs then Some (line_of own [] leaf.rev) else None;
        deleted = leaf.edit.deleted;
        body = leaf.edit.body;
      })) (leaf_first leaf c)
      ∙ ap (λ o. option_map (doc_shown revs)
      (option_map (edit_with_id document.id) (shown_of own [] leaf.rev o)))
      (sym (leaf_headed own [] legal leaf c)))

  pub winner_copied : (winner : Winner) → Some winner ≡ winner_of (leaves_of own []) → (body : List ℕ)
      → Some body ≡ doc_of true (leaves_of own []) → (revs : Bool) (history : Option (List Revision))
      → history ≡ history_of revs own winner.rev
      → Some (record {
        id = document.id;
        rev = Some winner.rev;
        path = history;
        deleted = winner.deleted;
        body = body;
      }) ≡ option_map (doc_shown revs) (shown_in document winner.rev)
  winner_copied winner is body held revs history is_so = from (leaves_of own []) refl is held
    where
      from : (leaves : List Leaf) → leaves_of own [] ≡ leaves → Some winner ≡ winner_of leaves
          → Some body ≡ doc_of true leaves
          → Some (record {
            id = document.id;
            rev = Some winner.rev;
            path = history;
            deleted = winner.deleted;
            body = body;
          }) ≡ option_map (doc_shown revs) (shown_in document winner.rev)
      from [] q e h = absurd (none-some winner (sym e))
      from (leaf ∷ leaves) q e h =
          let there = subst (λ other. Contains other leaf) (sym q) (contains_here leaf leaves) in
          let copied =
          subst (λ (w : Winner). Some (record {
            id = document.id;
            rev = Some w.rev;
            path = history_of revs own w.rev;
            deleted = w.deleted;
            body = leaf.edit.body;
          }) ≡ option_map (doc_shown revs) (shown_in document w.rev))
          (same_Some _ winner (sym e)) (leaf_copied leaf there revs) in
          ap (λ (p : Option (List Revision)). Some (record {
            id = document.id;
            rev = Some winner.rev;
            path = p;
            deleted = winner.deleted;
            body = body;
          })) is_so
          ∙ (ap (λ (b : List ℕ). Some (record {
            id = document.id;
            rev = Some winner.rev;
            path = history_of revs own winner.rev;
            deleted = winner.deleted;
            body = b;
          })) (same_Some body leaf.edit.body h) ∙ copied)

-- the edit that is shown for a leaf is the edit that the leaf heads
module _ (journal : List Edit) (id : List ℕ) (legal : IsLegal journal) where
  leaf_shown : (leaf : Leaf) → Contains (leaves_of journal id) leaf
      → shown_edit journal id leaf.rev
      ≡ Some (record {
        id = id;
        path = line_of journal id leaf.rev;
        deleted = leaf.edit.deleted;
        body = leaf.edit.body;
      })
  leaf_shown leaf c = ap (shown_of journal id leaf.rev) (leaf_headed journal id legal leaf c)

  -- the answer where the winner is deleted
  pub lookup_deleted : (revs : Bool) (winner : Winner) → Some winner ≡ winner_of (leaves_of journal id)
      → winner.deleted ≡ true → looked.Deleted ≡ lookup journal id revs
  lookup_deleted revs winner is gone = from (leaves_of journal id) is
    where
      from : (leaves : List Leaf) → Some winner ≡ winner_of leaves
          → looked.Deleted ≡ lookup_of journal id revs leaves
      from [] e = absurd (cc)
      from (l ∷ leaves) e =
          let mark : l.edit.deleted ≡ true = ap (λ (other : Winner). other.deleted)
          (same_Some _ winner (sym e)) ∙ gone in
          rw mark refl

  -- the answer where the winner is not deleted
  lookup_live : (revs : Bool) (winner : Winner) → Some winner ≡ winner_of (leaves_of journal id)
      → winner.deleted ≡ false
      → option_map looked.Found (option_map (doc_shown revs) (shown_edit journal id winner.rev)) ≡ Some
      (lookup journal id revs)
  lookup_live revs winner is live = from (leaves_of journal id) refl is
    where
      from : (leaves : List Leaf) → leaves_of journal id ≡ leaves → Some winner ≡ winner_of leaves
          → option_map looked.Found (option_map (doc_shown revs) (shown_edit journal id winner.rev))
          ≡ Some (lookup_of journal id revs leaves)
      from [] q e = absurd (cc)
      from (l ∷ leaves) q e =
          let same = same_Some _ winner (sym e) in
          let mark : l.edit.deleted ≡ false = ap (λ (other : Winner). other.deleted) same ∙ live in
          let rev : winner.rev ≡ l.rev = sym (ap (λ (other : Winner). other.rev) same) in
          ap (λ r. option_map looked.Found (option_map (doc_shown revs) (shown_edit journal id r))) rev
          ∙ (ap (λ o. option_map looked.Found (option_map (doc_shown revs) o))
          (leaf_shown l (subst (λ other. Contains other l) (sym q) (contains_here l leaves)))
          ∙ ap (λ b. Some (if b then looked.Deleted
          else looked.Found (doc_shown revs
          (record {
            id = id;
            path = line_of journal id l.rev;
            deleted = l.edit.deleted;
            body = l.edit.body;
          }))))
          (sym mark))

  -- a document whose winner is not deleted is found
  lookup_found : (revs : Bool) (winner : Winner) → Some winner ≡ winner_of (leaves_of journal id)
      → winner.deleted ≡ false → HasDocument journal id revs
  lookup_found revs winner is live = from (leaves_of journal id) is
    where
      from : (leaves : List Leaf) → Some winner ≡ winner_of leaves
          → (doc : Doc) × (lookup_of journal id revs leaves ≡ looked.Found doc)
      from [] e = absurd (cc)
      from (l ∷ leaves) e =
          let mark : l.edit.deleted ≡ false =
          ap (λ (other : Winner). other.deleted) (same_Some _ winner (sym e)) ∙ live in (
            doc_shown revs
                (record {
                  id = id;
                  path = line_of journal id l.rev;
                  deleted = l.edit.deleted;
                  body = l.edit.body;
                }),
            ap (λ b. if b then looked.Deleted
                else looked.Found (doc_shown revs
                (record {
                  id = id;
                  path = line_of journal id l.rev;
                  deleted = l.edit.deleted;
                  body = l.edit.body;
                }))) mark,
          )

  module _ (d : Document) (f : IsFound journal id d) (revs : Bool) (w : Winner)
      (is : Some w ≡ winner_of (leaves_of d.tree.edits [])) where
    pub deleted_found : w.deleted ≡ true → looked.Deleted ≡ lookup journal id revs
    deleted_found = lookup_deleted revs w (is ∙ sym (winner_found journal id d f))

    pub is_there : w.deleted ≡ false → HasDocument journal id revs
    is_there = lookup_found revs w (is ∙ sym (winner_found journal id d f))

    live : (o : Option Doc) → o ≡ option_map (doc_shown revs) (shown_in d w.rev) → w.deleted ≡ false
        → option_map looked.Found o ≡ Some (lookup journal id revs)
    live o e m =
        ap (option_map looked.Found)
        (e ∙ ap (option_map (doc_shown revs)) (sym (shown_found journal id d f w.rev)))
        ∙ lookup_live revs w (is ∙ sym (winner_found journal id d f)) m

    pub live_found : (doc : Doc) → Some doc ≡ option_map (doc_shown revs) (shown_in d w.rev)
        → w.deleted ≡ false → looked.Found doc ≡ lookup journal id revs
    live_found doc e m = same_Some _ _ (live (Some doc) e m)

    pub never_none : None ≡ option_map (doc_shown revs) (shown_in d w.rev) → w.deleted ≡ false → ⊥
    never_none e m = none-some _ (live None e m)

  -- the answer where there is no winner
  pub unknown_found : (document : Document) → IsFound journal id document → (revs : Bool)
      → winner_of (leaves_of document.tree.edits []) ≡ None → looked.Unknown ≡ lookup journal id revs
  unknown_found document f revs none = from (leaves_of journal id) (winner_found journal id document f ∙ none)
    where
      from : (leaves : List Leaf) → winner_of leaves ≡ None
          → looked.Unknown ≡ lookup_of journal id revs leaves
      from [] e = refl
      from (l ∷ leaves) e = absurd (cc)

-- a document that a number names, in a database whose ids have these numbers
pub document_found : (limit : ℕ) (numbers : List ℕ → Option ℕ) (documents : List Document)
    (entries : List Entry) → IsFiled limit numbers (files documents) entries → (id : List ℕ) (k : ℕ)
    → numbers id ≡ Some k
    → (document : Document) → document ≡ get_or documents k document
    → IsFound (journal_of (files documents) entries) id document
document_found limit numbers documents entries st id k there document is =
    let low = number_below limit numbers documents entries st id k there in
    let at : slice_get (files documents) k ≡ Some (filed_document document) =
    slice_get-map filed_document documents k ∙ ap (option_map filed_document) (at_place documents k document low is) in
    let own = st.found id k there in
    let same : filed_document document ≡ own.0 = same_Some (filed_document document) own.0 (sym at ∙ own.1) in
    let named_so : document.id ≡ id = ap (λ (z : FiledDocument). z.id) same ∙ own.2 in
    let kept : edits_of (journal_of (files documents) entries) document.id ≡ map
    (edit_with_id document.id) document.tree.edits =
    st.kept k (filed_document document) at in
    record {
      same = named_so;
      kept =
          subst (λ i. edits_of (journal_of (files documents) entries) i ≡ map (edit_with_id i) document.tree.edits)
          named_so
          kept;
      one = st.one k (filed_document document) at;
    }

-- the answer for each of the revisions that are asked for
module _ (journal : List Edit) (id : List ℕ) (document : Document) (f : IsFound journal id document)
    (revs : Bool) where
  opened : (revisions : List Revision)
      → map (λ revision. open_rev_of revs revision (shown_in document revision)) revisions ≡ map
      (open_rev journal id revs) revisions
  opened [] = refl
  opened (revision ∷ revisions) =
      ap (λ o. open_rev_of revs revision o ∷ map (λ s. open_rev_of revs s (shown_in document s)) revisions)
      (sym (shown_found journal id document f revision))
      ∙ ap (λ os. open_rev journal id revs revision ∷ os) (opened revisions)

  -- the answer for listed revisions
  pub listed_found : (revisions : List Revision)
      → map (λ r. open_rev_of revs r (shown_in document r)) revisions ≡ open_revs journal id
      (Listed revisions) revs
  listed_found revisions = opened revisions

  -- the answer for the leaves
  pub all_found : (revisions : List Revision) → revisions ≡ revisions_of (leaves_of document.tree.edits [])
      → map (λ r. open_rev_of revs r (shown_in document r)) revisions ≡ open_revs journal id All revs
  all_found revisions same =
      opened revisions ∙ ap (map (open_rev journal id revs)) (same ∙ leaves_same journal id document f)

-- an unknown document has no leaf
module _ (journal : List Edit) (id : List ℕ) (none : edits_of journal id ≡ []) where
  pub no_leaves : leaves_of journal id ≡ []
  no_leaves = ap (λ es. best_first (leaves_among es es)) none
