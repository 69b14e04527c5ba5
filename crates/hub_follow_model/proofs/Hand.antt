-- The revisions that are in hand after the answers of a peer.
use Rattle.std.proofs.Common.{◌≡◌, ◌≢◌, ℕ, ◌+◌, ◌-◌, ◌<◌, ◌≤◌, List, [], ◌∷◌, ◌++◌, length}
use Rattle.std.proofs.Common.{map, take, drop, Contains, ◌⊎◌, inl, inr, refl, sym, ap, ⊎_elim}
use Rattle.std.proofs.Common.{◌∙◌, subst, arith, append_assoc, append-nil, false, Option}
use Rattle.std.proofs.Common.{Some, None, Result, Ok, Err, take-append-drop, length-append}
use Rattle.std.proofs.lemmas.List.Elements.{Contains-append_left, Contains-append_right}
use Rattle.std.proofs.lemmas.List.Elements.{Contains-append_cases, All-contains}
use Rattle.std.proofs.lemmas.List.{drop-append-le}
use Rattle.std.proofs.Math.Seq.{drop-append-add}
use Rattle.hub_follow_model.specs.Follower.{revisions_of_row, missing_revisions}
use Rattle.hub_follow_model.specs.Follower.{all_documents, with_document, Fault}
use Rattle.hub_follow_model.specs.ChangesFeed.{items_of, ended_feed, HasChangesAnswer}
use Rattle.hub_model.specs.Current.{IsCurrent}
use Rattle.hub_model.specs.Journal.{Edit, IsHead, IsKnown, IsLegal, is_known}
use Rattle.hub_model.specs.Leaves.{IsLeaf}
use Rattle.hub_model.specs.Missing.{unknown_revisions, missing_by_document, diffs, diff_of, is_wanted, with_missing, RevisionsOfDoc, Diff}
use Rattle.hub_model.specs.Revision.{Revision}
use Rattle.hub_model.specs.RightlyHanded.{rows_of, IsRowOf}
use Rattle.hub_model.specs.RowKind.{change_rows}
use Rattle.hub_model.specs.declared.feeds.Style.TheVariants.{AllDocs}
use Rattle.hub_model.specs.Row.{IsRow, ChangeRow}
use Rattle.hub_model.specs.Walk.{shown_edit, IsShown}
use Rattle.hub_follow_model.proofs.Bring.{IsCopy, AreCopies}
use Rattle.hub_model.proofs.Lists.{contains_none, contains_here, contains_there, contains_cases, same_split}
use Rattle.hub_model.proofs.Shown.{is_current_from, shown_is}
use Rattle.hub_follow_model.proofs.Paths.{behind_more, row_is, row_lists}
use Rattle.hub_model.proofs.Tests.{known_is, in_filter}
use Rattle.std.specs.Prelude.{All, not, true, if◌then◌else◌}
use Rattle.std.proofs.lemmas.Bool.{cases_Bool, lt-ltb}
use Rattle.hub_follow_model.proofs.Done.{IsUnmoved, IsDoneBut, IsDone, drop_in, last_of}
use Rattle.hub_follow_model.proofs.Done.{contains_map, map_contains, rows_of-items}

-- a revision is in hand: asked for, or the head of a fetched document
abbrev pub InAsked : List RevisionsOfDoc → List ℕ → Revision → Type 0
InAsked asked id revision = (a : RevisionsOfDoc) × Contains asked a × (a.id ≡ id) × Contains a.revs revision

abbrev pub InGot : List Edit → List ℕ → Revision → Type 0
InGot got id revision = (edit : Edit) × Contains got edit × (edit.id ≡ id) × IsHead edit revision

-- a document whose last edit isn't after c was not written after c
pub unmoved_current : (journal : List Edit) (c n : ℕ) (edit : Edit) → IsCurrent journal n edit → n ≤ c
    → IsUnmoved journal c edit.id
unmoved_current journal c n edit (b, l, s, m, none) v f d =
    let k : c ≡ length (b ++ edit ∷ []) + (c - n) = omega (arith, length-append b (edit ∷ [])) in
    none f
    (drop_in (c - n) l f
    (subst (λ z. Contains z f) (drop-append-add (b ++ edit ∷ []) l (c - n))
    (subst (λ z. Contains (drop z ((b ++ edit ∷ []) ++ l)) f) k
    (subst (λ z. Contains (drop c z) f) (s ∙ sym (append_assoc b (edit ∷ []) l)) d))))

-- an answer of `changes` names the leaves of each document that moved since
module _ (journal later_journal : List Edit) (since last : ℕ) (rows : List ChangeRow)
    (p : HasChangesAnswer journal since rows last)
    (old : IsDone journal later_journal since) where
  pub in_last : (n : ℕ) (edit : Edit) → IsCurrent journal n edit → IsUnmoved journal last edit.id → n ≤ last
  in_last n edit (b, l, s, m, none) u =
      ⊎_elim (λ (v : n ≤ last). v)
      (λ (v : last < n). absurd (u edit
      (subst (λ z. Contains (drop last z) edit) (sym s)
      (let w : last ≤ length b = omega arith in
      subst (λ z. Contains z edit) (sym (drop-append-le last b (edit ∷ l) w))
      (Contains-append_right (drop last b) (edit ∷ l) edit (contains_here edit l)))) refl)) (grind arith)

  pub rows_are : rows_of (items_of rows last p.0) ≡ rows
  rows_are = rows_of-items rows last p.0

  pub shows_row : (n : ℕ) (edit : Edit) → IsCurrent journal n edit → since < n → n ≤ last
      → Contains (map (λ (row : ChangeRow). row.seq) rows) n
  shows_row n edit current low high =
      subst (λ (z : List ChangeRow). Contains (map (λ (row : ChangeRow). row.seq) z) n) rows_are
      (p.1.whole (record { seq = n; id = edit.id }) (is_current_from journal n edit current) refl low high)

  pub contains_seq : {n : ℕ} → Contains (map (λ (r : ChangeRow). r.seq) rows) n
      → (row : ChangeRow) × Contains rows row × (row.seq ≡ n)
  contains_seq {n = n} c = map_contains (λ (r : ChangeRow). r.seq) rows n c

  pub shown_row : (row : ChangeRow) → Contains rows row → IsRow (take row.seen journal) AllDocs false row
  shown_row row c =
      let of =
      All-contains (IsRowOf change_rows journal (ended_feed since last (length rows))) rows row
      (subst (λ (z : List ChangeRow).
      All (IsRowOf change_rows journal (ended_feed since last (length rows))) z)
      rows_are p.1.rows) c in
      (of.shown.0, of.shown.1, of.shown.2)

  -- the leaves now are those at the row's moment
  pub leaf_then : (n : ℕ) (edit : Edit) (id : List ℕ) (revision : Revision) (edits others : List Edit)
      (e2 : Edit) → journal ≡ edits ++ others
      → IsCurrent edits n e2 → IsCurrent journal n edit → edit.id ≡ id → IsLeaf journal id revision
      → (e2.id ≡ id) × IsLeaf edits id revision
  leaf_then n edit id revision edits others e2 split (b2, l2, s2, m2, none2) (b, l, s, m, none) q leaf =
      let whole : b ++ edit ∷ l ≡ b2 ++ e2 ∷ (l2 ++ others) =
      sym s ∙ (split ∙ (ap (λ (z : List Edit). z ++ others) s2 ∙ append_assoc b2 (e2 ∷ l2) others)) in
      let n_is : length b ≡ length b2 = omega arith in
      let same = same_split b b2 l (l2 ++ others) edit e2 n_is whole in (
        sym (ap (λ (z : Edit). z.id) same.1) ∙ q,
        (
          known same.0 same.1 leaf.0.0 leaf.0.1.0 leaf.0.1.1 leaf.0.2,
          λ r k. leaf.1 r
              (behind_more journal edits id revision r
              (λ other c. subst (λ z. Contains z other) (sym split)
              (Contains-append_left edits others other c)) k),
        ),
      )
    where
      known : b ≡ b2 → edit ≡ e2 → (other : Edit) → Contains journal other → other.id ≡ id
          → Contains other.path revision → IsKnown edits id revision
      known p0 p1 other c i j = (
        other,
        (
          subst (λ z. Contains z other)
              (sym s2) (within (Contains-append_cases b (edit ∷ l) other
              (subst (λ z. Contains z other) s c))),
          i,
        ),
        j,
      )
        where
          at_e : (edit ≡ other) ⊎ Contains l other → Contains (b2 ++ e2 ∷ l2) other
          at_e (inl v) =
              Contains-append_right b2 (e2 ∷ l2) other
              (subst (λ z. Contains (e2 ∷ l2) z) (sym p1 ∙ v) (contains_here e2 l2))
          at_e (inr v) = absurd (none other v (i ∙ sym q))

          within : Contains b other ⊎ Contains (edit ∷ l) other → Contains (b2 ++ e2 ∷ l2) other
          within (inl v) = Contains-append_left b2 (e2 ∷ l2) other (subst (λ z. Contains z other) p0 v)
          within (inr v) = at_e (contains_cases edit other l v)

  pub in_row : (n : ℕ) (edit : Edit) (id : List ℕ) (revision : Revision) → IsCurrent journal n edit
      → edit.id ≡ id → IsLeaf journal id revision
      → (row : ChangeRow) → Contains rows row → row.seq ≡ n → IsRow (take row.seen journal) AllDocs false row
      → InAsked (map revisions_of_row rows) id revision
  in_row n edit id revision current q leaf row c at fits =
      let as_row = row_is (take row.seen journal) false row fits in
      let as_leaf =
      leaf_then n edit id revision (take row.seen journal) (drop row.seen journal) as_row.0
      (sym (take-append-drop row.seen journal))
      (subst (λ z. IsCurrent (take row.seen journal) z as_row.0) at as_row.1) current q leaf in
      let same : row.id ≡ id = sym as_row.2 ∙ as_leaf.0 in (
        revisions_of_row row,
        contains_map revisions_of_row row rows c,
        same,
        row_lists (take row.seen journal) false row fits revision
            (subst (λ z. IsLeaf (take row.seen journal) z revision) (sym same) as_leaf.1),
      )

  pub handed : IsDoneBut journal later_journal last (InAsked (map revisions_of_row rows))
  handed =
      record {
        within = p.1.to_length;
        brought = λ id revision u leaf.
            found id revision u leaf (last_of journal id);
      }
    where
      found : (id : List ℕ) (revision : Revision) → IsUnmoved journal last id → IsLeaf journal id revision
          → ((n : ℕ) × (edit : Edit) × IsCurrent journal n edit × (edit.id ≡ id))
          ⊎ ((other : Edit) → Contains journal other → other.id ≢ id)
          → IsKnown later_journal id revision ⊎ InAsked (map revisions_of_row rows) id revision
      found id revision u leaf (inr none) = absurd (none leaf.0.0 leaf.0.1.0 leaf.0.1.1)
      found id revision u leaf (inl (n, edit, current, q)) = ⊎_elim
          (λ (v : n ≤ since). inl (old.brought id
          (subst (λ z. IsUnmoved journal since z) q (unmoved_current journal since n edit current v)) revision
          leaf))
          (λ (v : since < n).
          let w =
          contains_seq (shows_row n edit current v
          (in_last n edit current (subst (λ z. IsUnmoved journal last z) (sym q) u))) in
          inr (in_row n edit id revision current q leaf w.0 w.1 w.2 (shown_row w.0 w.1)))
          (grind arith)

-- an answer of `revs_diff` leaves out the known revisions
pub missing_in : (later_journal : List Edit) (id : List ℕ) (revs : List Revision) (revision : Revision)
    → Contains revs revision
    → IsKnown later_journal id revision ⊎ Contains (unknown_revisions later_journal id revs) revision
missing_in later_journal id revs revision c = elim (cases_Bool (is_known later_journal id revision)) [
  | inl t ↦ inl (known_is later_journal id revision t)
  | inr t ↦ inr (in_filter (λ r. not (is_known later_journal id r)) revs revision c (ap not t))
]

pub asked_first : (id' : List ℕ) (revs : List Revision) (rest : List RevisionsOfDoc) (id : List ℕ)
    (revision : Revision)
    → id' ≡ id → Contains revs revision → InAsked (with_missing id' revs rest) id revision
asked_first id' [] rest id revision q c = absurd (contains_none revision c)
asked_first id' (other ∷ revs) rest id revision q c = (
  record { id = id'; revs = other ∷ revs },
  contains_here (record { id = id'; revs = other ∷ revs }) rest,
  q,
  c,
)

pub asked_rest : (id' : List ℕ) (revs : List Revision) (rest : List RevisionsOfDoc) (id : List ℕ) (revision : Revision)
    → InAsked rest id revision → InAsked (with_missing id' revs rest) id revision
asked_rest id' [] rest id revision k = k
asked_rest id' (other ∷ revs) rest id revision (a, c, q, i) =
    (a, contains_there (record { id = id'; revs = other ∷ revs }) a rest c, q, i)

pub wanted_in : (later_journal : List Edit) (asked : List RevisionsOfDoc) (id : List ℕ) (revision : Revision)
    → InAsked asked id revision
    → IsKnown later_journal id revision ⊎ InAsked (missing_by_document later_journal asked) id revision
wanted_in later_journal [] id revision (a, c, q, i) = absurd (contains_none a c)
wanted_in later_journal (x ∷ asked) id revision (a, c, q, i) =
    both (wanted_in later_journal asked id revision) (contains_cases x a asked c)
  where
    both : (InAsked asked id revision → IsKnown later_journal id revision
        ⊎ InAsked (missing_by_document later_journal asked) id revision)
        → (x ≡ a) ⊎ Contains asked a → IsKnown later_journal id revision
        ⊎ InAsked (missing_by_document later_journal (x ∷ asked)) id revision
    both ih (inl e) =
        let named : x.id ≡ id = ap (λ (z : RevisionsOfDoc). z.id) e ∙ q in
        ⊎_elim (λ k. inl (subst (λ z. IsKnown later_journal z revision) named k))
        (λ k. inr (asked_first x.id (unknown_revisions later_journal x.id x.revs)
        (missing_by_document later_journal asked) id revision named k))
        (missing_in later_journal x.id x.revs revision
        (subst (λ (z : RevisionsOfDoc). Contains z.revs revision) (sym e) i))
    both ih (inr d) =
        ⊎_elim (λ k. inl k)
        (λ k. inr (asked_rest x.id (unknown_revisions later_journal x.id x.revs)
        (missing_by_document later_journal asked) id revision k)) (ih (a, d, q, i))

-- the differences list the wanted documents: those with missing revisions
lacking_first : (diff : Diff) (rest : List Diff) (lost : List Revision) → diff.missing ≡ lost
    → map missing_revisions (if is_wanted diff then (diff ∷ rest) else rest)
    ≡ with_missing diff.id lost (map missing_revisions rest)
lacking_first diff rest [] e = rw e refl
lacking_first diff rest (revision ∷ revs) e =
    let some : is_wanted diff ≡ true = lt-ltb 0 (length diff.missing) (rw e (omega arith)) in
    ap (λ b. map missing_revisions (if b then (diff ∷ rest) else rest)) some
    ∙ ap (λ z. record { id = diff.id; revs = z } ∷ map missing_revisions rest) e

pub lacking_diffs : (journal : List Edit) (asked : List RevisionsOfDoc)
    → map missing_revisions (diffs journal asked) ≡ missing_by_document journal asked
lacking_diffs journal [] = refl
lacking_diffs journal (a ∷ asked) =
    lacking_first (diff_of journal a) (diffs journal asked) (unknown_revisions journal a.id a.revs) refl
    ∙ ap (with_missing a.id (unknown_revisions journal a.id a.revs)) (lacking_diffs journal asked)

-- an answer of `open_revs` has copies
pub opened_in : (journal : List Edit) (id : List ℕ) (revs : List Revision) (got : List Edit)
    → IsLegal journal → all_documents id revs (map (shown_edit journal id) revs) ≡ Ok got
    → AreCopies journal got × ((revision : Revision) → Contains revs revision → InGot got id revision)
opened_in journal id [] got legal q =
    let none : got ≡ [] = cc in (
      λ e c. absurd (contains_none e (subst (λ z. Contains z e) none c)),
      λ revision c.
          absurd (contains_none revision c),
    )
opened_in journal id (r ∷ revs) got legal q =
    at (shown_edit journal id r) refl (all_documents id revs (map (shown_edit journal id) revs))
    (λ edits u. opened_in journal id revs edits legal u) q
  where
    at : (maybe_edit : Option Edit) → shown_edit journal id r ≡ maybe_edit → (o : Result (List Edit) Fault)
        → ((edits : List Edit) → o ≡ Ok edits → AreCopies journal edits
        × ((revision : Revision) → Contains revs revision → InGot edits id revision))
        → with_document id r maybe_edit o ≡ Ok got
        → AreCopies journal got ×
        ((revision : Revision) → Contains (r ∷ revs) revision → InGot got id revision)
    at None s o ih t = absurd (cc)
    at (Some e) s (Err fault) ih t = absurd (cc)
    at (Some e) s (Ok edits) ih t =
        let k = ih edits refl in
        let is : e ∷ edits ≡ got = cc in
        let copy_shown = shown_is journal id r e legal s in (
          λ f c. ⊎_elim
              (λ (v : e ≡ f). subst (λ z. IsCopy journal z) v
              (record {
                front = journal;
                rest = [];
                r = r;
                split = append-nil journal;
                shown = subst (λ z. IsShown journal z r e) (sym copy_shown.named) copy_shown;
              }))
              (λ v. k.0 f v) (contains_cases e f edits (subst (λ z. Contains z f) (sym is) c)),
          λ revision c. ⊎_elim
              (λ (v : r ≡ revision). (
                e,
                subst (λ z. Contains z e) is (contains_here e edits),
                copy_shown.named,
                subst (λ z. IsHead e z) v copy_shown.head,
              ))
              (λ v.
              let g = k.1 revision v in
              (g.0, subst (λ z. Contains z g.0) is (contains_there e g.0 edits g.1), g.2, g.3))
              (contains_cases r revision revs c),
        )
