-- The leaves of a document bring the whole document: each revision, and each step behind a revision, is on
-- the path of a leaf, and stays there.
use Rattle.std.proofs.Common.{◌≡◌, ◌≢◌, ℕ, List, [], ◌∷◌, ◌++◌, Contains, ◌⊎◌, inl, inr}
use Rattle.std.proofs.Common.{refl, sym, ap, ⊎_elim, ◌∙◌, subst, append_assoc, Bool}
use Rattle.std.proofs.lemmas.List.Elements.{Contains-append_left, Contains-push, Contains-push_cases}
use Rattle.hub_follow_model.specs.Copied.{IsCopied}
use Rattle.hub_model.specs.Journal.{Edit, Edits, IsHead, IsKnown, IsBehind, IsTree, IsAcceptable, IsLegal}
use Rattle.hub_model.specs.Leaves.{IsLeaf, HasDoc, IsMarked}
use Rattle.hub_model.specs.Path.{IsFirst, IsNext}
use Rattle.hub_model.specs.Revision.{Revision}
use Rattle.hub_model.specs.Walk.{IsWalk, IsShown}
use Rattle.hub_model.proofs.Legal.{Holds, known_more, first_in, next_left}
use Rattle.hub_model.proofs.Legal.{next_right, has_first, legal_induct, legal_sound}
use Rattle.hub_model.proofs.Drafts.{new_leaf, old_leaf}
use Rattle.hub_model.proofs.Lists.{contains_none, contains_cases, same_text}
use Rattle.hub_follow_model.proofs.Paths.{behind_more, first_same, first_or_next, legal_at, in_path, fronts}
use Rattle.hub_model.proofs.Walks.{walk_steps}

-- the revision leads to itself, and to each revision that stands behind it, step by step
pub data Leads (other_journal : List Edit) (id : List ℕ) (revision : Revision) : Revision → Type 0 where
  here : Leads other_journal id revision revision
  back : {s r : Revision} → Leads other_journal id revision s → IsBehind other_journal id r s
      → Leads other_journal id revision r

leads_more : (journal other_journal : List Edit) (id : List ℕ) (revision other : Revision)
    → Holds journal other_journal → Leads other_journal id revision other → Leads journal id revision other
leads_more journal other_journal id revision other c here = here
leads_more journal other_journal id revision other c (back {s = s} l b) =
    back (leads_more journal other_journal id revision s c l)
    (behind_more journal other_journal id other s c b)

leads_join : (other_journal : List Edit) (id : List ℕ) (revision other c : Revision)
    → Leads other_journal id revision other → Leads other_journal id other c
    → Leads other_journal id revision c
leads_join other_journal id revision other c l here = l
leads_join other_journal id revision other c l (back {s = s} m k) =
    back (leads_join other_journal id revision other s l m) k

path_leads : (other_journal : List Edit) (id : List ℕ) (revisions : List Revision) (revision other : Revision)
    → ((s r : Revision) → IsNext revisions s r → IsBehind other_journal id r s) → IsFirst revisions revision
    → Contains revisions other → Leads other_journal id revision other
path_leads other_journal id [] revision other f i c = absurd i
path_leads other_journal id (y ∷ []) revision other f i c = both (contains_cases y other [] c)
  where
    both : (y ≡ other) ⊎ Contains [] other → Leads other_journal id revision other
    both (inl e) = subst (λ z. Leads other_journal id revision z) (sym i ∙ e) here
    both (inr d) = absurd (contains_none other d)
path_leads other_journal id (y ∷ z ∷ revisions) revision other f i c =
    both (path_leads other_journal id (z ∷ revisions) z other (λ s r n. f s r (inr n)) refl)
    (contains_cases y other (z ∷ revisions) c)
  where
    both : (Contains (z ∷ revisions) other → Leads other_journal id z other) → (y ≡ other)
        ⊎ Contains (z ∷ revisions) other → Leads other_journal id revision other
    both ih (inl e) = subst (λ w. Leads other_journal id revision w) (sym i ∙ e) here
    both ih (inr d) =
        leads_join other_journal id revision z other (back here (f revision z (inl (i, refl)))) (ih d)

-- the edit whose head is the leaf that leads to the revision: the last edit of all that lead there
pub record Climbed (journal : List Edit) (id : List ℕ) (edit : Edit) (revision : Revision) : Type 0 where
  pub before : List Edit
  pub later : List Edit
  pub e : Edit
  pub h : Revision
  pub split : journal ≡ before ++ e ∷ later
  pub named : e.id ≡ id
  pub head : IsHead e h
  pub leaf : IsLeaf journal id h
  pub leads : Leads (before ++ e ∷ []) id h revision
  pub holds : Contains (before ++ e ∷ []) edit

abbrev AllClimb : List Edit → Type 0
AllClimb journal =
    (id : List ℕ) (edit : Edit) (revision : Revision) → Edits journal id edit → Contains edit.path revision
    → Climbed journal id edit revision

module _ (other_journal : List Edit) (edit : Edit) (a : IsAcceptable other_journal edit) (id : List ℕ) where
  -- the head of the new edit leads to each revision that its path names, and on to all that these lead to
  by_new : (other : Edit) (revision x : Revision) → edit.id ≡ id → Contains (other_journal ++ edit ∷ []) other
      → Contains edit.path revision
      → Leads (other_journal ++ edit ∷ []) id revision x → Climbed (other_journal ++ edit ∷ []) id other x
  by_new other revision x q c i l =
      let first = has_first edit.path a.history.falls in
      record {
        before = other_journal;
        later = [];
        e = edit;
        h = first.0;
        split = refl;
        named = q;
        head = first.1;
        leaf = new_leaf other_journal edit a id first.0 q first.1;
        leads = leads_join (other_journal ++ edit ∷ []) id first.0 revision x
            (path_leads (other_journal ++ edit ∷ []) id edit.path first.0 revision
            (λ s r n. (edit, (Contains-push other_journal edit, q), n)) first.1 i)
            l;
        holds = c;
      }

  climb_more : (other : Edit) (revision : Revision)
      → (Contains other_journal other → other.id ≡ id → Climbed other_journal id other revision)
      → Edits (other_journal ++ edit ∷ []) id other → Contains other.path revision
      → Climbed (other_journal ++ edit ∷ []) id other revision
  climb_more other revision ih (c, n) i = both (Contains-push_cases other_journal edit other c)
    where
      on : (o : Climbed other_journal id other revision) → (edit.id ≡ id → ¬ Contains edit.path o.h)
          → Climbed (other_journal ++ edit ∷ []) id other revision
      on o not_in = record {
        before = o.before;
        later = o.later ++ edit ∷ [];
        e = o.e;
        h = o.h;
        split =
            ap (λ (z : List Edit). z ++ edit ∷ []) o.split
            ∙ append_assoc o.before (o.e ∷ o.later) (edit ∷ []);
        named = o.named;
        head = o.head;
        leaf = old_leaf other_journal edit a id o.h not_in o.leaf;
        leads = o.leads;
        holds = o.holds;
      }

      over : (o : Climbed other_journal id other revision) → edit.id ≡ id → Contains edit.path o.h
          → Climbed (other_journal ++ edit ∷ []) id other revision
      over o q d =
          by_new other o.h revision q c d
          (leads_more (other_journal ++ edit ∷ []) (o.before ++ o.e ∷ []) id o.h revision
          (λ g w. Contains-append_left other_journal (edit ∷ []) g
          (subst (λ (z : List Edit). Contains z g) (append_assoc o.before (o.e ∷ []) o.later ∙ sym o.split)
          (Contains-append_left (o.before ++ o.e ∷ []) o.later g w))) o.leads)

      which : (o : Climbed other_journal id other revision) → (edit.id ≡ id) ⊎ (edit.id ≢ id)
          → Contains edit.path o.h ⊎ ¬ Contains edit.path o.h
          → Climbed (other_journal ++ edit ∷ []) id other revision
      which o (inl q) (inl d) = over o q d
      which o (inl q) (inr d) = on o (λ _. d)
      which o (inr q) d = on o (λ p. absurd (q p))

      both : Contains other_journal other ⊎ (edit ≡ other)
          → Climbed (other_journal ++ edit ∷ []) id other revision
      both (inl u) = let o = ih u n in which o (same_text edit.id id) (in_path edit.path o.h)
      both (inr v) =
          by_new other revision revision (ap (λ (z : Edit). z.id) v ∙ n) c
          (subst (λ (z : Edit). Contains z.path revision) (sym v) i) here

pub climb : (journal : List Edit) → IsLegal journal → AllClimb journal
climb journal h = legal_induct AllClimb
    (λ id f x p. absurd (contains_none f p.0))
    (λ K e a ih id f x p i. climb_more K e a id f x (λ c n. ih id f x (c, n) i) p i) journal h

-- facts about walks
walk_known : (other_journal : List Edit) (id : List ℕ) (revisions : List Revision) (revision other : Revision)
    → IsWalk other_journal id revisions → IsFirst revisions revision
    → IsKnown other_journal id revision → Contains revisions other → IsKnown other_journal id other
walk_known other_journal id [] revision other w i k c = absurd w
walk_known other_journal id (x ∷ []) revision other w i k c =
    ⊎_elim (λ (e : x ≡ other). subst (λ z. IsKnown other_journal id z) (sym i ∙ e) k)
    (λ d. absurd (contains_none other d))
    (contains_cases x other [] c)
walk_known other_journal id (x ∷ y ∷ revisions) revision other w i k c =
    let b = w.0 in
    ⊎_elim (λ (e : x ≡ other). subst (λ z. IsKnown other_journal id z) (sym i ∙ e) k)
    (λ d. walk_known other_journal id (y ∷ revisions) y other w.1 refl
    (b.0, b.1, next_right b.0.path x y b.2) d)
    (contains_cases x other (y ∷ revisions) c)

walk_whole : (other_journal : List Edit) (id : List ℕ) (revisions : List Revision) (revision other : Revision)
    → IsTree other_journal id → IsWalk other_journal id revisions
    → Contains revisions revision → IsBehind other_journal id other revision → IsNext revisions revision other
walk_whole other_journal id [] revision other t w c b = absurd w
walk_whole other_journal id (x ∷ []) revision other t w c b =
    ⊎_elim (λ (e : x ≡ revision). absurd (w other (subst (λ z. IsBehind other_journal id other z) (sym e) b)))
    (λ d. absurd (contains_none revision d)) (contains_cases x revision [] c)
walk_whole other_journal id (x ∷ y ∷ revisions) revision other t w c b =
    both (walk_whole other_journal id (y ∷ revisions) revision other t w.1)
    (contains_cases x revision (y ∷ revisions) c)
  where
    both : (Contains (y ∷ revisions) revision → IsBehind other_journal id other revision
        → IsNext (y ∷ revisions) revision other) → (x ≡ revision) ⊎ Contains (y ∷ revisions) revision
        → IsNext (x ∷ y ∷ revisions) revision other
    both ih (inl e) = inl (e, t y other revision (subst (λ z. IsBehind other_journal id y z) e w.0) b)
    both ih (inr d) = inr (ih d b)

walk_leads : (other_journal : List Edit) (id : List ℕ) (revisions : List Revision) (revision other : Revision)
    → IsTree other_journal id → IsWalk other_journal id revisions
    → Contains revisions revision → Leads other_journal id revision other → Contains revisions other
walk_leads other_journal id revisions revision other t w c here = c
walk_leads other_journal id revisions revision other t w c (back {s = s} l b) =
    next_right revisions s other
    (walk_whole other_journal id revisions s other t w
    (walk_leads other_journal id revisions revision s t w c l) b)

-- an edit that shows its head as a front of the journal has it
pub record IsCopy (journal : List Edit) (edit : Edit) : Type 0 where
  pub front : List Edit
  pub rest : List Edit
  pub r : Revision
  pub split : front ++ rest ≡ journal
  pub shown : IsShown front edit.id r edit

pub copy_more : (journal edits : List Edit) (edit : Edit) → IsCopy journal edit
    → IsCopy (journal ++ edits) edit
copy_more journal edits edit c = record {
  front = c.front;
  rest = c.rest ++ edits;
  r = c.r;
  split = sym (append_assoc c.front c.rest edits) ∙ ap (λ (others : List Edit). others ++ edits) c.split;
  shown = c.shown;
}

abbrev pub AreCopies : List Edit → List Edit → Type 0
AreCopies journal later_journal = (edit : Edit) → Contains later_journal edit → IsCopy journal edit

front_holds : (journal : List Edit) (edit : Edit) (c : IsCopy journal edit) → Holds journal c.front
front_holds journal edit c f h =
    subst (λ (edits : List Edit). Contains edits f) c.split (Contains-append_left c.front c.rest f h)

-- each leaf of the document is known in the second journal
abbrev pub IsBrought : List Edit → List Edit → List ℕ → Type 0
IsBrought journal later_journal id =
    (revision : Revision) → IsLeaf journal id revision → IsKnown later_journal id revision

-- an edit of the second journal names the revision, and all that this edit has directly behind it
abbrev IsCarried : List Edit → List ℕ → Edit → Revision → Type 0
IsCarried later_journal id edit revision =
    (other : Edit) × Edits later_journal id other × Contains other.path revision
    × ((r : Revision) → IsNext edit.path revision r → IsNext other.path revision r)

module _ (journal later_journal : List Edit) (legal : IsLegal journal)
    (copies : AreCopies journal later_journal) (id : List ℕ) where
  shown_at : (edit : Edit) → (d : Contains later_journal edit) → edit.id ≡ id
      → IsShown (copies edit d).front id (copies edit d).r edit
  shown_at edit d m =
      subst (λ (i : List ℕ). IsShown (copies edit d).front i (copies edit d).r edit) m (copies edit d).shown

  front_known : (edit : Edit) (d : Contains later_journal edit) (revision : Revision) → edit.id ≡ id
      → Contains edit.path revision → IsKnown (copies edit d).front id revision
  front_known edit d revision m i =
      let c = copies edit d in
      let k = shown_at edit d m in
      let o = k.doc in
      walk_known c.front id edit.path c.r revision k.walk k.head (o.0, o.1, first_in o.0.path c.r o.2) i

  pub copied_known : (revision : Revision) → IsKnown later_journal id revision → IsKnown journal id revision
  copied_known revision (e, (d, m), i) =
      known_more journal (copies e d).front id revision (front_holds journal e (copies e d))
      (front_known e d revision m i)

  pub copied_behind : (revision other : Revision) → IsBehind later_journal id revision other
      → IsBehind journal id revision other
  copied_behind revision other (e, (d, m), i) =
      behind_more journal (copies e d).front id revision other (front_holds journal e (copies e d))
      (walk_steps (copies e d).front id e.path other revision (shown_at e d m).walk i)

  copied_doc : (revision : Revision) (edit : Edit) → Edits later_journal id edit → IsHead edit revision
      → HasDoc journal id revision edit.deleted edit.body
  copied_doc revision edit (d, m) i =
      let c = copies edit d in
      let k = shown_at edit d m in
      let o = k.doc in (
        o.0,
        (front_holds journal edit c o.0 o.1.0, o.1.1),
        subst (λ (other : Revision). IsHead o.0 other) (first_same edit.path c.r revision k.head i) o.2,
        o.3,
        o.4,
      )

  carried : IsBrought journal later_journal id → (edit : Edit) (revision : Revision) → Edits journal id edit
      → Contains edit.path revision → IsCarried later_journal id edit revision
  carried brought edit revision p i = at_leaf (climb journal legal id edit revision p i)
    where
      at_front : (o : Climbed journal id edit revision) (e : Edit) (d : Contains later_journal e) → e.id ≡ id
          → Contains e.path o.h → ((edits : List Edit) × (o.before ≡ (copies e d).front ++ edits))
          ⊎ ((edits : List Edit) × ((copies e d).front ≡ o.before ++ o.e ∷ edits))
          → IsCarried later_journal id edit revision
      at_front o e d m j (inl (edits, q)) =
          absurd ((legal_at [] o.before o.later o.e (subst IsLegal o.split legal)).new o.h o.head
          (known_more o.before (copies e d).front o.e.id o.h
          (λ g w.
          subst (λ (z : List Edit). Contains z g) (sym q) (Contains-append_left (copies e d).front edits g w))
          (subst (λ (z : List ℕ). IsKnown (copies e d).front z o.h) (sym o.named) (front_known e d o.h m j))))
      at_front o e d m j (inr (edits, q)) =
          let K = (copies e d).front in
          let holds = λ (g : Edit) (w : Contains (o.before ++ o.e ∷ []) g).
          subst (λ (z : List Edit). Contains z g) (append_assoc o.before (o.e ∷ []) edits ∙ sym q)
          (Contains-append_left (o.before ++ o.e ∷ []) edits g w) in
          let tree = λ (r other s : Revision) (b : IsBehind K id r s) (k : IsBehind K id other s).
          (legal_sound journal legal).tree id r other s
          (behind_more journal K id r s (front_holds journal e (copies e d)) b)
          (behind_more journal K id other s (front_holds journal e (copies e d)) k) in
          let walk = (shown_at e d m).walk in
          let within =
          walk_leads K id e.path o.h revision tree walk j
          (leads_more K (o.before ++ o.e ∷ []) id o.h revision holds o.leads) in (
            e,
            (d, m),
            within,
            λ r n. walk_whole K id e.path revision r tree walk within (edit, (holds edit o.holds, p.1), n),
          )

      at_leaf : Climbed journal id edit revision → IsCarried later_journal id edit revision
      at_leaf o =
          let k = brought o.h o.leaf in
          let c = copies k.0 k.1.0 in
          at_front o k.0 k.1.0 k.1.1 k.2 (fronts c.front c.rest o.before o.later o.e (c.split ∙ o.split))

  module _ (brought : IsBrought journal later_journal id) where
    brought_known : (r : Revision) → IsKnown journal id r → IsKnown later_journal id r
    brought_known r (f, p, i) = let c = carried brought f r p i in (c.0, c.1, c.2)

    brought_behind : (r s : Revision) → IsBehind journal id r s → IsBehind later_journal id r s
    brought_behind r s (f, p, n) =
        let c = carried brought f s p (next_left f.path s r n) in (c.0, c.1, c.3 r n)

    leaf_to : (r : Revision) → IsLeaf journal id r → IsLeaf later_journal id r
    leaf_to r l = (brought r l, λ s b. l.1 s (copied_behind r s b))

    leaf_from : (r : Revision) → IsLeaf later_journal id r → IsLeaf journal id r
    leaf_from r l = (copied_known r l.0, λ s b. l.1 s (brought_behind r s b))

    doc_from : (r : Revision) (deleted : Bool) (body : List ℕ) → HasDoc later_journal id r deleted body
        → HasDoc journal id r deleted body
    doc_from r deleted body (e, p, i, q, t) = let o = copied_doc r e p i in (o.0, o.1, o.2, o.3 ∙ q, o.4 ∙ t)

    doc_to : (r : Revision) (deleted : Bool) (body : List ℕ) → IsLeaf journal id r
        → HasDoc journal id r deleted body → HasDoc later_journal id r deleted body
    doc_to r deleted body l (f, p, i, q, t) = at_known (brought r l)
      where
        as_head : (e : Edit) → Edits later_journal id e → IsHead e r → HasDoc later_journal id r deleted body
        as_head e k j =
            let o = copied_doc r e k j in
            let same : o.0 ≡ f = (legal_sound journal legal).once id r o.0 f o.1 p o.2 i in (
              e,
              k,
              j,
              sym o.3 ∙ (ap (λ (z : Edit). z.deleted) same ∙ q),
              sym o.4 ∙ (ap (λ (z : Edit). z.body) same ∙ t),
            )

        at_known : IsKnown later_journal id r → HasDoc later_journal id r deleted body
        at_known (e, k, j) =
            ⊎_elim (as_head e k)
            (λ (n : (s : Revision) × IsNext e.path s r). absurd (l.1 n.0 (copied_behind r n.0 (e, k, n.1))))
            (first_or_next e.path r j)

    mark_to : (r : Revision) (d : Bool) → IsLeaf journal id r → IsMarked journal id r d
        → IsMarked later_journal id r d
    mark_to r d l (f, p, i, q) = let o = doc_to r d f.body l (f, p, i, q, refl) in (o.0, o.1, o.2, o.3)

    mark_from : (r : Revision) (d : Bool) → IsMarked later_journal id r d → IsMarked journal id r d
    mark_from r d (f, p, i, q) = let o = doc_from r d f.body (f, p, i, q, refl) in (o.0, o.1, o.2, o.3)

    -- where each leaf is known, the document is copied
    pub brought_copied : IsCopied journal later_journal id
    brought_copied = record {
      known = λ r. (brought_known r, copied_known r);
      behind = λ r s. (brought_behind r s, copied_behind r s);
      leaves = λ r. (leaf_to r, leaf_from r);
      winner = λ r. (
        (λ w. (
          w.0,
          leaf_to r w.1,
          mark_to r w.0 w.1 w.2,
          λ s e l n. w.3 s e (leaf_from s l) (mark_from s e n),
        )),
        (λ w.
            (w.0, leaf_from r w.1, mark_from r w.0 w.2, λ s e l n. w.3 s e (leaf_to s l) (mark_to s e l n))),
      );
      docs = λ r deleted body l. (doc_to r deleted body l, doc_from r deleted body);
    }
