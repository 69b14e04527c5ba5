-- Stems and their branches.
use Rattle.std.proofs.Common.{◌≡◌, ℕ, zero, suc, ◌+◌, ◌-◌, ◌<◌, ◌≤◌, List, [], ◌∷◌, ◌++◌, length}
use Rattle.std.proofs.Common.{drop, take, map, option_map, add-one, Bool, true, false, ◌⊎◌, inl}
use Rattle.std.proofs.Common.{inr, refl, sym, ap, ◌∙◌, subst, append_assoc, append-nil, ◌||◌, arith}
use Rattle.std.specs.Prelude.{Option, Some, None, slice_get}
use Rattle.std.specs.List.{list_any}
use Rattle.std.proofs.lemmas.Bool.{cases_Bool}
use Rattle.std.proofs.lemmas.List.{drop_all, drop-append-le, length-append, length-map}
use Rattle.std.proofs.lemmas.List.{map-append, take-append-drop, take-append-le}
use Rattle.std.proofs.Math.Seq.{take-append_seam, take-append-add}
use Rattle.std.proofs.lemmas.List.Folds.{list_any-append}
use Rattle.std.proofs.lemmas.Option.{same_Some, slice_get-map, slice_get_within}
use Rattle.hub_model.specs.Revision.{Revision, is_same}
use Rattle.hub_model.specs.Path.{IsPath, names}
use Rattle.hub_model.proofs.Tests.{or_left, or_right, or_false, same_is}
use Rattle.hub_revtree.specs.declared.stem.Place.{Place}
use Rattle.hub_revtree.specs.Stem.{Stem, Chain, AreStems, IsWithin, branch_of, branches_of}
use Rattle.hub_revtree.specs.Stem.{chain_from, chain_of, chains_after, chains_of, has_revision}
use Rattle.hub_revtree.specs.Stem.{own_path, one_of, rev_at, revisions_at, revisions_in, whole_in}
use Rattle.hub_revtree.proofs.RunLemmas.{dropped_one, get_some}

-- lists by place
pub get_front : {A : Type 0} (xs ys : List A) (k : ℕ) (x : A) → slice_get xs k ≡ Some x
    → slice_get (xs ++ ys) k ≡ Some x
get_front [] ys k x e = absurd (cc)
get_front (y ∷ xs) ys zero x e = e
get_front (y ∷ xs) ys (suc k) x e = get_front xs ys k x e

pub get_last : {A : Type 0} (xs : List A) (x : A) → slice_get (xs ++ x ∷ []) (length xs) ≡ Some x
get_last [] x = refl
get_last (y ∷ xs) x = get_last xs x

pub get_pushed : {A : Type 0} (xs : List A) (x : A) (k : ℕ) (y : A) → slice_get (xs ++ x ∷ []) k ≡ Some y
    → (slice_get xs k ≡ Some y) ⊎ ((k ≡ length xs) × (x ≡ y))
get_pushed [] x zero y e = inr (refl, same_Some x y e)
get_pushed [] x (suc k) y e = absurd (cc)
get_pushed (z ∷ xs) x zero y e = inl e
get_pushed (z ∷ xs) x (suc k) y e = elim (get_pushed xs x k y e) [
  | inl f ↦ inl f
  | inr f ↦ inr (ap suc f.0, f.1)
]

pub get_taken : {A : Type 0} (n k : ℕ) (xs : List A) → k < n → slice_get (take n xs) k ≡ slice_get xs k
get_taken zero k xs low = absurd (omega arith)
get_taken (suc n) k [] low = refl
get_taken (suc n) zero (x ∷ xs) low = refl
get_taken (suc n) (suc k) (x ∷ xs) low = get_taken n k xs (omega arith)

-- the last element of a list
pub split_at : {A : Type 0} (xs : List A) (k : ℕ) (x : A) → slice_get xs k ≡ Some x → length xs ≤ suc k
    → xs ≡ take k xs ++ x ∷ []
split_at xs k x e past =
    sym (take-append-drop k xs)
    ∙ ap (λ z. take k xs ++ z) (dropped_one xs k x e ∙ ap (λ z. x ∷ z) (drop_all (suc k) xs past))

-- a front that is longer than the first of two lists
pub take_more : {A : Type 0} (n : ℕ) (xs ys : List A) → length xs ≤ n
    → take n (xs ++ ys) ≡ xs ++ take (n - length xs) ys
take_more n xs ys low =
    let split : n ≡ length xs + (n - length xs) = omega (arith, low) in
    ap (λ m. take m (xs ++ ys)) split ∙ take-append-add xs ys (n - length xs)

-- an element that passes
pub any_at : {A : Type 0} (P : A → Bool) (xs : List A) (k : ℕ) (x : A) → slice_get xs k ≡ Some x → P x ≡ true
    → list_any P xs ≡ true
any_at P [] k x e t = absurd (cc)
any_at P (y ∷ xs) zero x e t = or_left (P y) (list_any P xs) (ap P (same_Some y x e) ∙ t)
any_at P (y ∷ xs) (suc k) x e t = or_right (P y) (list_any P xs) (any_at P xs k x e t)

pub any_place : {A : Type 0} (P : A → Bool) (xs : List A) → list_any P xs ≡ true
    → (k : ℕ) × (x : A) × (slice_get xs k ≡ Some x) × (P x ≡ true)
any_place P [] t = absurd (cc)
any_place P (y ∷ xs) t = elim (cases_Bool (P y)) [
  | inl u ↦ (0, y, refl, u)
  | inr u ↦ let i = any_place P xs (rw u at t) in (suc i.0, i.1, i.2, i.3)
]

-- none of the first ones passes
pub none_more : {A : Type 0} (P : A → Bool) (xs : List A) (k : ℕ) (x : A) → slice_get xs k ≡ Some x
    → list_any P (take k xs) ≡ false → P x ≡ false → list_any P (take (k + 1) xs) ≡ false
none_more {A = A} P xs k x e f t = rw (add-one k) (more xs k e f)
  where
    more : (xs : List A) (k : ℕ) → slice_get xs k ≡ Some x → list_any P (take k xs) ≡ false
        → list_any P (take (suc k) xs) ≡ false
    more [] k e f = absurd (cc)
    more (y ∷ xs) zero e f = rw (ap P (same_Some y x e) ∙ t) refl
    more (y ∷ xs) (suc k) e f = let g = or_false (P y) (list_any P (take k xs)) f in rw g.0 (more xs k e g.1)

pub none_of : (P : Revision → Bool) (revisions : List Revision) (revision : Revision)
    → list_any P revisions ≡ false → names revisions revision ≡ true → P revision ≡ false
none_of P [] revision f n = absurd (cc)
none_of P (other ∷ revisions) revision f n =
    let parts = or_false (P other) (list_any P revisions) f in
    elim (cases_Bool (is_same revision other)) [
      | inl t ↦ ap P (same_is revision other t) ∙ parts.0
      | inr t ↦ none_of P revisions revision parts.1 (rw t at n)
    ]

pub same_truth : (a b : Bool) → (a ≡ true → b ≡ true) → (b ≡ true → a ≡ true) → a ≡ b
same_truth true b f g = sym (f refl)
same_truth false true f g = g refl
same_truth false false f g = refl

-- the chains and the branches of one stem more
more_after : (chains : List Chain) (stems : List Stem) (other : Stem)
    → chains_after chains (stems ++ other ∷ []) ≡ chains_after chains stems
    ++ chain_of (chains_after chains stems) other ∷ []
more_after chains [] other = refl
more_after chains (stem ∷ stems) other = more_after (chains ++ chain_of chains stem ∷ []) stems other

pub one_chain_more : (stems : List Stem) (stem : Stem)
    → chains_of (stems ++ stem ∷ []) ≡ chains_of stems ++ chain_of (chains_of stems) stem ∷ []
one_chain_more stems stem = more_after [] stems stem

pub one_stem_more : (stems : List Stem) (stem : Stem)
    → branches_of (stems ++ stem ∷ []) ≡ branches_of stems ++ branch_of (chain_of (chains_of stems) stem) ∷ []
one_stem_more stems stem =
    ap (map branch_of) (one_chain_more stems stem)
    ∙ map-append branch_of (chains_of stems) (chain_of (chains_of stems) stem ∷ [])

length_after : (chains : List Chain) (stems : List Stem)
    → length (chains_after chains stems) ≡ length chains + length stems
length_after chains [] = omega arith
length_after chains (stem ∷ stems) =
    omega (
      arith,
      length_after (chains ++ chain_of chains stem ∷ []) stems,
      length-append chains (chain_of chains stem ∷ []),
    )

pub as_many_chains : (stems : List Stem) → length (chains_of stems) ≡ length stems
as_many_chains stems = omega (arith, length_after [] stems)

pub as_many : (stems : List Stem) → length (branches_of stems) ≡ length stems
as_many stems = length-map (chains_of stems) branch_of ∙ as_many_chains stems

-- induction over a list from its end
induct_after : (P : List Stem → Type 0)
    → ((stems : List Stem) (other : Stem) → P stems → P (stems ++ other ∷ []))
    → (stems others : List Stem) → P stems → P (stems ++ others)
induct_after P step stems [] p = subst P (sym (append-nil stems)) p
induct_after P step stems (stem ∷ others) p =
    subst P (append_assoc stems (stem ∷ []) others)
    (induct_after P step (stems ++ stem ∷ []) others (step stems stem p))

pub from_end : (P : List Stem → Type 0) → P []
    → ((stems : List Stem) (stem : Stem) → P stems → P (stems ++ stem ∷ [])) → (stems : List Stem) → P stems
from_end P none step stems = induct_after P step [] stems none

-- a place of some of the stems
pub within_stem : (stems : List Stem) (place : Place) → IsWithin stems place
    → (stem : Stem) × (slice_get stems place.stem ≡ Some stem) × (place.at < length stem.revisions)
within_stem stems place w = from (slice_get stems place.stem) refl w
  where
    from : (maybe_stem : Option Stem) → slice_get stems place.stem ≡ maybe_stem
        → place.at < length (revisions_in maybe_stem)
        → (stem : Stem) × (slice_get stems place.stem ≡ Some stem) × (place.at < length stem.revisions)
    from None e low = absurd (omega arith)
    from (Some stem) e low = (stem, e, low)

pub within_more : (stems others : List Stem) (place : Place) → IsWithin stems place
    → IsWithin (stems ++ others) place
within_more stems others place w =
    let i = within_stem stems place w in rw (get_front stems others place.stem i.0 i.1) i.2

within_front : (stems others : List Stem) (place : Place) → place.stem < length stems
    → IsWithin (stems ++ others) place → IsWithin stems place
within_front stems others place low w =
    let i = get_some stems place.stem low in
    rw i.1 (rw (get_front stems others place.stem i.0 i.1) at w)

-- a place that is within has a revision
pub within_rev : (stems : List Stem) (place : Place) → IsWithin stems place → (revision : Revision)
    × (rev_at stems (Some place) ≡ Some revision)
within_rev stems place w = get_some (revisions_at stems place.stem) place.at w

pub rev_within : (stems : List Stem) (place : Place) (revision : Revision)
    → rev_at stems (Some place) ≡ Some revision → IsWithin stems place
rev_within stems place revision e = slice_get_within (revisions_at stems place.stem) place.at revision e

-- the place has the same revision among more stems
rev_more : (stems others : List Stem) (place : Place) (revision : Revision)
    → rev_at stems (Some place) ≡ Some revision → rev_at (stems ++ others) (Some place) ≡ Some revision
rev_more stems others place revision e =
    let i = within_stem stems place (rev_within stems place revision e) in
    rw (get_front stems others place.stem i.0 i.1) (rw i.1 at e)

rev_front : (stems others : List Stem) (place : Place) (revision : Revision) → IsWithin stems place
    → rev_at (stems ++ others) (Some place) ≡ Some revision → rev_at stems (Some place) ≡ Some revision
rev_front stems others place revision w e =
    let i = within_stem stems place w in
    rw i.1 (rw (get_front stems others place.stem i.0 i.1) at e)

-- the chain of a number among more stems
chain_front : (stems : List Stem) (stem other : Stem) (k : ℕ) → slice_get stems k ≡ Some other
    → slice_get (chains_of (stems ++ stem ∷ [])) k ≡ slice_get (chains_of stems) k
chain_front stems stem other k e =
    let i =
    get_some (chains_of stems) k
    (let low = slice_get_within stems k other e in omega (arith, low, as_many_chains stems)) in
    ap (λ cs. slice_get cs k) (one_chain_more stems stem)
    ∙ get_front (chains_of stems) (chain_of (chains_of stems) stem ∷ []) k i.0 i.1
    ∙ sym i.1

pub front : (stems : List Stem) (stem : Stem) → AreStems (stems ++ stem ∷ []) → AreStems stems
front stems stem a = record {
  falling = λ k other e. a.falling k other (get_front stems (stem ∷ []) k other e);
  newest = λ k other r e h.
      subst (λ z. has_revision z r ≡ false) (before k other e)
      (a.newest k other r (get_front stems (stem ∷ []) k other e) h);
  fresh = λ k other e j. subst (λ z. list_any (has_revision z) other.revisions ≡ false) (before k other e)
      (a.fresh k other (get_front stems (stem ∷ []) k other e) j);
  earlier = λ k other p e q.
      let i = a.earlier k other p (get_front stems (stem ∷ []) k other e) q in
      let low = slice_get_within stems k other e in
      (i.0, within_front stems (stem ∷ []) p (omega (arith, low, i.0)) i.1);
  lower =
      λ k other p r x e q h i. a.lower k other p r x (get_front stems (stem ∷ []) k other e) q h
      (rev_more stems (stem ∷ []) p r i);
  counted = λ k other e. a.counted k other (get_front stems (stem ∷ []) k other e);
  reached = λ k other e.
      a.reached k other (get_front stems (stem ∷ []) k other e)
      ∙ ap (λ o. length (whole_in o)) (chain_front stems stem other k e);
}
  where
    before : (k : ℕ) (other : Stem) → slice_get stems k ≡ Some other
        → take k (stems ++ stem ∷ []) ≡ take k stems
    before k other e =
        take-append-le k stems (stem ∷ []) (let low = slice_get_within stems k other e in omega (arith, low))

-- the conditions of the next stem
pub record IsNextStem (stems : List Stem) (stem : Stem) : Type 0 where
  pub falling : IsPath stem.revisions
  pub newest : (other : Revision) → slice_get stem.revisions 0 ≡ Some other → has_revision stems other ≡ false
  pub fresh : stem.joins ≡ false → list_any (has_revision stems) stem.revisions ≡ false
  pub within : (place : Place) → stem.parent ≡ Some place → IsWithin stems place
  pub lower : (place : Place) (other revision : Revision) → stem.parent ≡ Some place
      → slice_get stem.revisions 0 ≡ Some revision
      → rev_at stems (Some place) ≡ Some other → other.generation < revision.generation
  pub counted : (length stem.revisions ≤ stem.count) × (stem.count ≤ stem.reach)
      × ((place : Place) → stem.parent ≡ Some place → length stem.revisions < stem.count)
  pub reached : stem.reach ≡ length (chain_of (chains_of stems) stem).whole

-- the stems of a tree with the next one are the stems of a tree
pub stems_more : (stems : List Stem) (stem : Stem) → AreStems stems → IsNextStem stems stem
    → AreStems (stems ++ stem ∷ [])
stems_more stems stem a n = record {
  falling = λ k t e. elim (get_pushed stems stem k t e) [
    | inl f ↦ a.falling k t f
    | inr f ↦ subst (λ (other : Stem). IsPath other.revisions) f.1 n.falling
  ];
  newest = λ k t r e h. elim (get_pushed stems stem k t e) [
    | inl f ↦ subst (λ other. has_revision other r ≡ false) (sym (before k t f)) (a.newest k t r f h)
    | inr f ↦
        subst (λ m. has_revision (take m (stems ++ stem ∷ [])) r ≡ false) (sym f.0)
        (subst (λ other. has_revision other r ≡ false) (sym (take-append_seam stems (stem ∷ [])))
        (n.newest r (ap (λ (other : Stem). slice_get other.revisions 0) f.1 ∙ h)))
  ];
  fresh = λ k t e j. elim (get_pushed stems stem k t e) [
    | inl f ↦
        subst (λ other. list_any (has_revision other) t.revisions ≡ false) (sym (before k t f))
        (a.fresh k t f j)
    | inr f ↦
        subst (λ (other : Stem). list_any
        (has_revision (take k (stems ++ stem ∷ []))) other.revisions ≡ false) f.1
        (subst (λ m. list_any (has_revision (take m (stems ++ stem ∷ []))) stem.revisions ≡ false) (sym f.0)
        (subst (λ other. list_any (has_revision other) stem.revisions ≡ false)
        (sym (take-append_seam stems (stem ∷ [])))
        (n.fresh (ap (λ (other : Stem). other.joins) f.1 ∙ j))))
  ];
  earlier = λ k t place e q. elim (get_pushed stems stem k t e) [
    | inl f ↦ let i = a.earlier k t place f q in (i.0, within_more stems (stem ∷ []) place i.1)
    | inr f ↦
        let w = n.within place (ap (λ (other : Stem). other.parent) f.1 ∙ q) in
        let i = within_stem stems place w in
        (omega (arith, slice_get_within stems place.stem i.0 i.1, f.0), within_more stems (stem ∷ []) place w)
  ];
  lower = λ k t place r x e q h i. elim (get_pushed stems stem k t e) [
    | inl f ↦ a.lower k t place r x f q h (rev_front stems (stem ∷ []) place r (a.earlier k t place f q).1 i)
    | inr f ↦
        let stands : stem.parent ≡ Some place = ap (λ (other : Stem). other.parent) f.1 ∙ q in
        n.lower place r x stands (ap (λ (other : Stem). slice_get other.revisions 0) f.1 ∙ h)
        (rev_front stems (stem ∷ []) place r (n.within place stands) i)
  ];
  counted = λ k t e. elim (get_pushed stems stem k t e) [
    | inl f ↦ a.counted k t f
    | inr f ↦
        subst (λ (other : Stem). (length other.revisions ≤ other.count) × (other.count ≤ other.reach)
        × ((place : Place) → other.parent ≡ Some place → length other.revisions < other.count)) f.1 n.counted
  ];
  reached = λ k t e. elim (get_pushed stems stem k t e) [
    | inl f ↦ a.reached k t f ∙ ap (λ o. length (whole_in o)) (sym (chain_front stems stem t k f))
    | inr f ↦
        ap (λ (other : Stem). other.reach) (sym f.1)
        ∙ n.reached
        ∙ ap (λ o. length (whole_in o)) (sym (last_chain k f.0))
  ];
}
  where
    before : (k : ℕ) (t : Stem) → slice_get stems k ≡ Some t → take k (stems ++ stem ∷ []) ≡ take k stems
    before k t e =
        take-append-le k stems (stem ∷ []) (let low = slice_get_within stems k t e in omega (arith, low))

    last_chain : (k : ℕ) → k ≡ length stems
        → slice_get (chains_of (stems ++ stem ∷ [])) k ≡ Some (chain_of (chains_of stems) stem)
    last_chain k q =
        ap (slice_get (chains_of (stems ++ stem ∷ []))) (q ∙ sym (as_many_chains stems))
        ∙ ap (λ cs. slice_get cs (length (chains_of stems))) (one_chain_more stems stem)
        ∙ get_last (chains_of stems) (chain_of (chains_of stems) stem)

-- each chain has its stem's revisions, and the chain that they stand on
module _ (chains others : List Chain) where
  same_from : (maybe_place : Option Place)
      → ((place : Place) → maybe_place ≡ Some place → (chain : Chain)
      × (slice_get chains place.stem ≡ Some chain))
      → chain_from (chains ++ others) maybe_place ≡ chain_from chains maybe_place
  same_from None h = refl
  same_from (Some place) h = let i = h place refl in rw (get_front chains others place.stem i.0 i.1, i.1) refl

  same_chain : (stem : Stem)
      → ((place : Place) → stem.parent ≡ Some place → (chain : Chain)
      × (slice_get chains place.stem ≡ Some chain)) → chain_of (chains ++ others) stem ≡ chain_of chains stem
  same_chain stem h =
      ap (λ (rest : List Revision).
      record { whole = stem.revisions ++ rest; count = stem.count; deleted = stem.deleted; body = stem.body })
      (same_from stem.parent h)

abbrev AreChained : List Stem → Type 0
AreChained stems =
    AreStems stems → (k : ℕ) (stem : Stem) → slice_get stems k ≡ Some stem
    → slice_get (chains_of stems) k ≡ Some (chain_of (chains_of stems) stem)

chained_more : (stems : List Stem) (stem : Stem) → AreChained stems → AreChained (stems ++ stem ∷ [])
chained_more stems stem ih a k s e = rw (one_chain_more stems stem) (elim (get_pushed stems stem k s e) [
  | inl f ↦
      get_front (chains_of stems) (chain_of (chains_of stems) stem ∷ []) k (chain_of (chains_of stems) s)
      (ih (front stems stem a) k s f)
      ∙ ap Some (sym (same_chain (chains_of stems) (chain_of (chains_of stems) stem ∷ []) s known))
  | inr f ↦
      ap (slice_get (chains_of stems ++ chain_of (chains_of stems) stem ∷ []))
      (f.0 ∙ sym (as_many_chains stems)) ∙ get_last (chains_of stems) (chain_of (chains_of stems) stem)
      ∙ ap (λ z. Some (chain_of (chains_of stems) z)) f.1
      ∙ ap Some (sym (same_chain (chains_of stems) (chain_of (chains_of stems) stem ∷ []) s known))
])
  where
    known : (place : Place) → s.parent ≡ Some place → (chain : Chain)
        × (slice_get (chains_of stems) place.stem ≡ Some chain)
    known place q =
        let low = slice_get_within (stems ++ stem ∷ []) k s e in
        let i = a.earlier k s place e q in
        get_some (chains_of stems) place.stem
        (omega (arith, low, i.0, as_many_chains stems, length-append stems (stem ∷ [])))

pub chained_at : (stems : List Stem) → AreStems stems → (k : ℕ) (stem : Stem) → slice_get stems k ≡ Some stem
    → slice_get (chains_of stems) k ≡ Some (chain_of (chains_of stems) stem)
chained_at = from_end AreChained (λ a k stem e. absurd (cc)) chained_more

pub shown_at : (stems : List Stem) → AreStems stems → (k : ℕ) (stem : Stem) → slice_get stems k ≡ Some stem
    → slice_get (branches_of stems) k ≡ Some (branch_of (chain_of (chains_of stems) stem))
shown_at stems a k stem e =
    slice_get-map branch_of (chains_of stems) k ∙ ap (option_map branch_of) (chained_at stems a k stem e)

-- the chain from a place on is the rest of its stem's revisions, and the chain that they stand on
pub rest_at : (stems : List Stem) (place : Place) (stem : Stem) → AreStems stems
    → slice_get stems place.stem ≡ Some stem → IsWithin stems place
    → chain_from (chains_of stems) (Some place) ≡ drop place.at stem.revisions
    ++ chain_from (chains_of stems) stem.parent
rest_at stems place stem a e w =
    let low : place.at < length stem.revisions = rw e at w in
    rw (chained_at stems a place.stem stem e)
    (drop-append-le place.at stem.revisions (chain_from (chains_of stems) stem.parent) (omega (arith, low)))

-- the chain from a place on begins with the revision there
pub first_from : (stems : List Stem) (place : Place) (revision : Revision) → AreStems stems
    → rev_at stems (Some place) ≡ Some revision
    → (older : List Revision) × (chain_from (chains_of stems) (Some place) ≡ revision ∷ older)
first_from stems place revision a e =
    let i = within_stem stems place (rev_within stems place revision e) in
    let there : slice_get i.0.revisions place.at ≡ Some revision = rw i.1 at e in (
      drop (suc place.at) i.0.revisions ++ chain_from (chains_of stems) i.0.parent,
      rest_at stems place i.0 a i.1 (rev_within stems place revision e)
          ∙ ap (λ z. z ++ chain_from (chains_of stems) i.0.parent)
          (dropped_one i.0.revisions place.at revision there),
    )

-- a stem's own path is the front of its edit's path
pub own_front : (stems : List Stem) → AreStems stems → (k : ℕ) (stem : Stem) → slice_get stems k ≡ Some stem
    → (tail : List Revision) ×
    ((branch_of (chain_of (chains_of stems) stem)).path ≡ own_path stems stem ++ tail)
own_front stems a k stem e = from stem.parent refl
  where
    c : (length stem.revisions ≤ stem.count) × (stem.count ≤ stem.reach)
        × ((place : Place) → stem.parent ≡ Some place → length stem.revisions < stem.count)
    c = a.counted k stem e

    from : (maybe_place : Option Place) → stem.parent ≡ maybe_place
        → (tail : List Revision)
        × (take stem.count (stem.revisions ++ chain_from (chains_of stems) maybe_place)
        ≡ (stem.revisions ++ one_of (rev_at stems maybe_place)) ++ tail)
    from None q = (
      take (stem.count - length stem.revisions) [],
      take_more stem.count stem.revisions [] c.0
          ∙ ap (λ z. z ++ take (stem.count - length stem.revisions) []) (sym (append-nil stem.revisions)),
    )
    from (Some place) q =
        let r = within_rev stems place (a.earlier k stem place e q).1 in
        let f = first_from stems place r.0 a r.1 in
        let more : stem.count - length stem.revisions ≡ suc (stem.count - length stem.revisions - 1) =
        let low = c.2 place q in omega (arith, low) in (
          take (stem.count - length stem.revisions - 1) f.0,
          take_more stem.count stem.revisions (chain_from (chains_of stems) (Some place)) c.0
              ∙ ap (λ z. stem.revisions ++ z)
              (ap (take (stem.count - length stem.revisions)) f.1 ∙ ap (λ n. take n (r.0 ∷ f.0)) more)
              ∙ sym (append_assoc stem.revisions (r.0 ∷ [])
              (take (stem.count - length stem.revisions - 1) f.0))
              ∙ ap (λ maybe_place. (stem.revisions ++ one_of maybe_place)
              ++ take (stem.count - length stem.revisions - 1) f.0) (sym r.1),
        )

-- the rest of a path names no revision that the path does not
pub names_drop : (n : ℕ) (revisions : List Revision) (revision : Revision)
    → names (drop n revisions) revision ≡ true → names revisions revision ≡ true
names_drop zero revisions revision h = h
names_drop (suc n) [] revision h = h
names_drop (suc n) (other ∷ revisions) revision h =
    or_right (is_same revision other) (names revisions revision) (names_drop n revisions revision h)

-- the front of a path names no revision that the path does not
pub names_take : (n : ℕ) (revisions : List Revision) (revision : Revision)
    → names (take n revisions) revision ≡ true → names revisions revision ≡ true
names_take zero revisions revision h = absurd (cc)
names_take (suc n) [] revision h = h
names_take (suc n) (other ∷ revisions) revision h = elim (cases_Bool (is_same revision other)) [
  | inl t ↦ or_left (is_same revision other) (names revisions revision) t
  | inr t ↦ or_right (is_same revision other) (names revisions revision)
      (names_take n revisions revision (rw t at h))
]

pub names_front : (revisions others : List Revision) (revision : Revision) → names revisions revision ≡ true
    → names (revisions ++ others) revision ≡ true
names_front revisions others revision h =
    list_any-append (is_same revision) revisions others
    ∙ or_left (names revisions revision) (names others revision) h

chain_named : (chains : List Chain) (n : ℕ) (revision : Revision)
    → names (whole_in (slice_get chains n)) revision ≡ true
    → list_any (λ chain. names chain.whole revision) chains ≡ true
chain_named [] n revision h = absurd (cc)
chain_named (chain ∷ chains) zero revision h =
    or_left (names chain.whole revision) (list_any (λ chain. names chain.whole revision) chains) h
chain_named (chain ∷ chains) (suc n) revision h =
    or_right (names chain.whole revision) (list_any (λ chain. names chain.whole revision) chains)
    (chain_named chains n revision h)

pub from_chain_named : (chains : List Chain) (maybe_place : Option Place) (revision : Revision)
    → names (chain_from chains maybe_place) revision ≡ true
    → list_any (λ c. names c.whole revision) chains ≡ true
from_chain_named chains None revision h = absurd (cc)
from_chain_named chains (Some place) revision h =
    chain_named chains place.stem revision
    (names_drop place.at (whole_in (slice_get chains place.stem)) revision h)

absorbed : (a b c : Bool) → (c ≡ true → a ≡ true) → (a || (b || c)) ≡ (a || b)
absorbed true b c h = refl
absorbed false true c h = refl
absorbed false false true h = sym (h refl)
absorbed false false false h = refl

pub or_assoc : (a b c : Bool) → ((a || b) || c) ≡ (a || (b || c))
or_assoc true b c = refl
or_assoc false b c = refl

or_none : (a : Bool) → a ≡ (a || false)
or_none true = refl
or_none false = refl

-- the chains name the revisions that the stems have, and no others
named_after : (chains : List Chain) (stems : List Stem) (revision : Revision)
    → list_any (λ c. names c.whole revision) (chains_after chains stems)
    ≡ (list_any (λ c. names c.whole revision) chains || has_revision stems revision)
named_after chains [] revision = or_none (list_any (λ c. names c.whole revision) chains)
named_after chains (stem ∷ stems) revision =
    named_after (chains ++ chain_of chains stem ∷ []) stems revision
    ∙ ap (λ a. a || has_revision stems revision)
    (list_any-append (λ c. names c.whole revision) chains (chain_of chains stem ∷ [])
    ∙ ap (λ a. list_any (λ c. names c.whole revision) chains || a)
    (sym (or_none (names (chain_of chains stem).whole revision))
    ∙ list_any-append (is_same revision) stem.revisions (chain_from chains stem.parent))
    ∙ absorbed (list_any (λ c. names c.whole revision) chains) (names stem.revisions revision)
    (names (chain_from chains stem.parent) revision)
    (from_chain_named chains stem.parent revision))
    ∙ or_assoc (list_any (λ c. names c.whole revision) chains) (names stem.revisions revision)
    (has_revision stems revision)

pub chains_name : (stems : List Stem) (revision : Revision)
    → list_any (λ c. names c.whole revision) (chains_of stems) ≡ has_revision stems revision
chains_name stems revision = named_after [] stems revision

path_of_chain : (chains : List Chain) (revision : Revision)
    → list_any (λ b. names b.path revision) (map branch_of chains) ≡ true
    → list_any (λ chain. names chain.whole revision) chains ≡ true
path_of_chain [] revision h = absurd (cc)
path_of_chain (chain ∷ chains) revision h =
    elim (cases_Bool (names (take chain.count chain.whole) revision)) [
      | inl t ↦ or_left (names chain.whole revision) (list_any (λ chain. names chain.whole revision) chains)
          (names_take chain.count chain.whole revision t)
      | inr t ↦ or_right (names chain.whole revision) (list_any (λ chain. names chain.whole revision) chains)
          (path_of_chain chains revision (rw t at h))
    ]

-- the paths name the revisions that the stems have, and no others
pub named_in : (stems : List Stem) → AreStems stems → (revision : Revision)
    → list_any (λ b. names b.path revision) (branches_of stems) ≡ has_revision stems revision
named_in stems a revision = same_truth _ _
    (λ t. sym (chains_name stems revision) ∙ path_of_chain (chains_of stems) revision t)
    (λ t.
    let i = any_place (λ (stem : Stem). names stem.revisions revision) stems t in
    let f = own_front stems a i.0 i.1 i.2 in
    any_at (λ b. names b.path revision)
    (branches_of stems) i.0 (branch_of (chain_of (chains_of stems) i.1)) (shown_at stems a i.0 i.1 i.2)
    (ap (λ p. names p revision) f.1
    ∙ names_front (own_path stems i.1) f.0 revision
    (names_front i.1.revisions (one_of (rev_at stems i.1.parent)) revision i.3)))
