-- A look among stems finds the same as one among their branches.
use Rattle.std.proofs.Common.{◌≡◌, ℕ, zero, suc, ◌+◌, ◌<◌, ◌≤◌, List, [], ◌∷◌, ◌++◌, length, get_or, drop}
use Rattle.std.proofs.Common.{take, Bool, true, false, inl, inr, refl, sym, ap, ◌∙◌, subst, ◌||◌, arith}
use Rattle.std.specs.Prelude.{Option, Some, None, slice_get, find, option_map, option_and_then}
use Rattle.std.specs.List.{list_any}
use Rattle.std.specs.Option.{option_or}
use Rattle.std.proofs.lemmas.Bool.{cases_Bool, both_ways}
use Rattle.std.proofs.lemmas.List.{drop-append-le, length-drop, length-take-le}
use Rattle.std.proofs.lemmas.List.Folds.{list_any-append, find-append}
use Rattle.std.proofs.lemmas.Option.{same_Some, slice_get_past}
use Rattle.std.proofs.lemmas.Option.{slice_get_read, slice_get_within}
use Rattle.hub_model.specs.Revision.{Revision, is_same}
use Rattle.hub_model.specs.Path.{IsPath, names, is_first}
use Rattle.hub_model.specs.Leaves.{is_behind_head}
use Rattle.hub_model.proofs.Shown.{find_is}
use Rattle.hub_model.proofs.Tests.{or_false, or_left, or_right, same_is}
use Rattle.hub_revtree.specs.declared.leaf.Winner.{Winner}
use Rattle.hub_revtree.specs.declared.stem.Place.{Place}
use Rattle.hub_revtree.specs.Branch.{Branch, edit_of}
use Rattle.hub_revtree.specs.Stem.{Stem, Storage, Chain, AreStems, IsWithin, branch_of, branches_of}
use Rattle.hub_revtree.specs.Stem.{chain_from, chain_of, chains_of, is_at, is_behind_newest}
use Rattle.hub_revtree.specs.Stem.{one_of, own_path, rev_at, revisions_at, whole_in}
use Rattle.hub_revtree.specs.Tree.{Tip, tip, tip_of}
use Rattle.hub_revtree.specs.Winner.{head_in}
use Rattle.hub_revtree.proofs.RunLemmas.{get_some}
use Rattle.hub_revtree.proofs.StemLemmas.{any_at, any_place, as_many, as_many_chains, chained_at}
use Rattle.hub_revtree.proofs.StemLemmas.{from_end, front, get_last, names_drop, names_front}
use Rattle.hub_revtree.proofs.StemLemmas.{names_take, one_chain_more, one_stem_more, own_front}
use Rattle.hub_revtree.proofs.StemLemmas.{rest_at, same_truth, shown_at, within_stem}

-- the first of some revisions
first_append : (others revisions : List Revision) (revision : Revision) → 0 < length others
    → is_first revision (others ++ revisions) ≡ is_first revision others
first_append [] revisions revision some = absurd (omega arith)
first_append (other ∷ others) revisions revision some = refl

pub first_named : (revisions : List Revision) (revision : Revision) → is_first revision revisions ≡ true
    → names revisions revision ≡ true
first_named [] revision t = absurd (cc)
first_named (other ∷ revisions) revision t = or_left (is_same revision other) (names revisions revision) t

-- the first revision of the rest of a path stands at that place
pub first_there : (n : ℕ) (revisions : List Revision) (revision : Revision)
    → is_first revision (drop n revisions) ≡ true → slice_get revisions n ≡ Some revision
first_there zero [] revision t = absurd (cc)
first_there zero (other ∷ revisions) revision t = ap Some (sym (same_is revision other t))
first_there (suc n) [] revision t = absurd (cc)
first_there (suc n) (other ∷ revisions) revision t = first_there n revisions revision t

-- a revision that the rest of a path names, but not as its first, stands behind the path's first
names_behind : (n : ℕ) (revisions : List Revision) (revision : Revision)
    → names (drop n revisions) revision ≡ true
    → is_first revision (drop n revisions) ≡ false → names (drop 1 revisions) revision ≡ true
names_behind zero [] revision h f = absurd (cc)
names_behind zero (other ∷ revisions) revision h f = rw f at h
names_behind (suc n) [] revision h f = absurd (cc)
names_behind (suc n) (other ∷ revisions) revision h f = names_drop n revisions revision h

pub some_path : (revisions : List Revision) → IsPath revisions → 0 < length revisions
some_path [] f = absurd f
some_path (revision ∷ revisions) f = omega arith

front_behind : (n : ℕ) (revisions : List Revision) (revision : Revision)
    → names (drop 1 (take n revisions)) revision ≡ true → names (drop 1 revisions) revision ≡ true
front_behind zero revisions revision h = absurd (cc)
front_behind (suc n) [] revision h = h
front_behind (suc n) (other ∷ revisions) revision h = names_take n revisions revision h

more_behind : (others revisions : List Revision) (revision : Revision) → names (drop 1 others) revision ≡ true
    → names (drop 1 (others ++ revisions)) revision ≡ true
more_behind [] revisions revision h = absurd (cc)
more_behind (other ∷ others) revisions revision h = names_front others revisions revision h

module _ (stems : List Stem) (a : AreStems stems) (revision : Revision) where
  -- the first revision of the chain that a stem stands on
  first_at : (maybe_place : Option Place)
      → ((place : Place) → maybe_place ≡ Some place → IsWithin stems place)
      → is_first revision (chain_from (chains_of stems) maybe_place) ≡ is_at stems revision maybe_place
  first_at None w = refl
  first_at (Some place) w =
      let i = within_stem stems place (w place refl) in
      ap (is_first revision) (rest_at stems place i.0 a i.1 (w place refl))
      ∙ rw i.1
      (first_append (drop place.at i.0.revisions) (chain_from (chains_of stems) i.0.parent) revision
      (omega (arith, i.2, length-drop place.at i.0.revisions)))

  behind_parts : (stem : Stem) → IsPath stem.revisions
      → names (drop 1 (chain_of (chains_of stems) stem).whole) revision
      ≡ (names (drop 1 stem.revisions) revision || names (chain_from (chains_of stems) stem.parent) revision)
  behind_parts stem f =
      ap (λ p. names p revision)
      (drop-append-le 1 stem.revisions (chain_from (chains_of stems) stem.parent)
      (omega (arith, some_path stem.revisions f)))
      ∙ list_any-append (is_same revision) (drop 1 stem.revisions) (chain_from (chains_of stems) stem.parent)

  module _ (k : ℕ) (s : Stem) (e : slice_get stems k ≡ Some s) where
    within : (p : Place) → s.parent ≡ Some p → IsWithin stems p
    within p q = (a.earlier k s p e q).1

    first_of : is_first revision (chain_from (chains_of stems) s.parent) ≡ is_at stems revision s.parent
    first_of = first_at s.parent within

  -- the revision that a stem stands on is the last of the stem's own path
  at_own : (stem : Stem) → is_at stems revision stem.parent ≡ true
      → names (one_of (rev_at stems stem.parent)) revision ≡ true
  at_own stem t = from stem.parent t
    where
      at_place : (revisions : List Revision) (k : ℕ) → is_first revision (drop k revisions) ≡ true
          → names (one_of (slice_get revisions k)) revision ≡ true
      at_place [] zero t = absurd (cc)
      at_place [] (suc k) t = absurd (cc)
      at_place (x ∷ revisions) zero t = or_left (is_same revision x) false t
      at_place (x ∷ revisions) (suc k) t = at_place revisions k t

      from : (maybe_place : Option Place) → is_at stems revision maybe_place ≡ true
          → names (one_of (rev_at stems maybe_place)) revision ≡ true
      from None t = absurd (cc)
      from (Some revisions) t = at_place (revisions_at stems revisions.stem) revisions.at t

  own_rest : (stem : Stem) → IsPath stem.revisions → is_behind_newest stems revision stem ≡ true
      → names (drop 1 (own_path stems stem)) revision ≡ true
  own_rest stem f t =
      ap (λ p. names p revision)
      (drop-append-le 1 stem.revisions (one_of (rev_at stems stem.parent))
      (omega (arith, some_path stem.revisions f)))
      ∙ list_any-append (is_same revision) (drop 1 stem.revisions) (one_of (rev_at stems stem.parent))
      ∙ elim (cases_Bool (names (drop 1 stem.revisions) revision)) [
        | inl u ↦ or_left (names (drop 1 stem.revisions) revision)
            (names (one_of (rev_at stems stem.parent)) revision) u
        | inr u ↦
            or_right (names (drop 1 stem.revisions) revision)
            (names (one_of (rev_at stems stem.parent)) revision) (at_own stem (rw u at t))
      ]

  own_behind : (k : ℕ) (stem : Stem) → slice_get stems k ≡ Some stem
      → is_behind_newest stems revision stem ≡ true
      → is_behind_head revision (edit_of (branch_of (chain_of (chains_of stems) stem))) ≡ true
  own_behind k stem e t =
      let f = own_front stems a k stem e in
      ap (λ p. names (drop 1 p) revision) f.1
      ∙ more_behind (own_path stems stem) f.0 revision (own_rest stem (a.falling k stem e) t)

  from_stem : (k : ℕ) (stem : Stem) → slice_get stems k ≡ Some stem
      → is_behind_newest stems revision stem ≡ true
      → list_any (λ b. is_behind_head revision (edit_of b)) (branches_of stems) ≡ true
  from_stem k stem e t =
      any_at (λ b. is_behind_head revision (edit_of b)) (branches_of stems) k
      (branch_of (chain_of (chains_of stems) stem))
      (shown_at stems a k stem e) (own_behind k stem e t)

  to_stem : (n k : ℕ) (stem : Stem) → k < n → slice_get stems k ≡ Some stem
      → names (drop 1 (chain_of (chains_of stems) stem).whole) revision ≡ true
      → list_any (is_behind_newest stems revision) stems ≡ true
  to_stem zero k stem low e t = absurd (omega arith)
  to_stem (suc n) k stem low e t = elim (cases_Bool (names (drop 1 stem.revisions) revision)) [
    | inl u ↦
        any_at (is_behind_newest stems revision) stems k stem e
        (or_left (names (drop 1 stem.revisions) revision) (is_at stems revision stem.parent) u)
    | inr u ↦ elim (cases_Bool (is_first revision (chain_from (chains_of stems) stem.parent))) [
      | inl v ↦
          any_at (is_behind_newest stems revision) stems k stem e
          (or_right (names (drop 1 stem.revisions) revision) (is_at stems revision stem.parent)
          (sym (first_of k stem e) ∙ v))
      | inr v ↦ further (to_stem n) stem.parent refl v
          (rw u at (sym (behind_parts stem (a.falling k stem e)) ∙ t))
    ]
  ]
    where
      further : ((j : ℕ) (t : Stem)
          → j < n → slice_get stems j ≡ Some t
          → names (drop 1 (chain_of (chains_of stems) t).whole) revision ≡ true
          → list_any (is_behind_newest stems revision) stems ≡ true)
          → (maybe_place : Option Place) → stem.parent ≡ maybe_place
          → is_first revision (chain_from (chains_of stems) maybe_place) ≡ false
          → names (chain_from (chains_of stems) maybe_place) revision ≡ true
          → list_any (is_behind_newest stems revision) stems ≡ true
      further ih None q v h = absurd (cc)
      further ih (Some p) q v h =
          let before = a.earlier k stem p e q in
          let i = within_stem stems p before.1 in
          ih p.stem i.0 (omega (arith, before.0, low)) i.1
          (names_behind p.at (chain_of (chains_of stems) i.0).whole revision
          (rw (chained_at stems a p.stem i.0 i.1) at h)
          (rw (chained_at stems a p.stem i.0 i.1) at v))

  -- a revision stands behind a head where it stands behind a stem's newest
  pub behind_in : list_any (λ other. is_behind_head revision (edit_of other)) (branches_of stems)
      ≡ list_any (is_behind_newest stems revision) stems
  behind_in = same_truth _ _
      (λ t.
      let i = any_place (λ other. is_behind_head revision (edit_of other)) (branches_of stems) t in
      let low = slice_get_within (branches_of stems) i.0 i.1 i.2 in
      let j = get_some stems i.0 (omega (arith, low, as_many stems)) in
      let there : is_behind_head revision (edit_of (branch_of (chain_of (chains_of stems) j.0))) ≡ true =
      subst (λ (branch : Branch). is_behind_head revision (edit_of branch) ≡ true)
      (same_branch i.1 _ (sym i.2 ∙ shown_at stems a i.0 j.0 j.1)) i.3 in
      to_stem (i.0 + 1) i.0 j.0 (omega arith) j.1
      (front_behind j.0.count (chain_of (chains_of stems) j.0).whole revision there))
      (λ t. let i = any_place (is_behind_newest stems revision) stems t in from_stem i.0 i.1 i.2 i.3)
    where
      same_branch : (other c : Branch) → ◌≡◌ {A = Option Branch} (Some other) (Some c) → other ≡ c
      same_branch other c e = cc

-- the tip of a stem
abbrev pub tip_in : Stem → Tip
tip_in stem = record { rev = slice_get stem.revisions 0; deleted = stem.deleted; body = stem.body }

head_same : (n : ℕ) (others revisions : List Revision) → IsPath others → length others ≤ n
    → slice_get (take n (others ++ revisions)) 0 ≡ slice_get others 0
head_same n [] revisions f low = absurd f
head_same zero (revision ∷ others) revisions f low = absurd (omega arith)
head_same (suc n) (revision ∷ others) revisions f low = refl

tip_same : (chains : List Chain) (stem : Stem) → IsPath stem.revisions → length stem.revisions ≤ stem.count
    → tip_of (edit_of (branch_of (chain_of chains stem))) ≡ tip_in stem
tip_same chains stem f low =
    ap (λ (maybe_revision : Option Revision).
    record { rev = maybe_revision; deleted = stem.deleted; body = stem.body })
    (head_same stem.count stem.revisions (chain_from chains stem.parent) f low)

-- the branch of a number
past : {A : Type 0} (xs : List A) (k : ℕ) → slice_get xs k ≡ None → length xs ≤ k
past [] k e = omega arith
past (x ∷ xs) zero e = absurd (cc)
past (x ∷ xs) (suc k) e = omega (arith, past xs k e)

pub tip_at : (stems : List Stem) → AreStems stems → (k : ℕ)
    → option_map (λ b. tip_of (edit_of b)) (slice_get (branches_of stems) k) ≡ option_map tip_in
    (slice_get stems k)
tip_at stems a k = from (slice_get stems k) refl
  where
    from : (maybe_stem : Option Stem) → slice_get stems k ≡ maybe_stem
        → option_map (λ b. tip_of (edit_of b))
        (slice_get (branches_of stems) k) ≡ option_map tip_in maybe_stem
    from None e =
        rw (slice_get_past (branches_of stems) k (omega (arith, past stems k e, as_many stems))) refl
    from (Some s) e =
        rw (shown_at stems a k s e)
        (ap Some (tip_same (chains_of stems) s (a.falling k s e) (a.counted k s e).0))

-- the revision and the mark of this branch
pub head_at : (stems : List Stem) → AreStems stems → (k : ℕ) (stem : Stem) (revision : Revision)
    → slice_get stems k ≡ Some stem → slice_get stem.revisions 0 ≡ Some revision
    → option_and_then head_in (slice_get (branches_of stems) k) ≡ Some
    (record { rev = revision; deleted = stem.deleted })
head_at stems a k stem revision e h =
    rw (shown_at stems a k stem e)
    (ap (option_map (λ (other : Revision). record { rev = other; deleted = stem.deleted }))
    (ap (λ (tip : Tip). tip.rev) (tip_same (chains_of stems) stem (a.falling k stem e) (a.counted k stem e).0)
    ∙ h))

-- the same, by the generation of the revision alone
pub rank_at : (stems : List Stem) → AreStems stems → (k : ℕ) (stem : Stem) (generation : ℕ)
    → slice_get stems k ≡ Some stem
    → option_map (λ (revision : Revision). revision.generation) (slice_get stem.revisions 0) ≡ Some generation
    → (head : Winner) × (option_and_then head_in (slice_get (branches_of stems) k) ≡ Some head)
    × (stem.deleted ≡ head.deleted) × (generation ≡ head.rev.generation)
rank_at stems a k stem generation e h = from (slice_get stem.revisions 0) refl h
  where
    from : (maybe_revision : Option Revision) → slice_get stem.revisions 0 ≡ maybe_revision
        → option_map (λ (revision : Revision). revision.generation) maybe_revision ≡ Some generation
        → (head : Winner) × (option_and_then head_in (slice_get (branches_of stems) k) ≡ Some head)
        × (stem.deleted ≡ head.deleted) × (generation ≡ head.rev.generation)
    from None q g = absurd (cc)
    from (Some revision) q g = (
      record { rev = revision; deleted = stem.deleted },
      head_at stems a k stem revision e q,
      refl,
      sym (same_Some revision.generation generation g),
    )

-- the branch that a revision heads
module _ (revision : Revision) where
  abbrev found : Option Branch → Option Tip
  found maybe_branch = option_map (λ b. tip_of (edit_of b)) maybe_branch

  or_found : (o maybe_branch : Option Branch)
      → found (option_or o maybe_branch) ≡ option_or (found o) (found maybe_branch)
  or_found None maybe_branch = refl
  or_found (Some branch) maybe_branch = refl

  or_tip : (o maybe_stem : Option Stem)
      → option_map tip_in (option_or o maybe_stem) ≡ option_or (option_map tip_in o)
      (option_map tip_in maybe_stem)
  or_tip None maybe_stem = refl
  or_tip (Some stem) maybe_stem = refl

  is_head_of : (chains : List Chain) (stem : Stem) → IsPath stem.revisions
      → length stem.revisions ≤ stem.count
      → is_first revision (branch_of (chain_of chains stem)).path ≡ is_first revision stem.revisions
  is_head_of chains stem f low = from stem.count stem.revisions f low
    where
      from : (n : ℕ) (revisions : List Revision) → IsPath revisions → length revisions ≤ n
          → is_first revision (take n (revisions ++ chain_from chains stem.parent)) ≡ is_first revision
          revisions
      from n [] f low = absurd f
      from zero (x ∷ revisions) f low = absurd (omega arith)
      from (suc n) (x ∷ revisions) f low = refl

  one_headed : (chains : List Chain) (stem : Stem) → IsPath stem.revisions
      → length stem.revisions ≤ stem.count
      → found (find (λ b. is_first revision b.path) (branch_of (chain_of chains stem) ∷ []))
      ≡ option_map tip_in (find (λ z. is_first revision z.revisions) (stem ∷ []))
  one_headed chains stem f low = elim (cases_Bool (is_first revision stem.revisions)) [
    | inl t ↦ rw (is_head_of chains stem f low ∙ t, t) (ap Some (tip_same chains stem f low))
    | inr t ↦ rw (is_head_of chains stem f low ∙ t, t) refl
  ]

  abbrev AreHeaded : List Stem → Type 0
  AreHeaded stems =
      AreStems stems
      → found (find (λ b. is_first revision b.path) (branches_of stems))
      ≡ option_map tip_in (find (λ s. is_first revision s.revisions) stems)

  headed_more : (stems : List Stem) (stem : Stem) → AreHeaded stems → AreHeaded (stems ++ stem ∷ [])
  headed_more stems stem ih a =
      let here = get_last stems stem in
      ap (λ bs. found (find (λ b. is_first revision b.path) bs)) (one_stem_more stems stem)
      ∙ ap found
      (find-append (λ b. is_first revision b.path) (branches_of stems)
      (branch_of (chain_of (chains_of stems) stem) ∷ []))
      ∙ or_found (find (λ b. is_first revision b.path) (branches_of stems))
      (find (λ b. is_first revision b.path) (branch_of (chain_of (chains_of stems) stem) ∷ []))
      ∙ ap (λ o.
      option_or o (found (find (λ b. is_first revision b.path)
      (branch_of (chain_of (chains_of stems) stem) ∷ []))))
      (ih (front stems stem a))
      ∙ ap (λ o. option_or (option_map tip_in (find (λ z. is_first revision z.revisions) stems)) o)
      (one_headed (chains_of stems) stem (a.falling (length stems) stem here)
      (a.counted (length stems) stem here).0)
      ∙ sym (or_tip (find (λ z. is_first revision z.revisions) stems)
      (find (λ z. is_first revision z.revisions) (stem ∷ [])))
      ∙ ap (option_map tip_in) (sym (find-append (λ z. is_first revision z.revisions) stems (stem ∷ [])))

  pub headed_in : (stems : List Stem) → AreStems stems
      → found (find (λ b. is_first revision b.path) (branches_of stems))
      ≡ option_map tip_in (find (λ s. is_first revision s.revisions) stems)
  headed_in = from_end AreHeaded (λ a. refl) headed_more

-- the tip of a stem, by its parts
pub tip_shown : (stem : Stem) (revision : Revision) (deleted : Bool) (body : List ℕ)
    → slice_get stem.revisions 0 ≡ Some revision
    → deleted ≡ stem.deleted → body ≡ stem.body → tip revision deleted body ≡ tip_in stem
tip_shown stem revision deleted body head mark members = rw (head, mark, members) refl

pub no_edit : (stems : List Stem) → AreStems stems → (k : ℕ) → length stems ≤ k
    → option_map (λ b. tip_of (edit_of b)) (slice_get (branches_of stems) k) ≡ None
no_edit stems a k past = tip_at stems a k ∙ ap (option_map tip_in) (slice_get_past stems k past)

pub some_edit : (stems : List Stem) → AreStems stems
    → (k : ℕ) (stem : Stem) (revision : Revision) (deleted : Bool) (body : List ℕ)
    → slice_get stems k ≡ Some stem
    → slice_get stem.revisions 0 ≡ Some revision → deleted ≡ stem.deleted → body ≡ stem.body
    → Some (tip revision deleted body) ≡ option_map (λ b. tip_of (edit_of b))
    (slice_get (branches_of stems) k)
some_edit stems a k stem revision deleted body e head mark members =
    ap Some (tip_shown stem revision deleted body head mark members)
    ∙ sym (tip_at stems a k ∙ ap (option_map tip_in) e)

pub some_headed : (stems : List Stem)
    → AreStems stems → (rev : Revision) (stem : Stem) (revision : Revision) (deleted : Bool) (body : List ℕ)
    → Some stem ≡ find (λ z. is_first rev z.revisions) stems → slice_get stem.revisions 0 ≡ Some revision
    → deleted ≡ stem.deleted → body ≡ stem.body
    → Some (tip revision deleted body)
    ≡ option_map (λ b. tip_of (edit_of b)) (find (λ b. is_first rev b.path) (branches_of stems))
some_headed stems a rev stem revision deleted body e head mark members =
    ap Some (tip_shown stem revision deleted body head mark members)
    ∙ ap (option_map tip_in) e
    ∙ sym (headed_in rev stems a)

pub none_headed : (stems : List Stem)
    → AreStems stems → (rev : Revision) → None ≡ find (λ z. is_first rev z.revisions) stems
    → option_map (λ b. tip_of (edit_of b)) (find (λ b. is_first rev b.path) (branches_of stems)) ≡ None
none_headed stems a rev e = headed_in rev stems a ∙ ap (option_map tip_in) (sym e)

-- no two stems have the same newest revision
heads_differ : (stems : List Stem) → AreStems stems → (revision : Revision) (k : ℕ) (stem : Stem)
    → slice_get stems k ≡ Some stem
    → is_first revision stem.revisions ≡ true
    → list_any (λ other. is_first revision other.revisions) (take k stems) ≡ false
heads_differ stems a revision k stem e first =
    elim (cases_Bool (list_any (λ (other : Stem). is_first revision other.revisions) (take k stems))) [
      | inl t ↦
          let i = any_place (λ (other : Stem). is_first revision other.revisions) (take k stems) t in
          let old =
          any_at (λ (other : Stem). names other.revisions revision) (take k stems) i.0 i.1 i.2
          (first_named i.1.revisions revision i.3) in
          absurd (both_ways _ (a.newest k stem revision e (first_there 0 stem.revisions revision first)) old)
      | inr t ↦ t
    ]

find_here : (P : Stem → Bool) (stems : List Stem) (k : ℕ) (other : Stem) → slice_get stems k ≡ Some other
    → P other ≡ true → list_any P (take k stems) ≡ false → Some other ≡ find P stems
find_here P [] k other e t f = absurd (cc)
find_here P (stem ∷ stems) zero other e t f =
    let u : P stem ≡ true = ap P (same_Some stem other e) ∙ t in rw u (ap Some (sym (same_Some stem other e)))
find_here P (stem ∷ stems) (suc k) other e t f =
    let g = or_false (P stem) (list_any P (take k stems)) f in rw g.0 (find_here P stems k other e t g.1)

-- so the stem of a number is found by its newest revision
pub head_found : (stems : List Stem) → AreStems stems → (revision : Revision) (k : ℕ) (stem : Stem)
    → slice_get stems k ≡ Some stem
    → is_first revision stem.revisions ≡ true → Some stem ≡ find (λ z. is_first revision z.revisions) stems
head_found stems a revision k stem e first =
    find_here (λ z. is_first revision z.revisions) stems k stem e first
    (heads_differ stems a revision k stem e first)

pub none_found : (P : Stem → Bool) (stems : List Stem) → list_any P stems ≡ false → None ≡ find P stems
none_found P [] f = refl
none_found P (stem ∷ stems) f =
    let g = or_false (P stem) (list_any P stems) f in rw g.0 (none_found P stems g.1)

-- a stem that is found by a revision has it as its newest
pub found_head : (stems : List Stem) (rev : Revision) (stem : Stem)
    → Some stem ≡ find (λ other. is_first rev other.revisions) stems → slice_get stem.revisions 0 ≡ Some rev
found_head stems rev stem e =
    first_there 0 stem.revisions rev
    (find_is (λ (other : Stem). is_first rev other.revisions) stems stem (sym e)).0

pub read_stem : (stems : List Stem) (k : ℕ) (stem : Stem) → k < length stems → stem ≡ get_or stems k stem
    → slice_get stems k ≡ Some stem
read_stem stems k stem low is = slice_get_read stems _ k stem refl low is

-- the stored edits of these stems
abbrev pub stored : List Stem → ℕ → Storage
stored stems spare = record { list = branches_of stems; stems = stems; spare = spare }

-- a number of the branches is one of the stems
pub low_stem : (stems : List Stem) (spare : ℕ) (s : Storage) (k : ℕ) → stored stems spare ≡ s
    → k < length s.list → k < length stems
low_stem stems spare s k view low =
    let n : length (branches_of stems) ≡ length s.list = ap (λ (z : Storage). length z.list) view in
    omega (arith, low, as_many stems, n)

-- the stem of this number
pub listed_stem : (stems : List Stem) (spare : ℕ) (s : Storage) (k : ℕ) (stem : Stem) → stored stems spare ≡ s
    → k < length s.list → stem ≡ get_or stems k stem → slice_get stems k ≡ Some stem
listed_stem stems spare s k stem view low = read_stem stems k stem (low_stem stems spare s k view low)

-- ---- how long the paths are

-- a stem's count is its path's length
path_long : (stems : List Stem) → AreStems stems → (k : ℕ) (stem : Stem) → slice_get stems k ≡ Some stem
    → length (branch_of (chain_of (chains_of stems) stem)).path ≡ stem.count
path_long stems a k stem e =
    let c = a.counted k stem e in
    let reach : stem.reach ≡ length (chain_of (chains_of stems) stem).whole =
    a.reached k stem e ∙ ap (λ o. length (whole_in o)) (chained_at stems a k stem e) in
    length-take-le stem.count (chain_of (chains_of stems) stem).whole (omega (arith, c.1, reach))

pub long_edit : (stems : List Stem) → AreStems stems → (k : ℕ) (stem : Stem) (count : ℕ)
    → slice_get stems k ≡ Some stem
    → count ≡ stem.count → Some count ≡ option_map (λ branch. length branch.path)
    (slice_get (branches_of stems) k)
long_edit stems a k stem count e is =
    ap Some (is ∙ sym (path_long stems a k stem e))
    ∙ ap (option_map (λ (branch : Branch). length branch.path)) (sym (shown_at stems a k stem e))

pub no_long : (stems : List Stem) (k : ℕ) → length stems ≤ k
    → option_map (λ branch. length branch.path) (slice_get (branches_of stems) k) ≡ None
no_long stems k past =
    ap (option_map (λ (branch : Branch). length branch.path))
    (slice_get_past (branches_of stems) k (omega (arith, past, as_many stems)))

-- the length of the path of the branch that a revision heads
abbrev AreLong : Revision → List Stem → Type 0
AreLong revision stems =
    AreStems stems
    → option_map (λ b. length b.path) (find (λ b. is_first revision b.path) (branches_of stems))
    ≡ option_map (λ s. s.count) (find (λ s. is_first revision s.revisions) stems)

module _ (revision : Revision) where
  or_long : (o maybe_branch : Option Branch)
      → option_map (λ branch. length branch.path) (option_or o maybe_branch)
      ≡ option_or (option_map (λ branch. length branch.path) o)
      (option_map (λ branch. length branch.path) maybe_branch)
  or_long None maybe_branch = refl
  or_long (Some branch) maybe_branch = refl

  or_count : (o maybe_stem : Option Stem)
      → option_map (λ stem. stem.count) (option_or o maybe_stem)
      ≡ option_or (option_map (λ stem. stem.count) o) (option_map (λ stem. stem.count) maybe_stem)
  or_count None maybe_stem = refl
  or_count (Some stem) maybe_stem = refl

  one_long : (stems : List Stem) (stem : Stem) → AreStems (stems ++ stem ∷ [])
      → option_map (λ b. length b.path)
      (find (λ b. is_first revision b.path) (branch_of (chain_of (chains_of stems) stem) ∷ []))
      ≡ option_map (λ z. z.count) (find (λ z. is_first revision z.revisions) (stem ∷ []))
  one_long stems stem a =
      let here = get_last stems stem in
      let head =
      is_head_of revision (chains_of stems) stem (a.falling (length stems) stem here)
      (a.counted (length stems) stem here).0 in
      let long : length (branch_of (chain_of (chains_of stems) stem)).path ≡ stem.count =
      let c = a.counted (length stems) stem here in
      let reach : stem.reach ≡ length (chain_of (chains_of stems) stem).whole =
      a.reached (length stems) stem here
      ∙ ap (λ o. length (whole_in o))
      (ap (λ cs. slice_get cs (length stems)) (one_chain_more stems stem)
      ∙ (ap (slice_get (chains_of stems ++ chain_of (chains_of stems) stem ∷ [])) (sym (as_many_chains stems))
      ∙ get_last (chains_of stems) (chain_of (chains_of stems) stem))) in
      length-take-le stem.count (chain_of (chains_of stems) stem).whole (omega (arith, c.1, reach)) in
      elim (cases_Bool (is_first revision stem.revisions)) [
        | inl t ↦ rw (head ∙ t, t) (ap Some long)
        | inr t ↦ rw (head ∙ t, t) refl
      ]

  long_more : (stems : List Stem) (stem : Stem) → AreLong revision stems
      → AreLong revision (stems ++ stem ∷ [])
  long_more stems stem ih a =
      ap (λ bs. option_map (λ b. length b.path) (find (λ b. is_first revision b.path) bs))
      (one_stem_more stems stem) ∙ ap (option_map (λ b. length b.path))
      (find-append (λ b. is_first revision b.path) (branches_of stems)
      (branch_of (chain_of (chains_of stems) stem) ∷ []))
      ∙ or_long (find (λ b. is_first revision b.path) (branches_of stems))
      (find (λ b. is_first revision b.path) (branch_of (chain_of (chains_of stems) stem) ∷ []))
      ∙ ap (λ o. option_or o
      (option_map (λ b. length b.path)
      (find (λ b. is_first revision b.path) (branch_of (chain_of (chains_of stems) stem) ∷ []))))
      (ih (front stems stem a))
      ∙ ap (λ o. option_or (option_map (λ z. z.count) (find (λ z. is_first revision z.revisions) stems)) o)
      (one_long stems stem a)
      ∙ sym (or_count (find (λ z. is_first revision z.revisions) stems)
      (find (λ z. is_first revision z.revisions) (stem ∷ [])))
      ∙ ap (option_map (λ z. z.count))
      (sym (find-append (λ z. is_first revision z.revisions) stems (stem ∷ [])))

  long_in : (stems : List Stem) → AreLong revision stems
  long_in = from_end (AreLong revision) (λ a. refl) long_more

pub long_headed : (stems : List Stem) → AreStems stems → (rev : Revision) (stem : Stem) (count : ℕ)
    → Some stem ≡ find (λ other. is_first rev other.revisions) stems → count ≡ stem.count
    → Some count ≡ option_map (λ b. length b.path) (find (λ b. is_first rev b.path) (branches_of stems))
long_headed stems a rev stem count e is =
    ap Some is ∙ ap (option_map (λ (other : Stem). other.count)) e ∙ sym (long_in rev stems a)

pub none_long : (stems : List Stem) → AreStems stems
    → (rev : Revision) → None ≡ find (λ stem. is_first rev stem.revisions) stems
    → option_map (λ b. length b.path) (find (λ b. is_first rev b.path) (branches_of stems)) ≡ None
none_long stems a rev e = long_in rev stems a ∙ ap (option_map (λ (stem : Stem). stem.count)) (sym e)

-- a stem that is read at a place
pub stem_read : (stems lent : List Stem) (spare : ℕ) (s : Storage) (place : Place) (stem : Stem)
    → stored stems spare ≡ s → lent ≡ stems → IsWithin s.stems place → stem ≡ get_or lent place.stem stem
    → slice_get s.stems place.stem ≡ Some stem
stem_read stems lent spare s place stem view same w is =
    let i = within_stem s.stems place w in
    read_stem s.stems place.stem stem (slice_get_within s.stems place.stem i.0 i.1)
    (subst (λ xs. stem ≡ get_or xs place.stem stem) (same ∙ ap (λ (z : Storage). z.stems) view) is)
