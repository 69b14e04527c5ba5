-- Whether a path agrees with the stored ones, and the look at it that says so.
use Rattle.std.proofs.Common.{◌≡◌, ◌≢◌, ℕ, zero, suc, ◌+◌, ◌-◌, ◌<◌, ◌≤◌, min, List, []}
use Rattle.std.proofs.Common.{◌∷◌, ◌++◌, length, drop, take, true, false, ◌⊎◌, inl, inr}
use Rattle.std.proofs.Common.{refl, sym, ap, ap₂, ◌∙◌, subst, option_map, arith}
use Rattle.std.specs.Prelude.{Option, Some, None, IfSome, IfNone, slice_get, Contains}
use Rattle.std.specs.List.{list_all}
use Rattle.std.proofs.lemmas.Bool.{both_ways, cases_Bool}
use Rattle.std.proofs.lemmas.List.{length-drop, length-take-le, take_all, take_rest}
use Rattle.std.proofs.lemmas.Option.{same_Some, slice_get_within}
use Rattle.hub_model.specs.Revision.{Revision}
use Rattle.hub_model.specs.Path.{IsFirst, IsNext, IsHistory, is_consistent}
use Rattle.hub_model.specs.Journal.{Edit, IsBehind, IsLegal}
use Rattle.hub_model.specs.Walk.{behind_in}
use Rattle.hub_model.proofs.Legal.{legal_sound, next_left}
use Rattle.hub_model.proofs.Tests.{agrees_is, all_at, at_all, is_agreeing, is_known_from, same_self}
use Rattle.hub_revtree.specs.declared.stem.Place.{Place}
use Rattle.hub_revtree.specs.Branch.{Branch, edit_of, edits_in}
use Rattle.hub_revtree.specs.Common.{common, last_in}
use Rattle.hub_revtree.specs.Stem.{Stem, AreStems, IsWithin, branches_of}
use Rattle.hub_revtree.specs.Stem.{has_revision, own_from, rev_at, revisions_at}
use Rattle.hub_revtree.proofs.CommonLemmas.{common_some, none_of}
use Rattle.hub_revtree.proofs.JoinLemmas.{brought_behind, from_branch, last_append, next_taken, own_steps}
use Rattle.hub_revtree.proofs.JoinLemmas.{next_whole, none_told_at, own as own_of, place_in, there}
use Rattle.hub_revtree.proofs.LineLemmas.{has_last, told_behind, told_is}
use Rattle.hub_revtree.proofs.RunLemmas.{dropped_one}
use Rattle.hub_revtree.proofs.StemLemmas.{named_in, within_rev}
use Rattle.hub_revtree.proofs.TreeLemmas.{all_of_one, known_by}

-- ---- how far two lists are the same

-- lists that begin with the same revision, and whose steps agree, are the same as far as both go
pub common_agrees : (revision : Revision) (others revisions : List Revision)
    → ((s r other : Revision) → IsNext (revision ∷ others) s r → IsNext (revision ∷ revisions) s other
    → r ≡ other) → common (revision ∷ others) (revision ∷ revisions) ≢ None
common_agrees revision [] revisions agree none = absurd (let h = rw (same_self revision) at none in cc)
common_agrees revision (y ∷ others) [] agree none = absurd (let h = rw (same_self revision) at none in cc)
common_agrees revision (y ∷ others) (z ∷ revisions) agree none =
    let same : y ≡ z = agree revision y z (inl (refl, refl)) (inl (refl, refl)) in
    let h : option_map suc (common (y ∷ others) (z ∷ revisions)) ≡ None = rw (same_self revision) at none in
    common_agrees y others revisions
    (λ s r other n m. agree s r other (inr n) (inr (subst (λ v. IsNext (v ∷ revisions) s other) same m)))
    (none_of (common (y ∷ others) (y ∷ revisions))
    (subst (λ v. option_map suc (common (y ∷ others) (v ∷ revisions)) ≡ None) (sym same) h))

-- the shorter one is a front of the other
pub agree_front : (revision : Revision) (others revisions : List Revision)
    → ((s r other : Revision) → IsNext (revision ∷ others) s r → IsNext (revision ∷ revisions) s other
    → r ≡ other) → length others ≤ length revisions
    → take (length (revision ∷ others)) (revision ∷ revisions) ≡ revision ∷ others
agree_front revision [] revisions agree low = refl
agree_front revision (y ∷ others) [] agree low = absurd (omega arith)
agree_front revision (y ∷ others) (z ∷ revisions) agree low =
    let same : z ≡ y = sym (agree revision y z (inl (refl, refl)) (inl (refl, refl))) in
    ap (λ w. revision ∷ w)
    (ap (λ v. take (length (y ∷ others)) (v ∷ revisions)) same
    ∙ agree_front y others revisions
    (λ s r other n m. agree s r other (inr n)
    (inr (subst (λ v. IsNext (v ∷ revisions) s other) (sym same) m)))
    (omega arith))

-- a list from a place on
pub dropped : (revisions : List Revision) (n : ℕ) (revision : Revision)
    → slice_get revisions n ≡ Some revision → drop n revisions ≡ revision ∷ drop (suc n) revisions
dropped revisions n revision e = dropped_one revisions n revision e

-- a longer front
pub take_parts : (n m : ℕ) (revisions : List Revision) → take (n + m) revisions ≡ take n revisions
    ++ take m (drop n revisions)
take_parts zero m revisions = ap (λ k. take k revisions) (zero-plus m)
  where
    zero-plus : (m : ℕ) → 0 + m ≡ m
    zero-plus m = omega arith
take_parts (suc n) m [] =
    subst (λ k. ◌≡◌ {A = List Revision} (take k []) (take (suc n) [] ++ take m (drop (suc n) [])))
    (sym (sums n m)) (sym (none m))
  where
    sums : (n m : ℕ) → suc n + m ≡ suc (n + m)
    sums n m = omega arith

    none : (m : ℕ) → ◌≡◌ {A = List Revision} (take m []) []
    none zero = refl
    none (suc m) = refl
take_parts (suc n) m (revision ∷ revisions) =
    ap (λ k. take k (revision ∷ revisions)) (sums n m) ∙ ap (λ z. revision ∷ z) (take_parts n m revisions)
  where
    sums : (n m : ℕ) → suc n + m ≡ suc (n + m)
    sums n m = omega arith

-- a step of two lists
pub next_two : (others revisions : List Revision) (revision other : Revision)
    → IsNext (others ++ revisions) revision other
    → IsNext others revision other
    ⊎ (((last_in others ≡ Some revision) × (slice_get revisions 0 ≡ Some other))
    ⊎ IsNext revisions revision other)
next_two [] revisions revision other i = inr (inr i)
next_two (x ∷ []) revisions revision other (inl i) = inr (inl (ap Some i.0, first_get revisions i.1))
  where
    first_get : (revisions : List Revision) → IsFirst revisions other → slice_get revisions 0 ≡ Some other
    first_get [] f = absurd f
    first_get (y ∷ revisions) f = ap Some f
next_two (x ∷ []) revisions revision other (inr i) = inr (inr i)
next_two (x ∷ y ∷ others) revisions revision other (inl i) = inl (inl i)
next_two (x ∷ y ∷ others) revisions revision other (inr i) =
    elim (next_two (y ∷ others) revisions revision other i) [
      | inl j ↦ inl (inr j)
      | inr j ↦ inr j
    ]

take_first : (n : ℕ) (revisions : List Revision) → 0 < n
    → slice_get (take n revisions) 0 ≡ slice_get revisions 0
take_first zero revisions some = absurd (omega arith)
take_first (suc n) [] some = refl
take_first (suc n) (revision ∷ revisions) some = refl

-- ---- the look at a path, up to a place

-- the path's steps so far agree with the stored ones, and `next` is the place of the stored revision behind
-- the last one so far
pub record Agrees (stems : List Stem) (path : List Revision) (at : ℕ) (next : Option Place) : Type 0 where
  pub steps : (s r other : Revision) → IsNext (take at path) s r
      → IsBehind (edits_in (branches_of stems)) [] other s → r ≡ other
  pub behind : (revision : Revision) → last_in (take at path) ≡ Some revision
      → rev_at stems next ≡ behind_in revision (edits_in (branches_of stems))
  pub first : at ≡ 0 → next ≡ None
  pub within : IfSome next (IsWithin stems)
  pub short : at ≤ length path

-- the path's next revision stands at the place, or the place is the one behind the last revision so far
pub record Goes (stems : List Stem) (path : List Revision) (at : ℕ) (next : Option Place)
    (place : Place) : Type 0 where
  pub so_far : Agrees stems path at next
  pub first : Revision
  pub here : slice_get path at ≡ Some first
  pub told : IfSome next (λ q. Some place ≡ Some q)
  pub found : IfNone next (rev_at stems (Some place) ≡ Some first)
  pub within : IsWithin stems place

module _ (stems : List Stem) (a : AreStems stems) (legal : IsLegal (edits_in (branches_of stems)))
    (path : List Revision) where
  abbrev es : List Edit
  es = edits_in (branches_of stems)

  -- a revision with another directly behind it is one of a stem's
  behind_had : (revision other : Revision) → IsBehind es [] other revision
      → has_revision stems revision ≡ true
  behind_had revision other (e, own, n) =
      sym (named_in stems a revision)
      ∙ (sym (known_by (branches_of stems) revision)
      ∙ is_known_from es [] revision (e, own, next_left e.path revision other n))

  told : (revision other : Revision) → IsBehind es [] other revision → behind_in revision es ≡ Some other
  told revision other b =
      ap (behind_in revision) (sym (all_of_one (branches_of stems))) ∙ told_is es legal revision other b

  pub agrees_none : Agrees stems path 0 None
  agrees_none = record {
    steps = λ s r other n b. absurd n;
    behind = λ x e. absurd (cc);
    first = λ z. refl;
    within = tt;
    short = omega arith;
  }

  -- the step to the next revision
  seam : (at : ℕ) (next : Option Place) → Agrees stems path at next → (revision r other : Revision)
      → last_in (take at path) ≡ Some revision → IfSome next (λ p. rev_at stems (Some p) ≡ Some r)
      → IsBehind es [] other revision → r ≡ other
  seam at next g revision r other last same b = from next refl same
    where
      is : rev_at stems next ≡ Some other
      is = g.behind revision last ∙ told revision other b

      from : (maybe_place : Option Place) → next ≡ maybe_place
          → IfSome maybe_place (λ p. rev_at stems (Some p) ≡ Some r) → r ≡ other
      from None q h =
          let t : ◌≡◌ {A = Option Revision} None (Some other) = ap (rev_at stems) (sym q) ∙ is in absurd (cc)
      from (Some p) q h = same_Some r other (sym h ∙ (ap (rev_at stems) (sym q) ∙ is))

  -- a longer part of the path, whose steps agree
  more_steps : (at n : ℕ) (next : Option Place) → Agrees stems path at next
      → ((r : Revision) → slice_get (take n (drop at path)) 0 ≡ Some r
      → IfSome next (λ p. rev_at stems (Some p) ≡ Some r))
      → ((revision r other : Revision) → IsNext (take n (drop at path)) revision r
      → IsBehind es [] other revision → r ≡ other)
      → (revision r other : Revision) → IsNext (take (at + n) path) revision r → IsBehind es [] other revision
      → r ≡ other
  more_steps at n next g begins later revision r other i b =
      elim (next_two (take at path) (take n (drop at path)) revision r
      (subst (λ z. IsNext z revision r) (take_parts at n path) i)) [
        | inl j ↦ g.steps revision r other j b
        | inr j ↦ elim j [
          | inl k ↦ seam at next g revision r other k.0 (begins r k.1) b
          | inr k ↦ later revision r other k b
        ]
      ]

  -- a revision that no path names
  pub agrees_unknown : (at : ℕ) (next : Option Place) (revision : Revision) → Agrees stems path at next
      → IfSome next (λ place. None ≡ Some place) → slice_get path at ≡ Some revision
      → has_revision stems revision ≡ false → Agrees stems path (at + 1) None
  agrees_unknown at (Some place) revision g is here new = absurd (cc)
  agrees_unknown at None revision g is here new = record {
    steps = more_steps at 1 None g (λ t e. tt) (λ s t other n b. absurd (one_left s t n));
    behind = λ x e.
        let same : revision ≡ x =
        same_Some revision x
        (sym (ap last_in (take_parts at 1 path ∙ ap (λ z. take at path ++ z) one)
        ∙ last_append (take at path) revision [])
        ∙ e) in
        sym (none_told_at stems a legal x
        (λ t b. both_ways _ (subst (λ z. has_revision stems z ≡ false) same new)
        (behind_had x t (brought_behind stems a t x b))));
    first = λ z. refl;
    within = tt;
    short = let low = slice_get_within path at revision here in omega (arith, low);
  }
    where
      one : take 1 (drop at path) ≡ revision ∷ []
      one = ap (take 1) (dropped path at revision here)

      one_left : (s t : Revision) → IsNext (take 1 (drop at path)) s t → ⊥
      one_left s t n = elim (subst (λ z. IsNext z s t) one n) [
        | inl i ↦ i.1
        | inr i ↦ i
      ]

  -- a stem that the path follows
  module _ (at : ℕ) (next : Option Place) (p : Place) (g : Goes stems path at next p) where
    abbrev chain : List Revision
    chain = own_from stems p

    some_chain : 0 < length chain
    some_chain = omega (arith, g.within, length-drop p.at (revisions_at stems p.stem))

    begins_chain : (r : Revision) → rev_at stems (Some p) ≡ Some r
        → chain ≡ r ∷ drop (suc p.at) (revisions_at stems p.stem)
    begins_chain r e = dropped (revisions_at stems p.stem) p.at r e

    abbrev rest : List Revision
    rest = drop at path

    low : at < length path
    low = slice_get_within path at g.first g.here

    rest_long : 0 < length rest
    rest_long = omega (arith, low, length-drop at path)

    told_place : (q : Place) → next ≡ Some q → p ≡ q
    told_place q e = same_Some p q (subst (λ o. IfSome o (λ q. Some p ≡ Some q)) e g.told)

    module _ (n : ℕ) (one : common (take (length path - at) rest) chain ≡ Some n) where
      c : (n ≡ min (length rest) (length chain)) × (take n rest ≡ take n chain)
      c = common_some rest chain n (ap (λ z. common z chain) (sym (take_rest path at)) ∙ one)

      pub some_common : 0 < n
      some_common = omega (arith, c.0, rest_long, some_chain)

      pub within_common : at + n ≤ length path
      within_common = omega (arith, c.0, length-drop at path, low)

      begins : (r : Revision) → slice_get (take n rest) 0 ≡ Some r
          → IfSome next (λ q. rev_at stems (Some q) ≡ Some r)
      begins r e = from next refl
        where
          first : slice_get chain 0 ≡ Some r
          first = sym (take_first n chain some_common) ∙ ap (λ z. slice_get z 0) (sym c.1) ∙ e

          here : rev_at stems (Some p) ≡ Some r
          here =
              let q = within_rev stems p g.within in
              q.1 ∙ ap Some (same_Some q.0 r (sym (ap (λ z. slice_get z 0) (begins_chain q.0 q.1)) ∙ first))

          from : (o : Option Place) → next ≡ o → IfSome o (λ q. rev_at stems (Some q) ≡ Some r)
          from None q = tt
          from (Some q) e = subst (λ z. rev_at stems (Some z) ≡ Some r) (told_place q e) here

      follows : (s r other : Revision) → IsNext (take n rest) s r → IsBehind es [] other s → r ≡ other
      follows s r other i b =
          (legal_sound es legal).tree [] r other s
          (own_steps stems a p g.within s r (next_taken n chain s r (subst (λ z. IsNext z s r) c.1 i))) b

      pub all_agree : at + n ≡ length path → (s r other : Revision) → IsNext path s r → IsBehind es [] other s
          → r ≡ other
      all_agree whole s r other i b =
          more_steps at n next g.so_far begins follows s r other
          (subst (λ z. IsNext z s r) (sym (take_all (at + n) path (omega (arith, whole)))) i) b

      pub agrees_more : (after : Option Place) → at + n ≢ length path → IfSome after (IsWithin stems)
          → ((x : Revision) → last_in chain ≡ Some x → rev_at stems after ≡ behind_in x es)
          → Agrees stems path (at + n) after
      agrees_more after some within behind = record {
        steps = more_steps at n next g.so_far begins follows;
        behind = λ x e. behind x (sym ends ∙ e);
        first = λ z. absurd (omega (arith, z, some_common));
        within = within;
        short = within_common;
      }
        where
          whole : take n rest ≡ chain
          whole = c.1 ∙ take_all n chain (omega (arith, c.0, some, length-drop at path, low))

          ends : last_in (take (at + n) path) ≡ last_in chain
          ends =
              let r = within_rev stems p g.within in
              let f = begins_chain r.0 r.1 in
              ap last_in (take_parts at n path ∙ ap (λ z. take at path ++ z) (whole ∙ f))
              ∙ last_append (take at path) r.0 (drop (suc p.at) (revisions_at stems p.stem))
              ∙ ap last_in (sym f)

    -- a path that differs from the stem does not agree with all
    pub differs : IsHistory path → common (take (length path - at) rest) chain ≡ None
        → false ≡ list_all (λ b. is_consistent path b.path) (branches_of stems)
    differs history none = elim (cases_Bool (list_all (λ b. is_consistent path b.path) (branches_of stems))) [
      | inl all ↦ absurd (
          let r = within_rev stems p g.within in
          let f = begins_chain r.0 r.1 in
          let behind = drop (suc p.at) (revisions_at stems p.stem) in
          let d = dropped path at g.first g.here in
          let same : r.0 ≡ g.first = begun all r.0 r.1 in
          common_agrees g.first (drop (suc at) path) behind (λ s t other n m.
          steps_agree all s t other (next_whole at path s t (subst (λ z. IsNext z s t) (sym d) n))
          (own_steps stems a p g.within s other
          (subst (λ z. IsNext z s other) (sym (f ∙ ap (λ v. v ∷ behind) same)) m)))
          (ap₂ (λ (u : List Revision) (v : List Revision). common u v) (sym (take_rest path at ∙ d))
          (sym (f ∙ ap (λ v. v ∷ behind) same))
          ∙ none))
      | inr some ↦ sym some
    ]
      where
        steps_agree : list_all (λ b. is_consistent path b.path) (branches_of stems) ≡ true → (s t other : Revision)
            → IsNext path s t → IsBehind es [] other s → t ≡ other
        steps_agree all s t other n (e, own, m) =
            let i = from_branch stems a e own.0 in
            agrees_is path i.1.path
            (at_all (λ (b : Branch). is_consistent path b.path) (branches_of stems) all i.1
            (there (branches_of stems) i.0 i.1 i.2)) history.falls
            ((legal_sound es legal).paths (edit_of i.1) (own_is i.0 i.1 i.2)) s t other n
            (subst (λ (z : Edit). IsNext z.path s other) (sym i.3) m)
          where
            own_is : (k : ℕ) (b : Branch) → slice_get (branches_of stems) k ≡ Some b → Contains es (edit_of b)
            own_is k b q = (own_of stems a k b q).0

        begun : list_all (λ b. is_consistent path b.path) (branches_of stems) ≡ true → (r : Revision)
            → rev_at stems (Some p) ≡ Some r → r ≡ g.first
        begun all r placed = from next refl
          where
            from : (o : Option Place) → next ≡ o → r ≡ g.first
            from None q =
                same_Some r g.first
                (sym placed ∙ subst (λ o. IfNone o (rev_at stems (Some p) ≡ Some g.first)) q g.found)
            from (Some q) e = before at refl
              where
                last_of : (k : ℕ) → at ≡ suc k → (y : Revision) × (last_in (take at path) ≡ Some y)
                last_of k z =
                    from_list (take at path) (omega (arith, z, length-take-le at path g.so_far.short))
                  where
                    from_list : (l : List Revision) → 0 < length l → (y : Revision) × (last_in l ≡ Some y)
                    from_list [] some = absurd (omega arith)
                    from_list (v ∷ l) some = has_last v l

                step_at : (y : Revision) → last_in (take at path) ≡ Some y → IsNext path y g.first
                step_at y last = in_list at path last g.here
                  where
                    in_list : (n : ℕ) (l : List Revision) → last_in (take n l) ≡ Some y
                        → slice_get l n ≡ Some g.first → IsNext l y g.first
                    in_list zero l last here = absurd (cc)
                    in_list (suc n) [] last here = absurd (cc)
                    in_list (suc zero) (v ∷ []) last here = absurd (cc)
                    in_list (suc zero) (v ∷ u ∷ l) last here =
                        inl (same_Some v y last, same_Some u g.first here)
                    in_list (suc (suc n)) (v ∷ []) last here = absurd (cc)
                    in_list (suc (suc n)) (v ∷ u ∷ l) last here = inr (in_list (suc n) (u ∷ l) last here)

                before : (k : ℕ) → at ≡ k → r ≡ g.first
                before zero z =
                    let no : ◌≡◌ {A = Option Place} (Some q) None = sym e ∙ g.so_far.first z in absurd (cc)
                before (suc k) z =
                    let y = last_of k z in
                    let b =
                    told_behind es legal y.0 r
                    (ap (behind_in y.0) (all_of_one (branches_of stems))
                    ∙ (sym (g.so_far.behind y.0 y.1)
                    ∙ ap (rev_at stems) (e ∙ ap Some (sym (told_place q e)))
                    ∙ placed)) in
                    sym (steps_agree all y.0 g.first r (step_at y.0 y.1) b)

  -- a path whose steps agree with the stored ones agrees with all branches
  pub agree_all : ((revision r other : Revision) → IsNext path revision r → IsBehind es [] other revision
      → r ≡ other) → true ≡ list_all (λ branch. is_consistent path branch.path) (branches_of stems)
  agree_all steps =
      sym (all_at (λ (branch : Branch). is_consistent path branch.path) (branches_of stems) (λ branch c.
      let i = place_in (branches_of stems) branch c in
      is_agreeing path branch.path
      (λ revision r other n m. steps revision r other n (edit_of branch, own_of stems a i.0 branch i.1, m))))

  pub agrees_whole : (at : ℕ) (next : Option Place) → Agrees stems path at next → length path ≤ at
      → true ≡ list_all (λ b. is_consistent path b.path) (branches_of stems)
  agrees_whole at next g past =
      agree_all (λ s r other n b.
      g.steps s r other (subst (λ z. IsNext z s r) (sym (take_all at path past)) n) b)
