-- The stem of a path that may be stored, and its path and chain.
use Rattle.std.proofs.Common.{◌≡◌, ◌≢◌, ℕ, zero, suc, ◌+◌, ◌-◌, ◌<◌, ◌≤◌, List, [], ◌∷◌}
use Rattle.std.proofs.Common.{◌++◌, length, drop, map, take, Bool, true, false, inl, inr}
use Rattle.std.proofs.Common.{refl, sym, ap, ap₂, ◌∙◌, subst, append-nil, option_map, arith}
use Rattle.std.specs.Prelude.{Option, Some, None, IfSome, IfNone, IsTrue, is_some, not, slice_get, Contains}
use Rattle.std.proofs.lemmas.Bool.{cases_Bool}
use Rattle.std.proofs.lemmas.List.{length-append, length-drop, length-take-le, map-append, take-append-drop}
use Rattle.std.proofs.lemmas.List.Elements.{Contains-append_left, Contains-push, Contains-push_cases}
use Rattle.std.proofs.lemmas.Option.{same_Some, slice_get_within}
use Rattle.hex.specs.Hex.{encode_lower}
use Rattle.hub_model.specs.Revision.{Revision}
use Rattle.hub_model.specs.Path.{Falls, IsNext, IsPath}
use Rattle.hub_model.specs.Journal.{Edit, IsAcceptable, IsBehind, IsKnown, IsLegal}
use Rattle.hub_model.proofs.Legal.{legal_more}
use Rattle.hub_model.proofs.Lists.{contains_none, contains_cases}
use Rattle.hub_model.proofs.Tests.{known_is}
use Rattle.hub_revtree.specs.declared.stem.Place.{Place}
use Rattle.hub_revtree.specs.Branch.{edit_of, edits_in}
use Rattle.hub_revtree.specs.Common.{last_in}
use Rattle.hub_revtree.specs.Extend.{line_to}
use Rattle.hub_revtree.specs.Index.{IsNewestLine, newest_rev}
use Rattle.hub_revtree.specs.Lookup.{IsMeeting}
use Rattle.hub_revtree.specs.Stem.{Stem, AreStems, IsBrought, IsWithin, branch_of, branches_of, chain_from}
use Rattle.hub_revtree.specs.Stem.{chain_of, chains_of, has_revision, rev_at, revisions_at, revisions_in}
use Rattle.hub_revtree.specs.Tree.{nameless}
use Rattle.hub_revtree.proofs.BranchLemmas.{within_generation}
use Rattle.hub_revtree.proofs.JoinLemmas.{behind_brought, brought_behind, from_steps, next_whole, place_known}
use Rattle.hub_revtree.proofs.LineLemmas.{first_ends, has_last, last_down, line_front, steps_fall, told_none}
use Rattle.hub_revtree.proofs.MeetLemmas.{agree_front, dropped}
use Rattle.hub_revtree.proofs.RunLemmas.{least}
use Rattle.hub_revtree.proofs.StemLemmas.{IsNextStem, first_from, get_last, named_in}
use Rattle.hub_revtree.proofs.StemLemmas.{one_stem_more, stems_more, take_more, within_rev}
use Rattle.hub_revtree.proofs.StemLooks.{some_path}
use Rattle.hub_revtree.proofs.TreeLemmas.{first_of, known_by}

-- a front of a path falls
pub take_falls : (n : ℕ) (revisions : List Revision) → n ≢ 0 → IsPath revisions → IsPath (take n revisions)
take_falls zero revisions some f = absurd (some refl)
take_falls (suc n) [] some f = f
take_falls (suc n) (revision ∷ revisions) some f = falls n revision revisions f
  where
    falls : (n : ℕ) (revision : Revision) (revisions : List Revision) → Falls revision revisions
        → Falls revision (take n revisions)
    falls zero revision revisions f = least revision revisions f
    falls (suc n) revision [] f = f
    falls (suc n) revision (y ∷ revisions) f = (f.0, falls n y revisions f.1)

-- no revision stands behind the last one of a path, in that path
last_next : (revisions : List Revision) (revision other : Revision) → IsPath revisions
    → last_in revisions ≡ Some revision → ¬ IsNext revisions revision other
last_next [] revision other f e n = absurd n
last_next (x ∷ revisions) revision other f e n = from x revisions f e n
  where
    low : (x : Revision) (revisions : List Revision) (y : Revision) → Falls x revisions
        → Contains (x ∷ revisions) y
        → last_in (x ∷ revisions) ≡ Some revision → revision.generation ≤ y.generation
    low x [] y f c e = elim (contains_cases x y [] c) [
      | inl q ↦
          let g : revision.generation ≡ y.generation =
          ap (λ (v : Revision). v.generation) (sym (same_Some x revision e) ∙ q) in
          omega (arith, g)
      | inr d ↦ absurd (contains_none y d)
    ]
    low x (w ∷ revisions) y f c e = elim (contains_cases x y (w ∷ revisions) c) [
      | inl q ↦
          let i = low w revisions w f.1 (0, omega arith, refl) e in
          let g : x.generation ≡ y.generation = ap (λ (v : Revision). v.generation) q in
          omega (arith, i, f.0, g)
      | inr d ↦ low w revisions y f.1 d e
    ]

    from : (x : Revision) (revisions : List Revision) → Falls x revisions
        → last_in (x ∷ revisions) ≡ Some revision → IsNext (x ∷ revisions) revision other → ⊥
    from x [] f e (inl n) = n.1
    from x [] f e (inr n) = n
    from x (y ∷ revisions) f e (inl n) =
        let i = low y revisions y f.1 (0, omega arith, refl) e in
        let g : x.generation ≡ revision.generation = ap (λ (v : Revision). v.generation) n.0 in
        absurd (omega (arith, i, f.0, g))
    from x (y ∷ revisions) f e (inr n) = from y revisions f.1 e n

-- the last revision of a path is at its last place
pub last_at : (revisions : List Revision) (n : ℕ) (revision other : Revision) → length revisions ≡ n + 1
    → slice_get revisions n ≡ Some revision → last_in revisions ≡ Some other → revision ≡ other
last_at [] n revision other many e last = absurd (omega (arith, many))
last_at (y ∷ []) zero revision other many e last = same_Some revision other (sym e ∙ last)
last_at (y ∷ []) (suc n) revision other many e last = absurd (omega (arith, many))
last_at (y ∷ w ∷ revisions) zero revision other many e last = absurd (omega (arith, many))
last_at (y ∷ w ∷ revisions) (suc n) revision other many e last =
    last_at (w ∷ revisions) n revision other (omega (arith, many)) e last

-- a path with as many revisions as its first one's generation ends with generation 1
pub ends_first : (revisions : List Revision) (g : ℕ) (revision : Revision)
    → IsPath revisions → option_map (λ r. r.generation) (slice_get revisions 0) ≡ Some g
    → length revisions ≡ g → last_in revisions ≡ Some revision → revision.generation ≡ 1
ends_first [] g revision f newest long last = absurd f
ends_first (other ∷ revisions) g revision f newest long last =
    let same : other.generation ≡ g = same_Some other.generation g newest in
    omega (arith, last_down other revisions revision f last, same, long)

-- no revision stands behind the last one of such a path
pub nothing_first : (stems : List Stem) → AreStems stems → IsLegal (edits_in (branches_of stems))
    → (revisions : List Revision) (g : ℕ) → IsPath revisions
    → option_map (λ other. other.generation) (slice_get revisions 0) ≡ Some g
    → length revisions ≡ g → (revision other : Revision) → last_in revisions ≡ Some revision
    → ¬ IsBrought stems other revision
nothing_first stems a legal revisions g f newest long revision other last b =
    first_ends (edits_in (branches_of stems)) legal revision
    (ends_first revisions g revision f newest long last) other
    (brought_behind stems a other revision b)

-- a path has a last place
pub last_place : (revisions : List Revision) → IsPath revisions
    → length revisions ≡ (length revisions - 1) + 1
last_place [] f = absurd f
last_place (revision ∷ revisions) f = omega arith

-- where the look behind the last revision finds no place, no revision stands behind that one
pub none_behind : (stems : List Stem) (maybe_place : Option Place) (b : Bool) (other revision : Revision)
    → is_some maybe_place ≡ not b
    → IsTrue b → other ≡ revision → IfNone maybe_place ((r : Revision) → ¬ IsBrought stems r other)
    → (r : Revision) → ¬ IsBrought stems r revision
none_behind stems None b other revision is none same free r i =
    free r (subst (λ v. IsBrought stems r v) (sym same) i)
none_behind stems (Some place) true other revision is none same free r i = absurd (cc)
none_behind stems (Some place) false other revision is none same free r i = absurd (cc)

-- the generations of a path fall by one a place
pub at_place : (revisions : List Revision) (n : ℕ) (revision other : Revision) → IsPath revisions
    → slice_get revisions 0 ≡ Some revision
    → slice_get revisions n ≡ Some other → n + other.generation ≡ revision.generation
at_place [] n revision other f h e = absurd f
at_place (y ∷ revisions) zero revision other f h e =
    let same : revision.generation ≡ other.generation =
    ap (λ (z : Revision). z.generation) (same_Some revision other (sym h ∙ e)) in
    omega (arith, same)
at_place (y ∷ []) (suc n) revision other f h e = absurd (cc)
at_place (y ∷ z ∷ revisions) (suc n) revision other f h e =
    let same : y.generation ≡ revision.generation = ap (λ (z : Revision). z.generation)
    (same_Some y revision h) in
    omega (arith, at_place (z ∷ revisions) n z other f.1 refl e, f.0, same)

-- a stem that brings a path
pub record Brings (stems : List Stem) (path : List Revision) (stem : Stem) : Type 0 where
  pub next : IsNextStem stems stem
  pub whole : (branch_of (chain_of (chains_of stems) stem)).path ≡ path

module _ (stems : List Stem) (a : AreStems stems) (legal : IsLegal (edits_in (branches_of stems)))
    (path : List Revision) (deleted : Bool) (body : List ℕ)
    (ok : IsAcceptable (edits_in (branches_of stems)) (nameless path deleted body)) where
  abbrev es : List Edit
  es = edits_in (branches_of stems)

  abbrev more : List Edit
  more = es ++ nameless path deleted body ∷ []

  old_step : (revision other : Revision) → IsBehind es [] other revision → IsBehind more [] other revision
  old_step revision other (e, (c, n), i) =
      (e, (Contains-append_left es (nameless path deleted body ∷ []) e c, n), i)

  new_step : (revision other : Revision) → IsNext path revision other → IsBehind more [] other revision
  new_step revision other i =
      (nameless path deleted body, (Contains-push es (nameless path deleted body), refl), i)

  -- the rest of the path is the front of the chain that it meets
  pub goes_on : (at : ℕ) (place : Place) → IsWithin stems place
      → slice_get path at ≡ rev_at stems (Some place)
      → length path - at ≤ length (chain_from (chains_of stems) (Some place))
      → take (length path - at) (chain_from (chains_of stems) (Some place)) ≡ drop at path
  goes_on at place w same low =
      let r = within_rev stems place w in
      let f = first_from stems place r.0 a r.1 in
      let d = dropped path at r.0 (same ∙ r.1) in
      let count : length path - at ≡ length (r.0 ∷ drop (suc at) path) =
      let l : length (drop at path) ≡ length (r.0 ∷ drop (suc at) path) = ap length d in
      omega (arith, l, length-drop at path) in
      let long : length (chain_from (chains_of stems) (Some place)) ≡ suc (length f.0) = ap length f.1 in
      ap₂ (λ (n : ℕ) (revisions : List Revision). take n revisions) count f.1
      ∙ agree_front r.0 (drop (suc at) path) f.0 (λ s t other n m.
      ok.agrees t other s
      (new_step s t (next_whole at path s t (subst (λ z. IsNext z s t) (sym d) n)))
      (old_step s other (from_steps stems a place w s other (subst (λ z. IsNext z s other) (sym f.1) m))))
      (omega (arith, low, count, long))
      ∙ sym d

  -- the path meets no chain with its first revision
  pub not_first : (at : ℕ) (place : Place) → IsWithin stems place
      → slice_get path at ≡ rev_at stems (Some place) → at ≢ 0
  not_first at place w same none =
      let r = within_rev stems place w in
      ok.new r.0 (first_of path r.0 (subst (λ z. slice_get path z ≡ Some r.0) none (same ∙ r.1)))
      (known_is es [] r.0 (place_known stems a place r.0 r.1))

  take_head : (n : ℕ) (revisions : List Revision) (revision : Revision)
      → slice_get (take n revisions) 0 ≡ Some revision → slice_get revisions 0 ≡ Some revision
  take_head zero revisions revision e = absurd (cc)
  take_head (suc n) [] revision e = absurd (cc)
  take_head (suc n) (other ∷ revisions) revision e = e

  module _ (at : ℕ) (place : Option Place) (behind : ℕ) (joins : Bool)
      (m : IsMeeting stems path at place behind joins) where
    pub some_kept : 1 ≤ at
    some_kept = from place refl
      where
        from : (o : Option Place) → place ≡ o → 1 ≤ at
        from None q =
            let whole = subst (λ o. IfNone o (at ≡ length path)) q m.none in
            omega (arith, whole, some_path path ok.history.falls)
        from (Some p) q =
            let no =
            not_first at p (subst (λ o. IfSome o (IsWithin stems)) q m.within)
            (subst (λ o. IfSome o (λ p. slice_get path at ≡ rev_at stems (Some p))) q m.same) in
            omega arith

    -- the chain has more revisions than the stem, where the stem stands on a place
    pub stands_low : (o : Option Place) (p : List Revision) (reach : ℕ) → o ≡ place → p ≡ take at path
        → reach ≡ at + behind → IfSome o (λ _. length p < reach)
    stands_low None p reach same own is = tt
    stands_low (Some q) p reach same own is =
        let w = subst (λ o. IfSome o (IsWithin stems)) (sym same) m.within in
        let r = within_rev stems q w in
        let low : at < length path =
        slice_get_within path at r.0
        (subst (λ o. IfSome o (λ p. slice_get path at ≡ rev_at stems (Some p))) (sym same) m.same ∙ r.1) in
        let size : length p ≡ at = ap length own ∙ length-take-le at path m.kept in
        omega (arith, size, low, m.rest, is)

    -- the stem's chain has no more revisions than the generation of its first
    pub reach_low : (x : Revision) → slice_get path 0 ≡ Some x → at + behind ≤ x.generation
    reach_low x head = from place refl
      where
        from : (o : Option Place) → place ≡ o → at + behind ≤ x.generation
        from None q =
            let none : behind ≡ 0 = m.long ∙ ap (λ o. length (chain_from (chains_of stems) o)) q in
            omega (arith, none, m.kept, within_generation path x ok.history head)
        from (Some p) q =
            let w = subst (λ o. IfSome o (IsWithin stems)) q m.within in
            let r = within_rev stems p w in
            let f = first_from stems p r.0 a r.1 in
            let here : slice_get path at ≡ Some r.0 =
            subst (λ o. IfSome o (λ p. slice_get path at ≡ rev_at stems (Some p))) q m.same ∙ r.1 in
            let falls =
            steps_fall es legal r.0 f.0 (known_is es [] r.0 (place_known stems a p r.0 r.1))
            (λ s t n. from_steps stems a p w s t (subst (λ z. IsNext z s t) (sym f.1) n)) in
            let long : behind ≡ length (r.0 ∷ f.0) =
            m.long ∙ ap (λ o. length (chain_from (chains_of stems) o)) q ∙ ap length f.1 in
            omega (
              arith,
              long,
              at_place path at x r.0 ok.history.falls head here,
              within_generation (r.0 ∷ f.0) r.0 (record { falls = falls }) refl,
            )

    whole_chain : (rest : List Revision) → rest ≡ chain_from (chains_of stems) place
        → take (length path) (take at path ++ rest) ≡ path
    whole_chain rest is =
        take_more (length path) (take at path) rest (omega (arith, m.kept, length-take-le at path m.kept))
        ∙ ap (λ n. take at path ++ take (length path - n) rest) (length-take-le at path m.kept)
        ∙ ap (λ z. take at path ++ z) (left place refl)
        ∙ take-append-drop at path
      where
        left : (o : Option Place) → place ≡ o → take (length path - at) rest ≡ drop at path
        left None q =
            let whole = subst (λ o. IfNone o (at ≡ length path)) q m.none in
            let none : rest ≡ [] = is ∙ ap (chain_from (chains_of stems)) q in
            ap₂ (λ (n : ℕ) (z : List Revision). take n z)
            (let z : length path - at ≡ 0 = omega (arith, whole) in z) none
            ∙ sym (drop_all_of at path whole)
          where
            drop_all_of : (n : ℕ) (p : List Revision) → n ≡ length p → drop n p ≡ []
            drop_all_of n [] e = drop_none n
              where
                drop_none : (n : ℕ) → ◌≡◌ {A = List Revision} (drop n []) []
                drop_none zero = refl
                drop_none (suc n) = refl
            drop_all_of zero (x ∷ p) e = absurd (cc)
            drop_all_of (suc n) (x ∷ p) e = drop_all_of n p (cc)
        left (Some p) q =
            ap (take (length path - at)) (is ∙ ap (chain_from (chains_of stems)) q)
            ∙ goes_on at p (subst (λ o. IfSome o (IsWithin stems)) q m.within)
            (subst (λ o. IfSome o (λ p. slice_get path at ≡ rev_at stems (Some p))) q m.same)
            (
            let l : length (chain_from (chains_of stems) place) ≡ length
            (chain_from (chains_of stems) (Some p)) =
            ap (λ o. length (chain_from (chains_of stems) o)) q in
            omega (arith, m.rest, m.long, l))

    -- the stem of the path brings the path
    pub met_brings : (s : Stem) → s.revisions ≡ take at path → s.parent ≡ place → s.count ≡ length path
        → s.reach ≡ at + behind → s.joins ≡ joins → Brings stems path s
    met_brings s own stands count reach joined = record {
      next = record {
        falling = rw own (take_falls at path (λ z. omega (arith, z, some_kept)) ok.history.falls);
        newest = λ r e. unknown r (take_head at path r (ap (λ z. slice_get z 0) (sym own) ∙ e));
        fresh = λ j. rw own (m.fresh (sym joined ∙ j));
        within = λ p e. subst (λ o. IfSome o (IsWithin stems)) (sym stands ∙ e) m.within;
        lower = λ p r x e h i.
            let there : slice_get path at ≡ Some r =
            subst (λ o. IfSome o (λ p. slice_get path at ≡ rev_at stems (Some p))) (sym stands ∙ e) m.same
            ∙ i in
            let first = take_head at path x (ap (λ z. slice_get z 0) (sym own) ∙ h) in
            omega (arith, at_place path at x r ok.history.falls first there, some_kept);
        counted = (
          omega (arith, size, count, m.kept),
          omega (arith, count, reach, m.rest, m.kept),
          λ p e. strict p (sym stands ∙ e),
        );
        reached =
            reach
            ∙ sym (length-append s.revisions (chain_from (chains_of stems) s.parent)
            ∙ ap₂ (λ (i : ℕ) (j : ℕ). i + j) size
            (ap (λ o. length (chain_from (chains_of stems) o)) stands ∙ sym m.long));
      };
      whole =
          ap₂ (λ (n : ℕ) (z : List Revision). take n z) count
          (ap (λ z. z ++ chain_from (chains_of stems) s.parent) own)
          ∙ whole_chain (chain_from (chains_of stems) s.parent) (ap (chain_from (chains_of stems)) stands);
    }
      where
        size : length s.revisions ≡ at
        size = ap length own ∙ length-take-le at path m.kept

        unknown : (r : Revision) → slice_get path 0 ≡ Some r → has_revision stems r ≡ false
        unknown r e = elim (cases_Bool (has_revision stems r)) [
          | inl t ↦
              absurd (ok.new r (first_of path r e)
              (known_is es [] r (known_by (branches_of stems) r ∙ (named_in stems a r ∙ t))))
          | inr t ↦ t
        ]

        strict : (p : Place) → place ≡ Some p → length s.revisions < s.count
        strict p q =
            let w = subst (λ o. IfSome o (IsWithin stems)) q m.within in
            let r = within_rev stems p w in
            let low : at < length path =
            slice_get_within path at r.0
            (subst (λ o. IfSome o (λ p. slice_get path at ≡ rev_at stems (Some p))) q m.same ∙ r.1) in
            omega (arith, size, count, low)

  pub brought_stems : (stem : Stem) → Brings stems path stem → AreStems (stems ++ stem ∷ [])
  brought_stems stem b = stems_more stems stem a b.next

  pub brought_edit : (stem : Stem) → Brings stems path stem
      → edits_in (branches_of (stems ++ stem ∷ [])) ≡ es ++ nameless path stem.deleted stem.body ∷ []
  brought_edit stem b =
      ap edits_in (one_stem_more stems stem)
      ∙ map-append edit_of (branches_of stems) (branch_of (chain_of (chains_of stems) stem) ∷ [])
      ∙ ap (λ p. es ++ nameless p stem.deleted stem.body ∷ []) b.whole

  -- where no revision stood behind the path's last, the path has all revisions behind its head
  module _ (s : Stem) (b : Brings stems path s) (mark : s.deleted ≡ deleted) (members : s.body ≡ body) where
    abbrev ys : List Stem
    ys = stems ++ s ∷ []

    later_is : edits_in (branches_of ys) ≡ more
    later_is = brought_edit s b ∙ ap₂ (λ (d : Bool) (m : List ℕ). es ++ nameless path d m ∷ []) mark members

    later_legal : IsLegal (edits_in (branches_of ys))
    later_legal = subst IsLegal (sym later_is) (legal_more es (nameless path deleted body) legal ok)

    -- the path's steps are steps of the edits, once its stem has come
    later_steps : (t r : Revision) → IsNext path t r → IsBehind (edits_in (branches_of ys)) [] r t
    later_steps t r n = subst (λ z. IsBehind z [] r t) (sym later_is) (new_step t r n)

    last_free : (z : Revision) → last_in path ≡ Some z
        → ((x r : Revision) → last_in path ≡ Some x → ¬ IsBrought stems r x) → (r : Revision)
        → ¬ IsBehind (edits_in (branches_of ys)) [] r z
    last_free z last ends r h = from (subst (λ v. IsBehind v [] r z) later_is h)
      where
        from : IsBehind more [] r z → ⊥
        from (e, (c, n), i) = elim (Contains-push_cases es (nameless path deleted body) e c) [
          | inl u ↦ ends z r last (behind_brought stems a r z (e, (u, n), i))
          | inr v ↦
              last_next path z r ok.history.falls last (subst (λ (w : Edit). IsNext w.path z r) (sym v) i)
        ]

    newest : newest_rev ys ≡ slice_get path 0
    newest =
        let last : length ys - 1 ≡ length stems = omega (arith, length-append stems (s ∷ [])) in
        ap (λ n. slice_get (revisions_at ys n) 0) last
        ∙ ap (λ o. slice_get (revisions_in o) 0) (get_last stems s)
        ∙ head s.revisions (chain_from (chains_of stems) s.parent) b.next.falling b.next.counted.0 b.whole
      where
        head : (p q : List Revision) → IsPath p → length p ≤ s.count → take s.count (p ++ q) ≡ path
            → slice_get p 0 ≡ slice_get path 0
        head [] q f low w = absurd f
        head (x ∷ p) q f low w = begin s.count low w
          where
            begin : (n : ℕ) → length (x ∷ p) ≤ n → take n (x ∷ (p ++ q)) ≡ path → Some x ≡ slice_get path 0
            begin zero low w = absurd (omega arith)
            begin (suc n) low w = ap (λ z. slice_get z 0) w

    pub brought_line : (line : Option (List (List ℕ)))
        → IfSome line (λ l. map encode_lower l ≡ map (λ r. r.hash) path)
        → ((x r : Revision) → last_in path ≡ Some x → ¬ IsBrought stems r x) → IsNewestLine line ys
    brought_line None h ends = tt
    brought_line (Some l) h ends = h ∙ ap (map (λ (r : Revision). r.hash)) (sym (from path refl))
      where
        from : (p : List Revision) → path ≡ p → line_to (edits_in (branches_of ys)) (newest_rev ys) ≡ path
        from [] q = absurd (subst IsPath q ok.history.falls)
        from (x ∷ p) q =
            let z = has_last x p in
            let last : last_in path ≡ Some z.0 = ap last_in q ∙ z.1 in
            let none = told_none (edits_in (branches_of ys)) later_legal z.0 (last_free z.0 last ends) in
            let known : IsKnown (edits_in (branches_of ys)) [] x =
            subst (λ v. IsKnown v [] x) (sym later_is) (
              nameless path deleted body,
              (Contains-push es (nameless path deleted body), refl),
              subst (λ v. Contains v x) (sym q) (0, omega arith, refl),
            ) in
            ap (line_to (edits_in (branches_of ys))) (newest ∙ ap (λ v. slice_get v 0) q)
            ∙ line_front (edits_in (branches_of ys)) later_legal x p known
            (λ t r n. later_steps t r (subst (λ v. IsNext v t r) (sym q) n)) z.0 z.1 None none
            ∙ append-nil (x ∷ p)
            ∙ sym q
