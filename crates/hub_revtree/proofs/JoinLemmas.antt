-- A revision stands behind another in the branches where a stem brought it so; where a path meets the stems.
use Rattle.std.proofs.Common.{◌≡◌, ℕ, zero, suc, ◌+◌, ◌<◌, List, [], ◌∷◌, ◌++◌, length, drop, take, append-nil}
use Rattle.std.proofs.Common.{true, false, ◌⊎◌, inl, inr, refl, sym, ap, ◌∙◌, subst, option_map, arith}
use Rattle.std.specs.Prelude.{Option, Some, None, IfSome, IfNone, is_some, slice_get, Contains}
use Rattle.std.proofs.lemmas.List.{length-append, length-drop}
use Rattle.std.proofs.lemmas.Option.{get_or_from_slice_get, same_Some, slice_get-map}
use Rattle.std.proofs.lemmas.Option.{slice_get_read, slice_get_within}
use Rattle.hub_model.specs.Revision.{Revision}
use Rattle.hub_model.specs.Path.{IsFirst, IsNext, names}
use Rattle.hub_model.specs.Journal.{Edit, Edits, IsBehind, IsLegal, edits_of, is_known}
use Rattle.hub_model.specs.Walk.{behind_in}
use Rattle.hub_model.proofs.Tests.{edits_in as edits_in_of, known_is}
use Rattle.hub_document.proofs.PlaceLemmas.{named}
use Rattle.hub_revtree.specs.declared.stem.Place.{Place}
use Rattle.hub_revtree.specs.Branch.{Branch, edit_of, edits_in}
use Rattle.hub_revtree.specs.Common.{last_in}
use Rattle.hub_revtree.specs.Extend.{line_to}
use Rattle.hub_revtree.specs.Stem.{Stem, AreStems, IsBrought, IsFound, IsWithin, branch_of, branches_of}
use Rattle.hub_revtree.specs.Stem.{chain_from, chain_of, chains_of, has_revision, one_of}
use Rattle.hub_revtree.specs.Stem.{own_from, own_path, rev_at, revisions_at, revisions_in, whole_in}
use Rattle.hub_revtree.proofs.LineLemmas.{first_ends, has_last, last_down, line_front}
use Rattle.hub_revtree.proofs.LineLemmas.{steps_fall, told_is, told_none}
use Rattle.hub_revtree.proofs.RunLemmas.{dropped_one, get_some}
use Rattle.hub_revtree.proofs.StemLemmas.{any_at, as_many, chained_at, first_from, named_in}
use Rattle.hub_revtree.proofs.StemLemmas.{own_front, rest_at, rev_within, shown_at, within_rev, within_stem}
use Rattle.hub_revtree.proofs.TreeLemmas.{all_of_one, in_tree, known_by}

-- an element at a place
pub there : {A : Type 0} (xs : List A) (k : ℕ) (x : A) → slice_get xs k ≡ Some x → Contains xs x
there xs k x e = (k, slice_get_within xs k x e, get_or_from_slice_get xs k x x e)

pub place_in : {A : Type 0} (xs : List A) (x : A) → Contains xs x → (k : ℕ) × (slice_get xs k ≡ Some x)
place_in xs x (k, low, e) = (k, slice_get_read xs _ k x refl low (sym e))

-- steps of parts of a list
pub next_whole : (n : ℕ) (revisions : List Revision) (revision other : Revision)
    → IsNext (drop n revisions) revision other → IsNext revisions revision other
next_whole zero revisions revision other i = i
next_whole (suc n) [] revision other i = absurd i
next_whole (suc n) (x ∷ revisions) revision other i = inr (next_whole n revisions revision other i)

first_taken : (n : ℕ) (revisions : List Revision) (revision : Revision) → IsFirst (take n revisions) revision
    → IsFirst revisions revision
first_taken zero revisions revision i = absurd i
first_taken (suc n) [] revision i = absurd i
first_taken (suc n) (other ∷ revisions) revision i = i

pub next_taken : (n : ℕ) (revisions : List Revision) (revision other : Revision)
    → IsNext (take n revisions) revision other → IsNext revisions revision other
next_taken zero revisions revision other i = absurd i
next_taken (suc n) [] revision other i = absurd i
next_taken (suc n) (x ∷ revisions) revision other (inl i) = inl (i.0, first_taken n revisions other i.1)
next_taken (suc n) (x ∷ revisions) revision other (inr i) = inr (next_taken n revisions revision other i)

first_more : (others revisions : List Revision) (revision : Revision) → IsFirst others revision
    → IsFirst (others ++ revisions) revision
first_more [] revisions revision i = absurd i
first_more (other ∷ others) revisions revision i = i

pub next_more : (others revisions : List Revision) (revision other : Revision) → IsNext others revision other
    → IsNext (others ++ revisions) revision other
next_more [] revisions revision other i = absurd i
next_more (x ∷ others) revisions revision other (inl i) = inl (i.0, first_more others revisions other i.1)
next_more (x ∷ others) revisions revision other (inr i) = inr (next_more others revisions revision other i)

-- a step of two lists is one of the first list and the second's first, or one of the second list
pub next_parts : (others revisions : List Revision) (revision other : Revision)
    → IsNext (others ++ revisions) revision other
    → IsNext (others ++ take 1 revisions) revision other ⊎ IsNext revisions revision other
next_parts [] revisions revision other i = inr i
next_parts (x ∷ []) [] revision other i = inl i
next_parts (x ∷ []) (y ∷ revisions) revision other (inl i) = inl (inl i)
next_parts (x ∷ []) (y ∷ revisions) revision other (inr i) = inr i
next_parts (x ∷ y ∷ others) revisions revision other (inl i) = inl (inl i)
next_parts (x ∷ y ∷ others) revisions revision other (inr i) =
    elim (next_parts (y ∷ others) revisions revision other i) [
      | inl j ↦ inl (inr j)
      | inr j ↦ inr j
    ]

-- the last of the rest of a list is the last of the list
pub last_left : (n : ℕ) (revisions : List Revision) → n < length revisions
    → last_in (drop n revisions) ≡ last_in revisions
last_left zero revisions low = refl
last_left (suc n) [] low = absurd (omega arith)
last_left (suc n) (revision ∷ []) low = absurd (omega arith)
last_left (suc n) (revision ∷ other ∷ revisions) low = last_left n (other ∷ revisions) (omega arith)

pub last_append : (others : List Revision) (revision : Revision) (revisions : List Revision)
    → last_in (others ++ revision ∷ revisions) ≡ last_in (revision ∷ revisions)
last_append [] revision revisions = refl
last_append (other ∷ []) revision revisions = refl
last_append (other ∷ z ∷ others) revision revisions = last_append (z ∷ others) revision revisions

-- a look finds a place of a revision where a stem has it, and only there
pub is_placed : (stems : List Stem) (revision : Revision) (maybe_place : Option Place)
    → IsFound stems revision maybe_place → is_some maybe_place ≡ has_revision stems revision
is_placed stems revision None f = sym f.none
is_placed stems revision (Some place) f =
    let i =
    within_stem stems place (slice_get_within (revisions_at stems place.stem) place.at revision f.found) in
    sym (any_at (λ s. names s.revisions revision) stems place.stem i.0 i.1
    (named i.0.revisions place.at revision (rw i.1 at f.found)))

module _ (stems : List Stem) (a : AreStems stems) where
  abbrev bs : List Branch
  bs = branches_of stems

  -- a branch is an edit of the document
  own_edit : (edits : List Edit) → edits_of edits [] ≡ edits → (edit : Edit) → Contains edits edit
      → Edits edits [] edit
  own_edit edits one edit c = edits_in_of edits [] edit (subst (λ z. Contains z edit) (sym one) c)

  pub own : (k : ℕ) (branch : Branch) → slice_get bs k ≡ Some branch → Edits (edits_in bs) [] (edit_of branch)
  own k branch e =
      own_edit (edits_in bs) (all_of_one bs) (edit_of branch)
      (in_tree bs (record { generation = 0; hash = [] }) bs branch (there bs k branch e))

  -- a revision that a stem brought behind another stands so in the stem's branch
  pub brought_behind : (revision other : Revision) → IsBrought stems revision other
      → IsBehind (edits_in bs) [] revision other
  brought_behind revision other (k, stem, e, n) =
      let f = own_front stems a k stem e in
      let b = branch_of (chain_of (chains_of stems) stem) in (
        edit_of b,
        own k b (shown_at stems a k stem e),
        subst (λ z. IsNext z other revision) (sym f.1) (next_more (own_path stems stem) f.0 other revision n),
      )

  one_first : (maybe_place : Option Place)
      → ((place : Place) → maybe_place ≡ Some place → IsWithin stems place)
      → one_of (rev_at stems maybe_place) ≡ take 1 (chain_from (chains_of stems) maybe_place)
  one_first None w = refl
  one_first (Some place) w =
      let r = within_rev stems place (w place refl) in
      let f = first_from stems place r.0 a r.1 in
      ap one_of r.1 ∙ ap (take 1) (sym f.1)

  -- a revision that stands behind another in a chain was brought so by a stem
  pub chain_brought : (n k : ℕ) (stem : Stem) → k < n → slice_get stems k ≡ Some stem
      → (revision other : Revision)
      → IsNext (chain_of (chains_of stems) stem).whole other revision → IsBrought stems revision other
  chain_brought zero k stem low e revision other i = absurd (omega arith)
  chain_brought (suc n) k stem low e revision other i =
      elim (next_parts stem.revisions (chain_from (chains_of stems) stem.parent) other revision i) [
        | inl j ↦ (
          k,
          stem,
          e,
          subst (λ z. IsNext (stem.revisions ++ z) other revision)
              (sym (one_first stem.parent (λ p q. (a.earlier k stem p e q).1))) j,
        )
        | inr j ↦ further (chain_brought n) stem.parent refl j
      ]
    where
      further : ((j : ℕ) (t : Stem) → j < n → slice_get stems j ≡ Some t → (revision other : Revision)
          → IsNext (chain_of (chains_of stems) t).whole other revision → IsBrought stems revision other)
          → (maybe_place : Option Place) → stem.parent ≡ maybe_place
          → IsNext (chain_from (chains_of stems) maybe_place) other revision → IsBrought stems revision other
      further ih None q j = absurd j
      further ih (Some p) q j =
          let before = a.earlier k stem p e q in
          let i = within_stem stems p before.1 in
          ih p.stem i.0 (omega (arith, before.0, low)) i.1 revision other
          (subst (λ maybe_place. IsNext (whole_in maybe_place) other revision)
          (chained_at stems a p.stem i.0 i.1)
          (next_whole p.at (whole_in (slice_get (chains_of stems) p.stem)) other revision j))

  pub from_branch : (edit : Edit) → Contains (edits_in bs) edit
      → (k : ℕ) × (branch : Branch) × (slice_get bs k ≡ Some branch) × (edit_of branch ≡ edit)
  from_branch edit c =
      let i = place_in (edits_in bs) edit c in
      from i.0 (slice_get bs i.0) refl (sym (slice_get-map edit_of bs i.0) ∙ i.1)
    where
      from : (k : ℕ) (maybe_branch : Option Branch) → slice_get bs k ≡ maybe_branch
          → option_map edit_of maybe_branch ≡ Some edit
          → (k : ℕ) × (branch : Branch) × (slice_get bs k ≡ Some branch) × (edit_of branch ≡ edit)
      from k None q h = absurd (cc)
      from k (Some branch) q h = (k, branch, q, same_Some (edit_of branch) edit h)

  -- so a revision that stands directly behind another was brought so by a stem
  pub behind_brought : (revision other : Revision) → IsBehind (edits_in bs) [] revision other
      → IsBrought stems revision other
  behind_brought revision other (e, own, n) =
      let i = from_branch e own.0 in
      let low = slice_get_within bs i.0 i.1 i.2 in
      let t = get_some stems i.0 (omega (arith, low, as_many stems)) in
      let same : branch_of (chain_of (chains_of stems) t.0) ≡ i.1 =
      same_Some _ i.1 (sym (shown_at stems a i.0 t.0 t.1) ∙ i.2) in
      let path : e.path ≡ take t.0.count (chain_of (chains_of stems) t.0).whole =
      ap (λ (z : Edit). z.path) (sym i.3) ∙ ap (λ (z : Branch). z.path) (sym same) in
      chain_brought (i.0 + 1) i.0 t.0 (omega arith) t.1 revision other
      (next_taken t.0.count (chain_of (chains_of stems) t.0).whole other revision
      (subst (λ z. IsNext z other revision) path n))

  -- a revision at a place is known
  pub place_known : (place : Place) (revision : Revision) → rev_at stems (Some place) ≡ Some revision
      → is_known (edits_in bs) [] revision ≡ true
  place_known place revision placed =
      let i = within_stem stems place (rev_within stems place revision placed) in
      known_by bs revision
      ∙ (named_in stems a revision
      ∙ any_at (λ s. names s.revisions revision) stems place.stem i.0 i.1
      (named i.0.revisions place.at revision (rw i.1 at placed)))

  -- the steps of a chain from a place on are steps of the edits
  pub from_steps : (place : Place) → IsWithin stems place → (revision other : Revision)
      → IsNext (chain_from (chains_of stems) (Some place)) revision other
      → IsBehind (edits_in bs) [] other revision
  from_steps place w revision other n =
      let i = within_stem stems place w in
      brought_behind other revision
      (chain_brought (place.stem + 1) place.stem i.0 (omega arith) i.1 other revision
      (subst (λ o. IsNext (whole_in o) revision other) (chained_at stems a place.stem i.0 i.1)
      (next_whole place.at (whole_in (slice_get (chains_of stems) place.stem)) revision other n)))

  -- the steps of a stem from a place on
  pub own_steps : (place : Place) → IsWithin stems place → (revision other : Revision)
      → IsNext (own_from stems place) revision other → IsBehind (edits_in bs) [] other revision
  own_steps place w revision other n =
      let i = within_stem stems place w in
      let rest = chain_from (chains_of stems) i.0.parent in
      from_steps place w revision other
      (subst (λ z. IsNext z revision other) (sym (rest_at stems place i.0 a i.1 w))
      (next_more (drop place.at i.0.revisions) rest revision other
      (subst (λ o. IsNext (drop place.at (revisions_in o)) revision other) i.1 n)))

  -- no revision stands behind an unknown one
  pub no_line : (revision : Revision) → has_revision stems revision ≡ false
      → line_to (edits_in bs) (Some revision) ≡ []
  no_line revision f =
      let unknown : is_known (edits_in bs) [] revision ≡ false = known_by bs revision
      ∙ (named_in stems a revision ∙ f) in
      rw unknown refl

  module _ (legal : IsLegal (edits_in bs)) where
    -- the revision that a stem brought behind another is the one directly behind it
    pub told_at : (s r : Revision) → IsBrought stems r s → behind_in s (edits_in bs) ≡ Some r
    told_at s r b =
        ap (behind_in s) (sym (all_of_one bs)) ∙ told_is (edits_in bs) legal s r (brought_behind r s b)

    pub none_told_at : (s : Revision) → ((r : Revision) → ¬ IsBrought stems r s)
        → behind_in s (edits_in bs) ≡ None
    none_told_at s none =
        ap (behind_in s) (sym (all_of_one bs))
        ∙ told_none (edits_in bs) legal s (λ r b. none r (behind_brought r s b))

    -- a look behind a revision finds the one directly behind it
    pub found_behind : (z : Revision) (o : Option Place)
        → IfSome o (λ p. IsWithin stems p
        × ((r : Revision) → rev_at stems (Some p) ≡ Some r → IsBrought stems r z))
        → IfNone o ((r : Revision) → ¬ IsBrought stems r z) → rev_at stems o ≡ behind_in z (edits_in bs)
    found_behind z None found none = sym (none_told_at z none)
    found_behind z (Some p) found none =
        let r = within_rev stems p found.0 in r.1 ∙ sym (told_at z r.0 (found.1 r.0 r.1))

    -- the line of a place's revision begins with a list of steps, and goes on with the line of the revision
    -- behind the last of these
    steps_line : (p : Place) (r : Revision) → rev_at stems (Some p) ≡ Some r → (own rest : List Revision)
        → own ≡ r ∷ rest
        → ((s t : Revision) → IsNext own s t → IsBehind (edits_in bs) [] t s) → (o : Option Place)
        → ((x : Revision) → last_in own ≡ Some x → rev_at stems o ≡ behind_in x (edits_in bs))
        → line_to (edits_in bs) (Some r) ≡ own ++ line_to (edits_in bs) (rev_at stems o)
    steps_line p r placed own rest is steps o behind =
        let z = has_last r rest in
        let told = behind z.0 (ap last_in is ∙ z.1) in
        line_front (edits_in bs) legal r rest (known_is (edits_in bs) [] r (place_known p r placed))
        (λ s t n. steps s t (subst (λ z. IsNext z s t) (sym is) n))
        z.0 z.1 (rev_at stems o) (ap (behind_in z.0) (all_of_one bs) ∙ sym told)
        ∙ ap (λ q. q ++ line_to (edits_in bs) (rev_at stems o)) (sym is)

    -- a chain with as many revisions as its newest's generation ends with generation 1
    pub chain_ends : (k : ℕ) (stem : Stem) (g : ℕ) → slice_get stems k ≡ Some stem
        → option_map (λ r. r.generation) (slice_get stem.revisions 0) ≡ Some g
        → g ≡ stem.reach → (n : ℕ) → n < length stem.revisions → (x : Revision)
        → last_in (drop n (whole_in (slice_get (chains_of stems) k))) ≡ Some x → (r : Revision)
        → ¬ IsBehind (edits_in bs) [] r x
    chain_ends k stem g e newest long n low x last =
        from (chain_of (chains_of stems) stem).whole refl
      where
        same : slice_get (chains_of stems) k ≡ Some (chain_of (chains_of stems) stem)
        same = chained_at stems a k stem e

        from : (w : List Revision) → (chain_of (chains_of stems) stem).whole ≡ w → (r : Revision)
            → ¬ IsBehind (edits_in bs) [] r x
        from [] q =
            absurd (
            let no : length (stem.revisions ++ chain_from (chains_of stems) stem.parent) ≡ 0 = ap length q in
            omega (arith, no, length-append stem.revisions (chain_from (chains_of stems) stem.parent), low))
        from (y ∷ w) q =
            let head = first_of stem.revisions (chain_from (chains_of stems) stem.parent) y w q newest in
            let place : Place = record { stem = k; at = 0 } in
            let here : rev_at stems (Some place) ≡ Some y = ap (λ o. slice_get (revisions_in o) 0) e
            ∙ head.0 in
            let whole : chain_from (chains_of stems) (Some place) ≡ y ∷ w = ap whole_in same ∙ q in
            let falls =
            steps_fall (edits_in bs) legal y w (known_is (edits_in bs) [] y (place_known place y here))
            (λ s t m.
            from_steps place (rev_within stems place y here) s t (subst (λ z. IsNext z s t) (sym whole) m)) in
            let size : stem.reach ≡ length (y ∷ w) =
            a.reached k stem e ∙ ap (λ o. length (whole_in o)) same ∙ ap length q in
            let rest : n < length (y ∷ w) =
            let l : length (stem.revisions ++ chain_from (chains_of stems) stem.parent) ≡ length (y ∷ w) =
            ap length q in
            omega (arith, l, length-append stem.revisions (chain_from (chains_of stems) stem.parent), low) in
            let ends : last_in (y ∷ w) ≡ Some x =
            sym (last_left n (y ∷ w) rest)
            ∙ ap (λ z. last_in (drop n z)) (sym (ap whole_in same ∙ q))
            ∙ last in
            let down = last_down y w x falls ends in
            first_ends (edits_in bs) legal x (omega (arith, down, size, long, head.1))
          where
            first_of : (p q : List Revision) (y : Revision) (w : List Revision)
                → p ++ q ≡ y ∷ w → option_map (λ r. r.generation) (slice_get p 0) ≡ Some g
                → (slice_get p 0 ≡ Some y) × (y.generation ≡ g)
            first_of [] q y w e h = absurd (cc)
            first_of (z ∷ p) q y w e h =
                let same : z ≡ y = cc in
                (ap Some same, ap (λ (v : Revision). v.generation) (sym same) ∙ same_Some z.generation g h)

    -- no revision stands behind a chain that ends with generation 1
    pub nothing_beyond : (p : Place) (stem : Stem) (g : ℕ) → slice_get stems p.stem ≡ Some stem
        → IsWithin stems p → option_map (λ r. r.generation) (slice_get stem.revisions 0) ≡ Some g
        → g ≡ stem.reach → (x : Revision) → last_in (chain_from (chains_of stems) (Some p)) ≡ Some x
        → rev_at stems None ≡ behind_in x (edits_in bs)
    nothing_beyond p stem g e w newest long x last =
        let i = within_stem stems p w in
        let low : p.at < length stem.revisions =
        let same : length i.0.revisions ≡ length stem.revisions =
        ap (λ (z : Stem). length z.revisions) (same_Some i.0 stem (sym i.1 ∙ e)) in
        omega (arith, i.2, same) in
        sym (ap (behind_in x) (sym (all_of_one bs))
        ∙ told_none (edits_in bs) legal x (chain_ends p.stem stem g e newest long p.at low x last))

    -- where the whole chain ends with generation 1, the line is the chain from the place on
    pub chain_long : (o : Option Place) (p : Place) → o ≡ Some p → (stem : Stem) (g : ℕ)
        → slice_get stems p.stem ≡ Some stem → IsWithin stems p
        → option_map (λ r. r.generation) (slice_get stem.revisions 0) ≡ Some g → g ≡ stem.reach
        → length (line_to (edits_in bs) (rev_at stems o)) ≡ length (chain_from (chains_of stems) (Some p))
    chain_long o p is stem g e w newest long =
        let r = within_rev stems p w in
        let f = first_from stems p r.0 a r.1 in
        let chain = chain_from (chains_of stems) (Some p) in
        ap (λ z. length (line_to (edits_in bs) (rev_at stems z))) is
        ∙ ap (λ z. length (line_to (edits_in bs) z)) r.1
        ∙ ap length (steps_line p r.0 r.1 chain f.0 f.1 (from_steps p w) None
        (nothing_beyond p stem g e w newest long))
        ∙ ap length (append-nil chain)

    -- a walk goes on behind the revisions that a stem has from a place on
    module _ (o after : Option Place) (p : Place) (is : o ≡ Some p) (w : IsWithin stems p)
        (behind : (x : Revision) → last_in (own_from stems p) ≡ Some x
        → rev_at stems after ≡ behind_in x (edits_in bs)) where
      pub walk_step : line_to (edits_in bs) (rev_at stems o)
          ≡ own_from stems p ++ line_to (edits_in bs) (rev_at stems after)
      walk_step =
          let r = within_rev stems p w in
          ap (λ z. line_to (edits_in bs) (rev_at stems z)) is
          ∙ ap (line_to (edits_in bs)) r.1
          ∙ steps_line p r.0 r.1 (own_from stems p) _ (dropped_one (revisions_at stems p.stem) p.at r.0 r.1)
          (own_steps p w) after behind

      -- the length of the line is that of these revisions and of the line behind them
      pub walk_long : length (line_to (edits_in bs) (rev_at stems o))
          ≡ length (own_from stems p) + length (line_to (edits_in bs) (rev_at stems after))
      walk_long =
          ap length walk_step
          ∙ length-append (own_from stems p) (line_to (edits_in bs) (rev_at stems after))

      pub walk_less : length (line_to (edits_in bs) (rev_at stems after))
          < length (line_to (edits_in bs) (rev_at stems o))
      walk_less = omega (arith, walk_long, length-drop p.at (revisions_at stems p.stem), w)
