-- Walks along the stems of the stored edits.
use Rattle.std.proofs.Common.{◌≡◌, ℕ, suc, ◌+◌, ◌<◌, ◌≤◌, List, [], ◌∷◌, ◌++◌, length, drop}
use Rattle.std.proofs.Common.{refl, sym, ap, ◌∙◌, subst, option_map, arith}
use Rattle.std.specs.Prelude.{Bool, Option, Some, None, IfSome, slice_get}
use Rattle.std.specs.List.{list_all}
use Rattle.hub_model.specs.Revision.{Revision}
use Rattle.hub_model.specs.Journal.{IsLegal}
use Rattle.hub_model.specs.Path.{is_consistent}
use Rattle.hub_model.specs.Walk.{behind_in}
use Rattle.hub_revtree.specs.declared.stem.Place.{Place}
use Rattle.hub_revtree.specs.Branch.{Branch, edits_in}
use Rattle.hub_revtree.specs.Common.{common, last_in}
use Rattle.hub_revtree.specs.Extend.{line_to}
use Rattle.hub_revtree.specs.Mark.{AreMarked, AreStemsOf}
use Rattle.hub_revtree.specs.Stem.{Stem, Storage, AreStems, IsAfter, IsBrought, IsFound, IsFoundBehind}
use Rattle.hub_revtree.specs.Stem.{IsWithin, branches_of, chain_from, chains_of, own_from, rev_at}
use Rattle.hub_revtree.specs.Stem.{revisions_in}
use Rattle.hub_revtree.proofs.JoinLemmas.{chain_long, found_behind, last_left, no_line, walk_less, walk_long}
use Rattle.hub_revtree.proofs.JoinLemmas.{walk_step}
use Rattle.hub_revtree.proofs.LineLemmas.{has_last, line_short}
use Rattle.hub_revtree.proofs.StemLemmas.{rev_within}
use Rattle.hub_revtree.proofs.StemLooks.{stored}
use Rattle.hub_revtree.proofs.StepLemmas.{parent_brought}

-- the invariant of the stored edits, by the stems
pub stored_by : {U I C : Type 0} (stems : List Stem) (spare : ℕ) (s : Storage) → stored stems spare ≡ s
    → AreStems stems × U × I × AreMarked stems × C × IsLegal (edits_in (branches_of stems))
    → AreStemsOf s.stems s.list
stored_by stems spare s is a =
    subst (λ (z : Storage). AreStemsOf z.stems z.list) is
    (record { stems = a.0; marked = a.3; shown = refl; legal = a.5 })

-- the place of the last of some revisions
last_get : (revisions : List Revision) (x : Revision) → last_in revisions ≡ Some x
    → (n : ℕ) × (slice_get revisions n ≡ Some x) × (length revisions ≤ n + 1)
last_get [] x e = absurd (cc)
last_get (revision ∷ []) x e = (0, e, omega arith)
last_get (revision ∷ other ∷ revisions) x e =
    let i = last_get (other ∷ revisions) x e in (suc i.0, i.1, omega (arith, i.2))

module _ (s : Storage) (k : AreStemsOf s.stems s.list) where
  pub legal_in : IsLegal (edits_in (branches_of s.stems))
  legal_in = subst (λ bs. IsLegal (edits_in bs)) (sym k.shown) k.legal

  -- a walk begins where the look found the revision
  pub line_begins : (rev : Revision) (o : Option Place) → IsFound s.stems rev o
      → line_to (edits_in s.list) (rev_at s.stems o) ≡ line_to (edits_in s.list) (Some rev)
  line_begins rev None f =
      sym (subst (λ bs. line_to (edits_in bs) (Some rev) ≡ []) k.shown (no_line s.stems k.stems rev f.none))
  line_begins rev (Some p) f = ap (line_to (edits_in s.list)) f.found

  pub begins_within : (rev : Revision) (o : Option Place) → IsFound s.stems rev o
      → IfSome o (IsWithin s.stems)
  begins_within rev None f = tt
  begins_within rev (Some p) f = rev_within s.stems p rev f.found

  pub few_in : (rev : Revision) → length (line_to (edits_in s.list) (Some rev)) ≤ rev.generation
  few_in rev = line_short (edits_in s.list) rev k.legal

  -- the revision behind a stem's last, and whether a path agrees with all, by the stems
  pub told_in : (after : Option Place) (p : Place) → IsAfter s p after
      → (x : Revision) → last_in (own_from s.stems p) ≡ Some x
      → rev_at s.stems after ≡ behind_in x (edits_in (branches_of s.stems))
  told_in after p goes x last = goes.behind x last ∙ ap (λ bs. behind_in x (edits_in bs)) (sym k.shown)

  pub agrees_shown : (path revisions : List Revision) (b : Bool) → revisions ≡ path
      → b ≡ list_all (λ branch. is_consistent revisions branch.path) (branches_of s.stems)
      → b ≡ list_all (λ branch. is_consistent path branch.path) s.list
  agrees_shown path revisions b same e =
      subst (λ bs. b ≡ list_all (λ (branch : Branch). is_consistent path branch.path) bs) k.shown
      (subst (λ p. b ≡ list_all (λ (branch : Branch). is_consistent p branch.path) (branches_of s.stems)) same e)

  -- the revision behind the last of a stem's own revisions
  module _ (p : Place) (w : IsWithin s.stems p) (stem : Stem) (e : slice_get s.stems p.stem ≡ Some stem) where
    pub own_is : own_from s.stems p ≡ drop p.at stem.revisions
    own_is = ap (λ o. drop p.at (revisions_in o)) e

    pub common_own : (revisions : List Revision) (result : Option ℕ)
        → result ≡ common revisions (drop p.at stem.revisions) → common revisions (own_from s.stems p) ≡ result
    common_own revisions result is = ap (λ z. common revisions z) own_is ∙ sym is

    pub low : p.at < length stem.revisions
    low = rw e at w

    own_last : (x : Revision) → last_in (own_from s.stems p) ≡ Some x → last_in stem.revisions ≡ Some x
    own_last x last = sym (last_left p.at stem.revisions low) ∙ (sym (ap last_in own_is) ∙ last)

    pub after_parent : (q : Place) → stem.parent ≡ Some q → (x : Revision)
        → last_in (own_from s.stems p) ≡ Some x → rev_at s.stems (Some q) ≡ behind_in x (edits_in s.list)
    after_parent q is x last =
        let l = last_get stem.revisions x (own_last x last) in
        let found =
        subst (λ o. IfSome o (λ p. IsWithin s.stems p
        × ((r : Revision) → rev_at s.stems (Some p) ≡ Some r → IsBrought s.stems r x))) is
        (parent_brought s.stems k.stems p.stem stem e x l.0 l.1 l.2) in
        found_behind s.stems k.stems legal_in x (Some q) found tt
        ∙ ap (λ bs. behind_in x (edits_in bs)) k.shown

    module _ (o : Option Place)
        (found : (x : Revision) → last_in stem.revisions ≡ Some x → IsFoundBehind s.stems x o) where
      pub after_found : (x : Revision) → last_in (own_from s.stems p) ≡ Some x
          → rev_at s.stems o ≡ behind_in x (edits_in s.list)
      after_found x last =
          let f = found x (own_last x last) in
          found_behind s.stems k.stems legal_in x o f.place f.none
          ∙ ap (λ bs. behind_in x (edits_in bs)) k.shown

      pub found_within : IfSome o (IsWithin s.stems)
      found_within = from stem.revisions refl o refl
        where
          from : (revisions : List Revision) → stem.revisions ≡ revisions → (maybe_place : Option Place)
              → o ≡ maybe_place → IfSome maybe_place (IsWithin s.stems)
          from revisions h None q = tt
          from [] h (Some place) q =
              absurd (let none : length stem.revisions ≡ 0 = ap length h in omega (arith, low, none))
          from (revision ∷ revisions) h (Some place) q =
              let z = has_last revision revisions in
              let f = subst (IsFoundBehind s.stems z.0) q (found z.0 (ap last_in h ∙ z.1)) in
              f.place.0

    -- where the whole chain ends with generation 1, the line is as long as the chain from the place on
    pub whole_long : (o : Option Place) (g : ℕ) → o ≡ Some p
        → option_map (λ r. r.generation) (slice_get stem.revisions 0) ≡ Some g → g ≡ stem.reach
        → length (line_to (edits_in s.list) (rev_at s.stems o))
        ≡ length (chain_from (chains_of s.stems) (Some p))
    whole_long o g is newest reach =
        subst (λ bs. length (line_to (edits_in bs) (rev_at s.stems o))
        ≡ length (chain_from (chains_of s.stems) (Some p))) k.shown
        (chain_long s.stems k.stems legal_in o p is stem g e w newest reach)

  -- a step of the walk
  module _ (o after : Option Place) (p : Place) (is : o ≡ Some p) (w : IsWithin s.stems p)
      (goes : IsAfter s p after) where
    pub line_step : line_to (edits_in s.list) (rev_at s.stems o)
        ≡ own_from s.stems p ++ line_to (edits_in s.list) (rev_at s.stems after)
    line_step =
        subst (λ bs. line_to (edits_in bs) (rev_at s.stems o)
        ≡ own_from s.stems p ++ line_to (edits_in bs) (rev_at s.stems after)) k.shown
        (walk_step s.stems k.stems legal_in o after p is w (told_in after p goes))

    pub line_less : length (line_to (edits_in s.list) (rev_at s.stems after))
        < length (line_to (edits_in s.list) (rev_at s.stems o))
    line_less =
        subst (λ bs. length (line_to (edits_in bs) (rev_at s.stems after))
        < length (line_to (edits_in bs) (rev_at s.stems o))) k.shown
        (walk_less s.stems k.stems legal_in o after p is w (told_in after p goes))

    pub line_long : length (line_to (edits_in s.list) (rev_at s.stems o))
        ≡ length (own_from s.stems p) + length (line_to (edits_in s.list) (rev_at s.stems after))
    line_long =
        subst (λ bs. length (line_to (edits_in bs) (rev_at s.stems o))
        ≡ length (own_from s.stems p) + length (line_to (edits_in bs) (rev_at s.stems after))) k.shown
        (walk_long s.stems k.stems legal_in o after p is w (told_in after p goes))
