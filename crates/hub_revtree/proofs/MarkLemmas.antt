-- The notes of stems change nothing else of them, and stay right as one stem more comes.
use Rattle.std.proofs.Common.{◌≡◌, ◌≢◌, ℕ, zero, suc, ◌+◌, ◌-◌, ◌<◌, ◌≤◌, List, [], ◌∷◌}
use Rattle.std.proofs.Common.{◌++◌, length, drop, take, map, Bool, true, false, ◌⊎◌}
use Rattle.std.proofs.Common.{inl, inr, refl, sym, ap, ap₂, ◌∙◌, subst, ◌||◌, arith}
use Rattle.std.specs.Prelude.{Option, Some, None, IfSome, IsSome, not, ◌&&◌, slice_get}
use Rattle.std.specs.Prelude.{slice_set, find, option_and_then, nat_eq, nat_lt}
use Rattle.std.specs.List.{list_any}
use Rattle.std.proofs.lemmas.Bool.{both_ways, cases_Bool, eqb-false, eqb-true, ltb-false, ltb-true}
use Rattle.std.proofs.lemmas.List.{drop_all, length-append, length-map, map-append, take-map}
use Rattle.std.proofs.lemmas.List.Folds.{list_any-append}
use Rattle.std.proofs.lemmas.Option.{same_Some, slice_get_read, slice_get_within}
use Rattle.std.proofs.Math.Seq.{take-append_seam}
use Rattle.hub_model.specs.Revision.{Revision, is_same}
use Rattle.hub_model.specs.Path.{IsPath, names, is_first}
use Rattle.hub_model.specs.Leaves.{is_behind_head}
use Rattle.hub_model.proofs.Shown.{find_is}
use Rattle.hub_model.proofs.Tests.{or_left, or_right, same_self}
use Rattle.hub_revtree.specs.declared.stem.Place.{Place}
use Rattle.hub_revtree.specs.declared.index.Index.{Index}
use Rattle.hub_revtree.specs.declared.leaf.Winner.{Winner}
use Rattle.hub_revtree.specs.Branch.{Branch, edit_of, edits_in}
use Rattle.hub_revtree.specs.Extend.{line_to}
use Rattle.hub_revtree.specs.Index.{AreLinked, AreTold, GoesOn, Has, IsFirstWith, IsIndex, IsIndexed}
use Rattle.hub_revtree.specs.Index.{IsNewestLine, entry_in, link_in, newest_rev, other_in}
use Rattle.hub_revtree.specs.Mark.{AreMarked, Notes, is_inner, plain, with_note}
use Rattle.hub_revtree.specs.Stem.{Stem, Chain, AreStems, AreUpTo, IsWithin, branch_of, branches_of}
use Rattle.hub_revtree.specs.Stem.{chain_of, chains_after, chains_of, has_revision, is_at}
use Rattle.hub_revtree.specs.Stem.{is_behind_newest, rev_at, revisions_at, revisions_in, whole_in}
use Rattle.hub_revtree.specs.Winner.{IsHeadAt, head_in}
use Rattle.hub_revtree.proofs.HighestLemmas.{behind_is_lower}
use Rattle.hub_revtree.proofs.RunLemmas.{dropped_one, get_some}
use Rattle.hub_revtree.proofs.StemLemmas.{any_at, any_place, get_front, get_last, get_pushed}
use Rattle.hub_revtree.proofs.StemLemmas.{get_taken, named_in, names_drop, or_assoc, within_stem}
use Rattle.hub_revtree.proofs.StemLooks.{behind_in, first_named, first_there, head_at, some_path}

-- ---- notes change nothing else

revs_plain : (stems : List Stem) (k : ℕ) → revisions_at (map plain stems) k ≡ revisions_at stems k
revs_plain [] k = refl
revs_plain (stem ∷ stems) zero = refl
revs_plain (stem ∷ stems) (suc k) = revs_plain stems k

chains_plain : (chains : List Chain) (stems : List Stem)
    → chains_after chains (map plain stems) ≡ chains_after chains stems
chains_plain chains [] = refl
chains_plain chains (stem ∷ stems) = chains_plain (chains ++ chain_of chains stem ∷ []) stems

has_plain : (stems : List Stem) (revision : Revision)
    → has_revision (map plain stems) revision ≡ has_revision stems revision
has_plain [] revision = refl
has_plain (stem ∷ stems) revision = ap (λ b. names stem.revisions revision || b) (has_plain stems revision)

heads_of : {A : Type 0} (x y : A) (xs ys : List A) → x ∷ xs ≡ y ∷ ys → (x ≡ y) × (xs ≡ ys)
heads_of x y xs ys e = (cc, cc)

get_plain : (others stems : List Stem) → map plain others ≡ map plain stems → (k : ℕ) (t : Stem)
    → slice_get stems k ≡ Some t → (s : Stem) × (slice_get others k ≡ Some s) × (plain s ≡ plain t)
get_plain [] [] same k t e = absurd (cc)
get_plain [] (stem ∷ stems) same k t e = absurd (cc)
get_plain (other ∷ others) [] same k t e = absurd (cc)
get_plain (other ∷ others) (stem ∷ stems) same zero t e = (
  other,
  refl,
  (heads_of (plain other) (plain stem) (map plain others) (map plain stems) same).0
      ∙ ap plain (same_Some stem t e),
)
get_plain (other ∷ others) (stem ∷ stems) same (suc k) t e =
    get_plain others stems (heads_of (plain other) (plain stem) (map plain others) (map plain stems) same).1 k
    t e

any_same : {A : Type 0} (P Q : A → Bool) → ((x : A) → P x ≡ Q x) → (xs : List A)
    → list_any P xs ≡ list_any Q xs
any_same P Q h [] = refl
any_same P Q h (x ∷ xs) = ap (λ b. b || list_any P xs) (h x) ∙ ap (λ b. Q x || b) (any_same P Q h xs)

any_alike : {A : Type 0} (P Q : A → Bool) (xs : List A)
    → ((k : ℕ) (x : A) → slice_get xs k ≡ Some x → P x ≡ Q x) → list_any P xs ≡ list_any Q xs
any_alike P Q [] h = refl
any_alike P Q (x ∷ xs) h =
    ap (λ b. b || list_any P xs) (h zero x refl)
    ∙ ap (λ b. Q x || b) (any_alike P Q xs (λ k y e. h (suc k) y e))

module _ (stems others : List Stem) (same : map plain stems ≡ map plain others) where
  pub revs_same : (k : ℕ) → revisions_at stems k ≡ revisions_at others k
  revs_same k = sym (revs_plain stems k) ∙ (ap (λ z. revisions_at z k) same ∙ revs_plain others k)

  pub chains_same : chains_of stems ≡ chains_of others
  chains_same = sym (chains_plain [] stems) ∙ (ap chains_of same ∙ chains_plain [] others)

  pub branches_same : branches_of stems ≡ branches_of others
  branches_same = ap (map branch_of) chains_same

  pub has_same : (revision : Revision) → has_revision stems revision ≡ has_revision others revision
  has_same revision =
      sym (has_plain stems revision) ∙ (ap (λ z. has_revision z revision) same ∙ has_plain others revision)

  pub long_same : length stems ≡ length others
  long_same =
      sym (length-map stems plain) ∙ (ap (λ (rest : List Stem). length rest) same ∙ length-map others plain)

  taken_same : (k : ℕ) → map plain (take k stems) ≡ map plain (take k others)
  taken_same k = sym (take-map plain k stems) ∙ (ap (take k) same ∙ take-map plain k others)

  at_same : (maybe_place : Option Place) → rev_at stems maybe_place ≡ rev_at others maybe_place
  at_same None = refl
  at_same (Some place) = ap (λ q. slice_get q place.at) (revs_same place.stem)

  pub is_at_same : (revision : Revision) (maybe_place : Option Place)
      → is_at stems revision maybe_place ≡ is_at others revision maybe_place
  is_at_same revision None = refl
  is_at_same revision (Some place) = ap (λ q. is_first revision (drop place.at q)) (revs_same place.stem)

  pub within_same : (place : Place) → IsWithin stems place → IsWithin others place
  within_same place w = subst (λ q. place.at < length q) (revs_same place.stem) w

  behind_plain : (revision : Revision) (rest : List Stem)
      → list_any (is_behind_newest stems revision) (map plain rest) ≡ list_any
      (is_behind_newest others revision) rest
  behind_plain revision [] = refl
  behind_plain revision (stem ∷ rest) =
      ap (λ b. (names (drop 1 stem.revisions) revision || b) || list_any (is_behind_newest stems revision)
      (map plain rest))
      (is_at_same revision stem.parent)
      ∙ ap (λ b. is_behind_newest others revision stem || b) (behind_plain revision rest)

pub all_within_same : (stems others : List Stem) → map plain stems ≡ map plain others
    → (maybe_place : Option Place)
    → IfSome maybe_place (IsWithin stems) → IfSome maybe_place (IsWithin others)
all_within_same stems others same None w = tt
all_within_same stems others same (Some place) w = within_same stems others same place w

at_itself : (stems : List Stem) (revision : Revision) (others : List Stem)
    → list_any (is_behind_newest stems revision) (map plain others) ≡ list_any
    (is_behind_newest stems revision) others
at_itself stems revision others = behind_plain stems stems refl revision others

pub inner_same : (stems others : List Stem) → map plain stems ≡ map plain others → (revision : Revision)
    → is_inner stems revision ≡ is_inner others revision
inner_same stems others same revision =
    sym (at_itself stems revision stems)
    ∙ (ap (list_any (is_behind_newest stems revision)) same ∙ behind_plain stems others same revision others)

pub stems_same : (stems others : List Stem) → map plain stems ≡ map plain others → AreStems stems
    → AreStems others
stems_same stems others same a = record {
  falling = λ k t e.
      let i = get_plain stems others same k t e in
      subst (λ (stem : Stem). IsPath stem.revisions) i.2 (a.falling k i.0 i.1);
  newest = λ k t r e h.
      let i = get_plain stems others same k t e in
      sym (has_same (take k stems) (take k others) (taken_same stems others same k) r)
      ∙ a.newest k i.0 r i.1 (ap (λ (stem : Stem). slice_get stem.revisions 0) i.2 ∙ h);
  fresh = λ k t e j.
      let i = get_plain stems others same k t e in
      sym (any_same (has_revision (take k stems)) (has_revision (take k others))
      (has_same (take k stems) (take k others) (taken_same stems others same k)) t.revisions)
      ∙ (ap (λ (stem : Stem). list_any (has_revision (take k stems)) stem.revisions) (sym i.2)
      ∙ a.fresh k i.0 i.1 (ap (λ (stem : Stem). stem.joins) i.2 ∙ j));
  earlier = λ k t place e q.
      let i = get_plain stems others same k t e in
      let b = a.earlier k i.0 place i.1 (ap (λ (stem : Stem). stem.parent) i.2 ∙ q) in
      (b.0, within_same stems others same place b.1);
  lower = λ k t place r x e q h v.
      let i = get_plain stems others same k t e in
      a.lower k i.0 place r x i.1 (ap (λ (stem : Stem). stem.parent) i.2 ∙ q)
      (ap (λ (stem : Stem). slice_get stem.revisions 0) i.2 ∙ h) (at_same stems others same (Some place) ∙ v);
  counted = λ k t e.
      let i = get_plain stems others same k t e in
      subst (λ (stem : Stem). (length stem.revisions ≤ stem.count) × (stem.count ≤ stem.reach)
      × ((place : Place) → stem.parent ≡ Some place → length stem.revisions < stem.count))
      i.2 (a.counted k i.0 i.1);
  reached = λ k t e.
      let i = get_plain stems others same k t e in
      ap (λ (stem : Stem). stem.reach) (sym i.2)
      ∙ (a.reached k i.0 i.1 ∙ ap (λ cs. length (whole_in (slice_get cs k))) (chains_same stems others same));
}

pub up_to_same : (stems others : List Stem) (highest : ℕ) → map plain stems ≡ map plain others
    → AreUpTo stems highest → AreUpTo others highest
up_to_same stems others highest same up = record {
  known = λ r t. up.known r (has_same stems others same r ∙ t);
  behind = λ r t. up.behind r (inner_same stems others same r ∙ t);
}

newest_same : (stems others : List Stem) → map plain stems ≡ map plain others
    → newest_rev stems ≡ newest_rev others
newest_same stems others same =
    ap (λ n. slice_get (revisions_at stems (n - 1)) 0) (long_same stems others same)
    ∙ ap (λ q. slice_get q 0) (revs_same stems others same (length others - 1))

pub line_same : (stems others : List Stem) (line : Option (List (List ℕ)))
    → map plain stems ≡ map plain others → IsNewestLine line stems → IsNewestLine line others
line_same stems others None same h = tt
line_same stems others (Some l) same h =
    h
    ∙ ap₂ (λ (branches : List Branch) (maybe_revision : Option Revision).
    map (λ (revision : Revision). revision.hash) (line_to (edits_in branches) maybe_revision))
    (branches_same stems others same) (newest_same stems others same)

module _ (f g : ℕ → Revision → Type 0) (to : (n : ℕ) (revision : Revision) → f n revision → g n revision)
    (back : (n : ℕ) (revision : Revision) → g n revision → f n revision) where
  first_to : (n : ℕ) (revision : Revision) → IsFirstWith f n revision → IsFirstWith g n revision
  first_to n revision first =
      (to n revision first.0, λ earlier low has. first.1 earlier low (back earlier revision has))

  told_to : (entry : ℕ → Option ℕ) (other : Revision → Option ℕ)
      → ((n : ℕ) (revision : Revision) → IsFirstWith g n revision → IsFirstWith f n revision)
      → AreTold f entry other → AreTold g entry other
  told_to entry other first_back t = record {
    entries = λ key n e. let i = t.entries key n e in (i.0, to n i.0 i.1, i.2);
    keyed = λ n key revision has k. t.keyed n key revision (back n revision has) k;
    others = λ n revision e. first_to n revision (t.others n revision e);
    told = λ n revision first. t.told n revision (first_back n revision first);
  }

has_on : (stems others : List Stem) → map plain stems ≡ map plain others → (n : ℕ) (revision : Revision)
    → Has stems n revision → Has others n revision
has_on stems others same n revision has =
    ap (λ q. names q revision) (sym (revs_same stems others same n)) ∙ has

goes_on : (stems others : List Stem) → map plain stems ≡ map plain others → (n : ℕ) (revision : Revision)
    → GoesOn stems n revision → GoesOn others n revision
goes_on stems others same n revision g =
    let i = get_plain others stems (sym same) n g.0 g.2 in (
      i.0,
      g.1,
      i.1,
      ap (λ (stem : Stem). slice_get stem.revisions g.1) i.2 ∙ g.3,
      subst (λ (stem : Stem). (g.1 + 1 < length stem.revisions) ⊎ IsSome stem.parent) (sym i.2) g.4,
    )

linked_same : (stems others : List Stem) (link : Revision → Option ℕ) → map plain stems ≡ map plain others
    → AreLinked (Has stems) stems link → AreLinked (Has others) others link
linked_same stems others link same l = record {
  links = λ n r e. goes_on stems others same n r (l.links n r e);
  linked =
      λ n r has g. elim (l.linked n r (has_on others stems (sym same) n r has)
      (goes_on others stems (sym same) n r g)) [
        | inl i ↦ inl (
          i.0,
          first_to (Has stems) (Has others) (has_on stems others same)
              (has_on others stems (sym same)) i.0 r i.1,
          goes_on stems others same i.0 r i.2,
        )
        | inr i ↦ inr i
      ];
}

index_same : (index : Index) (stems others : List Stem) → map plain stems ≡ map plain others
    → IsIndex index stems → IsIndex index others
index_same index stems others same i = (
  told_to (Has stems) (Has others) (has_on stems others same) (has_on others stems (sym same))
      (entry_in index.firsts) (other_in index.firsts)
      (first_to (Has others) (Has stems) (has_on others stems (sym same)) (has_on stems others same)) i.0,
  linked_same stems others (link_in index) same i.1,
)

pub indexed_same : (stems others : List Stem) (index : Option Index) → map plain stems ≡ map plain others
    → IsIndexed index stems → IsIndexed index others
indexed_same stems others None same i = tt
indexed_same stems others (Some index) same i =
    (index_same index stems others same i.0, line_same stems others index.line same i.1)

-- ---- the notes

either_or : (a b : Bool) → (a ≡ true → b ≡ true) → b ≡ (a || b)
either_or true b h = h refl
either_or false b h = refl

get_set : {A : Type 0} (xs : List A) (k : ℕ) (v : A) → k < length xs → slice_get (slice_set xs k v) k ≡ Some v
get_set [] k v h = absurd (omega arith)
get_set (x ∷ xs) zero v h = refl
get_set (x ∷ xs) (suc k) v h = get_set xs k v (omega arith)

get_set_other : {A : Type 0} (xs : List A) (k : ℕ) (v : A) (j : ℕ) → j ≢ k
    → slice_get (slice_set xs k v) j ≡ slice_get xs j
get_set_other [] k v j n = refl
get_set_other (x ∷ xs) zero v zero n = absurd (n refl)
get_set_other (x ∷ xs) zero v (suc j) n = refl
get_set_other (x ∷ xs) (suc k) v zero n = refl
get_set_other (x ∷ xs) (suc k) v (suc j) n = get_set_other xs k v j (λ e. n (ap suc e))

-- to set a note changes nothing else
pub set_plain : (stems : List Stem) (k : ℕ) (other : Stem) → slice_get stems k ≡ Some other
    → map plain (slice_set stems k (with_note true other)) ≡ map plain stems
set_plain [] k other e = absurd (cc)
set_plain (stem ∷ stems) zero other e = ap (λ z. plain z ∷ map plain stems) (sym (same_Some stem other e))
set_plain (stem ∷ stems) (suc k) other e = ap (λ z. plain stem ∷ z) (set_plain stems k other e)

pub first_test : (revisions : List Revision) (n : ℕ) (revision other : Revision)
    → slice_get revisions n ≡ Some revision → is_first other (drop n revisions) ≡ is_same other revision
first_test revisions n revision other e = ap (is_first other) (dropped_one revisions n revision e)

-- two stems do not have the same newest revision
earlier_head : (stems : List Stem) → AreStems stems → (j k : ℕ) (stem other : Stem) (revision : Revision)
    → j < k
    → slice_get stems j ≡ Some stem → slice_get stems k ≡ Some other
    → slice_get stem.revisions 0 ≡ Some revision → slice_get other.revisions 0 ≡ Some revision → ⊥
earlier_head stems a j k stem other revision low e f h i =
    let first : is_first revision stem.revisions ≡ true = first_test stem.revisions 0 revision revision h
    ∙ same_self revision in
    absurd (both_ways _ (a.newest k other revision f i)
    (any_at (λ (z : Stem). names z.revisions revision) (take k stems) j stem (get_taken k j stems low ∙ e)
    (first_named stem.revisions revision first)))

one_head : (stems : List Stem) → AreStems stems → (j k : ℕ) (stem t : Stem) (revision : Revision) → j ≢ k
    → slice_get stems j ≡ Some stem → slice_get stems k ≡ Some t → slice_get stem.revisions 0 ≡ Some revision
    → slice_get t.revisions 0 ≡ Some revision → ⊥
one_head stems a j k stem t revision n e f h i = elim (cases_Bool (nat_lt j k)) [
  | inl u ↦ earlier_head stems a j k stem t revision (ltb-true j k u) e f h i
  | inr u ↦
      earlier_head stems a k j t stem revision
      (let past = ltb-false j k u in let other = n in grind (arith, past, other)) f e i h
]

-- the stem of a place whose revision is its newest is noted
pub noted_first : (stems others : List Stem) (place : Place) (stem : Stem) → AreStems stems
    → slice_get stems place.stem ≡ Some stem
    → place.at ≡ 0 → others ≡ slice_set stems place.stem (with_note true stem)
    → Notes stems (λ r. is_at stems r (Some place)) others
noted_first stems others place stem a e first is P covers noted k t r f h =
    elim (cases_Bool (nat_eq k place.stem)) [
      | inl u ↦
          let same : k ≡ place.stem = eqb-true k place.stem u in
          let low = slice_get_within stems place.stem stem e in
          let now : with_note true stem ≡ t =
          same_Some _ t
          (sym (get_set stems place.stem (with_note true stem) low)
          ∙ (sym (ap (λ z. slice_get z place.stem) is) ∙ (ap (slice_get others) (sym same) ∙ f))) in
          let head : slice_get stem.revisions 0 ≡ Some r =
          ap (λ (z : Stem). slice_get z.revisions 0) now ∙ h in
          let here : is_at stems r (Some place) ≡ true =
          ap (λ o. is_first r (drop place.at (revisions_in o))) e
          ∙ (ap (λ n. is_first r (drop n stem.revisions)) first
          ∙ (first_test stem.revisions 0 r r head ∙ same_self r)) in
          ap (λ (z : Stem). z.inner) (sym now) ∙ sym (or_left (is_at stems r (Some place)) (P r) here)
      | inr u ↦
          let other : k ≢ place.stem = eqb-false k place.stem u in
          let was : slice_get stems k ≡ Some t =
          sym (get_set_other stems place.stem (with_note true stem) k other)
          ∙ (ap (λ z. slice_get z k) (sym is) ∙ f) in
          noted k t r was h
          ∙ either_or (is_at stems r (Some place)) (P r) (λ v.
          let there : slice_get stem.revisions 0 ≡ Some r =
          ap (λ n. slice_get stem.revisions n) (sym first)
          ∙ first_there place.at stem.revisions r
          (ap (λ o. is_first r (drop place.at (revisions_in o))) (sym e) ∙ v) in
          absurd (one_head stems a k place.stem t stem r other was e h there))
    ]

-- a place that is not that of a newest revision needs no note
pub noted_later : (stems : List Stem) (place : Place) (stem : Stem) → slice_get stems place.stem ≡ Some stem
    → ¬ (place.at ≡ 0) → Notes stems (λ r. is_at stems r (Some place)) stems
noted_later stems place stem e later P covers noted k t r f h =
    noted k t r f h
    ∙ either_or (is_at stems r (Some place)) (P r) (λ v. covers r
    (any_at (is_behind_newest stems r) stems place.stem stem e
    (or_left (names (drop 1 stem.revisions) r) (is_at stems r stem.parent)
    (behind place.at later stem.revisions
    (ap (λ o. is_first r (drop place.at (revisions_in o))) (sym e) ∙ v)))))
  where
    behind : (n : ℕ) → ¬ (n ≡ 0) → (revisions : List Revision) → is_first r (drop n revisions) ≡ true
        → names (drop 1 revisions) r ≡ true
    behind zero some revisions v = absurd (some refl)
    behind (suc n) some [] v = absurd (cc)
    behind (suc n) some (x ∷ revisions) v = names_drop n revisions r (first_named (drop n revisions) r v)

-- ---- notes one after the other

pub no_notes : (stems : List Stem) → Notes stems (λ r. false) stems
no_notes stems P covers noted = noted

pub notes_as : (stems others : List Stem) (P Q : Revision → Bool)
    → ((revision : Revision) → P revision ≡ Q revision) → Notes stems P others → Notes stems Q others
notes_as stems others P Q alike notes T covers noted k t revision e h =
    notes T covers noted k t revision e h ∙ ap (λ b. b || T revision) (alike revision)

pub notes_on : (stems others rest : List Stem) (P Q : Revision → Bool) → map plain others ≡ map plain stems
    → Notes stems P others → Notes others Q rest → Notes stems (λ r. Q r || P r) rest
notes_on stems others rest P Q same first then T covers noted k t r e h =
    then (λ z. P z || T z) (λ z u. or_right (P z) (T z) (covers z (sym (inner_same others stems same z) ∙ u)))
    (first T covers noted) k t r e h
    ∙ sym (or_assoc (Q r) (P r) (T r))

-- the revisions from the last one to the second
pub last_noted : (stems : List Stem) (revisions : List Revision) (n : ℕ) → length revisions ≤ n
    → Notes stems (λ r. names (drop n revisions) r) stems
last_noted stems revisions n past =
    notes_as stems stems (λ r. false) (λ r. names (drop n revisions) r)
    (λ r. sym (ap (λ q. names q r) (drop_all n revisions past))) (no_notes stems)

pub one_noted : (stems others rest : List Stem) (revisions : List Revision) (n : ℕ) (revision : Revision)
    → 0 < n
    → slice_get revisions (n - 1) ≡ Some revision → map plain others ≡ map plain stems
    → Notes stems (λ r. names (drop n revisions) r) others → Notes others (λ r. is_same r revision) rest
    → Notes stems (λ r. names (drop (n - 1) revisions) r) rest
one_noted stems others rest revisions n revision some e same before now =
    notes_as stems rest (λ r. is_same r revision || names (drop n revisions) r)
    (λ r. names (drop (n - 1) revisions) r)
    (λ r. sym (ap (λ q. names q r)
    (let next : suc (n - 1) ≡ n = omega (arith, some) in
    dropped_one revisions (n - 1) revision e ∙ ap (λ m. revision ∷ drop m revisions) next)))
    (notes_on stems others rest (λ r. names (drop n revisions) r) (λ r. is_same r revision) same before now)

-- revisions that no stem has need no note
pub unknown_noted : (stems : List Stem) (P : Revision → Bool)
    → ((revision : Revision) → P revision ≡ true → has_revision stems revision ≡ false) → Notes stems P stems
unknown_noted stems P unknown T covers noted k t revision e h =
    noted k t revision e h
    ∙ either_or (P revision) (T revision) (λ v.
    let first : is_first revision t.revisions ≡ true = first_test t.revisions 0 revision revision h
    ∙ same_self revision in
    absurd (both_ways _ (unknown revision v)
    (any_at (λ (stem : Stem). names stem.revisions revision) stems k t e
    (first_named t.revisions revision first))))

-- ---- one stem more

-- the stems that were lent of a vector come back
pub lent_back : (P : List Stem → Type 0) (stems rest : List Stem) (n : ℕ) → length stems ≡ n → P stems
    → P (take n (stems ++ rest))
lent_back P stems rest n long p =
    subst P (sym (ap (λ k. take k (stems ++ rest)) (sym long) ∙ take-append_seam stems rest)) p

-- where there is a place, it is one of the stems
pub within_told : (stems : List Stem) (maybe_place : Option Place)
    → ((place : Place) → maybe_place ≡ Some place → IsWithin stems place)
    → IfSome maybe_place (IsWithin stems)
within_told stems None h = tt
within_told stems (Some place) h = h place refl

-- the index of the stems before the newest
pub indexed_front : (stems others : List Stem) (stem : Stem) (index : Option Index)
    → map plain others ≡ map plain stems
    → IsIndexed index stems → IsIndexed index (take (length (others ++ stem ∷ []) - 1) (others ++ stem ∷ []))
indexed_front stems others stem index same i =
    let n : length (others ++ stem ∷ []) - 1 ≡ length others = omega (arith, length-append others (stem ∷ []))
    in
    subst (IsIndexed index) (sym
    (ap (λ k. take k (others ++ stem ∷ [])) n ∙ take-append_seam others (stem ∷ [])))
    (indexed_same stems others index (sym same) i)

within_at : (stems others : List Stem) (revision : Revision) (maybe_place : Option Place)
    → IfSome maybe_place (IsWithin stems)
    → is_at (stems ++ others) revision maybe_place ≡ is_at stems revision maybe_place
within_at stems others revision None w = refl
within_at stems others revision (Some place) w =
    let i = within_stem stems place w in
    ap (λ maybe_place. is_first revision (drop place.at (revisions_in maybe_place)))
    (get_front stems others place.stem i.0 i.1 ∙ sym i.1)

all_within : (stems : List Stem) → AreStems stems → (k : ℕ) (stem : Stem) → slice_get stems k ≡ Some stem
    → IfSome stem.parent (IsWithin stems)
all_within stems a k stem e = from stem.parent refl
  where
    from : (maybe_place : Option Place) → stem.parent ≡ maybe_place → IfSome maybe_place (IsWithin stems)
    from None q = tt
    from (Some p) q = (a.earlier k stem p e q).1

inner_more : (stems : List Stem) (stem : Stem) (revision : Revision) → AreStems stems
    → IfSome stem.parent (IsWithin stems)
    → is_inner (stems ++ stem ∷ []) revision ≡
    ((is_at stems revision stem.parent || names (drop 1 stem.revisions) revision) || is_inner stems revision)
inner_more stems stem revision a w =
    list_any-append (is_behind_newest (stems ++ stem ∷ []) revision) stems (stem ∷ [])
    ∙ (ap (λ b. b || (is_behind_newest (stems ++ stem ∷ []) revision stem || false))
    (any_alike (is_behind_newest (stems ++ stem ∷ []) revision) (is_behind_newest stems revision) stems
    (λ k u e.
    ap (λ b. names (drop 1 u.revisions) revision || b)
    (within_at stems (stem ∷ []) revision u.parent (all_within stems a k u e))))
    ∙ (ap (λ b. is_inner stems revision || ((names (drop 1 stem.revisions) revision || b) || false))
    (within_at stems (stem ∷ []) revision stem.parent w)
    ∙ turned (is_inner stems revision) (names (drop 1 stem.revisions) revision)
    (is_at stems revision stem.parent)))
  where
    turned : (a b c : Bool) → (a || ((b || c) || false)) ≡ ((c || b) || a)
    turned true true true = refl
    turned true true false = refl
    turned true false true = refl
    turned true false false = refl
    turned false true true = refl
    turned false true false = refl
    turned false false true = refl
    turned false false false = refl

-- a revision that stands behind a newest one is known
behind_known : (stems : List Stem) → AreStems stems → (revision : Revision) → is_inner stems revision ≡ true
    → has_revision stems revision ≡ true
behind_known stems a revision t =
    let i = any_place (is_behind_newest stems revision) stems t in
    elim (cases_Bool (names (drop 1 i.1.revisions) revision)) [
      | inl u ↦ any_at (λ (stem : Stem). names stem.revisions revision) stems i.0 i.1 i.2
          (names_drop 1 i.1.revisions revision u)
      | inr u ↦ from i.1.parent (all_within stems a i.0 i.1 i.2) (rw u at i.3)
    ]
  where
    from : (maybe_place : Option Place) → IfSome maybe_place (IsWithin stems)
        → is_at stems revision maybe_place ≡ true → has_revision stems revision ≡ true
    from None w v = absurd (cc)
    from (Some p) w v =
        let j = within_stem stems p w in
        any_at (λ (stem : Stem). names stem.revisions revision) stems p.stem j.0 j.1
        (names_drop p.at j.0.revisions revision
        (first_named (drop p.at j.0.revisions) revision
        (ap (λ maybe_place. is_first revision (drop p.at (revisions_in maybe_place))) (sym j.1) ∙ v)))

-- the newest revision of the newest stem stands behind no newest one
newest_leads : (stems : List Stem) (stem : Stem) (revision : Revision) → AreStems stems
    → AreStems (stems ++ stem ∷ [])
    → slice_get stem.revisions 0 ≡ Some revision → is_inner (stems ++ stem ∷ []) revision ≡ false
newest_leads stems stem revision a more h = elim (cases_Bool (is_inner (stems ++ stem ∷ []) revision)) [
  | inl t ↦
      let i = any_place (is_behind_newest (stems ++ stem ∷ []) revision) (stems ++ stem ∷ []) t in
      elim (get_pushed stems stem i.0 i.1 i.2) [
        | inl f ↦
            let old : is_behind_newest stems revision i.1 ≡ true =
            ap (λ b. names (drop 1 i.1.revisions) revision || b)
            (sym (within_at stems (stem ∷ []) revision i.1.parent (all_within stems a i.0 i.1 f)))
            ∙ i.3 in
            let known = behind_known stems a revision
            (any_at (is_behind_newest stems revision) stems i.0 i.1 f old) in
            let new : has_revision stems revision ≡ false =
            ap (λ z. has_revision z revision) (sym (take-append_seam stems (stem ∷ [])))
            ∙ more.newest (length stems) stem revision (get_last stems stem) h in
            absurd (both_ways _ new known)
        | inr f ↦
            let low =
            behind_is_lower (stems ++ stem ∷ []) (length stems) stem revision revision more
            (get_last stems stem) h
            (ap (is_behind_newest (stems ++ stem ∷ []) revision) f.1 ∙ i.3) in
            absurd (omega (arith, low))
      ]
  | inr t ↦ t
]

pub plain_more : (stems others : List Stem) (stem : Stem) → map plain others ≡ map plain stems
    → map plain (stems ++ stem ∷ []) ≡ map plain (others ++ stem ∷ [])
plain_more stems others stem same =
    map-append plain stems (stem ∷ [])
    ∙ (ap (λ z. z ++ plain stem ∷ []) (sym same) ∙ sym (map-append plain others (stem ∷ [])))

pub marked_more : (stems others : List Stem) (stem : Stem) → AreStems stems → AreStems (stems ++ stem ∷ [])
    → IfSome stem.parent (IsWithin stems) → map plain others ≡ map plain stems → AreMarked stems
    → stem.inner ≡ false
    → Notes stems (λ r. is_at stems r stem.parent || names (drop 1 stem.revisions) r) others
    → AreMarked (others ++ stem ∷ [])
marked_more stems others stem a more w same marked leaf notes k t r e h =
    elim (get_pushed others stem k t e) [
      | inl f ↦ notes (is_inner stems) (λ other u. u) marked k t r f h
          ∙ (sym (inner_more stems stem r a w) ∙ there)
      | inr f ↦
          ap (λ (other : Stem). other.inner) (sym f.1)
          ∙ (leaf
          ∙ (sym (newest_leads stems stem r a more
          (ap (λ (other : Stem). slice_get other.revisions 0) f.1 ∙ h))
          ∙ there))
    ]
  where
    there : is_inner (stems ++ stem ∷ []) r ≡ is_inner (others ++ stem ∷ []) r
    there = inner_same (stems ++ stem ∷ []) (others ++ stem ∷ []) (plain_more stems others stem same) r

-- ---- the marks say which revisions are leaves

module _ (stems : List Stem) (a : AreStems stems) (marked : AreMarked stems) where
  leaf_test : (revision : Revision) → (known behind : Bool) → has_revision stems revision ≡ known
      → is_inner stems revision ≡ behind → (list_any (λ b. names b.path revision) (branches_of stems)
      && not (list_any (λ b. is_behind_head revision (edit_of b)) (branches_of stems)))
      ≡ (known && not behind)
  leaf_test revision known behind k b =
      ap (λ z. z && not (list_any (λ b. is_behind_head revision (edit_of b)) (branches_of stems)))
      (named_in stems a revision ∙ k) ∙ ap (λ z. known && not z) (behind_in stems a revision ∙ b)

  -- the revision heads a stem
  pub found_leaf : (revision : Revision) (stem : Stem)
      → Some stem ≡ find (λ other. is_first revision other.revisions) stems
      → not stem.inner ≡ (list_any (λ b. names b.path revision) (branches_of stems)
      && not (list_any (λ b. is_behind_head revision (edit_of b)) (branches_of stems)))
  found_leaf revision stem e =
      let i = find_is (λ (other : Stem). is_first revision other.revisions) stems stem (sym e) in
      let there = slice_get_read stems _ i.1.0 stem refl i.1.1 (sym i.1.2) in
      let known =
      any_at (λ (other : Stem). names other.revisions revision) stems i.1.0 stem there
      (first_named stem.revisions revision i.0) in
      sym (leaf_test revision true stem.inner known
      (sym (marked i.1.0 stem revision there (first_there 0 stem.revisions revision i.0))))

  -- the revision heads no stem
  pub found_none : (revision : Revision) → None ≡ find (λ stem. is_first revision stem.revisions) stems
      → false ≡ (list_any (λ b. names b.path revision) (branches_of stems)
      && not (list_any (λ b. is_behind_head revision (edit_of b)) (branches_of stems)))
  found_none revision e = elim (cases_Bool (has_revision stems revision)) [
    | inl t ↦
        let i = any_place (λ (stem : Stem). names stem.revisions revision) stems t in
        let later = behind_first i.1.revisions i.3 (passed stems i.0 i.1 e i.2) in
        sym (leaf_test revision true true t
        (any_at (is_behind_newest stems revision) stems i.0 i.1 i.2
        (or_left (names (drop 1 i.1.revisions) revision) (is_at stems revision i.1.parent) later)))
    | inr t ↦ sym (leaf_test revision false (is_inner stems revision) t refl)
  ]
    where
      behind_first : (revisions : List Revision) → names revisions revision ≡ true
          → is_first revision revisions ≡ false → names (drop 1 revisions) revision ≡ true
      behind_first [] h f = absurd (cc)
      behind_first (x ∷ revisions) h f = rw f at h

      passed : (others : List Stem) (k : ℕ) (other : Stem)
          → None ≡ find (λ stem. is_first revision stem.revisions) others
          → slice_get others k ≡ Some other → is_first revision other.revisions ≡ false
      passed [] k other e h = absurd (cc)
      passed (stem ∷ others) zero other e h = elim (cases_Bool (is_first revision stem.revisions)) [
        | inl t ↦ absurd (let none = rw t at e in cc)
        | inr t ↦ ap (λ (y : Stem). is_first revision y.revisions) (sym (same_Some stem other h)) ∙ t
      ]
      passed (stem ∷ others) (suc k) other e h = elim (cases_Bool (is_first revision stem.revisions)) [
        | inl t ↦ absurd (let none = rw t at e in cc)
        | inr t ↦ passed others k other (rw t at e) h
      ]

  pub inner_at : (k : ℕ) (stem : Stem) (winner : Winner)
      → slice_get stems k ≡ Some stem
      → option_and_then head_in (slice_get (branches_of stems) k) ≡ Some winner
      → stem.inner ≡ list_any (λ b. is_behind_head winner.rev (edit_of b)) (branches_of stems)
  inner_at k stem winner e there =
      let head = get_some stem.revisions 0 (some_path stem.revisions (a.falling k stem e)) in
      let same : head.0 ≡ winner.rev =
      ap (λ (other : Winner). other.rev)
      (same_Some _ winner (sym (head_at stems a k stem head.0 e head.1) ∙ there)) in
      marked k stem winner.rev e (head.1 ∙ ap Some same) ∙ sym (behind_in stems a winner.rev)

  -- an inner stem has a head, which stands behind that of another edit
  pub inner_head : (k : ℕ) (stem : Stem) → slice_get stems k ≡ Some stem → stem.inner ≡ true
      → (head : Winner) × IsHeadAt (branches_of stems) k head true
  inner_head k stem e inner =
      let rev = get_some stem.revisions 0 (some_path stem.revisions (a.falling k stem e)) in
      let head : Winner = record { rev = rev.0; deleted = stem.deleted } in
      let there = head_at stems a k stem rev.0 e rev.1 in
      (head, (there, sym (inner_at k stem head e there) ∙ inner))
