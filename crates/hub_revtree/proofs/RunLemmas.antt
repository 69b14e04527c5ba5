-- The revisions that a run keeps.
use Rattle.std.proofs.Common.{◌≡◌, ℕ, zero, suc, ◌+◌, ◌-◌, ◌<◌, ◌≤◌, min, List, [], ◌∷◌, ◌++◌}
use Rattle.std.proofs.Common.{length, get_or, drop, take, map, Bool, true, false, ◌&&◌, inl}
use Rattle.std.proofs.Common.{inr, refl, sym, ap, ap₂, ◌∙◌, subst, add-one, arith}
use Rattle.std.specs.Prelude.{Option, Some, None, IfSome, IfNone, slice_get, option_map, nat_eq}
use Rattle.std.specs.Bool.{then_some}
use Rattle.std.specs.Str.{bytes_eq}
use Rattle.std.proofs.lemmas.Bool.{both_ways, cases_lt}
use Rattle.std.proofs.lemmas.List.{append_assoc, get_or-take, length-drop}
use Rattle.std.proofs.lemmas.List.{length-map, length-take, map-append, take_all}
use Rattle.std.proofs.lemmas.Option.{get_or_from_slice_get, same_Some, slice_get_read}
use Rattle.hub_model.proofs.Tests.{same_is, same_self}
use Rattle.hub_document.proofs.PlaceLemmas.{above_head, not_named, past_end}
use Rattle.hex.specs.Hex.{encode_lower}
use Rattle.hub_model.specs.Revision.{Revision, is_same}
use Rattle.hub_model.specs.Path.{Falls, IsHistory, IsPath, names, is_first}
use Rattle.hub_revtree.specs.Run.{revisions_from}
use Rattle.hub_revtree.proofs.BranchLemmas.{within_generation}

-- each generation of a path is above 0
pub least : (revision : Revision) (revisions : List Revision) → Falls revision revisions
    → 1 ≤ revision.generation
least revision [] f = f
least revision (other ∷ revisions) f = omega (arith, f.0)

-- the first revision of a list from a place on is the one at the place
pub first_drop : (revisions : List Revision) (k : ℕ) (revision other : Revision)
    → slice_get revisions k ≡ Some other → is_first revision (drop k revisions) ≡ is_same revision other
first_drop [] k revision other e = absurd (cc)
first_drop (y ∷ revisions) zero revision other e = ap (is_same revision) (same_Some y other e)
first_drop (y ∷ revisions) (suc k) revision other e = first_drop revisions k revision other e

-- lists by place
pub get_some : {A : Type 0} (xs : List A) (k : ℕ) → k < length xs → (x : A) × (slice_get xs k ≡ Some x)
get_some [] k low = absurd (omega arith)
get_some (x ∷ xs) zero low = (x, refl)
get_some (x ∷ xs) (suc k) low = get_some xs k (omega arith)

pub dropped_one : {A : Type 0} (xs : List A) (k : ℕ) (x : A) → slice_get xs k ≡ Some x
    → drop k xs ≡ x ∷ drop (suc k) xs
dropped_one [] k x e = absurd (cc)
dropped_one (y ∷ xs) zero x e = ap (λ z. z ∷ xs) (same_Some y x e)
dropped_one (y ∷ xs) (suc k) x e = dropped_one xs k x e

-- there are as many revisions as digests
pub as_many_digests : (n : ℕ) (ds : List (List ℕ)) → length (revisions_from n ds) ≡ length ds
as_many_digests n [] = refl
as_many_digests n (d ∷ ds) = ap suc (as_many_digests (n - 1) ds)

-- a run of digests
module _ (revisions : List Revision) (n : ℕ) (ds : List (List ℕ)) (is : revisions_from n ds ≡ revisions) where
  pub digest_length : length revisions ≡ length ds
  digest_length = ap length (sym is) ∙ as_many_digests n ds

  -- the revision at a place
  pub digest_read : (k : ℕ) (d : List ℕ) → k < length revisions → d ≡ get_or ds k d
      → slice_get revisions k ≡ Some (record { generation = n - k; hash = encode_lower d })
  digest_read k d low read =
      ap (λ q. slice_get q k) (sym is) ∙ from n ds k (omega (arith, low, digest_length)) read
    where
      from : (n : ℕ) (ds : List (List ℕ)) (k : ℕ) → k < length ds → d ≡ get_or ds k d
          → slice_get (revisions_from n ds) k ≡ Some (record { generation = n - k; hash = encode_lower d })
      from n [] k low read = absurd (omega arith)
      from n (e ∷ ds) zero low read =
          let same : n ≡ n - 0 = omega arith in
          ap₂ (λ (g : ℕ) (h : List ℕ). Some (record { generation = g; hash = encode_lower h })) same
          (sym read)
      from n (e ∷ ds) (suc k) low read =
          let down : n - 1 - k ≡ n - suc k = omega arith in
          from (n - 1) ds k (omega arith) read
          ∙ ap (λ g. Some (record { generation = g; hash = encode_lower d })) down

  -- its generation
  pub digest_generation : (k : ℕ) → k < length revisions
      → option_map (λ revision. revision.generation) (slice_get revisions k) ≡ Some (n - k)
  digest_generation k low =
      let some = get_some ds k (omega (arith, low, digest_length)) in
      ap (option_map (λ (revision : Revision). revision.generation))
      (digest_read k some.0 low (sym (get_or_from_slice_get ds k some.0 some.0 some.1)))

  pub digest_first : (k : ℕ) (d : List ℕ) (revision : Revision) → k < length revisions → d ≡ get_or ds k d
      → is_first revision (drop k revisions) ≡
      (nat_eq revision.generation (n - k) && bytes_eq revision.hash (encode_lower d))
  digest_first k d revision low read = first_drop revisions k revision _ (digest_read k d low read)

  pub digest_newest : IsPath revisions
      → option_map (λ revision. revision.generation) (slice_get revisions 0) ≡ Some n
  digest_newest path =
      ap (λ q. option_map (λ (revision : Revision). revision.generation) (slice_get q 0)) (sym is)
      ∙ from ds (subst IsPath (sym is) path)
    where
      from : (ds : List (List ℕ)) → IsPath (revisions_from n ds)
          → option_map (λ (revision : Revision). revision.generation)
          (slice_get (revisions_from n ds) 0) ≡ Some n
      from [] path = absurd path
      from (d ∷ ds) path = refl

  -- the texts of the digests from a place on
  pub digests_more : (new old q : List (List ℕ)) (k : ℕ)
      → q ≡ ds → new ≡ old ++ take (length q - k) (drop k q)
      → map encode_lower new ≡ map encode_lower old ++ map (λ revision. revision.hash) (drop k revisions)
  digests_more new old q k same more =
      ap (map encode_lower)
      (more
      ∙ ap (λ z. old ++ z)
      (take_all (length q - k) (drop k q) (omega (arith, length-drop k q)) ∙ ap (drop k) same))
      ∙ map-append encode_lower old (drop k ds)
      ∙ ap (λ z. map encode_lower old ++ z)
      (from n ds k ∙ ap (λ q. map (λ (revision : Revision). revision.hash) (drop k q)) is)
    where
      from : (n : ℕ) (ds : List (List ℕ)) (k : ℕ)
          → map encode_lower (drop k ds) ≡ map (λ (revision : Revision). revision.hash)
          (drop k (revisions_from n ds))
      from n [] zero = refl
      from n [] (suc k) = refl
      from n (d ∷ ds) zero = ap (λ z. encode_lower d ∷ z) (from (n - 1) ds 0)
      from n (d ∷ ds) (suc k) = from (n - 1) ds k

  -- the first digests give the first revisions
  pub digests_cut : (k : ℕ) → revisions_from n (take k ds) ≡ take k revisions
  digests_cut k = from n ds k ∙ ap (take k) is
    where
      from : (n : ℕ) (ds : List (List ℕ)) (k : ℕ)
          → revisions_from n (take k ds) ≡ take k (revisions_from n ds)
      from n ds zero = refl
      from n [] (suc k) = refl
      from n (d ∷ ds) (suc k) =
          ap (λ z. record { generation = n; hash = encode_lower d } ∷ z) (from (n - 1) ds k)

-- the generations of a run of digests stay above 0
pub place_low : (kept revisions : List Revision) (n : ℕ) (ds : List (List ℕ)) → kept ≡ revisions_from n ds
    → kept ≡ revisions → IsPath kept → (k : ℕ) → k < length revisions → k < n
place_low kept revisions n ds is view path k low =
    from n ds k (subst IsPath is path) (omega (arith, low, digest_length revisions n ds (sym is ∙ view)))
  where
    from : (n : ℕ) (ds : List (List ℕ)) (k : ℕ) → IsPath (revisions_from n ds) → k < length ds → k < n
    from n [] k path low = absurd (omega arith)
    from n (d ∷ ds) zero path low = least _ (revisions_from (n - 1) ds) path
    from n (d ∷ []) (suc k) path low = absurd (omega arith)
    from n (d ∷ e ∷ ds) (suc k) path low =
        omega (arith, path.0, from (n - 1) (e ∷ ds) k path.1 (omega arith))

-- a run of texts
pub texts_read : (revisions others : List Revision) (k : ℕ) (revision : Revision) → others ≡ revisions
    → k < length revisions → revision ≡ get_or others k revision → slice_get revisions k ≡ Some revision
texts_read revisions others k revision is low read =
    let same : length others ≡ length revisions = ap length is in
    subst (λ z. slice_get z k ≡ Some revision) is
    (slice_get_read others _ k revision refl (omega (arith, low, same)) read)

-- the newest revision, by its generation
pub newest_of : (revisions : List Revision) (n : ℕ)
    → option_map (λ r. r.generation) (slice_get revisions 0) ≡ Some n
    → (revision : Revision) × (slice_get revisions 0 ≡ Some revision) × (revision.generation ≡ n)
newest_of [] n e = absurd (cc)
newest_of (revision ∷ revisions) n e = (revision, refl, same_Some revision.generation n e)

-- a revision stands at the place that its generation gives, or nowhere
module _ (revisions : List Revision) (path : IsPath revisions)
    (n : ℕ) (newest : option_map (λ revision. revision.generation) (slice_get revisions 0) ≡ Some n)
    (revision : Revision) where
  pub too_new : n < revision.generation → names revisions revision ≡ false
  too_new high =
      let x = newest_of revisions n newest in
      above_head revisions x.0 revision path x.1 (omega (arith, high, x.2))

  module _ (k : ℕ) (down : k ≡ n - revision.generation) where
    pub too_old : length revisions ≤ k → names revisions revision ≡ false
    too_old past =
        let x = newest_of revisions n newest in
        past_end revisions x.0 revision k path x.1 (omega (arith, down, x.2)) past

    pub is_there : (b : Bool) → b ≡ is_first revision (drop k revisions) → k < length revisions
        → IfSome (then_some b k) (λ j. slice_get revisions j ≡ Some revision)
    is_there false is low = tt
    is_there true is low =
        let x = get_some revisions k low in
        x.1 ∙ ap Some (sym (same_is revision x.0 (sym (first_drop revisions k revision x.0 x.1) ∙ sym is)))

    pub is_absent : (b : Bool) → b ≡ is_first revision (drop k revisions)
        → IfNone (then_some b k) (names revisions revision ≡ false)
    is_absent true is = tt
    is_absent false is =
        let x = newest_of revisions n newest in
        not_named revisions x.0 revision k path x.1 (omega (arith, down, x.2))
        (λ e. both_ways (is_first revision (drop k revisions)) (sym is)
        (first_drop revisions k revision revision e ∙ same_self revision))

-- one step along a list of revisions
pub one_on : (revisions line : List Revision) (k : ℕ) (revision : Revision)
    → slice_get revisions k ≡ Some revision
    → (line ++ revision ∷ []) ++ drop (k + 1) revisions ≡ line ++ drop k revisions
one_on revisions line k revision e =
    rw (add-one k)
    (append_assoc line (revision ∷ []) (drop (suc k) revisions)
    ∙ ap (λ z. line ++ z) (sym (dropped_one revisions k revision e)))

-- the digests of a path's front are a run of it
nothing_left : (ds : List (List ℕ)) (k : ℕ)
    → map encode_lower ds ≡ map (λ (revision : Revision). revision.hash) (take k []) → ds ≡ []
nothing_left [] k e = refl
nothing_left (d ∷ ds) zero e = absurd (cc)
nothing_left (d ∷ ds) (suc k) e = absurd (cc)

none_taken : (k : ℕ) → [] ≡ take {A = Revision} k []
none_taken zero = refl
none_taken (suc k) = refl

front_kept : (revision : Revision) (revisions : List Revision) (ds : List (List ℕ)) (k : ℕ)
    → Falls revision revisions → map encode_lower ds ≡ map (λ r. r.hash) (take k (revision ∷ revisions))
    → revisions_from revision.generation ds ≡ take k (revision ∷ revisions)
front_kept revision revisions [] zero f e = refl
front_kept revision revisions [] (suc k) f e = absurd (cc)
front_kept revision revisions (d ∷ ds) zero f e = absurd (cc)
front_kept revision [] (d ∷ ds) (suc k) f e =
    let h : encode_lower d ≡ revision.hash = (cc) in
    let tail : map encode_lower ds ≡ map (λ (r : Revision). r.hash) (take k []) = (cc) in
    ap₂ (λ (h : List ℕ) (others : List Revision). record { generation = revision.generation; hash = h }
    ∷ others) h
    (ap (revisions_from (revision.generation - 1)) (nothing_left ds k tail) ∙ none_taken k)
front_kept revision (other ∷ revisions) (d ∷ ds) (suc k) f e =
    let h : encode_lower d ≡ revision.hash = (cc) in
    let tail : map encode_lower ds ≡ map (λ (r : Revision). r.hash) (take k (other ∷ revisions)) = (cc) in
    let down : revision.generation - 1 ≡ other.generation = omega (arith, f.0) in
    ap₂ (λ (h : List ℕ) (others : List Revision). record { generation = revision.generation; hash = h }
    ∷ others) h
    (ap (λ g. revisions_from g ds) down ∙ front_kept other revisions ds k f.1 tail)

pub digests_whole : (revision : Revision) (revisions : List Revision) (n : ℕ) (ds : List (List ℕ))
    → IsPath (revision ∷ revisions)
    → n ≡ revision.generation → map encode_lower ds ≡ map (λ r. r.hash) (revision ∷ revisions)
    → revisions_from n ds ≡ revision ∷ revisions
digests_whole revision revisions n ds path up e =
    let all : take (length (revision ∷ revisions)) (revision ∷ revisions) ≡ revision
    ∷ revisions = take_all (length (revision ∷ revisions)) (revision ∷ revisions) (omega arith) in
    ap (λ g. revisions_from g ds) up
    ∙ front_kept revision revisions ds (length (revision ∷ revisions)) path
    (e ∙ ap (map (λ r. r.hash)) (sym all)) ∙ all

pub digests_kept : (revisions : List Revision) (revision : Revision) (n : ℕ) (ds : List (List ℕ)) (k : ℕ)
    → IsPath revisions → revision ≡ get_or revisions 0 revision → n ≡ revision.generation
    → map encode_lower ds ≡ map (λ r. r.hash) (take k revisions) → revisions_from n ds ≡ take k revisions
digests_kept [] revision n ds k path first up e = absurd path
digests_kept (other ∷ revisions) revision n ds k path first up e =
    ap (λ g. revisions_from g ds) (up ∙ ap (λ (z : Revision). z.generation) first)
    ∙ front_kept other revisions ds k path e

-- the revisions of a run on a line
pub line_whole : (revision : Revision) (revisions : List Revision) (ds : List (List ℕ))
    → IsPath (revision ∷ revisions)
    → map encode_lower ds ≡ map (λ r. r.hash) revisions
    → revisions_from (revision.generation - 1) ds ≡ revisions
line_whole revision [] ds path e = ap (revisions_from (revision.generation - 1)) (nothing_left ds 0 e)
line_whole revision (other ∷ revisions) ds path e =
    let down : revision.generation - 1 ≡ other.generation = omega (arith, path.0) in
    digests_whole other revisions (revision.generation - 1) ds path.1 down e

-- the line is shorter than the generation of the revision on it
pub line_short : (revision : Revision) (revisions : List Revision) (ds : List (List ℕ))
    → IsHistory (revision ∷ revisions)
    → map encode_lower ds ≡ map (λ other. other.hash) revisions → length ds < revision.generation
line_short revision revisions ds h e =
    let as_many : length ds ≡ length revisions =
    sym (length-map ds encode_lower) ∙ ap length e
    ∙ length-map revisions (λ (other : Revision). other.hash) in
    omega (arith, as_many, within_generation (revision ∷ revisions) revision h refl)

-- the first items of a front are those of the list
take_fewer : {A : Type 0} (a b : ℕ) (xs : List A) → a ≤ b → take a (take b xs) ≡ take a xs
take_fewer zero b xs l = refl
take_fewer (suc a) zero xs l = absurd (omega (arith, l))
take_fewer (suc a) (suc b) [] l = refl
take_fewer (suc a) (suc b) (x ∷ xs) l = ap (λ z. x ∷ z) (take_fewer a b xs (omega (arith, l)))

pub take_least : {A : Type 0} (a b : ℕ) (xs : List A) → take (min a b) xs ≡ take a (take b xs)
take_least a b xs = elim (cases_lt a b) [
  | inl l ↦
      let least : min a b ≡ a = omega (arith, l) in
      ap (λ k. take k xs) least ∙ sym (take_fewer a b xs (omega (arith, l)))
  | inr m ↦
      let least : min a b ≡ b = omega (arith, m) in
      ap (λ k. take k xs) least ∙ sym (take_all a (take b xs) (omega (arith, m, length-take b xs)))
]

-- a run that shares a line: the first revisions of a path, at most `most`, whose digests are these
module _ (revisions : List Revision) (n most : ℕ) (d : List ℕ) (line : List (List ℕ))
    (is : revisions_from n (take most (d ∷ line)) ≡ revisions) where
  pub shared_length : length revisions ≡ min most (length line + 1)
  shared_length =
      digest_length revisions n (take most (d ∷ line)) is
      ∙ length-take most (d ∷ line)
      ∙ ap (min most) (sym (add-one (length line)))

  pub shared_read : (k : ℕ) (e : List ℕ) → k < length revisions → slice_get (d ∷ line) k ≡ Some e
      → slice_get revisions k ≡ Some (record { generation = n - k; hash = encode_lower e })
  shared_read k e low read =
      let below : k < most = omega (arith, low, shared_length) in
      digest_read revisions n (take most (d ∷ line)) is k e low
      (sym (get_or-take most (d ∷ line) k e below ∙ get_or_from_slice_get (d ∷ line) k e e read))

  pub shared_first : (k : ℕ) (e : List ℕ) (revision : Revision) → k < length revisions
      → slice_get (d ∷ line) k ≡ Some e
      → is_first revision (drop k revisions) ≡
      (nat_eq revision.generation (n - k) && bytes_eq revision.hash (encode_lower e))
  shared_first k e revision low read = first_drop revisions k revision _ (shared_read k e low read)

  -- where these are all revisions, a line of all has their digests
  pub shared_all : (o : Option (List (List ℕ))) → IfSome o (λ l. (l ≡ d ∷ line) × (length l ≤ most))
      → IfSome o (λ l. map encode_lower l ≡ map (λ revision. revision.hash) revisions)
  shared_all None h = tt
  shared_all (Some l) h =
      ap (map encode_lower) (sym (take_all most l h.1) ∙ ap (take most) h.0)
      ∙ hashes n (take most (d ∷ line))
      ∙ ap (map (λ (revision : Revision). revision.hash)) is
    where
      hashes : (n : ℕ) (ds : List (List ℕ))
          → map encode_lower ds ≡ map (λ (revision : Revision). revision.hash) (revisions_from n ds)
      hashes n [] = refl
      hashes n (c ∷ ds) = ap (λ z. encode_lower c ∷ z) (hashes (n - 1) ds)

-- digests from a generation down are a path, where that generation is their number at least
pub down_path : (n : ℕ) (d : List ℕ) (ds : List (List ℕ)) → length ds < n → IsPath (revisions_from n (d ∷ ds))
down_path n d [] low = omega (arith, low)
down_path n d (e ∷ ds) low = (omega (arith, low), down_path (n - 1) e ds (omega (arith, low)))

-- the digests of a shared line are a path too
pub shared_path : (n : ℕ) (d : List ℕ) (line : List (List ℕ)) → length line < n
    → IsPath (revisions_from n (take n (d ∷ line)))
shared_path n d line low =
    rw (take_all n (d ∷ line) (omega (arith, low))) (down_path n d line low)
