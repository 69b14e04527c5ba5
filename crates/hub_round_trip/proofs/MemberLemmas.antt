-- The values of members that are put one after another.
use Rattle.std.proofs.Common.{◌≡◌, ℕ, List, Bool, true, false, Ordering, Less, Equal}
use Rattle.std.proofs.Common.{Greater, nat_cmp, cond, refl, sym, ap, ◌∙◌, subst, true≢false}
use Rattle.std.proofs.lemmas.Bool.{and_from}
use Rattle.std.proofs.lemmas.Cmp.{nat_list_cmp_total}
use Rattle.std.proofs.lemmas.Map.Text.{is_eq-slice_cmp}
use Rattle.std.proofs.lemmas.Slice.Eq.{bytes_eq-Decides}
use Rattle.std.specs.Cmp.Lexicographic.{slice_cmp}
use Rattle.std.specs.Ordering.{match_ordering, ordering_reverse, is_eq}
use Rattle.std.specs.Prelude.{⊤, ◌||◌}
use Rattle.serde_json.specs.Data.{Num, unsigned, negative, float, Data, null, boolean, number, string}
use Rattle.serde_json.specs.Data.{array, object, Items, no_items, item, Members, no_members, member, put}
use Rattle.serde_json.specs.Find.{get_member}
use Rattle.serde_json.specs.Written.{has_float, items_have_float, members_have_float}
use Rattle.serde_json.proofs.Views.{get_member-put_other}
use Rattle.hub_document.specs.BodyText.{is_hidden, plain}
use Rattle.hub_round_trip.specs.RoundTrip.{IsWhole, IsWritable, AreWritable}
use Rattle.hub_round_trip.specs.RoundTrip.{AreWritableMembers, IsBefore, DoKeysRise, AreOwn}
use Rattle.hub_document.specs.SpecialMembers.{is_good_member, are_good_members}
use Rattle.hub_round_trip.proofs.ValueLemmas.{puts}

-- ---- keys that compare as equal are the same

pub same_key : (k l : List ℕ) → slice_cmp nat_cmp k l ≡ Equal → k ≡ l
same_key k l e = (bytes_eq-Decides k l).0 (sym (is_eq-slice_cmp k l) ∙ ap is_eq e)

-- ---- keys that rise

before_put_at : (ordering : Ordering) (k j l : List ℕ) (content e : Data) (ms : Members)
    → slice_cmp nat_cmp j l ≡ ordering
    → slice_cmp nat_cmp k j ≡ Less → IsBefore k (member l e ms) → IsBefore k (put j content ms)
    → IsBefore k (match_ordering ordering (member j content (member l e ms)) (member l content ms)
    (member l e (put j content ms)))
before_put_at Less k j l content e ms is first h later = (first, h)
before_put_at Equal k j l content e ms is first h later = h
before_put_at Greater k j l content e ms is first h later = (h.0, later)

before_put : (k j : List ℕ) (content : Data) (ms : Members) → slice_cmp nat_cmp k j ≡ Less → IsBefore k ms
    → IsBefore k (put j content ms)
before_put k j content no_members first h = (first, tt)
before_put k j content (member l e ms) first h =
    before_put_at _ k j l content e ms refl first h (before_put k j content ms first h.1)

before_all : (k l : List ℕ) (ms : Members) → slice_cmp nat_cmp k l ≡ Less → IsBefore l ms → IsBefore k ms
before_all k l no_members first h = tt
before_all k l (member m e ms) first h =
    (nat_list_cmp_total.trans k l m first h.0, before_all k l ms first h.1)

past : (k l : List ℕ) → slice_cmp nat_cmp k l ≡ Greater → slice_cmp nat_cmp l k ≡ Less
past k l e = nat_list_cmp_total.antisymm l k ∙ ap ordering_reverse e

rise_put_at : (ordering : Ordering) (k l : List ℕ) (content e : Data) (ms : Members)
    → slice_cmp nat_cmp k l ≡ ordering → DoKeysRise (member l e ms) → DoKeysRise (put k content ms)
    → DoKeysRise (match_ordering ordering (member k content (member l e ms)) (member l content ms)
    (member l e (put k content ms)))
rise_put_at Less k l content e ms is h later = ((is, before_all k l ms is h.0), h)
rise_put_at Equal k l content e ms is h later = h
rise_put_at Greater k l content e ms is h later = (before_put l k content ms (past k l is) h.0, later)

pub rise_put : (k : List ℕ) (content : Data) (ms : Members) → DoKeysRise ms → DoKeysRise (put k content ms)
rise_put k content no_members h = (tt, tt)
rise_put k content (member l e ms) h = rise_put_at _ k l content e ms refl h (rise_put k content ms h.1)

-- a key before the others goes first
put_first : (k : List ℕ) (content : Data) (ms : Members) → IsBefore k ms
    → put k content ms ≡ member k content ms
put_first k content no_members h = refl
put_first k content (member l e ms) h = rw h.0 refl

-- ---- a document's own members

pub before_plain : (k : List ℕ) (ms : Members) → IsBefore k ms → IsBefore k (plain ms)
before_plain k no_members h = tt
before_plain k (member l e ms) h = at (is_hidden l) h.0 (before_plain k ms h.1)
  where
    at : (b : Bool) → slice_cmp nat_cmp k l ≡ Less → IsBefore k (plain ms)
        → IsBefore k (cond b (plain ms) (member l e (plain ms)))
    at true first rest = rest
    at false first rest = (first, rest)

pub rise_plain : (ms : Members) → DoKeysRise ms → DoKeysRise (plain ms)
rise_plain no_members h = tt
rise_plain (member l e ms) h = at (is_hidden l) (before_plain l ms h.0) (rise_plain ms h.1)
  where
    at : (b : Bool) → IsBefore l (plain ms) → DoKeysRise (plain ms)
        → DoKeysRise (cond b (plain ms) (member l e (plain ms)))
    at true first rest = rest
    at false first rest = (first, rest)

pub own_plain : (ms : Members) → AreOwn (plain ms)
own_plain no_members = tt
own_plain (member l e ms) = at (is_hidden l) refl (own_plain ms)
  where
    at : (b : Bool) → is_hidden l ≡ b → AreOwn (plain ms) → AreOwn (cond b (plain ms) (member l e (plain ms)))
    at true is rest = rest
    at false is rest = (is, rest)

-- an own member is put among the own members alone
plain_put_at : (ordering : Ordering) (b : Bool) (k l : List ℕ) (content e : Data) (ms : Members)
    → slice_cmp nat_cmp k l ≡ ordering → is_hidden l ≡ b → is_hidden k ≡ false → DoKeysRise (member l e ms)
    → plain (put k content ms) ≡ put k content (plain ms)
    → plain (match_ordering ordering (member k content (member l e ms)) (member l content ms)
    (member l e (put k content ms)))
    ≡ put k content (cond b (plain ms) (member l e (plain ms)))
plain_put_at Less true k l content e ms is hides own h later =
    rw (own, hides) (sym (put_first k content (plain ms) (before_plain k ms (before_all k l ms is h.0))))
plain_put_at Less false k l content e ms is hides own h later = rw (own, hides, is) refl
plain_put_at Equal true k l content e ms is hides own h later =
    absurd (true≢false (sym hides ∙ sym (ap is_hidden (same_key k l is)) ∙ own))
plain_put_at Equal false k l content e ms is hides own h later = rw (hides, is) refl
plain_put_at Greater true k l content e ms is hides own h later = rw hides later
plain_put_at Greater false k l content e ms is hides own h later = rw (hides, is) (ap (member l e) later)

plain_put : (k : List ℕ) (content : Data) (ms : Members) → is_hidden k ≡ false → DoKeysRise ms
    → plain (put k content ms) ≡ put k content (plain ms)
plain_put k content no_members own h = rw own refl
plain_put k content (member l e ms) own h =
    plain_put_at _ _ k l content e ms refl refl own h (plain_put k content ms own h.1)

pub plain-puts : (ms found : Members) → AreOwn ms → DoKeysRise found
    → plain (puts ms found) ≡ puts ms (plain found)
plain-puts no_members found own h = refl
plain-puts (member k d ms) found own h =
    plain-puts ms (put k d found) own.1 (rise_put k d found h) ∙ ap (puts ms) (plain_put k d found own.0 h)

-- members that are not the document's own keep their values
pub get_member-puts : (q : List ℕ) (ms found : Members) → is_hidden q ≡ true → AreOwn ms
    → get_member q (puts ms found) ≡ get_member q found
get_member-puts q no_members found hides own = refl
get_member-puts q (member k d ms) found hides own =
    let other : q ≡ k → ⊥ = λ same. true≢false (sym hides ∙ ap is_hidden same ∙ own.0) in
    get_member-puts q ms (put k d found) hides own.1 ∙ get_member-put_other q k d found other

-- ---- members that a document may have

-- a document may have each member, and no member has a float
abbrev pub AllFit : Members → Type 0
AllFit no_members = ⊤
AllFit (member k d ms) = (is_good_member k d ≡ true) × (has_float d ≡ false) × AllFit ms

fit_put_at : (ordering : Ordering) (k l : List ℕ) (content e : Data) (ms : Members)
    → slice_cmp nat_cmp k l ≡ ordering
    → is_good_member k content ≡ true → has_float content ≡ false → AllFit (member l e ms)
    → AllFit (put k content ms)
    → AllFit (match_ordering ordering (member k content (member l e ms)) (member l content ms)
    (member l e (put k content ms)))
fit_put_at Less k l content e ms is good whole h later = (good, whole, h)
fit_put_at Equal k l content e ms is good whole h later =
    (subst (λ m. is_good_member m content ≡ true) (same_key k l is) good, whole, h.2)
fit_put_at Greater k l content e ms is good whole h later = (h.0, h.1, later)

pub fit_put : (k : List ℕ) (content : Data) (ms : Members) → is_good_member k content ≡ true
    → has_float content ≡ false → AllFit ms → AllFit (put k content ms)
fit_put k content no_members good whole h = (good, whole, tt)
fit_put k content (member l e ms) good whole h =
    fit_put_at _ k l content e ms refl good whole h (fit_put k content ms good whole h.2)

whole_number : (n : Num) → IsWhole n → has_float (number n) ≡ false
whole_number (unsigned n) h = refl
whole_number (negative z) h = refl
whole_number (float x) h = absurd h

neither : (a b : Bool) → a ≡ false → b ≡ false → (a || b) ≡ false
neither true b x y = x
neither false b x y = y

mutual
  pub whole-writable : (d : Data) → IsWritable d → has_float d ≡ false
  whole-writable null h = refl
  whole-writable (boolean b) h = refl
  whole-writable (number n) h = whole_number n h
  whole-writable (string s) h = refl
  whole-writable (array ds) h = whole-items ds h
  whole-writable (object ms) h = whole-members ms h

  whole-items : (ds : Items) → AreWritable ds → items_have_float ds ≡ false
  whole-items no_items h = refl
  whole-items (item d ds) h = neither _ _ (whole-writable d h.0) (whole-items ds h.1)

  whole-members : (ms : Members) → AreWritableMembers ms → members_have_float ms ≡ false
  whole-members no_members h = refl
  whole-members (member k d ms) h = neither _ _ (whole-writable d h.1) (whole-members ms h.2)

own_is_good : (k : List ℕ) (content : Data) → is_hidden k ≡ false → is_good_member k content ≡ true
own_is_good k content own = rw own refl

pub fit-puts : (ms found : Members) → AreOwn ms → AreWritableMembers ms → AllFit found
    → AllFit (puts ms found)
fit-puts no_members found own h fit = fit
fit-puts (member k d ms) found own h fit =
    fit-puts ms (put k d found) own.1 h.2
    (fit_put k d found (own_is_good k d own.0) (whole-writable d h.1) fit)

pub good-fit : (ms : Members) → AllFit ms → are_good_members ms ≡ true
good-fit no_members h = refl
good-fit (member k d ms) h = and_from _ _ h.0 (good-fit ms h.2)

pub whole-fit : (ms : Members) → AllFit ms → members_have_float ms ≡ false
whole-fit no_members h = refl
whole-fit (member k d ms) h = neither _ _ h.1 (whole-fit ms h.2)
