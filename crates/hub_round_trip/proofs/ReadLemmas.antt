-- A value that is read is ordered, and its numbers and texts can be written.
use Rattle.std.proofs.Common.{◌≡◌, ℕ, zero, suc, ◌<◌, ◌≤◌, ◌^◌, pos, negsuc, List, [], ◌∷◌, Bool, true}
use Rattle.std.proofs.Common.{false, cond, Float, neg_ℤ, Option, Some, None, option_map, option_and_then}
use Rattle.std.proofs.Common.{Ordering, Less, Equal, Greater, nat_cmp, IsUtf8, refl, subst, arith}
use Rattle.std.proofs.lemmas.Bool.{or_parts}
use Rattle.std.proofs.lemmas.Bool.Decides.{nat_tests}
use Rattle.std.proofs.lemmas.Str.{IsUtf8-from_is_utf8}
use Rattle.std.specs.Cmp.Lexicographic.{slice_cmp}
use Rattle.std.specs.Ordering.{match_ordering}
use Rattle.std.specs.Prelude.{⊤, IfSome, ◌&&◌, nat_lt, nat_le}
use Rattle.std.specs.Str.{is_utf8}
use Rattle.json.specs.Json as json
use Rattle.json.specs.Lex.{tokens}
use Rattle.json.specs.Token.{Token}
use Rattle.json.proofs.Unique.Spelling.{value-json_tokens_back}
use Rattle.serde_json.specs.Data.{Num, unsigned, negative, float, Data, null, boolean, number, string}
use Rattle.serde_json.specs.Data.{array, object, Items, no_items, item, Members, no_members, member, put}
use Rattle.serde_json.specs.Find.{get_member}
use Rattle.serde_json.specs.Read.{number_of, of_json, of_items, of_members, max_depth, read}
use Rattle.serde_json.specs.Written.{has_float, items_have_float, members_have_float}
use Rattle.hub_document.specs.Read.{json_of}
use Rattle.hub_round_trip.specs.RoundTrip.{IsWhole, IsWritable, AreWritable, AreWritableMembers}
use Rattle.hub_round_trip.specs.RoundTrip.{DoKeysRise, IsOrdered, AreOrdered, AreOrderedMembers}
use Rattle.hub_round_trip.proofs.MemberLemmas.{rise_put}
use Rattle.hub_round_trip.proofs.Utf8Lemmas.{either, HaveUtf8, tokens_have_utf8, IsJsonUtf8}
use Rattle.hub_round_trip.proofs.Utf8Lemmas.{AreItemsUtf8, AreMembersUtf8, json_has}

-- ---- facts of values before floats are refused

abbrev IsRead : Num → Type 0
IsRead (unsigned n) = n < 2 ^ 64
IsRead (negative (pos n)) = ⊥
IsRead (negative (negsuc n)) = n < 2 ^ 63
IsRead (float x) = ⊤

abbrev mutual
  IsLoose : Data → Type 0
  IsLoose null = ⊤
  IsLoose (boolean b) = ⊤
  IsLoose (number n) = IsRead n
  IsLoose (string s) = IsUtf8 s
  IsLoose (array ds) = AreLoose ds
  IsLoose (object ms) = DoKeysRise ms × AreLooseMembers ms

  AreLoose : Items → Type 0
  AreLoose no_items = ⊤
  AreLoose (item d ds) = IsLoose d × AreLoose ds

  AreLooseMembers : Members → Type 0
  AreLooseMembers no_members = ⊤
  AreLooseMembers (member k d ms) = IsUtf8 k × IsLoose d × AreLooseMembers ms

-- ---- numbers

some_map : {A B : Type 0} (P : A → Type 0) (Q : B → Type 0) (f : A → B) → ((a : A) → P a → Q (f a))
    → (o : Option A) → IfSome o P → IfSome (option_map f o) Q
some_map P Q f next None h = tt
some_map P Q f next (Some a) h = next a h

some_then : {A B : Type 0} (P : A → Type 0) (Q : B → Type 0) (f : A → Option B)
    → ((a : A) → P a → IfSome (f a) Q) → (o : Option A) → IfSome o P → IfSome (option_and_then f o) Q
some_then P Q f next None h = tt
some_then P Q f next (Some a) h = next a h

float_is_read : (finite : Bool) (x : Float) → IfSome (cond finite (Some (float x)) None) IsRead
float_is_read true x = tt
float_is_read false x = tt

unsigned_is_read : (integer : Bool) (n : ℕ) (t : Bool) (other : Option Num)
    → (integer && nat_lt n (2 ^ 64)) ≡ t → IfSome other IsRead
    → IfSome (cond t (Some (unsigned n)) other) IsRead
unsigned_is_read integer n true other e h = grind (arith, nat_tests)
unsigned_is_read integer n false other e h = h

negated : (n : ℕ) → 0 < n → n ≤ 2 ^ 63 → IsRead (negative (neg_ℤ (pos n)))
negated zero some most = absurd (omega arith)
negated (suc n) some most = omega arith

negative_is_read : (integer : Bool) (n : ℕ) (t : Bool) (other : Option Num)
    → (integer && nat_lt 0 n && nat_le n (2 ^ 63)) ≡ t → IfSome other IsRead
    → IfSome (cond t (Some (negative (neg_ℤ (pos n)))) other) IsRead
negative_is_read integer n true other e h = negated n (grind (arith, nat_tests)) (grind (arith, nat_tests))
negative_is_read integer n false other e h = h

-- a number's text has a minus or not, is an integer that fits or not, and a finite float or not
forms_are_read : (minus i f j g : Bool) (n m : ℕ) (x y : Float)
    → IfSome (cond minus
    (cond (i && nat_lt 0 n && nat_le n (2 ^ 63)) (Some (negative (neg_ℤ (pos n))))
    (cond f (Some (float x)) None))
    (cond (j && nat_lt m (2 ^ 64)) (Some (unsigned m)) (cond g (Some (float y)) None))) IsRead
forms_are_read minus i f j g n m x y =
    either (λ o. IfSome o IsRead) minus _ _ (negative_is_read i n _ _ refl (float_is_read f x))
    (unsigned_is_read j m _ _ refl (float_is_read g y))

number_is_read : (s : List ℕ) → IfSome (number_of s) IsRead
unfolding number_of
number_is_read s = search forms_are_read

-- ---- values

loose_put_at : (ordering : Ordering) (k l : List ℕ) (content e : Data) (ms : Members) → IsUtf8 k
    → IsLoose content → AreLooseMembers (member l e ms) → AreLooseMembers (put k content ms)
    → AreLooseMembers
    (match_ordering ordering (member k content (member l e ms)) (member l content ms)
    (member l e (put k content ms)))
loose_put_at Less k l content e ms key value h later = (key, value, h)
loose_put_at Equal k l content e ms key value h later = (h.0, value, h.2)
loose_put_at Greater k l content e ms key value h later = (h.0, h.1, later)

loose_put : (k : List ℕ) (content : Data) (ms : Members) → IsUtf8 k → IsLoose content → AreLooseMembers ms
    → AreLooseMembers (put k content ms)
loose_put k content no_members key value h = (key, value, tt)
loose_put k content (member l e ms) key value h =
    loose_put_at _ k l content e ms key value h (loose_put k content ms key value h.2)

abbrev AreObject : Members → Type 0
AreObject ms = DoKeysRise ms × AreLooseMembers ms

mutual
  loose-of_json : (j : json.Json) → IsJsonUtf8 j → IfSome (of_json j) IsLoose
  loose-of_json json.null h = tt
  loose-of_json (json.boolean b) h = tt
  loose-of_json (json.number s) h = some_map IsRead IsLoose number (λ n x. x) (number_of s) (number_is_read s)
  loose-of_json (json.string s) h = h
  loose-of_json (json.array js) h =
      some_map AreLoose IsLoose array (λ ds x. x) (of_items js) (loose-of_items js h)
  loose-of_json (json.object ms) h =
      some_map AreObject IsLoose object (λ ds x. x) (of_members ms no_members)
      (loose-of_members ms no_members h (tt, tt))

  loose-of_items : (js : json.Items) → AreItemsUtf8 js → IfSome (of_items js) AreLoose
  loose-of_items json.no_items h = tt
  loose-of_items (json.item j js) h =
      some_then IsLoose AreLoose (λ d. option_map (item d) (of_items js))
      (λ d x. some_map AreLoose AreLoose (item d) (λ ds y. (x, y)) (of_items js) (loose-of_items js h.1))
      (of_json j) (loose-of_json j h.0)

  loose-of_members : (ms : json.Members) (found : Members) → AreMembersUtf8 ms → AreObject found
      → IfSome (of_members ms found) AreObject
  loose-of_members json.no_members found h o = o
  loose-of_members (json.member k j ms) found h o =
      some_then IsLoose AreObject (λ d. of_members ms (put k d found))
      (λ d x. loose-of_members ms (put k d found) h.2 (rise_put k d found o.0, loose_put k d found h.0 x o.1))
      (of_json j) (loose-of_json j h.1)

-- ---- without floats

whole_number : (n : Num) → IsRead n → has_float (number n) ≡ false → IsWhole n
whole_number (unsigned n) h e = h
whole_number (negative (pos n)) h e = h
whole_number (negative (negsuc n)) h e = h
whole_number (float x) h e = absurd (cc)

mutual
  writable-loose : (d : Data) → IsLoose d → has_float d ≡ false → IsWritable d
  writable-loose null h e = tt
  writable-loose (boolean b) h e = tt
  writable-loose (number n) h e = whole_number n h e
  writable-loose (string s) h e = h
  writable-loose (array ds) h e = writable-items ds h e
  writable-loose (object ms) h e = writable-members ms h.1 e

  writable-items : (ds : Items) → AreLoose ds → items_have_float ds ≡ false → AreWritable ds
  writable-items no_items h e = tt
  writable-items (item d ds) h e =
      let p = or_parts (has_float d) _ e in (writable-loose d h.0 p.0, writable-items ds h.1 p.1)

  writable-members : (ms : Members) → AreLooseMembers ms → members_have_float ms ≡ false
      → AreWritableMembers ms
  writable-members no_members h e = tt
  writable-members (member k d ms) h e =
      let p = or_parts (has_float d) _ e in (h.0, writable-loose d h.1 p.0, writable-members ms h.2 p.1)

mutual
  ordered-loose : (d : Data) → IsLoose d → IsOrdered d
  ordered-loose null h = tt
  ordered-loose (boolean b) h = tt
  ordered-loose (number n) h = tt
  ordered-loose (string s) h = tt
  ordered-loose (array ds) h = ordered-items ds h
  ordered-loose (object ms) h = (h.0, ordered-members ms h.1)

  ordered-items : (ds : Items) → AreLoose ds → AreOrdered ds
  ordered-items no_items h = tt
  ordered-items (item d ds) h = (ordered-loose d h.0, ordered-items ds h.1)

  ordered-members : (ms : Members) → AreLooseMembers ms → AreOrderedMembers ms
  ordered-members no_members h = tt
  ordered-members (member k d ms) h = (ordered-loose d h.1, ordered-members ms h.2)

-- ---- the whole text

loose_last : (j : json.Json) (r : List Token) (content : Data) → IsJsonUtf8 j
    → option_and_then of_json (json.if_last j r) ≡ Some content → IsLoose content
loose_last j [] content h e = subst (λ o. IfSome o IsLoose) e (loose-of_json j h)
loose_last j (t ∷ r) content h e = absurd (cc)

loose_value : (text : List ℕ) (o : Option (json.Json × List Token)) (content : Data)
    → IsUtf8 text → json.value max_depth (tokens text) ≡ o
    → option_and_then of_json (option_and_then (λ p. json.if_last p.0 p.1) o) ≡ Some content → IsLoose content
loose_value text None content u is e = absurd (cc)
loose_value text (Some p) content u is e =
    let spelled = value-json_tokens_back max_depth (tokens text) p.1 p.0 is in
    loose_last p.0 p.1 content (json_has p.0 p.1 (subst HaveUtf8 spelled (tokens_have_utf8 text u))).0 e

loose_text : (text : List ℕ) (b : Bool) (content : Data) → is_utf8 text ≡ b
    → cond b (read text) None ≡ Some content → IsLoose content × (read text ≡ Some content)
loose_text text true content u e = (loose_value text _ content (IsUtf8-from_is_utf8 text u) refl e, e)
loose_text text false content u e = absurd (cc)

pub json_of_is : (text : List ℕ) (content : Data) → json_of text ≡ Some content
    → IsOrdered content × (has_float content ≡ false → IsWritable content) × (read text ≡ Some content)
json_of_is text content e =
    let h = loose_text text _ content refl e in (ordered-loose content h.0, writable-loose content h.0, h.1)

-- the value at a key can be written
pub member_writable : (k : List ℕ) (ms : Members) → AreWritableMembers ms
    → IfSome (get_member k ms) IsWritable
member_writable k no_members h = tt
member_writable k (member l e ms) h = at (slice_cmp nat_cmp k l) (member_writable k ms h.2)
  where
    at : (ordering : Ordering) → IfSome (get_member k ms) IsWritable
        → IfSome (match_ordering ordering (get_member k ms) (Some e) (get_member k ms)) IsWritable
    at Less rest = rest
    at Equal rest = h.1
    at Greater rest = rest
