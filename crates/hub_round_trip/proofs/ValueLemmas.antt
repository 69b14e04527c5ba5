-- The compact text of a value reads as the value.
use Rattle.std.proofs.Common.{◌≡◌, ℕ, suc, ◌≤◌, pos, negsuc, List, [], ◌∷◌, ◌++◌, Bool}
use Rattle.std.proofs.Common.{true, false, Some, option_map, option_and_then, Less, Greater}
use Rattle.std.proofs.Common.{nat_cmp, IsUtf8, refl, sym, ap, ◌∙◌, subst, arith, append-nil}
use Rattle.std.proofs.lemmas.Cmp.{nat_list_cmp_total}
use Rattle.std.proofs.lemmas.Fmt.{IsAscii-decimal, IsAscii-signed}
use Rattle.std.proofs.lemmas.Str.{IsUtf8-append, IsUtf8-from_ascii}
use Rattle.std.specs.Cmp.Lexicographic.{slice_cmp}
use Rattle.std.specs.Ordering.{ordering_reverse}
use Rattle.json.specs.Json as json
use Rattle.json.specs.Lex.{tokens}
use Rattle.json.specs.Print.{IsNumber, quoted}
use Rattle.json.specs.Tree as tree
use Rattle.json.proofs.Printed.Decimals.{IsNumber-decimal, IsNumber-signed_decimal}
use Rattle.json.proofs.Printed.Tokens.{tokens-print}
use Rattle.json.proofs.Printed.Trees.{value-json_tokens, ArePrintable-json_tokens}
use Rattle.json.proofs.Printed.Utf8.{IsUtf8-are_ascii, IsUtf8-quoted, IsUtf8-boolean}
use Rattle.serde_json.specs.Data.{Num, unsigned, negative, float, Data, null, boolean, number}
use Rattle.serde_json.specs.Data.{string, array, object, Items, no_items, item, Members}
use Rattle.serde_json.specs.Data.{no_members, member, put, depth, items_depth, members_depth}
use Rattle.serde_json.specs.Read.{number_of, of_json, of_items, of_members, max_depth, read}
use Rattle.serde_json.specs.Written.{number_text, outline, items_outline, members_outline}
use Rattle.serde_json.specs.Written.{comma_if, compact_text, items_text, members_text}
use Rattle.serde_json.proofs.Numbers.{number_of-decimal, number_of-negative}
use Rattle.serde_json.proofs.Texts.{print-outline}
use Rattle.hub_round_trip.specs.RoundTrip.{IsWhole, IsWritable, AreWritable, AreWritableMembers, IsBefore}
use Rattle.hub_round_trip.specs.RoundTrip.{DoKeysRise, IsOrdered, AreOrdered, AreOrderedMembers}

-- ---- the text that is written is JSON

number_is : (n : Num) → IsWhole n → IsNumber (number_text n)
number_is (unsigned n) h = IsNumber-decimal n h
number_is (negative (pos n)) h = absurd h
number_is (negative (negsuc n)) h = IsNumber-signed_decimal (negsuc n) h
number_is (float x) h = absurd h

mutual
  pub numbers-outline : (d : Data) → IsWritable d → tree.HasNumbers (outline d)
  numbers-outline null h = tt
  numbers-outline (boolean b) h = tt
  numbers-outline (number n) h = number_is n h
  numbers-outline (string s) h = tt
  numbers-outline (array ds) h = numbers-items_outline ds h
  numbers-outline (object ms) h = numbers-members_outline ms h

  numbers-items_outline : (ds : Items) → AreWritable ds → tree.ItemsHaveNumbers (items_outline ds)
  numbers-items_outline no_items h = tt
  numbers-items_outline (item d ds) h = (numbers-outline d h.0, numbers-items_outline ds h.1)

  numbers-members_outline : (ms : Members) → AreWritableMembers ms
      → tree.MembersHaveNumbers (members_outline ms)
  numbers-members_outline no_members h = tt
  numbers-members_outline (member k d ms) h = (numbers-outline d h.1, numbers-members_outline ms h.2)

mutual
  depth-outline : (d : Data) → tree.depth (outline d) ≡ depth d
  depth-outline null = refl
  depth-outline (boolean b) = refl
  depth-outline (number n) = refl
  depth-outline (string s) = refl
  depth-outline (array ds) = ap suc (depth-items_outline ds)
  depth-outline (object ms) = ap suc (depth-members_outline ms)

  depth-items_outline : (ds : Items) → tree.items_depth (items_outline ds) ≡ items_depth ds
  depth-items_outline no_items = refl
  depth-items_outline (item d ds) = rw (depth-outline d, depth-items_outline ds) refl

  depth-members_outline : (ms : Members) → tree.members_depth (members_outline ms) ≡ members_depth ms
  depth-members_outline no_members = refl
  depth-members_outline (member k d ms) = rw (depth-outline d, depth-members_outline ms) refl

-- a value's text reads as the value of its outline
pub read-compact_text : (content : Data) → IsWritable content → depth content ≤ max_depth
    → read (compact_text content) ≡ of_json (outline content)
read-compact_text content h shallow =
    let j = outline content in
    let same : tokens (compact_text content) ≡ tree.json_tokens j ++ [] =
    ap tokens (sym (print-outline content))
    ∙ tokens-print (tree.json_tokens j) (ArePrintable-json_tokens j (numbers-outline content h))
    ∙ sym (append-nil _) in
    ap (λ ts. option_and_then of_json (option_and_then (λ p. json.if_last p.0 p.1) (json.value max_depth ts)))
    same
    ∙ ap (λ o. option_and_then of_json (option_and_then (λ p. json.if_last p.0 p.1) o))
    (value-json_tokens j max_depth [] (omega (arith, shallow, depth-outline content)))

-- ---- the text is UTF-8

utf8-number : (n : Num) → IsWhole n → IsUtf8 (number_text n)
utf8-number (unsigned n) h = IsUtf8-from_ascii _ (IsAscii-decimal n h)
utf8-number (negative (pos n)) h = absurd h
utf8-number (negative (negsuc n)) h = IsUtf8-from_ascii _ (IsAscii-signed (negsuc n) h)
utf8-number (float x) h = absurd h

pub utf8-comma_if : (b : Bool) (s : List ℕ) → IsUtf8 s → IsUtf8 (comma_if b ++ s)
utf8-comma_if true s h = IsUtf8-append (44 ∷ []) s (IsUtf8-are_ascii (44 ∷ []) refl) h
utf8-comma_if false s h = h

pub utf8-member : (k s rest : List ℕ) → IsUtf8 k → IsUtf8 s → IsUtf8 rest
    → IsUtf8 (quoted k ++ 58 ∷ (s ++ rest))
utf8-member k s rest key value more =
    IsUtf8-append (quoted k) _ (IsUtf8-quoted k key)
    (IsUtf8-append (58 ∷ []) _ (IsUtf8-are_ascii (58 ∷ []) refl) (IsUtf8-append s rest value more))

mutual
  pub utf8-compact_text : (d : Data) → IsWritable d → IsUtf8 (compact_text d)
  utf8-compact_text null h = IsUtf8-are_ascii _ refl
  utf8-compact_text (boolean b) h = IsUtf8-boolean b
  utf8-compact_text (number n) h = utf8-number n h
  utf8-compact_text (string s) h = IsUtf8-quoted s h
  utf8-compact_text (array ds) h =
      IsUtf8-append (91 ∷ []) _ (IsUtf8-are_ascii (91 ∷ []) refl) (utf8-items_text false ds h)
  utf8-compact_text (object ms) h =
      IsUtf8-append (123 ∷ []) _ (IsUtf8-are_ascii (123 ∷ []) refl) (utf8-members_text false ms h)

  utf8-items_text : (later : Bool) (ds : Items) → AreWritable ds → IsUtf8 (items_text later ds)
  utf8-items_text later no_items h = IsUtf8-are_ascii (93 ∷ []) refl
  utf8-items_text later (item d ds) h =
      utf8-comma_if later _ (IsUtf8-append _ _ (utf8-compact_text d h.0) (utf8-items_text true ds h.1))

  utf8-members_text : (later : Bool) (ms : Members) → AreWritableMembers ms → IsUtf8 (members_text later ms)
  utf8-members_text later no_members h = IsUtf8-are_ascii (125 ∷ []) refl
  utf8-members_text later (member k d ms) h =
      utf8-comma_if later _
      (utf8-member k (compact_text d) _ h.0 (utf8-compact_text d h.1) (utf8-members_text true ms h.2))

-- ---- members that are put one after another

abbrev pub puts : Members → Members → Members
puts no_members found = found
puts (member k d ms) found = puts ms (put k d found)

abbrev append : Members → Members → Members
append no_members rest = rest
append (member k d ms) rest = member k d (append ms rest)

append-no_members : (ms : Members) → append ms no_members ≡ ms
append-no_members no_members = refl
append-no_members (member k d ms) = ap (member k d) (append-no_members ms)

one_more : (found : Members) (k : List ℕ) (content : Data) (rest : Members)
    → append (append found (member k content no_members)) rest ≡ append found (member k content rest)
one_more no_members k content rest = refl
one_more (member l e ms) k content rest = ap (member l e) (one_more ms k content rest)

before_middle : (l : List ℕ) (found : Members) (k : List ℕ) (content : Data) (rest : Members)
    → IsBefore l (append found (member k content rest)) → slice_cmp nat_cmp l k ≡ Less
before_middle l no_members k content rest h = h.0
before_middle l (member m e ms) k content rest h = before_middle l ms k content rest h.1

-- a key after the other keys goes last
put_last : (found : Members) (k : List ℕ) (content : Data) (rest : Members)
    → DoKeysRise (append found (member k content rest))
    → put k content found ≡ append found (member k content no_members)
put_last no_members k content rest h = refl
put_last (member l e ms) k content rest h =
    let past : slice_cmp nat_cmp k l ≡ Greater =
    nat_list_cmp_total.antisymm k l ∙ ap ordering_reverse (before_middle l ms k content rest h.0) in
    rw past (ap (member l e) (put_last ms k content rest h.1))

puts_in_order : (ms found : Members) → DoKeysRise (append found ms) → puts ms found ≡ append found ms
puts_in_order no_members found h = sym (append-no_members found)
puts_in_order (member k d ms) found h =
    rw (put_last found k d ms h)
    (puts_in_order ms (append found (member k d no_members))
    (subst DoKeysRise (sym (one_more found k d ms)) h)
    ∙ one_more found k d ms)

pub puts-no_members : (ms : Members) → DoKeysRise ms → puts ms no_members ≡ ms
puts-no_members ms h = puts_in_order ms no_members h

-- ---- the outline reads as the value

number_back : (n : Num) → IsWhole n → number_of (number_text n) ≡ Some n
number_back (unsigned n) h = number_of-decimal n h
number_back (negative (pos n)) h = absurd h
number_back (negative (negsuc n)) h = number_of-negative n h
number_back (float x) h = absurd h

mutual
  pub of_json-outline : (d : Data) → IsWritable d → IsOrdered d → of_json (outline d) ≡ Some d
  of_json-outline null h o = refl
  of_json-outline (boolean b) h o = refl
  of_json-outline (number n) h o = ap (option_map number) (number_back n h)
  of_json-outline (string s) h o = refl
  of_json-outline (array ds) h o = ap (option_map array) (of_items-items_outline ds h o)
  of_json-outline (object ms) h o =
      ap (option_map object)
      (of_members-members_outline ms no_members h o.1 ∙ ap Some (puts-no_members ms o.0))

  pub of_items-items_outline : (ds : Items) → AreWritable ds → AreOrdered ds
      → of_items (items_outline ds) ≡ Some ds
  of_items-items_outline no_items h o = refl
  of_items-items_outline (item d ds) h o =
      rw (of_json-outline d h.0 o.0, of_items-items_outline ds h.1 o.1) refl

  pub of_members-members_outline : (ms found : Members) → AreWritableMembers ms → AreOrderedMembers ms
      → of_members (members_outline ms) found ≡ Some (puts ms found)
  of_members-members_outline no_members found h o = refl
  of_members-members_outline (member k d ms) found h o =
      rw (of_json-outline d h.1 o.0) (of_members-members_outline ms (put k d found) h.2 o.1)
