-- Values that are made from trees, member by member.
use Rattle.std.proofs.Common.{◌≡◌, ◌<◌, ℕ, Bool, true, false, List, [], ◌∷◌, ◌++◌, length, Option, Some, None}
use Rattle.std.proofs.Common.{option_map, Result, Ok, Err, IsUtf8, refl, ap, arith}
use Rattle.std.proofs.lemmas.Str.{IsUtf8-from_is_utf8, is_utf8-from_IsUtf8}
use Rattle.std.specs.Borrow.{Bor}
use Rattle.std.specs.Prelude.{IfErr, IsTrue}
use Rattle.std.specs.Str.{is_utf8}
use Rattle.json.specs.Json.{value}
use Rattle.json.specs.Lex.{lex, punctuate, tokens}
use Rattle.json.specs.Reads.{opens}
use Rattle.json.specs.Token.{Token}
use Rattle.json.specs.Json as json
use Rattle.json.specs.Value.{value_view, items_view as trees_view, members_view as tree_members_view}
use Rattle.json.specs.declared.value.Value.{Value as Tree}
use Rattle.serde_json.specs.Data.{Data, Items, no_items, item, Members, put}
use Rattle.serde_json.specs.Read.{of_json, of_items, of_members}
use Rattle.serde_json.specs.View.{view, items_view}
use Rattle.serde_json.specs.declared.value.Value.{Value}
use Rattle.hub_document.specs.Read.{json_of}

-- the items of a list of values, and the rest after them
abbrev pub items_before : List Value → Items → Items
items_before [] rest = rest
items_before (v ∷ vs) rest = item (view v) (items_before vs rest)

pub items_before-no_items : (vs : List Value) → items_before vs no_items ≡ items_view vs
items_before-no_items [] = refl
items_before-no_items (v ∷ vs) = ap (item (view v)) (items_before-no_items vs)

items_push : (vs : List Value) (v : Value) (rest : Items)
    → items_before vs (item (view v) rest) ≡ items_before (vs ++ v ∷ []) rest
items_push [] v rest = refl
items_push (w ∷ vs) v rest = ap (item (view w)) (items_push vs v rest)

pub one_more_item : (vs : List Value) (v : Value) (rest : Option Items)
    → option_map (items_before vs) (option_map (item (view v)) rest)
    ≡ option_map (items_before (vs ++ v ∷ [])) rest
one_more_item vs v None = refl
one_more_item vs v (Some rest) = ap Some (items_push vs v rest)

module _ {A : Type 0} where
  -- a tree with a value stands in front of other trees
  pub item_read : (tree : Tree A) (trees : List (Tree A)) (d : Data) → of_json (value_view tree) ≡ Some d
      → of_items (trees_view (tree ∷ trees)) ≡ option_map (item d) (of_items (trees_view trees))
  item_read tree trees d is = rw is refl

  pub member_read : (m : Bor (List ℕ) × Tree A) (ms : List (Bor (List ℕ) × Tree A)) (found : Members)
      (d : Data) → of_json (value_view m.1) ≡ Some d
      → of_members (tree_members_view (m ∷ ms)) found
      ≡ of_members (tree_members_view ms) (put m.0.now d found)
  member_read m ms found d is = rw is refl

-- ---- whole texts

no_text_by : (bytes : List ℕ) (b : Bool) → is_utf8 bytes ≡ b → ¬ (IsUtf8 bytes) → json_of bytes ≡ None
no_text_by bytes true e not = absurd (not (IsUtf8-from_is_utf8 bytes e))
no_text_by bytes false e not = rw e refl

pub no_text : (bytes : List ℕ) → ¬ (IsUtf8 bytes) → json_of bytes ≡ None
no_text bytes = no_text_by bytes (is_utf8 bytes) refl

-- a text whose tokens are one tree reads as the tree's value
pub whole_value : (bytes text : List ℕ) (tree : json.Json) → text ≡ bytes → IsUtf8 bytes
    → value 127 (tokens text) ≡ Some (tree, []) → json_of bytes ≡ of_json tree
whole_value bytes text tree same utf8 is = rw (is_utf8-from_IsUtf8 bytes utf8, ← same, is) refl

some_token : (text : List ℕ) → 0 < length (tokens text) → 0 < length text
unfolding lex punctuate
some_token [] h = h
some_token (x ∷ xs) h = omega arith

some_opened : (ts : List Token) → IsTrue (opens ts) → 0 < length ts
some_opened [] h = absurd (cc)
some_opened (t ∷ ts) h = omega arith

pub some_bytes : (bytes text : List ℕ) → text ≡ bytes → 0 < length (tokens text) → 0 < length bytes
some_bytes bytes text same some = rw same at (some_token text some)

pub opened_bytes : (bytes text : List ℕ) → text ≡ bytes → IsTrue (opens (tokens text)) → 0 < length bytes
opened_bytes bytes text same opened = some_bytes bytes text same (some_opened (tokens text) opened)

pub of_any_err : {V E : Type 0} (r : Result V E) (P : E → Type 0) → ((e : E) → P e) → IfErr r P
of_any_err (Ok v) P all = tt
of_any_err (Err e) P all = all e
