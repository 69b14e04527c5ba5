use Rattle.std.proofs.Common.{◌≡◌, ◌+◌, Bool, true, false, List, [], ◌∷◌, ◌++◌, drop, string_bytes}
use Rattle.std.proofs.Common.{refl, sym, ap, ◌∙◌, append_assoc, arith}
use Rattle.std.specs.Prelude.{◌||◌}
use Rattle.std.proofs.lemmas.List.{drop_more}
use Rattle.json.specs.Token.{Token, key}
use Rattle.json.specs.Tree.{json_tokens, items_tokens, members_tokens}
use Rattle.serde_json.specs.View.{view, items_view, members_view}
use Rattle.serde_json.specs.Written.{has_float, items_have_float, members_have_float}
use Rattle.serde_json.specs.Written.{outline, items_outline, members_outline}
use Rattle.hub_document.proofs.write.+write.Goals as goal

rest_false : (a b : Bool) → (a || b) ≡ false → b ≡ false
rest_false true b h = absurd (cc)
rest_false false b h = h

-- a value is written, and then the rest
value_written : (old new value rest : List Token) → new ≡ old ++ value → old ++ (value ++ rest) ≡ new ++ rest
value_written old new value rest e = sym (append_assoc old value rest) ∙ ap (λ ts. ts ++ rest) (sym e)

-- a name and its value are written, and then the rest
member_written : (old mid new value rest : List Token) (name : Token) → mid ≡ old ++ name ∷ []
    → new ≡ mid ++ value → old ++ (name ∷ (value ++ rest)) ≡ new ++ rest
member_written old mid new value rest name m n =
    sym (append_assoc old (name ∷ []) (value ++ rest)) ∙ ap (λ ts. ts ++ (value ++ rest)) (sym m)
    ∙ value_written mid new value rest n

pub write_items-loop-item-preserved : goal.write_items-loop-item-preserved
write_items-loop-item-preserved t c =
    let l = c.loop-item in
    let items = c.deref-item-items.result.now in
    let one = c.item-item.result in
    let rest = drop (l.item-index + 1) items in
    let here : drop l.item-index items ≡ one ∷ rest =
    drop_more items l.item-index one (omega arith) ∙ ap (λ y. y ∷ rest) (sym c.item-item.is) in
    record {
      text = l.invariant.text
          ∙ ap (λ ds. l.out.tokens ++ items_tokens (items_outline (items_view ds))) here
          ∙ value_written l.out.tokens c.write_value.new.out.tokens (json_tokens (outline (view one)))
          (items_tokens (items_outline (items_view rest))) c.in_ok-write_value.ensures.ok;
      whole = rest_false (has_float (view one)) (items_have_float (items_view rest))
          (sym (ap (λ ds. items_have_float (items_view ds)) here) ∙ l.invariant.whole);
      before = c.write_value.ensures.before ∙ l.invariant.before;
    }

pub write_members-loop-key-preserved : goal.write_members-loop-key-preserved
write_members-loop-key-preserved t c =
    let l = c.loop-key in
    let name = string_bytes c.in-Some.key.now in
    let value = c.in-Some.member.now in
    let rest = c.next.new.self in
    let steps = c.in-Some.ensures.steps in
    let named : c.key.new.self.tokens ≡ l.out.tokens ++ key name ∷ [] =
    c.in_ok-key.ensures.ok ∙ ap (λ n. l.out.tokens ++ key n ∷ []) c.as_str.ensures.value in
    record {
      text = l.invariant.text
          ∙ ap (λ es. l.out.tokens ++ members_tokens (members_outline (members_view es))) steps
          ∙ member_written l.out.tokens c.key.new.self.tokens c.write_value.new.out.tokens
          (json_tokens (outline (view value))) (members_tokens (members_outline (members_view rest))) (key name)
          named c.in_ok-write_value.ensures.ok;
      whole = rest_false (has_float (view value)) (members_have_float (members_view rest))
          (sym (ap (λ es. members_have_float (members_view es)) steps) ∙ l.invariant.whole);
      before = c.write_value.ensures.before ∙ c.key.ensures.room.0 ∙ l.invariant.before;
    }
