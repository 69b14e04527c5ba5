use Rattle.std.proofs.Common.{◌≡◌, ◌∙◌, ap, Some, None, List, ℕ}
use Rattle.std.specs.Map.{update}
use Rattle.std.specs.Str.{bytes_eq}
use Rattle.std.specs.BTreeMap.{get_by_text}
use Rattle.std.specs.String.{string_bytes}
use Rattle.std.proofs.lemmas.Map.Text.{btree_map_updates_text}
use Rattle.hub_index.proofs.ListLemmas.{taken_back}
use Rattle.hub_updates.specs.Kept.{ids_of}
use Rattle.hub_updates.proofs.log.add.Goals as goal

pub returns-clause-numbers : goal.returns-clause-numbers
returns-clause-numbers c = λ q. btree_map_updates_text
    (string_bytes c.in_ok-key.key) c.args.numbers.now c.insert.new.self _ c.in_ok-insert.ensures.updates q
    ∙ ap (λ i. update bytes_eq (get_by_text c.args.numbers.now) i (Some c.len-number.result) q)
    (c.in_ok-key.ensures.ok ∙ c.as_str.ensures.value)

pub returns-in-Err-clause-err : goal.returns-in-Err-clause-err
returns-in-Err-clause-err c =
    let key = c.in_ok-key.ensures.ok ∙ c.as_str.ensures.value in
    let id = string_bytes c.args.id in
    let added : (q : List ℕ)
    → get_by_text c.insert.new.self q
    ≡ update bytes_eq (get_by_text c.args.numbers.now) id (Some c.len-number.result) q =
    λ q. btree_map_updates_text
    (string_bytes c.in_ok-key.key) c.args.numbers.now c.insert.new.self _ c.in_ok-insert.ensures.updates q
    ∙ ap (λ i. update bytes_eq (get_by_text c.args.numbers.now) i (Some c.len-number.result) q) key in (
      ap ids_of c.try_reserve.ensures.items,
      taken_back (get_by_text c.args.numbers.now) (get_by_text c.insert.new.self)
          (get_by_text c.remove.new.self) id (Some c.len-number.result) added
          (λ q. btree_map_updates_text c.as_str-in-Err.result.now c.insert.new.self c.remove.new.self _
          c.remove.ensures.updates q
          ∙ ap (λ i. update bytes_eq (get_by_text c.insert.new.self) i None q) c.as_str-in-Err.ensures.value)
          c.requires.new,
      c.in-Err.ensures.err,
    )
