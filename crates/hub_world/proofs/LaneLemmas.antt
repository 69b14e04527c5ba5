-- An item that is pushed into a lane.
use Rattle.std.proofs.Common.{◌≡◌, ◌∙◌, ℕ, ◌+◌, ◌-◌, List, [], ◌∷◌, ◌++◌, length, refl, sym, ap, arith}
use Rattle.std.specs.Prelude.{Option, Some, option_map, option_and_then, slice_get, unwrap_or}
use Rattle.std.proofs.lemmas.List.{length_push}
use Rattle.std.proofs.lemmas.Option.{slice_get_read}
use Rattle.std.proofs.Math.Seq.{get_or-append_seam}
use Rattle.hub_model.specs.Entries.{entry_in, with_change}
use Rattle.hub_model.specs.RightlyHanded.{ChangeItem}
use Rattle.hub_model.proofs.Entries.{own_changed}
use Rattle.hub_world.specs.Lane.{Lanes, back, lane_items}

-- the item is the last of the lane
last_is : (items : List ChangeItem) (item : ChangeItem)
    → slice_get (items ++ item ∷ []) (length (items ++ item ∷ []) - 1) ≡ Some item
last_is items item =
    let long : length (items ++ item ∷ []) ≡ length items + 1 = length_push items item in
    let at : length (items ++ item ∷ []) - 1 ≡ length items = omega (arith, long) in
    ap (slice_get (items ++ item ∷ [])) at
    ∙ slice_get_read (items ++ item ∷ []) (length (items ++ item ∷ [])) (length items) item refl
    (omega (arith, long)) (sym (get_or-append_seam items item [] item))

pub pushed_back : (number : ℕ) (item : ChangeItem) (lanes : Lanes) (items : List ChangeItem)
    → entry_in number lanes ≡ Some items
    → (back number (with_change number (λ (xs : List ChangeItem). xs ++ item ∷ []) lanes) ≡ Some item)
    × (length (lane_items number (with_change number (λ (xs : List ChangeItem). xs ++ item ∷ []) lanes))
    ≡ length (lane_items number lanes) + 1)
pushed_back number item lanes items is =
    let entry : entry_in number (with_change number (λ (xs : List ChangeItem). xs ++ item ∷ []) lanes)
    ≡ Some (items ++ item ∷ []) =
    own_changed number (λ (xs : List ChangeItem). xs ++ item ∷ []) lanes
    ∙ ap (option_map (λ (xs : List ChangeItem). xs ++ item ∷ [])) is in (
      ap (option_and_then (λ (xs : List ChangeItem). slice_get xs (length xs - 1))) entry ∙ last_is items
          item,
      ap (λ (o : Option (List ChangeItem)). length (unwrap_or o [])) entry
          ∙ (length_push items item
          ∙ ap (λ (o : Option (List ChangeItem)). length (unwrap_or o []) + 1) (sym is)),
    )
