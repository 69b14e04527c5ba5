-- Conclusions from an answer by its cases, and the items of blocks.
use Rattle.std.proofs.Common.{◌≡◌, ◌∙◌, ap, sym, subst, arith, ℕ, ◌+◌, ◌-◌, ◌<◌, List, [], ◌∷◌, ◌++◌, length, take, drop}
use Rattle.std.proofs.Common.{append_assoc, append-nil, length-append, Option, Some, None}
use Rattle.std.proofs.lemmas.Grind.{flat_map-append}
use Rattle.std.proofs.Math.Seq.{take-append_seam}
use Rattle.hub_lane.specs.Ends.{IsAllowedBeginning, ReceiverState, behind_take}
use Rattle.hub_model.specs.Feed.{Params}
use Rattle.hub_model.specs.declared.feeds.Item.{Item}
use Rattle.hub_params.specs.FeedModel.{params_in}
use Rattle.hub_shared.specs.Blocks.{end_of, front_of, items_in}
use Rattle.hub_shared.specs.Feeds.{IsRightSoFar}
use Rattle.hub_shared.specs.Label.{Label}
use Rattle.std.specs.Prelude.{IfSome, IfNone, OnOk, OnErr, Result, Ok, Err, option_to_list, slice_get}

pub some_then : {A : Type 0} {P Q : A → Type 0} (o : Option A) → ((x : A) → P x → Q x)
    → IfSome o P → IfSome o Q
some_then None f h = tt
some_then (Some x) f h = f x h

pub none_then : {A : Type 0} {P Q : Type 0} (o : Option A) → (P → Q) → IfNone o P → IfNone o Q
none_then None f h = f h
none_then (Some x) f h = tt

-- a conclusion that follows in each case
pub by_result : {A E P Q G : Type 0} (r : Result A E) → OnOk r P → OnErr r Q → (P → G) → (Q → G) → G
by_result (Ok x) ok err f h = f ok
by_result (Err e) ok err f h = h err

pub by_option : {A P Q G : Type 0} (o : Option A) → IfSome o (λ x. P) → IfNone o Q → (P → G) → (Q → G) → G
by_option None some none f h = h none
by_option (Some x) some none f h = f some

module _ {I : Type 0} where
  -- a list is its first item, if it has one, and then the rest
  pub first_and_rest : (list rest : List I) (o : Option I) → o ≡ slice_get list 0 → rest ≡ drop 1 list
      → list ≡ option_to_list o ++ rest
  first_and_rest [] rest None is drops = sym drops
  first_and_rest [] rest (Some item) is drops = absurd (cc)
  first_and_rest (first ∷ more) rest None is drops = absurd (cc)
  first_and_rest (first ∷ more) rest (Some item) is drops = cc

  -- the rest of a list that has no first item is this list
  pub rest_of_none : (list rest : List I) (o : Option I) → o ≡ slice_get list 0 → rest ≡ drop 1 list
      → IfNone o (rest ≡ list)
  rest_of_none [] rest None is drops = drops
  rest_of_none (first ∷ more) rest None is drops = absurd (cc)
  rest_of_none list rest (Some item) is drops = tt

  -- the front of `before ++ end`, before `end`, is `before`
  front_seam : (before end : List I) → front_of (before ++ end) end ≡ before
  front_seam before end =
      let sum : length (before ++ end) ≡ length before + length end = length-append before end in
      let less : length (before ++ end) - length end ≡ length before = omega (arith, sum) in
      ap (λ n. take n (before ++ end)) less ∙ take-append_seam before end

  -- the same for a list that equals `before ++ end`
  pub front_is : (all before end : List I) → all ≡ before ++ end → front_of all end ≡ before
  front_is all before end is = ap (λ list. front_of list end) is ∙ front_seam before end

  -- a list is its front before the rest of its end, and then this rest
  pub front_more : (all before end one rest : List I) → all ≡ before ++ end → end ≡ one ++ rest
      → all ≡ front_of all rest ++ rest
  front_more all before end one rest is more =
      let whole : all ≡ (before ++ one) ++ rest =
      is ∙ (ap (λ list. before ++ list) more ∙ sym (append_assoc before one rest)) in
      whole ∙ ap (λ list. list ++ rest) (sym (front_is all (before ++ one) rest whole))

  -- the items of blocks and of one more block
  pub items_more : (blocks : List (List I)) (block : List I)
      → items_in (blocks ++ block ∷ []) ≡ items_in blocks ++ block
  items_more blocks block =
      flat_map-append (λ items. items) blocks (block ∷ [])
      ∙ ap (λ list. items_in blocks ++ list) (append-nil block)

  -- a statement about all blocks' items holds of a front, the rest of these items, and the others' items
  front_allowed : (P : List I → Type 0) (blocks others : List (List I)) (front left : List I)
      → items_in blocks ≡ front ++ left → P (items_in (blocks ++ others))
      → P (front ++ (left ++ items_in others))
  front_allowed P blocks others front left is allowed =
      subst P (flat_map-append (λ items. items) blocks others
      ∙ (ap (λ list. list ++ items_in others) is ∙ append_assoc front left (items_in others))) allowed

-- where the blocks that the lane gave are right so far, the items that an end took are right so far
pub right_so_far : {R : Type 0} (right : Params → ℕ → List (Item R) → Type 0)
    (receiver : ReceiverState Label (List (Item R))) (left : List (Item R))
    → items_in receiver.taken ≡ front_of (items_in receiver.taken) left ++ left
    → IsAllowedBeginning (λ (l : Label) blocks. right (params_in l.asked) l.since (items_in blocks)) receiver
    → IsRightSoFar right (end_of receiver left)
right_so_far right receiver left is (others, allowed) = (
  left ++ items_in others,
  front_allowed (right (params_in receiver.label.asked) receiver.label.since) receiver.taken others
      (front_of (items_in receiver.taken) left) left is allowed,
)

-- an end that took the first item of the rest of its block, if there was one
pub end_goes_on : {R : Type 0} (receiver : ReceiverState Label (List (Item R))) (left rest : List (Item R))
    (o : Option (Item R))
    → items_in receiver.taken ≡ front_of (items_in receiver.taken) left ++ left
    → left ≡ option_to_list o ++ rest
    → IfSome o (λ item. end_of receiver rest ≡ behind_take (end_of receiver left) item)
end_goes_on receiver left rest None is more = tt
end_goes_on receiver left rest (Some item) is more =
    let before = front_of (items_in receiver.taken) left in
    let whole : items_in receiver.taken ≡ (before ++ item ∷ []) ++ rest =
    is ∙ (ap (λ list. before ++ list) more ∙ sym (append_assoc before (item ∷ []) rest)) in
    ap (λ taken. record { lane_id = receiver.lane_id; label = receiver.label; taken = taken })
    (front_is (items_in receiver.taken) (before ++ item ∷ []) rest whole)

-- an end without an item left, after a look for the lane's next block, whose items are left then
module _ {R : Type 0} (old new : ReceiverState Label (List (Item R))) (rest : List (Item R)) where
  -- the items of the blocks that the lane gave are the earlier ones, and then these
  pub fetched_items : (o : Option (List (Item R)))
      → IfSome o (λ block. new ≡ behind_take old block) → IfNone o (new ≡ old)
      → IfSome o (λ block. (rest ≡ block) × (0 < length block)) → IfNone o (rest ≡ [])
      → items_in new.taken ≡ items_in old.taken ++ rest
  fetched_items None taken same some none =
      ap (λ r. items_in r.taken) same
      ∙ (sym (append-nil (items_in old.taken)) ∙ ap (λ list. items_in old.taken ++ list) (sym none))
  fetched_items (Some block) taken same some none =
      ap (λ r. items_in r.taken) taken
      ∙ (items_more old.taken block ∙ ap (λ list. items_in old.taken ++ list) (sym some.0))

  -- no item was taken
  pub end_fetches : (left : List (Item R)) (o : Option (List (Item R))) → left ≡ []
      → IfSome o (λ block. new ≡ behind_take old block) → IfNone o (new ≡ old)
      → IfSome o (λ block. (rest ≡ block) × (0 < length block)) → IfNone o (rest ≡ [])
      → end_of new rest ≡ end_of old left
  end_fetches left None empty taken same some none =
      ap (λ r. end_of r rest) same ∙ ap (end_of old) (none ∙ sym empty)
  end_fetches left (Some block) empty taken same some none =
      let before = items_in old.taken in
      let nothing : front_of before left ≡ before =
      ap (front_of before) empty ∙ front_is before before [] (sym (append-nil before)) in
      let whole : items_in (old.taken ++ block ∷ []) ≡ before ++ rest =
      items_more old.taken block ∙ ap (λ list. before ++ list) (sym some.0) in
      ap (λ r. end_of r rest) taken
      ∙ ap (λ items. record { lane_id = old.lane_id; label = old.label; taken = items })
      (front_is (items_in (old.taken ++ block ∷ [])) before rest whole ∙ sym nothing)
