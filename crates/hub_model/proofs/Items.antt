-- Lists of items, with more items at the end.
use Rattle.std.proofs.Common.{◌≡◌, ℕ, List, [], ◌∷◌, ◌++◌, false, ◌∙◌, ap, refl}
use Rattle.std.specs.List.{list_any}
use Rattle.std.proofs.lemmas.List.{append-nil}
use Rattle.hub_model.specs.declared.feeds.Item.TheVariants.{Row, Beat, End}
use Rattle.hub_model.specs.declared.feeds.Item.{Item}
use Rattle.hub_model.specs.RightlyHanded.{is_end, rows_of, EndsAt}

module _ {R : Type 0} where
  pub rows_of-append : (xs ys : List (Item R)) → rows_of (xs ++ ys) ≡ rows_of xs ++ rows_of ys
  rows_of-append [] ys = refl
  rows_of-append (Row row ∷ xs) ys = ap (λ rows. row ∷ rows) (rows_of-append xs ys)
  rows_of-append (Beat ∷ xs) ys = rows_of-append xs ys
  rows_of-append (End last n ∷ xs) ys = rows_of-append xs ys

  -- the rows of a list with one more row
  pub rows_of-row : (xs : List (Item R)) (row : R) → rows_of (xs ++ Row row ∷ []) ≡ rows_of xs ++ row ∷ []
  rows_of-row xs row = rows_of-append xs (Row row ∷ [])

  pub rows_of-beat : (xs : List (Item R)) → rows_of (xs ++ Beat ∷ []) ≡ rows_of xs
  rows_of-beat xs = rows_of-append xs (Beat ∷ []) ∙ append-nil (rows_of xs)

  pub rows_of-end : (xs : List (Item R)) (last n : ℕ) → rows_of (xs ++ End last n ∷ []) ≡ rows_of xs
  rows_of-end xs last n = rows_of-append xs (End last n ∷ []) ∙ append-nil (rows_of xs)

  -- a list that ends at a place still does with a list without an End in front
  pub ends_more : (place : ℕ) (xs ys : List (Item R)) → list_any is_end xs ≡ false → EndsAt place ys
      → EndsAt place (xs ++ ys)
  ends_more place [] ys e h = h
  ends_more place (Row row ∷ xs) ys e h = ends_more place xs ys e h
  ends_more place (Beat ∷ xs) ys e h = ends_more place xs ys e h
  ends_more place (End last n ∷ xs) ys e h = absurd (cc)
