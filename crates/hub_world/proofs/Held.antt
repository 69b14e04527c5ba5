-- The lanes of a core, by the plain lists that they are.
use Rattle.std.proofs.Common.{◌≡◌, ◌∙◌, ℕ, ◌-◌, List, [], ◌∷◌, ◌++◌, map, suc, refl, sym, ap, arith, Bool}
use Rattle.std.proofs.Common.{true, false, inl, inr, length, nat_eq, get_or, not}
use Rattle.std.specs.Prelude.{Option, Some, None, All, option_map, option_and_then, slice_get, unwrap_or}
use Rattle.std.specs.Prelude.{if◌then◌else◌}
use Rattle.std.proofs.lemmas.Bool.{cases_Bool}
use Rattle.std.proofs.lemmas.List.Elements.{All-filter, All-map, All-push}
use Rattle.std.proofs.lemmas.Option.{none-some, same_Some}
use Rattle.hub_model.specs.Entries.{entry_in, with_change, is_of, without}
use Rattle.hub_model.specs.RightlyHanded.{ChangeItem}
use Rattle.hub_world.specs.Core.{held_entry}
use Rattle.hub_world.specs.Lane.{Lanes, back, front, lane_items}
use Rattle.hub_world.specs.PlainList.{ListState, held_of, last}
use Rattle.hub_world.specs.PlainList as list

abbrev pub Lists : Type 0
Lists = List (ℕ × ListState)

-- the core's entry of a list has the items that the list holds
pub entry_held : (number : ℕ) (lists : Lists)
    → entry_in number (map held_entry lists) ≡ option_map (λ (state : ListState). state.held)
    (entry_in number lists)
entry_held number [] = refl
entry_held number (p ∷ lists) =
    elim (cases_Bool (nat_eq p.0 number)) [ inl t ↦ rw t refl | inr t ↦ rw t (entry_held number lists) ]

-- the back, the front and the items of a lane, by its list
pub back_held : (number : ℕ) (lists : Lists)
    → back number (map held_entry lists) ≡ option_and_then last (entry_in number lists)
back_held number lists =
    ap (option_and_then (λ (items : List ChangeItem). slice_get items (length items - 1)))
    (entry_held number lists)
    ∙ from (entry_in number lists)
  where
    from : (maybe_state : Option ListState)
        → option_and_then (λ (items : List ChangeItem). slice_get items (length items - 1))
        (option_map (λ (state : ListState). state.held) maybe_state)
        ≡ option_and_then last maybe_state
    from None = refl
    from (Some state) = refl

pub front_held : (number : ℕ) (lists : Lists)
    → front number (map held_entry lists) ≡ option_and_then list.front (entry_in number lists)
front_held number lists =
    ap (option_and_then (λ (items : List ChangeItem). slice_get items 0)) (entry_held number lists)
    ∙ from (entry_in number lists)
  where
    from : (maybe_state : Option ListState)
        → option_and_then (λ (items : List ChangeItem). slice_get items 0)
        (option_map (λ (state : ListState). state.held) maybe_state)
        ≡ option_and_then list.front maybe_state
    from None = refl
    from (Some state) = refl

pub all_held : (number : ℕ) (lists : Lists)
    → lane_items number (map held_entry lists) ≡ held_of (entry_in number lists)
all_held number lists =
    ap (λ (o : Option (List ChangeItem)). unwrap_or o []) (entry_held number lists)
    ∙ from (entry_in number lists)
  where
    from : (o : Option ListState)
        → unwrap_or (option_map (λ (state : ListState). state.held) o) [] ≡ held_of o
    from None = refl
    from (Some state) = refl

-- a list changes, and its lane changes alike
pub changed_held : (number : ℕ) (change : ListState → ListState) (refill : List ChangeItem → List ChangeItem)
    → ((state : ListState) → (change state).held ≡ refill state.held) → (lists : Lists)
    → map held_entry (with_change number change lists) ≡ with_change number refill (map held_entry lists)
changed_held number change refill same [] = refl
changed_held number change refill same (p ∷ lists) =
    from (nat_eq p.0 number) (changed_held number change refill same lists)
  where
    from : (b : Bool)
        → map held_entry (with_change number change lists) ≡ with_change number refill (map held_entry lists)
        → ◌≡◌ {A = Lanes}
        (held_entry (if b then (p.0, change p.1) else p) ∷ map held_entry (with_change number change lists))
        ((if b then (p.0, refill p.1.held) else (p.0, p.1.held))
        ∷ with_change number refill (map held_entry lists))
    from true e = λ i. (p.0, same p.1 i) ∷ e i
    from false e = λ i. (p.0, p.1.held) ∷ e i

-- a list is removed, and its lane is removed
pub without_held : (number : ℕ) (lists : Lists)
    → map held_entry (without number lists) ≡ without number (map held_entry lists)
without_held number [] = refl
without_held number (p ∷ lists) =
    elim (cases_Bool (nat_eq p.0 number)) [
      | inl t ↦ rw t (without_held number lists)
      | inr t ↦ rw t (ap (λ (lanes : Lanes). (p.0, p.1.held) ∷ lanes) (without_held number lists))
    ]

-- a list is added, and its lane is added
pub added_held : (number : ℕ) (state : ListState) (lists : Lists)
    → map held_entry (lists ++ (number, state) ∷ []) ≡ map held_entry lists ++ (number, state.held) ∷ []
added_held number state [] = refl
added_held number state (p ∷ lists) =
    ap (λ (lanes : Lanes). (p.0, p.1.held) ∷ lanes) (added_held number state lists)

-- lists of this capacity
module _ (capacity : ℕ) where
  abbrev pub Fits : ℕ × ListState → Type 0
  Fits p = p.1.capacity ≡ capacity

  -- the capacity of one of these lists
  pub fits_entry : (number : ℕ) (state : ListState) (lists : Lists) → All Fits lists
      → entry_in number lists ≡ Some state → state.capacity ≡ capacity
  fits_entry number state [] fits is = absurd (none-some state is)
  fits_entry number state (p ∷ lists) fits is =
      elim (cases_Bool (nat_eq p.0 number)) [
        | inl t ↦ ap (λ (other : ListState). other.capacity) (sym (same_Some p.1 state (rw t at is)))
            ∙ fits 0 p
            (omega arith)
        | inr t ↦ fits_entry number state lists (λ i d low. fits (suc i) d (omega arith)) (rw t at is)
      ]

  -- the lists have this capacity still once one of them changes, is removed or is added
  pub fits_changed : (number : ℕ) (change : ListState → ListState)
      → ((state : ListState) → (change state).capacity ≡ state.capacity) → (lists : Lists) → All Fits lists
      → All Fits (with_change number change lists)
  fits_changed number change same lists fits =
      All-map Fits (λ (p : ℕ × ListState). if is_of number p then (p.0, change p.1) else p) lists
      (λ i d low. from (is_of number (get_or lists i d)) (get_or lists i d) (fits i d low))
    where
      from : (b : Bool) (p : ℕ × ListState) → Fits p → Fits (if b then (p.0, change p.1) else p)
      from true p fit = same p.1 ∙ fit
      from false p fit = fit

  pub fits_without : (number : ℕ) (lists : Lists) → All Fits lists → All Fits (without number lists)
  fits_without number lists fits =
      All-filter (λ (p : ℕ × ListState). not (is_of number p)) Fits lists fits

  pub fits_added : (number : ℕ) (state : ListState) (lists : Lists) → state.capacity ≡ capacity
      → All Fits lists → All Fits (lists ++ (number, state) ∷ [])
  fits_added number state lists same fits = All-push Fits lists (number, state) fits same
