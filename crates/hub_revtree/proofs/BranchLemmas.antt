-- Branches and lists of them.
use Rattle.std.proofs.Common.{◌≡◌, ℕ, zero, suc, ◌+◌, ◌++◌, take, get_or, filter, cond, ◌<◌, ◌≤◌, List, []}
use Rattle.std.proofs.Common.{◌∷◌, length, Bool, true, false, inl, inr, ap, refl, sym, ◌∙◌, ◌||◌, not, arith}
use Rattle.std.specs.Prelude.{Result, Ok, Err, OnErr, Some, slice_get, map}
use Rattle.std.specs.List.{list_any}
use Rattle.std.proofs.lemmas.Bool.{cases_Bool}
use Rattle.std.proofs.lemmas.Option.{same_Some}
use Rattle.std.proofs.lemmas.List.{append-nil}
use Rattle.std.proofs.lemmas.List.Elements.{filter_more}
use Rattle.hub_model.specs.Revision.{Revision}
use Rattle.hub_model.specs.Path.{Falls, IsHistory, names}
use Rattle.hub_revtree.specs.Branch.{Branch, unnamed_in}

-- a history has a revision
pub some_history : (revisions : List Revision) → IsHistory revisions → 0 < length revisions
some_history [] h = absurd h.falls
some_history (revision ∷ revisions) h = omega arith

-- a path has no more revisions than its head's generation
pub within_generation : (revisions : List Revision) (revision : Revision) → IsHistory revisions
    → slice_get revisions 0 ≡ Some revision → length revisions ≤ revision.generation
within_generation [] revision h e = absurd h.falls
within_generation (other ∷ revisions) revision h e =
    let same : other.generation ≡ revision.generation = ap (λ (z : Revision). z.generation)
    (same_Some other revision e) in
    omega (arith, below other revisions h.falls)
  where
    below : (other : Revision) (revisions : List Revision) → Falls other revisions
        → length (other ∷ revisions) ≤ other.generation
    below other [] f = f
    below other (z ∷ revisions) f = omega (arith, below z revisions f.1, f.0)

-- where an element passes a test, the elements that pass are not none
some_pass : {A : Type 0} (P : A → Bool) (xs : List A) (i : ℕ) (d : A) → i < length xs
    → P (get_or xs i d) ≡ true → ¬ (filter P xs ≡ [])
some_pass P [] i d low t = absurd (omega arith)
some_pass P (x ∷ xs) zero d low t = λ e. absurd (let none = rw t at e in cc)
some_pass P (x ∷ xs) (suc i) d low t = elim (cases_Bool (P x)) [
  | inl p ↦ λ e. absurd (let none = rw p at e in cc)
  | inr p ↦ λ e. some_pass P xs i d (omega arith) t (rw p at e)
]

-- one revision more, which a path names or none does
module _ (branches : List Branch) (revs : List Revision) (i : ℕ) (revision : Revision) (low : i < length revs)
    (is : revision ≡ get_or revs i revision) where
  step : (b : Bool) → list_any (λ b. names b.path revision) branches ≡ b
      → unnamed_in branches (take (i + 1) revs) ≡ unnamed_in branches (take i revs)
      ++ cond (not b) (revision ∷ []) []
  step b t =
      filter_more (λ s. not (list_any (λ b. names b.path s) branches)) revs i revision low
      ∙ (ap (λ s. unnamed_in branches (take i revs)
      ++ cond (not (list_any (λ b. names b.path s) branches)) (s ∷ []) [])
      (sym is)
      ∙ ap (λ x. unnamed_in branches (take i revs) ++ cond (not x) (revision ∷ []) []) t)

  pub one_named : list_any (λ b. names b.path revision) branches ≡ true
      → unnamed_in branches (take (i + 1) revs) ≡ unnamed_in branches (take i revs)
  one_named t = step true t ∙ append-nil (unnamed_in branches (take i revs))

  pub one_unnamed : list_any (λ b. names b.path revision) branches ≡ false
      → unnamed_in branches (take (i + 1) revs) ≡ unnamed_in branches (take i revs) ++ revision ∷ []
  one_unnamed f = step false f

  pub some_unnamed : list_any (λ b. names b.path revision) branches ≡ false
      → ¬ (unnamed_in branches revs ≡ [])
  some_unnamed f =
      some_pass (λ s. not (list_any (λ b. names b.path s) branches)) revs i revision low
      (ap (λ s. not (list_any (λ b. names b.path s) branches)) (sym is) ∙ ap not f)

pub any_map : {A B : Type 0} (P : B → Bool) (f : A → B) (xs : List A)
    → list_any P (map f xs) ≡ list_any (λ x. P (f x)) xs
any_map P f [] = refl
any_map P f (x ∷ xs) = ap (λ b. P (f x) || b) (any_map P f xs)

-- a statement that holds in any case holds of an error
pub on_err : {T E : Type 0} (result : Result T E) (P : Type 0) → P → OnErr result P
on_err (Ok x) P p = tt
on_err (Err e) P p = p
