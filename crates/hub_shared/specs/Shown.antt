-- Items that are shown to a function, which may change two values (own).
use Rattle.std.specs.Prelude.{◌≡◌, Option, Some, None}
use denote.Ref.{Bor, MutBor}
use denote.Param.Members.{Once}

module _ {F I A B R : Type 0}
    (calls : Once F (Bor I × (MutBor A × (MutBor B × Unit {0}))) (R × (MutBor A × (MutBor B × Unit {0}))))
    (see : F) where
  -- one call of the function at this item, where the values are `first` and `second`, may give this answer and
  -- leave these values
  pub record IsSeen (item : I) (first : A) (second : B) (answer : R) (first_then : A) (second_then : B) : Type 0
    where
      pub shown : Bor I
      pub one : MutBor A
      pub other : MutBor B
      pub shows : (shown.now ≡ item) × (one.now ≡ first) × (other.now ≡ second)
      pub one_left : MutBor A
      pub other_left : MutBor B
      pub met : calls.post see (shown, (one, (other, tt))) (answer, (one_left, (other_left, tt)))
      pub leaves : (one_left.now ≡ first_then) × (other_left.now ≡ second_then)

  -- An item that was found was shown to the function, by one call, and the answer is that of the call. Where
  -- no item was found there is no answer, and the values stay. A function that adds the item 5 to the first
  -- value and says yes takes the values 2 and 0 to 7 and 0, and the answer is yes.
  abbrev pub IsShown : Option I → A → B → Option R → A → B → Type 0
  IsShown (Some item) first second (Some answer) first_then second_then =
      IsSeen item first second answer first_then second_then
  IsShown None first second None first_then second_then = (first_then ≡ first) × (second_then ≡ second)
  IsShown found first second answer first_then second_then = ⊥
