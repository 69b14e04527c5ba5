-- Lists that are read element by element: the elements that are done, and the rest.
use Rattle.std.proofs.Common.{◌≡◌, List, [], ◌∷◌, ◌++◌, Option, Some, None, option_map, refl, sym, ap, append_assoc}
use Rattle.hub_document.specs.Asking.{in_front}

-- an element in front of the rest stands after the elements that are done
pub regrouped : {A : Type 0} (done : List A) (one : A) (rest : Option (List A))
    → option_map (λ others. done ++ others) (in_front one rest)
    ≡ option_map (λ others. (done ++ one ∷ []) ++ others) rest
regrouped done one None = refl
regrouped done one (Some others) = ap Some (sym (append_assoc done (one ∷ []) others))
