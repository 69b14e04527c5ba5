use Rattle.std.proofs.Common.{◌≡◌, ℕ, List, [], ◌∷◌, ◌++◌, codes, refl}
use Rattle.percent_encoding.specs.Percent.{percent_decode}
use Rattle.hub_routes.specs.Paths.{id_of}
use Rattle.hub_routes.proofs.samples.prefixes_stay.Goals as goal

behind_design : (name : List ℕ)
    → id_of (codes "/d/_design/" ++ name) ≡ codes "_design/" ++ percent_decode name
unfolding percent_decode
behind_design [] = refl
behind_design (a ∷ []) = refl
behind_design (a ∷ b ∷ rest) = refl

behind_local : (name : List ℕ) → id_of (codes "/d/_local/" ++ name) ≡ codes "_local/" ++ percent_decode name
unfolding percent_decode
behind_local [] = refl
behind_local (a ∷ []) = refl
behind_local (a ∷ b ∷ rest) = refl

pub returns : goal.returns
returns c = record { design = behind_design; local = behind_local }
