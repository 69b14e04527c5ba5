-- The replies that say that a document was stored.
use Rattle.std.proofs.Common.{◌≡◌, ℕ, suc, List, [], ◌∷◌, true, refl, arith}
use Rattle.std.specs.List.{list_any}
use Rattle.hub_model.specs.Revision.{Revision}
use Rattle.hub_model.specs.declared.outcomes.Outcome.{Outcome}
use Rattle.hub_model.specs.declared.outcomes.Outcome.TheVariants.{Stored, Known, Refused}
use Rattle.hub_shared.specs.Stored.{HasStored, is_stored}

-- a stored document among replies stays one where a reply is put in front
behind : (reply : Outcome Revision) (replies : List (Outcome Revision)) → HasStored replies
    → HasStored (reply ∷ replies)
behind reply replies (rev, (k, few, is)) = (rev, (suc k, omega (arith, few), is))

-- where the test passes, a document was stored
pub stored_told : (replies : List (Outcome Revision)) → list_any is_stored replies ≡ true → HasStored replies
stored_told [] told = absurd (cc)
stored_told (Stored rev ∷ replies) told = (rev, (0, omega arith, refl))
stored_told (Known ∷ replies) told = behind Known replies (stored_told replies told)
stored_told (Refused fault ∷ replies) told = behind (Refused fault) replies (stored_told replies told)
