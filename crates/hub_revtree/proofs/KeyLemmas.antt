-- Keys of hashes.
use Rattle.std.proofs.Common.{◌≡◌, ℕ, List, sym, ap, ◌∙◌, subst}
use Rattle.std.specs.Prelude.{Option, Some, slice_get}
use Rattle.std.proofs.lemmas.Option.{same_Some}
use Rattle.hub_model.specs.Revision.{Revision}
use Rattle.hub_revtree.specs.Key.{HasKey, IsKey, key_of}
use Rattle.hub_revtree.proofs.SoughtLemmas.{one_digest}

-- a hash has one key
pub same_key : (hash : List ℕ) (a b : ℕ) → IsKey hash a → IsKey hash b → a ≡ b
same_key hash a b i j =
    i.number
    ∙ ap key_of (one_digest i.digest j.digest i.sized j.sized i.bytes j.bytes (sym i.text ∙ j.text))
    ∙ sym j.number

-- the key of the revision at a place
pub key_there : (revisions : List Revision) (k : ℕ) (revision other : Revision) (key : Option ℕ)
    → slice_get revisions k ≡ Some revision
    → HasKey revision.hash key → slice_get revisions k ≡ Some other → HasKey other.hash key
key_there revisions k revision other key e has f =
    subst (λ (z : Revision). HasKey z.hash key) (same_Some revision other (sym e ∙ f)) has
