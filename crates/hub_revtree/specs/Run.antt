-- The revisions that a run keeps (own). In the examples d' is the hexadecimal text of the digest d, in
-- lower-case digits, and so on. A run of the newest generation 3 and the digests d, e and f has the revisions
-- 3-d', 2-e' and 1-f'. It has the same where e and f are on a shared line. With that line and 2 revisions at
-- most, it has 3-d' and 2-e' alone.
use Rattle.std.specs.Prelude.{ℕ, ◌-◌, List, [], ◌∷◌, take}
use Rattle.hex.specs.Hex.{encode_lower}
use Rattle.hub_model.specs.Revision.{Revision}
use Rattle.hub_revtree.specs.declared.run.RunRepr.{RunRepr}
use Rattle.hub_revtree.specs.declared.run.RunRepr.TheVariants.{One, Digests, Shared, Texts}

-- the revisions whose hashes are the texts of the digests, from this generation down
abbrev pub revisions_from : ℕ → List (List ℕ) → List Revision
revisions_from newest [] = []
revisions_from newest (digest ∷ older) =
    record { generation = newest; hash = encode_lower digest } ∷ revisions_from (newest - 1) older

-- the revisions of a form
abbrev pub kept_in : RunRepr → List Revision
kept_in (One newest digest) = revisions_from newest (digest ∷ [])
kept_in (Digests newest digests) = revisions_from newest digests.items
kept_in (Shared newest most digest line) = revisions_from newest (take most (digest ∷ line))
kept_in (Texts revisions) = revisions.items
