-- Revisions that may be the best leaf (own).
use Rattle.std.specs.Prelude.{ℕ, Bool, []}
use Rattle.std.specs.Ordering.{eq_by_cmp}
use Rattle.std.specs.declared.cmp.Ordering.{Ordering}
use Rattle.std.specs.Cmp.{IsEquivalence, IsTotalOrder, eq_by_cmp_equiv, on_total}
use Rattle.hub_model.specs.Revision.{Revision}
use Rattle.hub_model.specs.Leaves.{Leaf, leaf_cmp}
use Rattle.hub_model.proofs.Order.{order_total}

-- a revision, whether its edit deletes the document, and the number of that edit
pub record Candidate : Type 0 where
  pub rev : Revision
  pub deleted : Bool
  pub number : ℕ

-- the order of leaves
abbrev pub candidate_cmp : Candidate → Candidate → Ordering
candidate_cmp candidate other = leaf_cmp candidate.deleted candidate.rev other.deleted other.rev

-- a candidate as a leaf
abbrev leaf_of : Candidate → Leaf
leaf_of candidate =
    record {
      rev = candidate.rev;
      edit = record { id = []; path = []; deleted = candidate.deleted; body = [] };
    }

-- of any two candidates one is the lesser, or they are level
pub candidates_total : IsTotalOrder candidate_cmp
candidates_total = on_total leaf_of order_total

-- to be level is an equivalence
pub candidates_level : IsEquivalence (eq_by_cmp candidate_cmp)
candidates_level = eq_by_cmp_equiv candidates_total
