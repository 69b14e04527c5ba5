-- The candidates for the best leaf of a tree (own). An example: the first edit has the revision 2-b and the
-- second 2-c. After a look at both, the candidates are 2-b of edit 0 and 2-c of edit 1, and 2-c is the first
-- in order. Then an edit 3-a on 2-c deletes the document. The candidates are still 2-b and 2-c: 2-c is no
-- leaf any more, and the third edit was not looked at. After a look at it they are 2-b, 2-c and 3-a, which is
-- deleted. 2-c is the first in order and no leaf, so that it is given up. 2-b is the next one, and the best
-- leaf.
use Rattle.std.specs.Prelude.{◌≡◌, ℕ, ◌<◌, ◌≤◌, List, length, slice_get, option_and_then, false, Contains}
use Rattle.std.specs.Prelude.{Option, Some, None}
use Rattle.std.specs.List.{list_any}
use Rattle.std.specs.BinaryHeap.{IsHeap, heap_items}
use Rattle.hub_model.specs.Leaves.{is_behind_head}
use Rattle.hub_revtree.specs.Branch.{Branch, edit_of}
use Rattle.hub_revtree.specs.Candidate.{Candidate, candidate_cmp}
use Rattle.hub_revtree.specs.Winner.{head_in}
use Rattle.hub_revtree.specs.declared.candidates.Candidates.{Candidates}
use Rattle.hub_revtree.specs.declared.index.Index.{Index}
use Rattle.hub_revtree.specs.declared.leaf.Winner.{Winner}

-- the revision and the mark of a candidate
abbrev pub winner_in : Candidate → Winner
winner_in candidate = record { rev = candidate.rev; deleted = candidate.deleted }

-- the candidate of the edit of this number, with this revision and mark
abbrev pub candidate_of : ℕ → Winner → Candidate
candidate_of number winner = record { rev = winner.rev; deleted = winner.deleted; number = number }

-- The candidates are a heap in the order of leaves. Each candidate is the head of its branch. Of the first
-- `count` branches, those that were looked at, each whose head is a leaf has a candidate.
pub record AreCandidates (branches : List Branch) (candidates : Candidates) : Type 0 where
  pub ordered : IsHeap candidate_cmp (heap_items candidates.heap)
  pub within : candidates.count ≤ length branches
  pub heads :
      (candidate : Candidate) → Contains (heap_items candidates.heap) candidate
      → option_and_then head_in (slice_get branches candidate.number) ≡ Some (winner_in candidate)
  pub whole :
      (k : ℕ) (winner : Winner) → k < candidates.count
      → option_and_then head_in (slice_get branches k) ≡ Some winner
      → list_any (λ b. is_behind_head winner.rev (edit_of b)) branches ≡ false
      → Contains (heap_items candidates.heap) (candidate_of k winner)

-- the candidates that an index keeps, if it keeps some
abbrev pub candidates_in : Option Index → Option Candidates
candidates_in None = None
candidates_in (Some index) = index.candidates
