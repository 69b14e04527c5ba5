-- The stored edits of a document, without its id (own).
use Rattle.std.specs.Prelude.{ℕ, ◌-◌, take, length, List, [], map, filter, not, Bool}
use Rattle.std.specs.List.{list_any}
use Rattle.hub_model.specs.Revision.{Revision}
use Rattle.hub_model.specs.Path.{names}
use Rattle.hub_model.specs.Journal.{Edit}

-- a stored edit, its document's id left out
pub record Branch : Type 0 where
  pub path : List Revision
  pub deleted : Bool
  pub body : List ℕ

-- a branch as an edit, its document's id left out
abbrev pub edit_of : Branch → Edit
edit_of branch = record { id = []; path = branch.path; deleted = branch.deleted; body = branch.body }

-- the edits of some branches
abbrev pub edits_in : List Branch → List Edit
edits_in branches = map edit_of branches

-- the revisions that no path of the branches names, in the same order
abbrev pub unnamed_in : List Branch → List Revision → List Revision
unnamed_in branches revs = filter (λ r. not (list_any (λ b. names b.path r) branches)) revs

-- the branches that came before the newest; none where there is no branch
abbrev pub earlier_branches : List Branch → List Branch
earlier_branches branches = take (length branches - 1) branches
