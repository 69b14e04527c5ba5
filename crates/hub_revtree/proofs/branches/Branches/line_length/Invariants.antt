use Rattle.std.proofs.Common.{◌≡◌, ◌+◌, length}
use Rattle.std.specs.Prelude.{Some, IfSome}
use Rattle.hub_revtree.specs.Branch.{edits_in}
use Rattle.hub_revtree.specs.Extend.{line_to}
use Rattle.hub_revtree.specs.Stem.{IsWithin, rev_at}
use Rattle.hub_revtree.proofs.branches.Branches.line_length.Given as goal

abbrev pub invariant-loop-next : goal.invariant-loop-next
invariant-loop-next l = record {
  within : IfSome l.next (IsWithin l.self.stems);
  whole : l.count + length (line_to (edits_in l.self.list) (rev_at l.self.stems l.next))
      ≡ length (line_to (edits_in l.self.list) (Some l.fn.rev));
}

abbrev pub decreases-loop-next : goal.decreases-loop-next
decreases-loop-next l = length (line_to (edits_in l.self.list) (rev_at l.self.stems l.next))
