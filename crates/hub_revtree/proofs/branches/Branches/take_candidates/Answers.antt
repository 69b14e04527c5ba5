use Rattle.hub_revtree.proofs.branches.Branches.take_candidates.Goals as goal
use Rattle.hub_revtree.proofs.branches.Branches.take_candidates.Goals.{in-Some, in-None}

pub invariant_of-self : goal.invariant_of-self
invariant_of-self c = elim c.match-self.branch [
  | in-Some w ↦
      let own = rw w.in-Some.is at c.self.invariant.2 in
      let was = c.self.invariant in
      rw w.self-inside-is
      (was.0, was.1, rw w.deref_mut.ensures.value own, was.3, rw w.take.ensures.after tt, was.5)
  | in-None w ↦ rw w.self-inside-is c.self.invariant
]
