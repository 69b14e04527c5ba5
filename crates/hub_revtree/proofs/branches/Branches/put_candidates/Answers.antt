use Rattle.std.proofs.Common.{sym}
use Rattle.hub_revtree.proofs.branches.Branches.put_candidates.Goals as goal
use Rattle.hub_revtree.proofs.branches.Branches.put_candidates.Goals.{in-Some+in-Some-1, in_default}
use Rattle.hub_revtree.proofs.branches.Branches.put_candidates.Goals.{in-Some+in-None-1}

pub invariant_of-self : goal.invariant_of-self
invariant_of-self c =
    let was = c.self.invariant in
    let are = rw (sym c.self.view_is) at c.requires in
    elim c.match-self.branch [
      | in-Some+in-Some-1 w ↦
          let own = rw w.in-Some.is at c.self.invariant.2 in
          rw w.self-inside-is (was.0, was.1, rw w.deref_mut.ensures.value own, was.3, are, was.5)
      | in-Some+in-None-1 w ↦
          let own = rw w.in-Some.is at c.self.invariant.2 in
          rw w.self-inside-is (was.0, was.1, rw w.deref_mut.ensures.value own, was.3, are, was.5)
      | in_default w ↦ rw w.self-inside-is c.self.invariant
    ]
