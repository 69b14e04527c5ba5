use Rattle.std.proofs.Common.{◌+◌, ◌∷◌, ◌∙◌, ap, refl, subst, heap_items, arith, ◌<◌, length}
use Rattle.std.specs.List.Sorted.{IsPermutation}
use Rattle.hub_revtree.specs.Candidates.{candidate_of}
use Rattle.hub_revtree.proofs.CandidateLemmas.{looked_at, looked_past}
use Rattle.hub_revtree.proofs.candidates.Candidates.add_newer.Goals as goal
use Rattle.hub_revtree.proofs.candidates.Candidates.add_newer.Goals.{in-Some+in_ok-number+in_ok-candidate+in_ok-push}
use Rattle.hub_revtree.proofs.candidates.Candidates.add_newer.Goals.{in_default}

pub loop-self-preserved : goal.loop-self-preserved
loop-self-preserved c =
    let bs = c.args.branches.now.list in
    let old = c.loop-self.self in
    let more : old.count < length bs = omega (arith, c.loop-self-test.true, c.len.ensures.length) in
    elim c.match-head_if_leaf.branch [
      | in-Some+in_ok-number+in_ok-candidate+in_ok-push w ↦
          let leaf = w.in-Some.leaf in
          let this = w.in_ok-candidate.ensures ∙ ap (λ n. candidate_of n leaf) w.in_ok-number.ensures in
          rw w.self-is
          (looked_at bs old (record { heap = w.push.new.self; count = old.count + 1 })
          c.loop-self.invariant leaf w.in-Some.ensures.leaf.0 more refl
          (w.in_ok-push.ensures.heap_order c.loop-self.invariant.ordered)
          (subst (λ z. IsPermutation (z ∷ heap_items old.heap) (heap_items w.push.new.self))
          this w.in_ok-push.ensures.permutation))
      | in_default w ↦
          let inner = w.in_default.ensures.inner in
          rw w.self-is
          (looked_past bs old (record { heap = old.heap; count = old.count + 1 })
          c.loop-self.invariant inner.0 inner.1.0 more refl refl inner.1.1)
    ]
