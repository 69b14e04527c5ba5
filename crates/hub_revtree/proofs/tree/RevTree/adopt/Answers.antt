use Rattle.std.proofs.Common.{◌*◌, ◌≤◌, length, sym, arith}
use Rattle.hub_model.proofs.Legal.{legal_more}
use Rattle.hub_revtree.proofs.BranchLemmas.{some_history}
use Rattle.hub_revtree.proofs.WinnerLemmas.{earlier_taken}
use Rattle.hub_revtree.proofs.tree.RevTree.adopt.Goals as goal

pub push-requires : goal.push-requires
push-requires c =
    let ok = rw (sym c.self.view_is, sym c.ready.view_is) at c.requires.acceptable in
    let room : length c.args.ready.path ≤ 65535 * c.self.inside.branches.spare =
    rw (sym c.self.view_is) at c.requires.room in
    record {
      acceptable = ok;
      front = c.ready.invariant.0;
      room = omega (arith, room, some_history c.args.ready.path c.requires.acceptable.history);
    }

pub best_with_newest-self-inside-requires-clause-winner :
    goal.best_with_newest-self-inside-requires-clause-winner
best_with_newest-self-inside-requires-clause-winner c =
    rw (earlier_taken c.self.inside.branches.list c.push.new.self.list _ c.push.ensures) c.self.invariant

pub invariant_of-self : goal.invariant_of-self
invariant_of-self c = record {
  legal =
      rw (c.best_with_newest-self-inside.ensures.list, c.push.ensures)
      (legal_more _ _ c.self.invariant.legal
      (rw (sym c.self.view_is, sym c.ready.view_is) at c.requires.acceptable));
  first = rw c.best_with_newest-self-inside.ensures.list c.best_with_newest-self-inside.ensures.best;
}
