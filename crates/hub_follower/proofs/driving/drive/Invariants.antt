use Rattle.std.proofs.Common.{◌+◌, ◌≤◌}
use Rattle.hub_follower.specs.Peers.{Reaches, HasCountedCalls, calls_left, standing_of}
use Rattle.hub_follower.proofs.driving.drive.Given as goal

-- the calls that are left fit into the turns of the loop that are left
abbrev pub invariant-loop : goal.invariant-loop
invariant-loop g l = record {
  counted : HasCountedCalls l.core;
  left : calls_left l.core + l.counter ≤ l.end;
  source : g.S.Peer.fault_count l.fn.source ≤ g.S.Peer.fault_count l.source;
  target : g.T.Peer.fault_count l.fn.target ≤ g.T.Peer.fault_count l.target;
  reach : Reaches g.S.Peer.gives g.T.Peer.gives (standing_of l.fn.core l.fn.source l.fn.target)
      (standing_of l.core l.source l.target);
}
