use Rattle.std.proofs.Common.{rules, subst}
use Rattle.std.specs.Prelude.{IfErr}
use Rattle.hub_follow_model.specs.Follower as follow
use Rattle.hub_follower.specs.Peers.{standing_of, Breaks}
use Rattle.hub_follower.proofs.follower.Follower.checkpoint.Goals as goal

pub returns-clause-done : goal.returns-clause-done
returns-clause-done g c =
    let s = c.args.self.now in
    let new = c.drive.new in
    record {
      walk = search rules;
      err =
          subst (λ (follower : follow.Follower).
          IfErr c.drive.result (λ e. Breaks g.S.Peer.gives g.T.Peer.gives g.S.Peer.loses g.T.Peer.loses e
          (standing_of follower s.source s.target) (standing_of new.core new.source new.target)))
          c.begin_checkpoint.ensures c.drive.ensures.err;
      same = search rules;
      counts = search rules;
    }
