use Rattle.std.proofs.Common.{◌∙◌, ap, rules, subst}
use Rattle.hub_follow_model.specs.Follower as follow
use Rattle.hub_follower.specs.Peers.{standing_of, Breaks}
use Rattle.hub_follower.proofs.Walking.{if_err_on, on_err, round_fails}
use Rattle.hub_follower.proofs.follower.Follower.round.Goals as goal

pub returns-in_err-drive-clause-done : goal.returns-in_err-drive-clause-done
returns-in_err-drive-clause-done g c =
    let s = c.args.self.now in
    let new = c.drive.new in
    let fault = c.in_err-drive.field-0.0 in
    record {
      walk = search rules;
      err =
          if_err_on c.from_residual.result _ fault c.from_residual.ensures.1
          (subst (λ (follower : follow.Follower).
          Breaks g.S.Peer.gives g.T.Peer.gives g.S.Peer.loses g.T.Peer.loses fault
          (standing_of follower s.source s.target) (standing_of new.core new.source new.target))
          c.begin_round.ensures c.in_err-drive.ensures.err);
      same =
          on_err c.from_residual.result _
          (c.in_err-drive.ensures.same
          ∙ (ap follow.after_failure c.begin_round.ensures ∙ round_fails s.core s.rests));
      counts = record {
        source = search rules;
        target = search rules;
        fault =
            if_err_on c.from_residual.result _ fault c.from_residual.ensures.1
            c.in_err-drive.ensures.counts.fault;
      };
    }
