use Rattle.std.proofs.Common.{◌∙◌, ap, subst}
use Rattle.std.specs.Prelude.{IfErr}
use Rattle.hub_follow_model.specs.Follower as follow
use Rattle.hub_follower.specs.Peers.{standing_of, Breaks}
use Rattle.hub_follower.proofs.Beginning.{broken_begins_not}
use Rattle.hub_follower.proofs.follower.begin.Goals as goal

pub returns-clause-err : goal.returns-clause-err
returns-clause-err g c =
    let gs = g.S.Peer.gives in
    let gt = g.T.Peer.gives in
    let ls = g.S.Peer.loses in
    let lt = g.T.Peer.loses in
    let s = c.args.source.now in
    let t = c.args.target.now in
    let new = standing_of c.drive.new.core c.drive.new.source c.drive.new.target in
    let begun = c.start.ensures ∙ ap follow.SourceStart c.in-Ok.ensures.ok in
    broken_begins_not gs gt ls lt
    (standing_of (follow.SourceStart c.args.session_id.now) s t) new c.drive.result
    (subst (λ (follower : follow.Follower).
    IfErr c.drive.result (λ e. Breaks gs gt ls lt e (standing_of follower s t) new))
    begun c.drive.ensures.err)
