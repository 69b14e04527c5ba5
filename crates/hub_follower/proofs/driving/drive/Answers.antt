use Rattle.std.proofs.Common.{◌≡◌, ◌+◌, ◌≤◌, arith, true}
use Rattle.hub_follower.specs.Peers.{calls_left, standing_of}
use Rattle.hub_follower.proofs.Walking.{reach_none, reach_on, reach_more, past_asking, counted, counted_more}
use Rattle.hub_follower.proofs.Walking.{fewer_left, reach_breaks, reach_fails, on_err, if_err_on}
use Rattle.hub_follower.proofs.driving.drive.Goals as goal

pub loop-init : goal.loop-init
loop-init g c =
    let gs = g.S.Peer.gives in
    let gt = g.T.Peer.gives in
    let old = standing_of c.args.core.now c.args.source.now c.args.target.now in
    let one = standing_of c.step.new.core c.step.new.source c.step.new.target in
    let two = standing_of c.step-2.new.core c.step-2.new.source c.step-2.new.target in
    let e1 = c.in_ok-step.ensures in
    let e2 = c.in_ok-step-2.ensures in
    let r1 = reach_on gs gt old old (reach_none gs gt old) c.in_ok-step.field-0 one e1.idle e1.ok in
    record {
      counted =
          counted gs gt c.in_ok-step-2.field-0 one two e2.idle e2.ok
          (past_asking gs gt c.in_ok-step.field-0 old one e1.idle e1.ok);
      left = omega (arith, c.calls_left-end.ensures);
      source = omega (arith, e1.counts.source, e2.counts.source);
      target = omega (arith, e1.counts.target, e2.counts.target);
      reach = reach_on gs gt old one r1 c.in_ok-step-2.field-0 two e2.idle e2.ok;
    }

pub loop-preserved : goal.loop-preserved
loop-preserved g c =
    let gs = g.S.Peer.gives in
    let gt = g.T.Peer.gives in
    let i = c.loop.invariant in
    let old = standing_of c.args.core.now c.args.source.now c.args.target.now in
    let mid = standing_of c.loop.core c.loop.source c.loop.target in
    let new = standing_of c.step-in-loop.new.core c.step-in-loop.new.source c.step-in-loop.new.target in
    let made : c.in_ok-step-3.field-0 ≡ true = c.if-not-branch.false in
    let p = c.in_ok-step-3.ensures.ok made in
    let low : calls_left new.follower + 1 ≤ calls_left mid.follower = fewer_left gs gt mid new p i.counted in
    record {
      counted = counted_more gs gt mid new p i.counted;
      left = omega (arith, low, i.left);
      source = omega (arith, i.source, c.in_ok-step-3.ensures.counts.source);
      target = omega (arith, i.target, c.in_ok-step-3.ensures.counts.target);
      reach = reach_more gs gt old mid i.reach new p;
    }

pub returns-in_err-step-clause-err : goal.returns-in_err-step-clause-err
returns-in_err-step-clause-err g c =
    let gs = g.S.Peer.gives in
    let gt = g.T.Peer.gives in
    let ls = g.S.Peer.loses in
    let lt = g.T.Peer.loses in
    let old = standing_of c.args.core.now c.args.source.now c.args.target.now in
    let one = standing_of c.step.new.core c.step.new.source c.step.new.target in
    if_err_on c.from_residual.result _ c.in_err-step.field-0.0 c.from_residual.ensures.1
    (reach_breaks gs gt old old
    (reach_none gs gt old) ls lt c.in_err-step.field-0.0 one c.in_err-step.ensures.err)

pub returns-in_err-step-clause-same : goal.returns-in_err-step-clause-same
returns-in_err-step-clause-same g c =
    let gs = g.S.Peer.gives in
    let gt = g.T.Peer.gives in
    let ls = g.S.Peer.loses in
    let lt = g.T.Peer.loses in
    let old = standing_of c.args.core.now c.args.source.now c.args.target.now in
    let one = standing_of c.step.new.core c.step.new.source c.step.new.target in
    on_err c.from_residual.result _
    (reach_fails gs gt old old
    (reach_none gs gt old) ls lt c.in_err-step.field-0.0 one c.in_err-step.ensures.err)

pub returns-in_err-step-2-clause-err : goal.returns-in_err-step-2-clause-err
returns-in_err-step-2-clause-err g c =
    let gs = g.S.Peer.gives in
    let gt = g.T.Peer.gives in
    let ls = g.S.Peer.loses in
    let lt = g.T.Peer.loses in
    let old = standing_of c.args.core.now c.args.source.now c.args.target.now in
    let one = standing_of c.step.new.core c.step.new.source c.step.new.target in
    let two = standing_of c.step-2.new.core c.step-2.new.source c.step-2.new.target in
    let e1 = c.in_ok-step.ensures in
    let r1 = reach_on gs gt old old (reach_none gs gt old) c.in_ok-step.field-0 one e1.idle e1.ok in
    if_err_on c.from_residual-in_err-step-2.result
    _ c.in_err-step-2.field-0.0 c.from_residual-in_err-step-2.ensures.1
    (reach_breaks gs gt old one r1 ls lt c.in_err-step-2.field-0.0 two c.in_err-step-2.ensures.err)

pub returns-in_err-step-2-clause-same : goal.returns-in_err-step-2-clause-same
returns-in_err-step-2-clause-same g c =
    let gs = g.S.Peer.gives in
    let gt = g.T.Peer.gives in
    let ls = g.S.Peer.loses in
    let lt = g.T.Peer.loses in
    let old = standing_of c.args.core.now c.args.source.now c.args.target.now in
    let one = standing_of c.step.new.core c.step.new.source c.step.new.target in
    let two = standing_of c.step-2.new.core c.step-2.new.source c.step-2.new.target in
    let e1 = c.in_ok-step.ensures in
    let r1 = reach_on gs gt old old (reach_none gs gt old) c.in_ok-step.field-0 one e1.idle e1.ok in
    on_err c.from_residual-in_err-step-2.result _
    (reach_fails gs gt old one r1 ls lt c.in_err-step-2.field-0.0 two c.in_err-step-2.ensures.err)

pub returns-in_err-step-3-clause-err : goal.returns-in_err-step-3-clause-err
returns-in_err-step-3-clause-err g c =
    let gs = g.S.Peer.gives in
    let gt = g.T.Peer.gives in
    let ls = g.S.Peer.loses in
    let lt = g.T.Peer.loses in
    let old = standing_of c.args.core.now c.args.source.now c.args.target.now in
    let mid = standing_of c.loop.core c.loop.source c.loop.target in
    let new = standing_of c.step-in-loop.new.core c.step-in-loop.new.source c.step-in-loop.new.target in
    if_err_on c.from_residual-in_err-step-3.result
    _ c.in_err-step-3.field-0.0 c.from_residual-in_err-step-3.ensures.1
    (reach_breaks gs gt old mid c.loop.invariant.reach ls lt c.in_err-step-3.field-0.0 new
    c.in_err-step-3.ensures.err)

pub returns-in_err-step-3-clause-same : goal.returns-in_err-step-3-clause-same
returns-in_err-step-3-clause-same g c =
    let gs = g.S.Peer.gives in
    let gt = g.T.Peer.gives in
    let ls = g.S.Peer.loses in
    let lt = g.T.Peer.loses in
    let old = standing_of c.args.core.now c.args.source.now c.args.target.now in
    let mid = standing_of c.loop.core c.loop.source c.loop.target in
    let new = standing_of c.step-in-loop.new.core c.step-in-loop.new.source c.step-in-loop.new.target in
    on_err c.from_residual-in_err-step-3.result _
    (reach_fails gs gt old mid c.loop.invariant.reach ls lt c.in_err-step-3.field-0.0 new
    c.in_err-step-3.ensures.err)
