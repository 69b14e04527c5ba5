use Rattle.std.proofs.Common.{◌≡◌, ◌∙◌, Bool, true, false, ap, arith, drop, ◌+◌, sym}
use Rattle.std.specs.Prelude.{◌&&◌}
use Rattle.hub_model.specs.Revision.{is_same}
use Rattle.hub_follower.specs.Handed.{same_revs}
use Rattle.hub_follower.proofs.Deciding.{lengths_differ, none_below, same_step}
use Rattle.hub_follower.proofs.same_row.same_revs.Goals as goal

pub returns-then-len : goal.returns-then-len
returns-then-len c =
    lengths_differ c.args.revs.now c.args.others.now
    (λ e. c.if-len.true (c.len.ensures ∙ e ∙ sym c.len-2.ensures))

pub returns-in_default : goal.returns-in_default
returns-in_default c =
    absurd
    (none_below c.args.others.now c.loop-at.at
    (omega (arith, c.loop-at-test.true, c.len-at-end.ensures, c.len.ensures, c.len-2.ensures, c.if-len.false))
    (sym c.get-in-loop-at.ensures ∙ c.in_default.is-1))

pub returns-in_default-2 : goal.returns-in_default-2
returns-in_default-2 c =
    absurd
    (none_below c.args.revs.now c.loop-at.at (omega (arith, c.loop-at-test.true, c.len-at-end.ensures))
    (sym c.get.ensures ∙ c.in_default.is-0))

pub returns-then-not-is_same : goal.returns-then-not-is_same
returns-then-not-is_same c =
    let rest =
    same_revs (drop (c.loop-at.at + 1) c.args.revs.now) (drop (c.loop-at.at + 1) c.args.others.now) in
    let step =
    same_step c.args.revs.now c.args.others.now c.loop-at.at c.in-Some-Some.rev c.in-Some-Some.other
    (sym c.get.ensures ∙ c.in-Some-Some.is-0) (sym c.get-in-loop-at.ensures ∙ c.in-Some-Some.is-1) in
    let differ : is_same c.in-Some-Some.rev c.in-Some-Some.other ≡ false =
    sym c.is_same.ensures ∙ c.if-not-is_same.true in
    sym (sym c.loop-at.invariant ∙ step ∙ ap (λ (b : Bool). b && rest) differ)

pub loop-at-preserved : goal.loop-at-preserved
loop-at-preserved c =
    let rest =
    same_revs (drop (c.loop-at.at + 1) c.args.revs.now) (drop (c.loop-at.at + 1) c.args.others.now) in
    let step =
    same_step c.args.revs.now c.args.others.now c.loop-at.at c.in-Some-Some.rev c.in-Some-Some.other
    (sym c.get.ensures ∙ c.in-Some-Some.is-0) (sym c.get-in-loop-at.ensures ∙ c.in-Some-Some.is-1) in
    let same : is_same c.in-Some-Some.rev c.in-Some-Some.other ≡ true =
    sym c.is_same.ensures ∙ c.if-not-is_same.false in
    sym (ap (λ (b : Bool). b && rest) same) ∙ sym step ∙ c.loop-at.invariant
