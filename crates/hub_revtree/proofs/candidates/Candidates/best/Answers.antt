use Rattle.std.proofs.Common.{◌≡◌, ◌∙◌, Contains, ap, refl, sym, heap_items}
use Rattle.std.specs.Prelude.{option_and_then, slice_get}
use Rattle.hub_revtree.specs.Candidate.{Candidate}
use Rattle.hub_revtree.specs.Candidates.{winner_in}
use Rattle.hub_revtree.specs.Winner.{head_in}
use Rattle.hub_revtree.proofs.CandidateLemmas.{below_bound, first_given_up, none_wins}
use Rattle.hub_revtree.proofs.CandidateLemmas.{nothing_in, top_wins}
use Rattle.hub_revtree.proofs.candidates.Candidates.best.Goals as goal
use Rattle.hub_revtree.proofs.candidates.Candidates.best.Goals.{In-Some}

here : (c : In-Some) → Contains (heap_items c.loop-top.self.heap) c.in-Some.top.now
here c = (0, c.in-Some.ensures.item.3.0, sym c.in-Some.ensures.lookup)

pub returns-then-not-is_head_inner-clause-best : goal.returns-then-not-is_head_inner-clause-best
returns-then-not-is_head_inner-clause-best c =
    let bs = c.args.branches.now.list in
    let are = c.loop-top.invariant.candidates in
    let top = c.in-Some.top.now in
    let there = here (goal.at.returns-then-not-is_head_inner-clause-best c).In-Some in
    let same : c.top.inside.number ≡ top.number = ap
    (λ (candidate : Candidate). candidate.number) c.top.view_is in
    let number = ap (λ k. option_and_then head_in (slice_get bs k)) same in
    let leads =
    sym (c.is_head_inner.ensures (winner_in top) (number ∙ are.heads top there))
    ∙ c.if-not-is_head_inner.true in
    number
    ∙ top_wins bs c.len-edits.ensures.legal c.loop-top.self are c.loop-top.invariant.all top there
    (below_bound top _ (c.in-Some.ensures.greatest are.ordered)) leads

pub loop-top-preserved : goal.loop-top-preserved
loop-top-preserved c =
    let bs = c.args.branches.now.list in
    let are = c.loop-top.invariant.candidates in
    let top = c.in-Some.top.now in
    let there = here (goal.at.loop-top-preserved c).In-Some in
    let same : c.top.inside.number ≡ top.number = ap
    (λ (candidate : Candidate). candidate.number) c.top.view_is in
    let number = ap (λ k. option_and_then head_in (slice_get bs k)) same in
    let passed =
    sym (c.is_head_inner.ensures (winner_in top) (number ∙ are.heads top there))
    ∙ c.if-not-is_head_inner.false in
    record {
      candidates =
          first_given_up bs c.loop-top.self (record { heap = c.pop.new.self; count = c.loop-top.self.count })
          are top c.in-Some.ensures.item.3.0 c.in-Some.ensures.lookup passed refl
          c.pop.result c.pop.ensures.top c.pop.ensures.permutation c.pop.ensures.heap_order
          c.pop.ensures.unchanged;
      all = c.loop-top.invariant.all;
    }

pub returns-clause-best : goal.returns-clause-best
returns-clause-best c =
    none_wins c.args.branches.now.list c.len-edits.ensures.legal c.loop-top.self
    c.loop-top.invariant.candidates c.loop-top.invariant.all (nothing_in _ c.in_default.ensures.item.3)
    c.len-edits.result c.len-edits.ensures.length
