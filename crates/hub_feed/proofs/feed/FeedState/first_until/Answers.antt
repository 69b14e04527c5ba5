-- Each pass of the loop finds the first row in reach, or moves the place to a row that does not pass.
use Rattle.std.proofs.Common.{◌≡◌, true, false, sym, ◌∙◌, ap, subst, option_map, Some, None, arith}
use Rattle.hub_model.specs.Current.{Current}
use Rattle.hub_model.specs.Feed.{Feed}
use Rattle.hub_model.specs.Filter.{is_passing}
use Rattle.hub_feed.specs.Reach.{first_within}
use Rattle.hub_feed.proofs.ReachLemmas.{none_in_reach, found_in_reach, reach_behind, ahead_above, none_above}
use Rattle.hub_feed.proofs.feed.FeedState.first_until.Goals as goal

pub returns-in_err-seq-clause-whole : goal.returns-in_err-seq-clause-whole
returns-in_err-seq-clause-whole g c =
    let rows = g.S.Source.current c.args.source.now in
    let here : Feed = record c.args.self.now { place = c.loop.place } in
    let none =
    subst (λ (feed : Feed). None ≡ first_within c.loop.place feed.bound rows) c.self.view_is
    c.in_err-seq.ensures in
    λ reached. c.from_residual.ensures
    ∙ sym (ap (option_map (λ (row : Current). row.seq))
    (c.loop.invariant.kept ∙ none_in_reach here rows none))

pub returns-then-passes : goal.returns-then-passes
returns-then-passes g c =
    let rows = g.S.Source.current c.args.source.now in
    let here : Feed = record c.args.self.now { place = c.loop.place } in
    let row : Current = record { seq = c.in_ok-seq.seq; id = c.in_ok-seq.id.now } in
    let found =
    subst (λ (feed : Feed). Some row ≡ first_within c.loop.place feed.bound rows)
    c.self.view_is c.in_ok-seq.ensures in
    let shown =
    subst (λ (feed : Feed). true ≡ is_passing feed.params.filter row.id) c.self.view_is c.if-passes.ensures in
    let same =
    sym (ap (option_map (λ (r : Current). r.seq))
    (c.loop.invariant.kept ∙ found_in_reach here rows row found (sym shown))) in
    record { found = same; whole = λ reached. same }

pub loop-preserved : goal.loop-preserved
loop-preserved g c =
    let rows = g.S.Source.current c.args.source.now in
    let here : Feed = record c.args.self.now { place = c.loop.place } in
    let row : Current = record { seq = c.in_ok-seq.seq; id = c.in_ok-seq.id.now } in
    let found =
    subst (λ (feed : Feed). Some row ≡ first_within c.loop.place feed.bound rows)
    c.self.view_is c.in_ok-seq.ensures in
    let hidden =
    subst (λ (feed : Feed). false ≡ is_passing feed.params.filter row.id) c.self.view_is c.if-passes.ensures in
    let above = ahead_above here rows row found in
    record {
      passed = omega (arith, above, c.loop.invariant.passed);
      kept =
          c.loop.invariant.kept
          ∙ reach_behind here rows row (g.met.S.Source.rise c.args.source.now) found (sym hidden);
    }

pub returns-clause-whole : goal.returns-clause-whole
returns-clause-whole g c =
    let here : Feed = record c.args.self.now { place = c.loop.place } in
    λ reached. sym (ap (option_map (λ (row : Current). row.seq))
    (c.loop.invariant.kept
    ∙ none_above here (g.S.Source.current c.args.source.now) (g.S.Source.length c.args.source.now)
    (g.met.S.Source.within c.args.source.now) (omega arith)))
