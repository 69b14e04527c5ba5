use Rattle.std.proofs.Common.{sym, arith}
use Rattle.std.proofs.lemmas.Option.{slice_get_within}
use Rattle.hub_revtree.specs.Index.{link_in}
use Rattle.hub_revtree.proofs.LinkLemmas.{link_low, nothing_behind, nothing_linked}
use Rattle.hub_revtree.proofs.StemLemmas.{rev_within, within_stem}
use Rattle.hub_revtree.proofs.StepLemmas.{none_map}
use Rattle.hub_revtree.proofs.stems.place_behind.Goals as goal

pub returns-in_err-place-clause-none : goal.returns-in_err-place-clause-none
returns-in_err-place-clause-none c =
    rw c.from_residual.ensures
    (nothing_behind c.args.stems.now c.requires.stems c.args.rev.now c.in_err-place.ensures.none)

pub behind_in-requires : goal.behind_in-requires
behind_in-requires c =
    let i =
    within_stem c.args.stems.now c.in_ok-place.place
    (rev_within c.args.stems.now c.in_ok-place.place c.args.rev.now c.in_ok-place.ensures.found.0) in
    record {
      stems = c.requires.stems;
      within = slice_get_within c.args.stems.now c.in_ok-place.place.stem i.0 i.1;
    }

pub returns-in_err-number-clause-none : goal.returns-in_err-number-clause-none
returns-in_err-number-clause-none c =
    rw c.from_residual-in_err-number.ensures
    (nothing_linked c.args.stems.now c.requires.stems c.args.rev.now
    (link_in c.in-Some.index.now) c.in_ok-place.place.stem (rw c.in-Some.is at c.requires.index).0.1
    c.in_ok-place.ensures.found.1 (rw c.among.ensures at c.in_default-behind_in.ensures.ends)
    (sym c.in_err-number.ensures))

pub behind_in-requires-in-Some : goal.behind_in-requires-in-Some
behind_in-requires-in-Some c = record {
  stems = c.requires.stems;
  within =
      link_low c.args.stems.now c.in_ok-number.number c.args.rev.now
      ((rw c.in-Some.is at c.requires.index).0.1.links c.in_ok-number.number c.args.rev.now
      (sym c.in_ok-number.ensures));
}

pub returns-in-Some-clause-none : goal.returns-in-Some-clause-none
returns-in-Some-clause-none c =
    none_map c.behind_in-in-Some.result _ _ (rw c.among-in-Some.ensures at c.behind_in-in-Some.ensures.ends)
    (λ ends. absurd (ends
    ((rw c.in-Some.is at c.requires.index).0.1.links c.in_ok-number.number c.args.rev.now
    (sym c.in_ok-number.ensures))))

pub returns-clause-none : goal.returns-clause-none
returns-clause-none c r b =
    let low = slice_get_within c.args.stems.now b.0 b.1 b.2 in
    c.loop-number.invariant b.0 b.1 r (omega (arith, low, c.loop-number-test.false)) b.2 b.3
