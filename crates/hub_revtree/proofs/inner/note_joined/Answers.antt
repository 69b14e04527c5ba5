use Rattle.std.proofs.Common.{◌≡◌, ◌∙◌, ap, drop, refl, sym, arith}
use Rattle.std.specs.Prelude.{Some}
use Rattle.hub_model.specs.Path.{names}
use Rattle.hub_model.specs.Revision.{is_same}
use Rattle.hub_model.proofs.Tests.{same_is}
use Rattle.hub_revtree.specs.Stem.{has_revision, is_at, revisions_at}
use Rattle.hub_revtree.proofs.MarkLemmas.{first_test, indexed_same, last_noted, notes_as, one_noted}
use Rattle.hub_revtree.proofs.MarkLemmas.{stems_same, unknown_noted}
use Rattle.hub_revtree.proofs.StemLemmas.{names_drop, none_of, rev_within}
use Rattle.hub_revtree.proofs.inner.note_joined.Goals as goal

pub returns-then-not-joins : goal.returns-then-not-joins
returns-then-not-joins c =
    record {
      plain = refl;
      noted =
          unknown_noted c.args.stems.now (λ r. names (drop 1 c.args.run.now) r)
          (λ r t. none_of (has_revision c.args.stems.now) c.args.run.now r
          (c.requires.fresh c.if-not-joins.true)
          (names_drop 1 c.args.run.now r t));
    }

pub loop-at-init : goal.loop-at-init
loop-at-init c = record {
  low = omega (arith, c.requires.some, c.len-at.ensures);
  plain = refl;
  noted = last_noted c.args.stems.now c.args.run.now c.len-at.result (omega (arith, c.len-at.ensures));
}

pub place_of-requires : goal.place_of-requires
place_of-requires c = record {
  stems =
      stems_same c.args.stems.now c.loop-at.stems (sym c.loop-at.invariant.plain) c.requires.indexed.stems;
  index =
      indexed_same c.args.stems.now c.loop-at.stems _ (sym c.loop-at.invariant.plain)
      c.requires.indexed.index;
}

pub note_at-requires : goal.note_at-requires
note_at-requires c = record {
  stems =
      stems_same c.args.stems.now c.loop-at.stems (sym c.loop-at.invariant.plain) c.requires.indexed.stems;
  within = rev_within c.loop-at.stems c.in-Some.place c.at.result c.in-Some.ensures.found;
}

pub loop-at-preserved-in-Some : goal.loop-at-preserved-in-Some
loop-at-preserved-in-Some c =
    let xs = c.loop-at.stems in
    let p = c.in-Some.place in
    record {
      low = omega (arith, c.loop-at-test.true);
      plain = c.note_at.ensures.plain ∙ c.loop-at.invariant.plain;
      noted =
          one_noted c.args.stems.now xs c.note_at.new.stems c.args.run.now c.loop-at.at
          c.at.result (omega (arith, c.loop-at-test.true)) c.at.ensures c.loop-at.invariant.plain
          c.loop-at.invariant.noted
          (notes_as xs c.note_at.new.stems (λ r. is_at xs r (Some p)) (λ r. is_same r c.at.result)
          (λ r. first_test (revisions_at xs p.stem) p.at c.at.result r c.in-Some.ensures.found)
          c.note_at.ensures.noted);
    }

pub loop-at-preserved : goal.loop-at-preserved
loop-at-preserved c =
    let xs = c.loop-at.stems in
    record {
      low = omega (arith, c.loop-at-test.true);
      plain = c.loop-at.invariant.plain;
      noted =
          one_noted c.args.stems.now xs xs c.args.run.now c.loop-at.at
          c.at.result (omega (arith, c.loop-at-test.true)) c.at.ensures c.loop-at.invariant.plain
          c.loop-at.invariant.noted
          (unknown_noted xs (λ r. is_same r c.at.result)
          (λ r t. ap (has_revision xs) (same_is r c.at.result t) ∙ c.in_default.ensures.none));
    }

pub returns : goal.returns
returns c =
    let end : c.loop-at.at ≡ 1 = omega (arith, c.loop-at-test.false, c.loop-at.invariant.low) in
    record {
      plain = c.loop-at.invariant.plain;
      noted = rw end at c.loop-at.invariant.noted;
    }
