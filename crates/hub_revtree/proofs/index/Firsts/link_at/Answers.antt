use Rattle.std.proofs.Common.{◌∙◌, ap, not, sym, refl, arith}
use Rattle.std.proofs.lemmas.Bool.{both_ways}
use Rattle.std.proofs.lemmas.Result.{on_ok_weaker}
use Rattle.hub_revtree.specs.Index.{GoesOn, number_in}
use Rattle.hub_revtree.proofs.FirstLemmas.{has_any, has_there}
use Rattle.hub_revtree.proofs.IndexLemmas.{read_there}
use Rattle.hub_revtree.proofs.LinkLemmas.{link_put, link_same, none_if, some_if}
use Rattle.hub_revtree.proofs.index.Firsts.link_at.Goals as goal

pub returns-in_default : goal.returns-in_default
returns-in_default c =
    let xs = c.args.stems.now in
    let there =
    read_there xs c.args.number c.args.at c.index-stems-number.result c.at-rev.result
    (omega (arith, c.requires.last.newest)) c.index-stems-number.is (rw c.run.ensures at c.at-rev.ensures) in
    link_same xs c.args.number c.args.at c.at-rev.result there (number_in c.args.links.now)
    (number_in c.args.links.now) c.requires.linked (λ x. refl)
    (λ g. absurd (both_ways _ c.in_default.ensures.none
    (has_any xs c.args.number c.at-rev.result
    (has_there xs c.args.number c.args.at c.at-rev.result there))))

pub returns-then-is_some : goal.returns-then-is_some
returns-then-is_some c =
    let xs = c.args.stems.now in
    let there =
    read_there xs c.args.number c.args.at c.index-stems-number.result c.at-rev.result
    (omega (arith, c.requires.last.newest)) c.index-stems-number.is (rw c.run.ensures at c.at-rev.ensures) in
    link_same xs c.args.number c.args.at c.at-rev.result there (number_in c.args.links.now)
    (number_in c.args.links.now) c.requires.linked (λ x. refl)
    (λ g. (
      c.in-Some.place.stem,
      c.in-Some.ensures.found.1,
      some_if c.behind_in.result (GoesOn xs c.in-Some.place.stem c.at-rev.result)
          (rw c.among.ensures at c.behind_in.ensures.goes) (sym c.is_some.ensures ∙ c.if-is_some.true),
    ))

pub returns-then-is_none : goal.returns-then-is_none
returns-then-is_none c =
    let xs = c.args.stems.now in
    let there =
    read_there xs c.args.number c.args.at c.index-stems-number.result c.at-rev.result
    (omega (arith, c.requires.last.newest)) c.index-stems-number.is (rw c.run.ensures at c.at-rev.ensures) in
    link_same xs c.args.number c.args.at c.at-rev.result there (number_in c.args.links.now)
    (number_in c.args.links.now) c.requires.linked (λ x. refl)
    (λ g. absurd (none_if c.behind_in-2.result (¬ GoesOn xs c.args.number c.at-rev.result)
    (rw c.among-2.ensures at c.behind_in-2.ensures.ends) (c.is_none.ensures ∙ ap not c.if-is_none.true) g))

pub returns : goal.returns
returns c =
    let xs = c.args.stems.now in
    let there =
    read_there xs c.args.number c.args.at c.index-stems-number.result c.at-rev.result
    (omega (arith, c.requires.last.newest)) c.index-stems-number.is (rw c.run.ensures at c.at-rev.ensures) in
    on_ok_weaker c.put_at.result
    (λ put. link_put xs c.args.number c.args.at c.at-rev.result there
    (number_in c.args.links.now) (number_in c.put_at.new.map) c.requires.linked put
    (some_if c.behind_in-2.result (GoesOn xs c.args.number c.at-rev.result)
    (rw c.among-2.ensures at c.behind_in-2.ensures.goes) (c.is_none.ensures ∙ ap not c.if-is_none.false)))
    c.put_at.ensures
