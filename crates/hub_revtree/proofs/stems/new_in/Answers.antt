use Rattle.std.proofs.Common.{◌∙◌, ap, length, not, sym, take, arith}
use Rattle.std.proofs.lemmas.List.{take_all}
use Rattle.std.proofs.lemmas.Option.{same_Some}
use Rattle.hub_revtree.specs.Stem.{Stem}
use Rattle.hub_revtree.proofs.CountLemmas.{all_new, are_taken, new_few, new_more, new_of, new_same}
use Rattle.hub_revtree.proofs.JoinLemmas.{is_placed}
use Rattle.hub_revtree.proofs.StemLooks.{read_stem}
use Rattle.hub_revtree.proofs.stems.new_in.Goals as goal
use Rattle.hub_revtree.proofs.stems.new_in.Goals.{then-is_none, else-is_none}

pub returns-then-not-joins : goal.returns-then-not-joins
returns-then-not-joins c = λ stem e.
    let xs = c.args.stems.now in
    let there =
    read_stem xs c.args.number c.index-stems-number.result c.requires.within c.index-stems-number.is in
    let none =
    c.requires.stems.fresh c.args.number c.index-stems-number.result there
    (sym c.joins.ensures ∙ c.if-not-joins.true) in
    c.len.ensures
    ∙ ap length c.run-run.ensures
    ∙ ap length (sym (all_new (take c.args.number xs) c.index-stems-number.result.revisions none))
    ∙ ap (λ (s : Stem). length (new_of (take c.args.number xs) s.revisions))
    (same_Some c.index-stems-number.result stem (sym there ∙ e))

pub place_of-requires : goal.place_of-requires
place_of-requires c = record { stems = are_taken c.args.number c.args.stems.now c.requires.stems; index = tt }

pub overflow_add-count : goal.overflow_add-count
overflow_add-count c =
    let few =
    new_few (take c.args.number c.args.stems.now) c.run-run.result.now c.loop-at.at
    c.loop-at.count c.loop-at.invariant in
    omega (arith, few)

pub loop-at-preserved : goal.loop-at-preserved
loop-at-preserved c =
    let earlier = take c.args.number c.args.stems.now in
    let placed =
    is_placed earlier c.at.result c.place_of.result c.place_of.ensures in
    elim c.if-is_none.branch [
      | then-is_none w ↦
          w.count-is
          ∙ new_more earlier c.run-run.result.now c.loop-at.at c.loop-at.count c.at.result
          c.at.ensures (sym placed ∙ c.is_none.ensures ∙ ap not w.if-is_none.true) c.loop-at.invariant
      | else-is_none w ↦
          w.count-is
          ∙ new_same earlier c.run-run.result.now c.loop-at.at c.loop-at.count c.at.result
          c.at.ensures (sym placed ∙ c.is_none.ensures ∙ ap not w.if-is_none.false) c.loop-at.invariant
    ]

pub returns : goal.returns
returns c = λ stem e.
    let xs = c.args.stems.now in
    let there =
    read_stem xs c.args.number c.index-stems-number.result c.requires.within c.index-stems-number.is in
    c.loop-at.invariant
    ∙ ap (λ p. length (new_of (take c.args.number xs) p))
    (take_all c.loop-at.at c.run-run.result.now
    (omega (arith, c.loop-at-test.false, c.len-at-end.ensures))
    ∙ c.run-run.ensures)
    ∙ ap (λ (s : Stem). length (new_of (take c.args.number xs) s.revisions))
    (same_Some c.index-stems-number.result stem (sym there ∙ e))
