use Rattle.std.proofs.Common.{◌≡◌, ◌∙◌, ◌-◌, ◌+◌, ap, length, take, sym, refl, subst, arith}
use Rattle.hub_revtree.specs.Index.{AreLinked, AreTold, Has, HasTo, entry_in, link_in, other_in}
use Rattle.hub_revtree.proofs.FirstLemmas.{told_end, told_start}
use Rattle.hub_revtree.proofs.IndexLemmas.{read_long}
use Rattle.hub_revtree.proofs.LinkLemmas.{link_end, link_fresh, link_start}
use Rattle.hub_revtree.proofs.StemLooks.{read_stem}
use Rattle.hub_revtree.proofs.index.Index.add.Goals as goal
use Rattle.hub_revtree.proofs.index.Index.add.Goals.{After-joins}

pub loop-at-init : goal.loop-at-init
loop-at-init c =
    let xs = c.args.stems.now in
    let n = c.in_ok-number.number in
    let same : n ≡ length xs - 1 = omega (arith, c.in_ok-number.ensures) in
    let firsts = c.args.self.now.firsts in
    record {
      told =
          told_start xs n (entry_in firsts) (other_in firsts)
          (subst (λ k. AreTold (Has (take k xs)) (entry_in firsts) (other_in firsts)) (sym same)
          c.requires.index.0);
      links = refl;
      candidates = refl;
    }

-- after the first loop the index tells of all revisions, and links those of the earlier stems
ended : (c : After-joins)
    → AreTold (Has c.args.stems.now) (entry_in c.loop-at.self.firsts) (other_in c.loop-at.self.firsts)
    × AreLinked (HasTo c.args.stems.now c.in_ok-number.number 0) c.args.stems.now (link_in c.loop-at.self)
ended c =
    let xs = c.args.stems.now in
    let n = c.in_ok-number.number in
    let same : n ≡ length xs - 1 = omega (arith, c.in_ok-number.ensures) in
    let long : length xs ≡ n + 1 = omega (arith, same, c.requires.some) in
    let all =
    read_long xs n c.index-stems-newest.result (omega (arith, long)) (rw same c.index-stems-newest.is) in
    let linked : AreLinked (Has (take n xs)) (take n xs) (link_in c.loop-at.self) =
    subst (λ l. AreLinked (Has (take n xs)) (take n xs) l) (sym c.loop-at.invariant.links)
    (subst (λ k. AreLinked (Has (take k xs)) (take k xs) (link_in c.args.self.now))
    (sym same) c.requires.index.1) in (
      told_end xs n c.loop-at.at (entry_in c.loop-at.self.firsts) (other_in c.loop-at.self.firsts)
          (omega (arith, long))
          (omega (arith, all, c.loop-at-test.false, c.len-count.ensures, ap length c.run.ensures))
          c.loop-at.invariant.told,
      link_start xs n (link_in c.loop-at.self) linked,
    )

pub returns-then-not-joins-clause-index : goal.returns-then-not-joins-clause-index
returns-then-not-joins-clause-index c =
    let xs = c.args.stems.now in
    let n = c.in_ok-number.number in
    let same : n ≡ length xs - 1 = omega (arith, c.in_ok-number.ensures) in
    let long : length xs ≡ n + 1 = omega (arith, same, c.requires.some) in
    let there =
    read_stem xs n c.index-stems-newest-2.result (omega (arith, long)) (rw same c.index-stems-newest-2.is) in
    let end = ended (goal.at.returns-then-not-joins-clause-index c).After-joins in (
      end.0,
      link_fresh xs c.requires.stems n c.index-stems-newest-2.result (link_in c.loop-at.self) long there
          (sym c.joins.ensures ∙ c.if-not-joins.true) end.1,
    )

pub loop-place-init : goal.loop-place-init
loop-place-init c =
    let end = ended (goal.at.loop-place-init c).After-joins in
    record { told = end.0; linked = end.1; candidates = refl }

pub link_at-requires-clause-last : goal.link_at-requires-clause-last
link_at-requires-clause-last c =
    let xs = c.args.stems.now in
    let n = c.in_ok-number.number in
    let same : n ≡ length xs - 1 = omega (arith, c.in_ok-number.ensures) in
    let long : length xs ≡ n + 1 = omega (arith, same, c.requires.some) in
    let all =
    read_long xs n c.index-stems-newest.result (omega (arith, long)) (rw same c.index-stems-newest.is) in
    record {
      stems = c.requires.stems;
      newest = omega (arith, long);
      within =
          omega (arith, all, c.loop-place-test.true, c.len-count.ensures, ap length c.run.ensures);
      told = c.loop-place.invariant.told;
    }

pub returns-clause-index : goal.returns-clause-index
returns-clause-index c =
    let xs = c.args.stems.now in
    let n = c.in_ok-number.number in
    let same : n ≡ length xs - 1 = omega (arith, c.in_ok-number.ensures) in
    let long : length xs ≡ n + 1 = omega (arith, same, c.requires.some) in
    let all =
    read_long xs n c.index-stems-newest.result (omega (arith, long)) (rw same c.index-stems-newest.is) in (
      c.loop-place.invariant.told,
      link_end xs n c.loop-place.place (link_in c.loop-place.self) (omega (arith, long))
          (omega (arith, all, c.loop-place-test.false, c.len-count.ensures, ap length c.run.ensures))
          c.loop-place.invariant.linked,
    )
