use Rattle.std.proofs.Common.{◌<◌, ◌∙◌, length, refl, sym, arith}
use Rattle.std.proofs.lemmas.Result.{on_ok_weaker}
use Rattle.hub_revtree.specs.Index.{entry_in, number_in, other_in}
use Rattle.hub_revtree.proofs.FirstLemmas.{known_entry, no_key, other_entry, own_entry}
use Rattle.hub_revtree.proofs.IndexLemmas.{placed_has, placed_none, read_back, read_there}
use Rattle.hub_revtree.proofs.RunLemmas.{get_some}
use Rattle.hub_revtree.proofs.index.Firsts.add_at.Goals as goal

pub returns-in_default : goal.returns-in_default
returns-in_default c =
    let xs = c.args.stems.now in
    let low : c.args.number < length xs = omega (arith, c.requires.last.newest) in
    let there =
    read_there xs c.args.number c.args.at c.index-stems-number.result c.at.result
    low c.index-stems-number.is (rw c.run-run.ensures at c.at.ensures) in
    on_ok_weaker c.put_at.result
    (λ put. no_key xs c.args.number c.args.at c.at.result there (entry_in c.args.self.now)
    (entry_in c.args.self.now) (other_in c.args.self.now) (number_in c.put_at.new.map)
    c.requires.told (λ key is. c.in_default.ensures c.at.result c.at.ensures key is) (λ q. refl) put)
    c.put_at.ensures

pub returns-then-first-number : goal.returns-then-first-number
returns-then-first-number c =
    let xs = c.args.stems.now in
    let low : c.args.number < length xs = omega (arith, c.requires.last.newest) in
    let i = get_some _ c.args.at c.requires.last.within in
    let back =
    read_back xs c.args.number c.args.at c.index-stems-number.result i.0 low c.index-stems-number.is i.1 in
    own_entry xs c.args.number c.args.at i.0 i.1 (entry_in c.args.self.now) (entry_in c.put.new.self)
    (other_in c.args.self.now) (other_in c.put.new.self) c.requires.told
    c.in-Some.key (c.in-Some.ensures i.0 (rw c.run-run.ensures back)) c.in_ok-first.first
    c.in_ok-first.ensures.entries
    c.in_ok-first.ensures.first c.if-first-number.true (λ x. rw c.put.ensures.others refl)

pub returns-then-is_some : goal.returns-then-is_some
returns-then-is_some c =
    let xs = c.args.stems.now in
    let low : c.args.number < length xs = omega (arith, c.requires.last.newest) in
    let there =
    read_there xs c.args.number c.args.at c.index-stems-number.result c.at-rev.result low
    c.index-stems-number.is (rw c.run-run.ensures at c.at-rev.ensures) in
    let has =
    placed_has xs c.in_ok-first.first c.at-rev.result c.place_in.result c.place_in.ensures.found
    c.place_in.ensures.stem (sym c.is_some.ensures ∙ c.if-is_some.true) in
    known_entry xs c.args.number c.args.at c.at-rev.result there (entry_in c.args.self.now)
    (entry_in c.put.new.self) (other_in c.args.self.now) (other_in c.put.new.self) c.requires.told
    c.in-Some.key (c.in-Some.ensures c.at-rev.result c.at-rev.ensures) c.in_ok-first.first
    c.in_ok-first.ensures.entries c.in_ok-first.ensures.first c.if-first-number.false has
    (λ x. rw c.put.ensures.others refl)

pub returns : goal.returns
returns c =
    let xs = c.args.stems.now in
    let low : c.args.number < length xs = omega (arith, c.requires.last.newest) in
    let there =
    read_there xs c.args.number c.args.at c.index-stems-number.result c.at-rev.result low
    c.index-stems-number.is (rw c.run-run.ensures at c.at-rev.ensures) in
    let none =
    placed_none xs c.in_ok-first.first c.at-rev.result c.place_in.result c.place_in.ensures.none
    (sym c.is_some.ensures ∙ c.if-is_some.false) in
    on_ok_weaker c.put_at-2.result
    (λ put. other_entry xs c.args.number c.args.at c.at-rev.result there (entry_in c.args.self.now)
    (entry_in c.put.new.self) (other_in c.args.self.now) (number_in c.put_at-2.new.map)
    c.requires.told c.in-Some.key (c.in-Some.ensures c.at-rev.result c.at-rev.ensures) c.in_ok-first.first
    c.in_ok-first.ensures.entries c.in_ok-first.ensures.first none (rw c.put.ensures.others at put))
    c.put_at-2.ensures
