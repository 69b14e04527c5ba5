use Rattle.std.proofs.Common.{ℕ, drop, find, nat_le, cond, ◌+◌, ◌∙◌, ap, sym, arith, Some}
use Rattle.std.proofs.lemmas.Bool.{le-leb}
use Rattle.std.proofs.lemmas.List.{drop_all}
use Rattle.hub_index.specs.Pages.{slot_rows}
use Rattle.hub_index.proofs.SlotLemmas.{from_slot, next_empty, next_full}
use Rattle.hub_index.proofs.page.first_from.Goals as goal

pub loop-at-init : goal.loop-at-init
loop-at-init c = from_slot c.args.from 0 c.args.from c.args.slots.now (omega arith)

pub loop-at-preserved : goal.loop-at-preserved
loop-at-preserved c =
    c.loop-at.invariant
    ∙ ap (find (λ (row : ℕ × ℕ). nat_le c.args.from row.0))
    (next_empty c.args.slots.now c.loop-at.at c.loop-at-test.true c.in_default.is)

pub returns-in-Some : goal.returns-in-Some
returns-in-Some c =
    sym
    (c.loop-at.invariant
    ∙ (ap (find (λ (row : ℕ × ℕ). nat_le c.args.from row.0))
    (next_full c.args.slots.now c.loop-at.at c.loop-at-test.true c.in-Some.document c.in-Some.is)
    ∙ ap (λ b. cond b (Some (c.loop-at.at, c.in-Some.document))
    (find (λ (row : ℕ × ℕ). nat_le c.args.from row.0)
    (slot_rows (c.loop-at.at + 1) (drop (c.loop-at.at + 1) c.args.slots.now))))
    (le-leb c.args.from c.loop-at.at c.loop-at.auto.at)))

pub returns : goal.returns
returns c =
    sym (c.loop-at.invariant
    ∙ ap (λ s. find (λ (row : ℕ × ℕ). nat_le c.args.from row.0) (slot_rows c.loop-at.at s))
    (drop_all c.loop-at.at c.args.slots.now c.loop-at-test.false))
