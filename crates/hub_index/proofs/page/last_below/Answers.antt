use Rattle.std.proofs.Common.{◌≡◌, ℕ, take, find, nat_lt, reverse, length}
use Rattle.std.proofs.Common.{cond, ◌-◌, ◌∙◌, ap, sym, arith, Some, inl, inr}
use Rattle.std.proofs.lemmas.Bool.{lt-ltb, cases_lt}
use Rattle.hub_index.specs.Pages.{slot_rows}
use Rattle.hub_index.proofs.SlotLemmas.{below_slot, last_empty, last_full}
use Rattle.hub_index.proofs.page.last_below.Goals as goal

pub loop-at-init : goal.loop-at-init
loop-at-init c = record {
  within = omega (arith, c.min-at.ensures);
  below = omega (arith, c.min-at.ensures);
  rest =
      below_slot c.args.end c.min-at.result c.args.slots.now (omega (arith, c.min-at.ensures))
      (elim (cases_lt c.args.end (length c.args.slots.now)) [
        | inl l ↦ inl (omega (arith, c.min-at.ensures))
        | inr g ↦ inr (omega (arith, c.min-at.ensures))
      ]);
}

pub loop-at-preserved : goal.loop-at-preserved
loop-at-preserved c = record {
  within = omega arith;
  below = omega arith;
  rest =
      c.loop-at.invariant.rest
      ∙ (ap (λ m.
      find (λ (row : ℕ × ℕ). nat_lt row.0 c.args.end) (reverse (slot_rows 0 (take m c.args.slots.now))))
      (omega arith)
      ∙ ap (find (λ (row : ℕ × ℕ). nat_lt row.0 c.args.end))
      (last_empty c.args.slots.now (c.loop-at.at - 1) (omega arith) c.in_default.is));
}

pub returns-in-Some : goal.returns-in-Some
returns-in-Some c =
    sym
    (c.loop-at.invariant.rest
    ∙ (ap (λ m. find (λ (row : ℕ × ℕ). nat_lt row.0 c.args.end)
    (reverse (slot_rows 0 (take m c.args.slots.now))))
    (omega arith)
    ∙ (ap (find (λ (row : ℕ × ℕ). nat_lt row.0 c.args.end))
    (last_full c.args.slots.now (c.loop-at.at - 1) (omega arith) c.in-Some.document c.in-Some.is)
    ∙ ap (λ b. cond b (Some (c.loop-at.at - 1, c.in-Some.document))
    (find (λ (row : ℕ × ℕ). nat_lt row.0 c.args.end)
    (reverse (slot_rows 0 (take (c.loop-at.at - 1) c.args.slots.now)))))
    (lt-ltb (c.loop-at.at - 1) c.args.end (omega arith)))))

pub returns : goal.returns
returns c =
    let none : c.loop-at.at ≡ 0 = omega arith in
    sym (c.loop-at.invariant.rest
    ∙ ap (λ m. find (λ (row : ℕ × ℕ). nat_lt row.0 c.args.end)
    (reverse (slot_rows 0 (take m c.args.slots.now))))
    none)
