use Rattle.std.proofs.Common.{◌≡◌, ℕ, List, Option, drop, length, ◌-◌, ◌*◌, ◌∙◌}
use Rattle.std.proofs.Common.{ap, sym, arith, inl, inr, count_by, is_some}
use Rattle.std.proofs.lemmas.Bool.{cases_lt}
use Rattle.std.proofs.lemmas.List.{take_rest}
use Rattle.hub_index.proofs.SlotLemmas.{count_behind}
use Rattle.hub_index.proofs.page.Page.count_after.Goals as goal

pub returns-then-place-base : goal.returns-then-place-base
returns-then-place-base c =
    rw (← c.self.view_is)
    (c.self.invariant.count
    ∙ sym (count_behind (256 * c.self.inside.number) c.args.place 0 c.self.inside.slots.items
    (omega arith) (inl (omega arith))))

pub returns : goal.returns
returns c =
    let same : c.deref.result.now ≡ c.self.inside.slots.items = c.deref.ensures.value in
    let size : length c.deref.result.now ≡ length c.self.inside.slots.items =
    ap (λ (s : List (Option ℕ)). length s) same in
    rw (← c.self.view_is)
    (c.count_live.ensures
    ∙ (ap (count_by is_some) (take_rest c.deref.result.now c.min-from.result)
    ∙ (ap (λ (s : List (Option ℕ)). count_by is_some (drop c.min-from.result s)) same
    ∙ sym (count_behind (256 * c.self.inside.number) c.args.place c.min-from.result c.self.inside.slots.items
    (omega (arith, c.min-from.ensures, c.len.ensures, c.deref.ensures.len))
    (elim (cases_lt (c.args.place - 256 * c.self.inside.number) c.len.result) [
      | inl l ↦ inl (omega (arith, c.min-from.ensures))
      | inr g ↦ inr (
        omega (arith, c.min-from.ensures, c.len.ensures, c.deref.ensures.len),
        omega (arith, c.min-from.ensures),
      )
    ])))))
