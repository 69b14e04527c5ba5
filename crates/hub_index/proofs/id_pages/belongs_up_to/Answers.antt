use Rattle.std.proofs.Common.{◌≡◌, ℕ, Bool, ◌+◌, ◌<◌, ◌∙◌, length, get_or, not, true, false, refl, arith}
use Rattle.std.specs.List.{AllWithin}
use Rattle.std.proofs.lemmas.Bool.{OnTrue_from, OnFalse_from}
use Rattle.std.proofs.lemmas.List.{get_or_default}
use Rattle.hub_model.proofs.Tests.{not_true}
use Rattle.hub_index.specs.Order.{is_below}
use Rattle.hub_index.proofs.OrderLemmas.{below_parted, below_read, fails_from, passes_up_to}
use Rattle.hub_index.proofs.id_pages.belongs_up_to.Goals as goal

not_false : (b : Bool) → not b ≡ false → b ≡ true
not_false true h = refl
not_false false h = absurd (cc)

pub returns-else-at-numbers : goal.returns-else-at-numbers
returns-else-at-numbers g c =
    let ids = g.N.Named.ids c.args.names.now in
    let id = c.args.id.now in
    let numbers = c.args.numbers.now in
    let at = c.args.at in
    let low : at < length numbers = omega (arith, c.if-at-numbers.false) in
    let here : ℕ = get_or numbers at 0 in
    let is = get_or_default numbers at 0 here low in
    let parted = below_parted ids id numbers c.requires.order.rising in
    let read = below_read ids id here _ _ _ c.id.ensures c.cmp.ensures c.is_lt.ensures in
    record {
      yes =
          OnTrue_from (not c.is_lt.result)
          (AllWithin (λ n. is_below ids id n ≡ false) numbers at (length numbers))
          (λ h. fails_from (is_below ids id) numbers at here parted is (read ∙ not_true c.is_lt.result h));
      within = OnFalse_from (not c.is_lt.result) (at < length numbers) (λ h. low);
      no =
          OnFalse_from (not c.is_lt.result) (AllWithin (λ n. is_below ids id n ≡ true) numbers 0 (at + 1))
          (λ h.
          passes_up_to (is_below ids id) numbers at (at + 1) here parted refl low is
          (read ∙ not_false c.is_lt.result h));
    }
