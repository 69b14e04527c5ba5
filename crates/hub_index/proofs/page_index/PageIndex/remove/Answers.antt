use Rattle.std.proofs.Common.{ℕ, List, not, nat_eq, filter, ◌∙◌, ap, sym, subst}
use Rattle.hub_index.specs.Rows.{IsIndex}
use Rattle.hub_index.proofs.PageLemmas.{removed_is, index_less}
use Rattle.hub_index.proofs.page_index.PageIndex.remove.Goals as goal

pub returns : goal.returns
returns c =
    c.remove_row.ensures.rows
    ∙ (removed_is c.args.seq _ c.self.invariant.index.rising
    ∙ ap (λ (rows : List (ℕ × ℕ)). filter (λ (row : ℕ × ℕ). not (nat_eq row.0 c.args.seq)) rows)
    c.self.view_is)

pub invariant_of-self : goal.invariant_of-self
invariant_of-self c = record {
  each = c.remove_row.ensures.pages;
  rising = c.remove_row.ensures.rising;
  index =
      subst IsIndex (sym (c.remove_row.ensures.rows ∙ removed_is c.args.seq _ c.self.invariant.index.rising))
      (index_less (λ (row : ℕ × ℕ). not (nat_eq row.0 c.args.seq)) _ c.self.invariant.index);
}
