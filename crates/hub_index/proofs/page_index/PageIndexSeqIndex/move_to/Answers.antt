use Rattle.std.proofs.Common.{ℕ, List, [], ◌∷◌, ◌++◌, ◌∙◌, sym, ap, subst}
use Rattle.std.specs.Map.{remove_entry}
use Rattle.hub_index.specs.Rows.{IsIndex}
use Rattle.hub_index.proofs.IndexLemmas.{index_moved, moved_new, moved_old}
use Rattle.hub_index.proofs.SlotLemmas.{at_seq}
use Rattle.hub_index.proofs.page_index.PageIndexSeqIndex.move_to.Goals as goal

pub returns-in-Some-clause-moved : goal.returns-in-Some-clause-moved
returns-in-Some-clause-moved c =
    c.remove_row.ensures.rows
    ∙ (ap (remove_entry (at_seq c.in-Some.old))
    (c.in_ok-add_row.ensures.ok
    ∙ ap (λ (rows : List (ℕ × ℕ)). rows ++ (c.args.new, c.args.document) ∷ []) c.self.view_is)
    ∙ moved_old c.args.document c.args.self.now c.in-Some.old c.args.new
    (subst IsIndex c.self.view_is c.self.invariant.index) (c.requires.own ∙ c.in-Some.is))

pub returns-in_default-clause-moved : goal.returns-in_default-clause-moved
returns-in_default-clause-moved c =
    c.in_ok-add_row.ensures.ok
    ∙ (ap (λ (rows : List (ℕ × ℕ)). rows ++ (c.args.new, c.args.document) ∷ []) c.self.view_is
    ∙ moved_new c.args.document c.args.self.now c.args.new (c.requires.own ∙ c.in_default.is))

pub invariant_of-self-in-Some : goal.invariant_of-self-in-Some
invariant_of-self-in-Some c = record {
  each = c.remove_row.ensures.pages;
  rising = c.remove_row.ensures.rising;
  index =
      subst IsIndex (sym (returns-in-Some-clause-moved c))
      (index_moved c.args.document c.args.self.now c.args.new
      (subst IsIndex c.self.view_is c.self.invariant.index) c.requires.positive c.requires.above);
}

pub invariant_of-self-in_default : goal.invariant_of-self-in_default
invariant_of-self-in_default c = record {
  each = c.in_ok-add_row.ensures.pages;
  rising = c.in_ok-add_row.ensures.rising;
  index =
      subst IsIndex (sym (returns-in_default-clause-moved c))
      (index_moved c.args.document c.args.self.now c.args.new
      (subst IsIndex c.self.view_is c.self.invariant.index) c.requires.positive c.requires.above);
}

pub returns-in-Some-clause-index : goal.returns-in-Some-clause-index
returns-in-Some-clause-index c = (invariant_of-self-in-Some c).index

pub returns-in_default-clause-index : goal.returns-in_default-clause-index
returns-in_default-clause-index c = (invariant_of-self-in_default c).index
