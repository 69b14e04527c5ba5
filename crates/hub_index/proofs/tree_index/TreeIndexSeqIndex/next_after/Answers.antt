use Rattle.std.proofs.Common.{◌≡◌, ℕ, ◌≤◌, Some, ◌∙◌, sym, subst}
use Rattle.std.proofs.lemmas.Option.{none-some}
use Rattle.hub_index.proofs.IndexLemmas.{same_Some, next_none, next_beyond, next_within}
use Rattle.hub_index.proofs.tree_index.TreeIndexSeqIndex.next_after.Goals as goal
use Rattle.hub_index.proofs.tree_index.TreeIndexSeqIndex.next_after.Goals.{in_default-via-in-Some+else-bound-seq}
use Rattle.hub_index.proofs.tree_index.TreeIndexSeqIndex.next_after.Goals.{in_default-via-in_default}

pub returns-in_err-seq-clause-next : goal.returns-in_err-seq-clause-next
returns-in_err-seq-clause-next c =
    rw (← c.self.view_is)
    (c.from_residual.ensures
    ∙ sym (next_none c.self.inside.documents.entries c.range.result c.args.place
    (c.range.ensures.between tt) c.args.bound c.in_err-seq.ensures.steps.0))

pub returns-in-Some-clause-next : goal.returns-in-Some-clause-next
returns-in-Some-clause-next c =
    rw (← c.self.view_is, c.in-Some.is)
    (sym (next_beyond c.self.inside.documents.entries c.range.result c.args.place
    (c.range.ensures.between tt) c.self.invariant c.in-Some.bound
    (c.in_ok-seq.seq.now, c.in_ok-seq.document.now) _ c.in_ok-seq.ensures.steps c.if-bound-seq.true))

pub returns-in_default-clause-next : goal.returns-in_default-clause-next
returns-in_default-clause-next c =
    rw (← c.self.view_is)
    (sym (next_within c.self.inside.documents.entries c.range.result c.args.place (c.range.ensures.between tt)
    c.args.bound (c.in_ok-seq.seq.now, c.in_ok-seq.document.now) _ c.in_ok-seq.ensures.steps not_above))
  where
    not_above : (b : ℕ) → c.args.bound ≡ Some b → c.in_ok-seq.seq.now ≤ b
    not_above b e =
        elim c.in_default.branch [
          | in_default-via-in-Some+else-bound-seq w ↦
              subst (λ z. c.in_ok-seq.seq.now ≤ z) (same_Some _ b (sym w.in-Some.is ∙ e)) w.if-bound-seq.false
          | in_default-via-in_default w ↦ absurd (none-some b (sym w.in_default.is ∙ e))
        ]
