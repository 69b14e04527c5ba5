use Rattle.std.proofs.Common.{◌≡◌, ◌++◌, ◌∷◌, [], sym, subst, ap, ◌∙◌, append_assoc}
use Rattle.std.specs.Prelude.{None}
use Rattle.hub_model.specs.Missing.{diffs}
use Rattle.hub_database.specs.Found.{wanted_diff}
use Rattle.hub_database.proofs.MissingLemmas.{diffs_none}
use Rattle.hub_database.proofs.ShortLemmas.{diffs_some}
use Rattle.hub_revtree.proofs.BranchLemmas.{on_err}
use Rattle.hub_database.proofs.contents.Contents.revs_diff.Goals as goal

pub loop-asked-preserved : goal.loop-asked-preserved
loop-asked-preserved c =
    let i = c.loop-asked.invariant in
    let step = c.in-Some.ensures.steps in
    record {
      found =
          i.found
          ∙ sym (diffs_none c.args.self.now.journal c.loop-asked.yielded c.in-Some.asked
          (sym c.in_default.is ∙ c.in_ok-diff.ensures.ok));
      asked =
          append_assoc c.loop-asked.yielded (c.in-Some.asked ∷ []) c.next.new.self.rest.items
          ∙ (ap (λ xs. c.loop-asked.yielded ++ xs) (sym step.0) ∙ i.asked);
    }

pub returns-in_err-diff-clause-memory : goal.returns-in_err-diff-clause-memory
returns-in_err-diff-clause-memory c =
    on_err c.from_residual.result _
    (subst (λ asked. ¬ (diffs c.args.self.now.journal asked ≡ []))
    (ap (λ xs. c.loop-asked.yielded ++ xs) (sym c.in-Some.ensures.steps.0) ∙ c.loop-asked.invariant.asked)
    (diffs_some c.args.self.now.journal c.loop-asked.yielded c.next.new.self.rest.items c.in-Some.asked
    c.in_err-diff.ensures.memory))

pub returns-in_err-push-clause-memory : goal.returns-in_err-push-clause-memory
returns-in_err-push-clause-memory c =
    let some : ¬ (wanted_diff c.args.self.now.journal c.in-Some.asked ≡ None) =
    λ e. absurd (let never = sym c.in-Some-2.is ∙ (c.in_ok-diff.ensures.ok ∙ e) in cc) in
    on_err c.from_residual-in_err-push.result _
    (subst (λ asked. ¬ (diffs c.args.self.now.journal asked ≡ []))
    (ap (λ xs. c.loop-asked.yielded ++ xs) (sym c.in-Some.ensures.steps.0) ∙ c.loop-asked.invariant.asked)
    (diffs_some c.args.self.now.journal c.loop-asked.yielded c.next.new.self.rest.items c.in-Some.asked some))
