use Rattle.std.proofs.Common.{sym, ◌∙◌, subst}
use Rattle.std.specs.Prelude.{All}
use Rattle.std.proofs.lemmas.List.{take_all}
use Rattle.hub_database.specs.Receipts.{HasEdit}
use Rattle.hub_database.proofs.Auditing.{one_more_stands, one_is_wrong}
use Rattle.hub_database.proofs.receipt.audit_of.Goals as goal

pub returns-then-not-has_edit : goal.returns-then-not-has_edit
returns-then-not-has_edit c = (
  c.loop-at.invariant,
  one_is_wrong c.args.state.now.journal c.args.receipts.now c.loop-at.at c.index-receipts-at.result
      c.loop-at-test.true c.index-receipts-at.is (sym c.has_edit.ensures ∙ c.if-not-has_edit.true),
  c.loop-at-test.true,
)

pub loop-at-preserved : goal.loop-at-preserved
loop-at-preserved c =
    one_more_stands c.args.state.now.journal c.args.receipts.now c.loop-at.at c.index-receipts-at.result
    c.loop-at-test.true c.index-receipts-at.is
    (sym c.has_edit.ensures ∙ c.if-not-has_edit.false) c.loop-at.invariant

pub returns : goal.returns
returns c =
    subst (λ l. All (λ r. HasEdit c.args.state.now.journal r) l)
    (take_all c.loop-at.at c.args.receipts.now c.loop-at-test.false) c.loop-at.invariant
