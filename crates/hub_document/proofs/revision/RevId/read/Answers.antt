use Rattle.std.proofs.Common.{rules}
use Rattle.hub_document.proofs.TextLemmas.{text_if_read, none_if_unread}
use Rattle.hub_document.proofs.revision.RevId.read.Goals as goal

pub returns-clause-text : goal.returns-clause-text
returns-clause-text c = text_if_read c.args.text.now c.from_parts.result (search rules)

pub returns-clause-none : goal.returns-clause-none
returns-clause-none c = none_if_unread c.args.text.now c.from_parts.result (search rules)

pub returns-in_err-number-clause-none : goal.returns-in_err-number-clause-none
returns-in_err-number-clause-none c = none_if_unread c.args.text.now c.from_residual.result (search rules)
