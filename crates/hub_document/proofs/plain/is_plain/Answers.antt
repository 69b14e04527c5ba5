use Rattle.json.proofs.Printed.Plain.{escape_on_plain}
use Rattle.hub_document.proofs.plain.is_plain.Goals as goal

pub returns : goal.returns
returns c = escape_on_plain c.plain_all.result c.args.text.now c.plain_all.ensures
