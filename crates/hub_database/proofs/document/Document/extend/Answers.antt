use Rattle.hub_database.proofs.ReadyLemmas.{ready_needs}
use Rattle.hub_database.proofs.document.Document.extend.Goals as goal

pub returns-in_err-reserve_one-in-Ready-clause-memory :
    goal.returns-in_err-reserve_one-in-Ready-clause-memory
returns-in_err-reserve_one-in-Ready-clause-memory c =
    ready_needs c.from_residual-in_err-reserve_one-in-Ready.result c.args.self.now.id
    c.args.self.now.tree.edits _ c.args.edit c.in_ok-look.field-0
    c.in-Ready.ready c.in-Ready.is c.in_ok-look.ensures.storable c.in_ok-look.ensures.looked

pub returns-in_err-move_to-in-Ready-clause-memory :
    goal.returns-in_err-move_to-in-Ready-clause-memory
returns-in_err-move_to-in-Ready-clause-memory c =
    ready_needs c.from_residual-in_err-move_to-in-Ready.result c.args.self.now.id c.args.self.now.tree.edits
    _ c.args.edit c.in_ok-look.field-0
    c.in-Ready.ready c.in-Ready.is c.in_ok-look.ensures.storable c.in_ok-look.ensures.looked
