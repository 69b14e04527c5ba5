use Rattle.std.proofs.Common.{◌≡◌, rules}
use Rattle.hub_database.specs.Receipts.{ids_of}
use Rattle.hub_shared.proofs.Writing.{stores_with}
use Rattle.hub_shared.proofs.write.Locked+DbState.write.Goals as goal

pub returns-clause-ok : goal.returns-clause-ok
returns-clause-ok c =
    let docs = c.args.docs.items in
    let room : c.in_ok-room.room ≡ ids_of docs = search rules in
    stores_with c.args.new_edits docs c.args.self.now.state c.store.new.self.state c.in_ok-batch.batch
    c.new.result c.feeds_are_right-edits.result c.in_ok-room.room c.in_ok-batch.ensures.batch c.new.ensures.batch
    c.new.ensures.receipts c.feeds_are_right-edits.ensures.edits.0 room

pub returns-clause-legal : goal.returns-clause-legal
returns-clause-legal c = c.in_ok-batch.ensures.adds.0.legal
