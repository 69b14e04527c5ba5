use Rattle.std.proofs.Common.{◌≡◌, List, length, subst, sym, Result}
use Rattle.std.specs.Prelude.{IfOk}
use Rattle.hub_model.specs.Revision.{Revision}
use Rattle.hub_model.specs.declared.outcomes.Outcome.{Outcome}
use Rattle.hub_follower.specs.declared.peer.CallFault.{CallFault}
use Rattle.hub_follower.proofs.Served.{merged_each}
use Rattle.hub_follower.proofs.db_peer.DbPeerPeer.merge.Goals as goal

pub returns-clause-many : goal.returns-clause-many
returns-clause-many g c =
    let docs = c.args.docs.now in
    subst (λ (r : Result (List (Outcome Revision)) CallFault).
    IfOk r (λ replies. length replies ≡ length docs))
    (sym c.counted.ensures.same) (merged_each c.store_all-replies.result docs c.store_all-replies.ensures)
