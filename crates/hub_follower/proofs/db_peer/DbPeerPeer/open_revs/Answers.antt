use Rattle.std.proofs.Common.{◌≡◌, List, length, subst, sym, Result}
use Rattle.std.specs.Prelude.{IfOk}
use Rattle.hub_database.specs.declared.answers.OpenRev.{OpenRev}
use Rattle.hub_follower.specs.declared.peer.CallFault.{CallFault}
use Rattle.hub_follower.proofs.Served.{shown_each}
use Rattle.hub_follower.proofs.db_peer.DbPeerPeer.open_revs.Goals as goal

pub returns-clause-many : goal.returns-clause-many
returns-clause-many g c =
    let asked = c.args.asked.now in
    subst (λ (r : Result (List OpenRev) CallFault). IfOk r (λ found. length found ≡ length asked.revs))
    (sym c.counted.ensures.same)
    (shown_each c.documents_of-found.result asked.id asked.revs c.documents_of-found.ensures)
