use denote.Param.Send.{sendable}
use Rattle.std.proofs.Crossing.{crosses}
use Rattle.hub_databases.proofs.hub.Hub.TheSendSync.{the_sync as hub_sync}
use Rattle.hub_service.proofs.sent.Sent.TheSendSync.{the_send as sent_send}
use Rattle.hub_server.proofs.Crossing.{routes_sync}
use Rattle.hub_server.proofs.server.run_server.Goals as goal

-- `search` takes the bounds of the handle, the gate and the clock as they are named here
pub serve_all-requires-send-S : goal.serve_all-requires-send-S
serve_all-requires-send-S g c κs within =
    let handle = c.type_bounds.sync-R in
    let gate = c.type_bounds.sync-G in
    let clock = c.type_bounds.sync-K in
    search (sent_send, hub_sync, routes_sync, crosses, sendable) depth 60 fits 20000

pub serve_all-requires-sync-M : goal.serve_all-requires-sync-M
serve_all-requires-sync-M g c κs within =
    let handle = c.type_bounds.sync-R in
    let gate = c.type_bounds.sync-G in
    let clock = c.type_bounds.sync-K in
    search (hub_sync, routes_sync, crosses, sendable) depth 60 fits 20000
