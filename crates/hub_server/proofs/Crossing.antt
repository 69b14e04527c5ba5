-- Which values of the server may cross threads.
use denote.Param.Send.{IsSync, sendable}
use Rattle.std.proofs.Crossing.{crosses}
use Rattle.hub_routes.below.matchit.proofs.tree.Node.TheLaws.TheKnot.{crosses as nodes}
use Rattle.hub_routes.specs.contracts.routes.Routes as Routes

-- the table of routes may be shared
pub routes_sync : IsSync Routes.the_row
routes_sync = search (crosses, nodes, sendable) depth 60 fits 20000
