use Rattle.std.proofs.Common.{◌++◌, sym, ap}
use Rattle.hub_http.proofs.outbox.Outbox.front.Goals as goal

pub returns-else-is_empty-clause-front : goal.returns-else-is_empty-clause-front
returns-else-is_empty-clause-front c =
    let moved = c.args.self.now.moved in
    (moved, ap (λ l. l ++ moved) (sym c.as_slice-else-is_empty.ensures))
