use Rattle.std.proofs.Common.{inr}
use Rattle.hub_service.proofs.context.Context.look.Goals as goal

pub returns : goal.returns
returns g c =
    let asked = c.look.ensures.asked in
    inr (record {
      db = asked.0;
      legal = asked.1.legal;
      held = (c.look.result, asked.2, c.with_refusal.ensures);
    })
