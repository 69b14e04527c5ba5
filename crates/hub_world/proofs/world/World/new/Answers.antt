use Rattle.std.proofs.Common.{ap, sym, subst, refl, [], arith}
use Rattle.hub_document.specs.declared.limits.Limits as hub
use Rattle.hub_world.specs.Core.{IsWorld, limits_of}
use Rattle.hub_world.specs.World.{empty}
use Rattle.hub_world.proofs.Running.{new_shows}
use Rattle.hub_world.proofs.world.World.new.Goals as goal

pub invariant_of-result : goal.invariant_of-result
invariant_of-result c =
    let e = c.new-state.ensures in
    subst IsWorld (sym c.new.ensures)
    (record {
      lane = sym (ap (λ (limits : hub.Limits). limits.lane) e.limits);
      room = λ i d low. absurd (omega (arith, low));
      shown = (
        empty (limits_of c.args.limits),
        new_shows (record { db = c.new-state.result; lanes = [] }) c.args.limits e.journal
            e.stands e.feeds e.numbers e.limits e.life refl,
      );
    })
