use Rattle.std.proofs.Common.{false, refl}
use Rattle.hub_http.specs.Boxes.{pending_in}
use Rattle.hub_session.specs.declared.machine.Place.TheVariants.{Between}
use Rattle.hub_session.specs.Runs.{SessionView}
use Rattle.hub_session.proofs.RunLemmas.{begun_run}
use Rattle.hub_session.proofs.machine.Session.new.Goals as goal

pub returns-clause-run : goal.returns-clause-run
returns-clause-run g c =
    let begun : SessionView _ = record {
      place = Between;
      bytes = c.new.result.pending;
      over = false;
      service = c.args.service;
      pending = pending_in c.args.outbox;
    } in
    begun_run g.S.Service.rules c.args.service begun refl c.new.ensures.empty refl c.requires
