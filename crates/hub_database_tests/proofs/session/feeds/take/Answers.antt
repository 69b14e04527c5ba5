use Rattle.std.proofs.Common.{◌∙◌, ap}
use Rattle.hub_database.specs.Database.{Database}
use Rattle.hub_database.specs.Hosting.{hosted_of}
use Rattle.hub_feed.specs.Host.{item_of_number}
use Rattle.hub_database.proofs.FeedLemmas.{gives_due}
use Rattle.hub_database_tests.proofs.session.feeds.take.Goals as goal

pub accept_item-requires : goal.accept_item-requires
accept_item-requires c =
    let told = rw c.in-Give.is at c.in_ok-item.ensures.ok in
    record {
      due =
          ap (λ (db : Database). item_of_number (hosted_of db) c.args.feed.number) told.1
          ∙ gives_due c.args.state.now c.args.feed.number c.in-Give.item told.0;
    }
