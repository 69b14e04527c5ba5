use Rattle.std.proofs.Common.{refl, inr}
use Rattle.hub_params.specs.FeedParams.{feed_asked}
use Rattle.hub_params.specs.Room.{FeedNeedsRoom}
use Rattle.hub_service.specs.Feeds.{BeginsUpdates}
use Rattle.hub_service.proofs.Looks.{unread_feed}
use Rattle.hub_service.proofs.feeds.begin_updates.Goals as goal

pub returns-in-Err : goal.returns-in-Err
returns-in-Err g c =
    unread_feed BeginsUpdates (FeedNeedsRoom c.args.query.now c.args.body.now)
    (feed_asked c.args.query.now c.args.body.now)
    c.in-Err.fault c.unread.result
    (λ asked. inr refl) c.in-Err.ensures.err c.in-Err.ensures.memory c.unread.ensures
