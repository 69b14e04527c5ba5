use Rattle.std.proofs.Common.{refl, inr}
use Rattle.hub_params.specs.FeedParams.{feed_asked}
use Rattle.hub_params.specs.FeedShown.{params_asked}
use Rattle.hub_params.specs.Room.{FeedNeedsRoom}
use Rattle.hub_service.specs.Feeds.{BeginsChanges}
use Rattle.hub_service.proofs.Looks.{read_feed, unread_feed}
use Rattle.hub_service.proofs.context.Context.begin_feed.Goals as goal

pub returns-in-Ok : goal.returns-in-Ok
returns-in-Ok g c =
    read_feed BeginsChanges (FeedNeedsRoom c.args.query.now c.args.body.now)
    (feed_asked c.args.query.now c.args.body.now)
    (params_asked c.in-Ok.params) c.begin_asked.result c.in-Ok.ensures.ok c.begin_asked.ensures

pub returns-in-Err : goal.returns-in-Err
returns-in-Err g c =
    unread_feed BeginsChanges (FeedNeedsRoom c.args.query.now c.args.body.now)
    (feed_asked c.args.query.now c.args.body.now)
    c.in-Err.fault c.unread.result
    (λ asked. inr refl) c.in-Err.ensures.err c.in-Err.ensures.memory c.unread.ensures
