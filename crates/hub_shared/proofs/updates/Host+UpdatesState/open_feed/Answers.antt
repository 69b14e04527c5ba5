use Rattle.std.proofs.Common.{ap, sym, subst}
use Rattle.hub_lane.specs.Ends.{ReceiverState}
use Rattle.hub_params.specs.FeedParams.{FeedAsked}
use Rattle.hub_params.specs.FeedShown.{params_asked}
use Rattle.hub_updates.specs.Asked.{updates_asked}
use Rattle.hub_updates.specs.Log.{hosted_of}
use Rattle.hub_shared.specs.Feeds.{FeedState, IsOpened, feed_of}
use Rattle.hub_shared.proofs.updates.Host+UpdatesState.open_feed.Goals as goal

pub returns-clause-opened : goal.returns-clause-opened
returns-clause-opened g c =
    let host = hosted_of c.deref_mut.result.now.state in
    let begun = c.in_ok-id.ensures.ok in (
      host,
      subst (λ (feed : FeedState _). IsOpened host (updates_asked (params_asked c.args.params)) feed)
          (sym c.new.ensures)
          (subst (λ (asked : FeedAsked). IsOpened host asked (feed_of c.in_ok-id.field-0.id.number
          c.in_ok-id.field-0.taker.end))
          c.effective.ensures
          (record {
            free = begun.free;
            fresh = begun.fresh;
            next = begun.next;
            label = ap (λ (r : ReceiverState _ _). r.label) begun.taker;
            none = ap (λ (r : ReceiverState _ _). r.taken) begun.taker;
          })),
    )
