use Rattle.hub_http.proofs.CountLemmas.{counts_after}
use Rattle.hub_session.proofs.FeedLemmas.{fed_behind, fed_broken}
use Rattle.hub_session.proofs.feed.stream_feed.Goals as goal

pub returns-in-Ok-clause-fed : goal.returns-in-Ok-clause-fed
returns-in-Ok-clause-fed g c =
    fed_behind g.S.Service.rules c.args.mode c.args.life _ _ _ _ c.in-Ok.ensures.sent
    (rw c.new.ensures at c.send_items.ensures.fed)

pub returns-in-Err-clause-fed : goal.returns-in-Err-clause-fed
returns-in-Err-clause-fed g c =
    fed_broken g.S.Service.rules c.args.mode c.args.life _ _ c.drop_stream.ensures c.in-Err.ensures.sent

pub returns-in-Ok-clause-counts : goal.returns-in-Ok-clause-counts
returns-in-Ok-clause-counts g c = counts_after c.begin_items.ensures.counts c.send_items.ensures.counts
