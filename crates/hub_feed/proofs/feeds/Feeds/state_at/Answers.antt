use Rattle.std.proofs.Common.{◌≡◌, ◌<◌, sym, subst, Some}
use Rattle.std.specs.Prelude.{position}
use Rattle.hub_model.specs.Entries.{entry_in, is_of}
use Rattle.hub_model.proofs.Entries.{entry_here}
use Rattle.hub_feed.specs.Feeds.{FeedList}
use Rattle.hub_feed.proofs.FeedsLemmas.{entry_given}
use Rattle.hub_feed.proofs.feeds.Feeds.state_at.Goals as goal

pub returns-clause-found : goal.returns-clause-found
returns-clause-found c =
    let id = c.args.feed.number in
    let feeds = c.self.inside.list.items in
    let placed = subst (λ (list : FeedList). Some c.args.at ≡ position (is_of id) list.feeds)
    (sym c.self.view_is)
    c.requires.placed in
    subst (λ (list : FeedList). entry_in id list.feeds ≡ Some c.index-state.result.now.1) c.self.view_is
    (entry_here id feeds c.args.at placed c.index-state.result.now c.index-state.ensures)

pub returns-clause-given : goal.returns-clause-given
returns-clause-given c =
    let id = c.args.feed.number in
    let feeds = c.self.inside.list.items in
    let placed = subst (λ (list : FeedList). Some c.args.at ≡ position (is_of id) list.feeds)
    (sym c.self.view_is)
    c.requires.placed in
    subst (λ (list : FeedList). id < list.next) c.self.view_is
    (entry_given c.self.inside.next id feeds c.index-state.result.now.1 c.self.invariant.given
    (entry_here id feeds c.args.at placed c.index-state.result.now c.index-state.ensures))
