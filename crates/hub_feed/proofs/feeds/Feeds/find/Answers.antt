use Rattle.std.proofs.Common.{◌≡◌, ◌∙◌, sym, subst, ℕ, Some, None, nat_eq}
use Rattle.std.specs.Prelude.{position}
use Rattle.hub_model.specs.Entries.{entry_in}
use Rattle.hub_model.specs.Feed.{Feed}
use Rattle.hub_model.proofs.Entries.{entry_here, no_entry}
use Rattle.hub_feed.specs.Feeds.{FeedList}
use Rattle.hub_feed.proofs.feeds.Feeds.find.Goals as goal

pub returns-in_default : goal.returns-in_default
returns-in_default c =
    let none : position (λ (p : ℕ × Feed). nat_eq p.0 c.args.feed.number) c.self.inside.list.items ≡ None =
    rw c.as_slice.ensures.value at (sym c.place_of.ensures ∙ c.in_default.is) in
    subst (λ (list : FeedList). None ≡ entry_in c.args.feed.number list.feeds) c.self.view_is
    (sym (no_entry c.args.feed.number c.self.inside.list.items none))

pub returns : goal.returns
returns c =
    let id = c.args.feed.number in
    let placed : Some c.in-Some.at ≡ position (λ (p : ℕ × Feed). nat_eq p.0 id) c.self.inside.list.items =
    rw c.as_slice.ensures.value at c.in-Some.ensures in
    subst (λ (list : FeedList). Some c.index-feed.result.now.1 ≡ entry_in id list.feeds) c.self.view_is
    (sym (entry_here id c.self.inside.list.items c.in-Some.at
    placed c.index-feed.result.now c.index-feed.ensures))
