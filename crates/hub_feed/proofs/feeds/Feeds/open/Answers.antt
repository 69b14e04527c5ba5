use Rattle.std.proofs.Common.{◌≡◌, ◌∙◌, ap, sym, subst, [], ◌∷◌, ◌++◌, None}
use Rattle.hub_model.specs.Entries.{entry_in}
use Rattle.hub_model.specs.Feed.{new_feed}
use Rattle.hub_model.proofs.Entries.{none_above}
use Rattle.hub_params.specs.FeedModel.{params_of}
use Rattle.hub_feed.specs.Feeds.{AreBehind, FeedList}
use Rattle.hub_feed.proofs.FeedsLemmas.{behind_opened}
use Rattle.hub_feed.proofs.feeds.Feeds.open.Goals as goal

pub returns-clause-fresh : goal.returns-clause-fresh
returns-clause-fresh c =
    subst (λ (list : FeedList). entry_in c.self.inside.next list.feeds ≡ None) c.self.view_is
    (none_above c.self.inside.next c.self.inside.list.items c.self.invariant.given)

pub returns-clause-behind : goal.returns-clause-behind
returns-clause-behind c =
    let feeds = c.self.inside.list.items in
    let more : c.push_reserved.new.self.items
    ≡ feeds ++ (c.self.inside.next, new_feed (params_of c.args.params) c.args.length c.args.life) ∷ [] =
    c.push_reserved.ensures.items
    ∙ (ap (λ fs. fs ++ (c.self.inside.next, c.begin.result) ∷ []) c.try_reserve.ensures.items
    ∙ ap (λ f. feeds ++ (c.self.inside.next, f) ∷ []) c.begin.ensures) in
    λ behind. subst (AreBehind c.args.length) (sym more)
    (behind_opened c.args.length c.args.life c.self.inside.next (params_of c.args.params) feeds
    (subst (λ (list : FeedList). AreBehind c.args.length list.feeds) (sym c.self.view_is) behind))
