-- Where there is no such feed nothing changes. Else a hand is that of the feed's place.
use Rattle.std.proofs.Common.{◌≡◌, ◌∙◌, sym, subst, ap, refl, None}
use Rattle.hub_model.specs.Entries.{entry_in}
use Rattle.hub_model.proofs.Entries.{no_entry}
use Rattle.hub_feed.specs.Feeds.{FeedList}
use Rattle.hub_feed.specs.Hand.{HandsTo}
use Rattle.hub_feed.specs.Hands.{HandsOne}
use Rattle.hub_feed.specs.Host.{next_if_any, hosted_after_next, hosted_after_hand}
use Rattle.hub_feed.specs.declared.handed.Handed.{Handed}
use Rattle.hub_feed.specs.declared.handed.Handed.TheVariants.{Gone}
use Rattle.hub_feed.specs.declared.next.Next.TheVariants.{Nothing}
use Rattle.hub_feed.proofs.FeedsLemmas.{both_ok}
use Rattle.hub_database.specs.Database.{Database}
use Rattle.hub_database.specs.Hosting.{hosted_of, with_hosted}
use Rattle.hub_database.proofs.host.DbStateFeedHost.hand.Goals as goal

pub returns-in_default-clause-ok : goal.returns-in_default-clause-ok
returns-in_default-clause-ok g c =
    let id = c.args.feed.number in
    let state = c.self.inside in
    let whole : FeedList → Database = λ z. record {
      journal = state.contents.journal;
      deleted = state.deleted;
      locals = state.contents.locals;
      feeds = z.feeds;
      next_feed = z.next;
      limits = state.contents.limits;
      life = state.contents.life;
    } in
    let db = c.args.self.now in
    let sink = c.args.sink.now in
    let none : entry_in id db.feeds ≡ None =
    subst (λ (database : Database). entry_in id database.feeds ≡ None) c.self.view_is
    (no_entry id state.feeds.feeds (sym c.in_default.ensures.1)) in
    subst (λ o. HandsTo g.K.Sink.behind (g.H.Pushes.refuses c.args.handle.now) db
    (with_hosted db (hosted_after_hand (hosted_of db) id))
    (with_hosted db (hosted_after_next (hosted_of db) id Nothing)) sink
    (next_if_any (hosted_of db) o) Gone (whole c.place.new.self) sink) (sym none)
    (refl, ap whole c.place.ensures.0 ∙ c.self.view_is, refl)

pub returns-clause-ok : goal.returns-clause-ok
returns-clause-ok g c =
    let state = c.self.inside in
    let whole : FeedList → Database = λ z. record {
      journal = state.contents.journal;
      deleted = state.deleted;
      locals = state.contents.locals;
      feeds = z.feeds;
      next_feed = z.next;
      limits = state.contents.limits;
      life = state.contents.life;
    } in
    let Hands : Database → Handed → Type 0 =
    λ database did. HandsOne hosted_of with_hosted g.K.Sink.behind (g.H.Pushes.refuses c.args.handle.now)
    c.args.feed.number database c.args.sink.now did c.hand_at.new.self c.hand_at.new.sink in
    let placed : Handed → Type 0 = Hands (whole c.place.new.self) in
    both_ok {P = placed} {Q = placed} c.hand_at.result
    (λ did hands _. subst (λ database. Hands database did) (ap whole c.place.ensures.0 ∙ c.self.view_is) hands)
    c.hand_at.ensures.ok c.hand_at.ensures.ok
