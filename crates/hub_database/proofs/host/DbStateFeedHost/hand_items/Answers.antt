-- A hand after the hands before it is one hand more.
use Rattle.std.proofs.Common.{◌≡◌, ◌∙◌, sym, subst, ap, refl, Some, None, position, arith}
use Rattle.hub_model.specs.Entries.{entry_in, is_of}
use Rattle.hub_model.proofs.Entries.{no_entry}
use Rattle.hub_feed.specs.Feeds.{FeedList}
use Rattle.hub_feed.specs.Hands.{HandsItems, more, none}
use Rattle.hub_feed.specs.Hand.{HandsTo}
use Rattle.hub_feed.specs.Host.{next_if_any, hosted_after_next, hosted_after_hand}
use Rattle.hub_feed.specs.declared.handed.Handed.TheVariants.{Gone, Row, End}
use Rattle.hub_feed.specs.declared.next.Next.TheVariants.{Nothing}
use Rattle.hub_feed.proofs.HandLemmas.{one_more, none_taken}
use Rattle.hub_database.specs.Database.{Database}
use Rattle.hub_database.specs.Hosting.{hosted_of, with_hosted}
use Rattle.hub_database.proofs.host.DbStateFeedHost.hand_items.Goals as goal

pub returns-in_default-clause-ok : goal.returns-in_default-clause-ok
returns-in_default-clause-ok g c =
    let id = c.args.feed.number in
    let state = c.self.inside in
    let whole : FeedList → Database = λ z. record {
      journal = state.contents.journal;
      deleted = state.deleted;
      locals = state.contents.locals;
      feeds = z.feeds;
      next_feed = z.next;
      limits = state.contents.limits;
      life = state.contents.life;
    } in
    let db = c.args.self.now in
    let sink = c.args.sink.now in
    let absent : entry_in id db.feeds ≡ None =
    subst (λ (database : Database). entry_in id database.feeds ≡ None) c.self.view_is
    (no_entry id state.feeds.feeds (sym c.in_default.ensures.1)) in
    more none (subst (λ o. HandsTo g.K.Sink.behind (g.H.Pushes.refuses c.args.handle.now) db
    (with_hosted db (hosted_after_hand (hosted_of db) id))
    (with_hosted db (hosted_after_next (hosted_of db) id Nothing)) sink
    (next_if_any (hosted_of db) o) Gone (whole c.place.new.self) sink) (sym absent)
    (refl, ap whole c.place.ensures.0 ∙ c.self.view_is, refl))

pub loop-sent-init : goal.loop-sent-init
loop-sent-init g c =
    let state = c.self.inside in
    let whole : FeedList → Database = λ z. record {
      journal = state.contents.journal;
      deleted = state.deleted;
      locals = state.contents.locals;
      feeds = z.feeds;
      next_feed = z.next;
      limits = state.contents.limits;
      life = state.contents.life;
    } in
    let id = c.args.feed.number in
    let sink = c.args.sink.now in (
      subst (λ (database : Database). HandsItems hosted_of with_hosted g.K.Sink.behind
          (g.H.Pushes.refuses c.args.handle.now) id c.args.self.now sink 0 Row database sink)
          (sym (ap whole c.place.ensures.0 ∙ c.self.view_is)) none,
      subst (λ (z : FeedList). Some c.in-Some.at ≡ position (is_of id) z.feeds) (sym c.in-Some.ensures.0)
          c.in-Some.ensures.1,
    )

pub returns-in-End-clause-ok : goal.returns-in-End-clause-ok
returns-in-End-clause-ok g c =
    one_more hosted_of with_hosted g.K.Sink.behind (g.H.Pushes.refuses c.args.handle.now) c.args.feed.number
    c.loop-sent.invariant.0 c.in_ok-last.last End c.in-End.is c.in_ok-last.ensures.ok

pub returns-in_default-2 : goal.returns-in_default-2
returns-in_default-2 g c = record {
  ok =
      none_taken hosted_of with_hosted g.K.Sink.behind (g.H.Pushes.refuses c.args.handle.now)
      c.args.feed.number c.loop-sent.invariant.0 c.in_ok-last.last c.in_default-2.not-Row c.in_default-2.not-End
      c.in_ok-last.ensures.ok;
  most = (omega arith, λ row. absurd (c.in_default-2.not-Row row));
  err = tt;
}

pub loop-sent-preserved : goal.loop-sent-preserved
loop-sent-preserved g c = (
  one_more hosted_of with_hosted g.K.Sink.behind (g.H.Pushes.refuses c.args.handle.now) c.args.feed.number
      c.loop-sent.invariant.0 c.in_ok-last.last Row c.in-Row.is c.in_ok-last.ensures.ok,
  c.in_ok-last.ensures.stays,
)
