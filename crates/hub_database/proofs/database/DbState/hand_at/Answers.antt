-- A hand of the feeds is a hand of the database. The rows that are kept stay so, and the feed keeps its place.
use Rattle.std.proofs.Common.{◌≡◌, ◌∙◌, sym, subst, ap, refl, Some, position}
use Rattle.std.specs.Prelude.{length}
use Rattle.hub_model.specs.Current.{current}
use Rattle.hub_model.specs.Entries.{is_of}
use Rattle.hub_model.specs.Feed.{after_nothing}
use Rattle.hub_model.specs.Row.{row_of}
use Rattle.hub_feed.specs.Feeds.{FeedList, feeds_of, over}
use Rattle.hub_feed.specs.Hand.{HandsTo}
use Rattle.hub_feed.specs.Hands.{HandsOne}
use Rattle.hub_feed.specs.Host.{next_of_number, hosted_after_next, hosted_after_hand, hosted_feed_after_due}
use Rattle.hub_feed.specs.declared.handed.Handed.{Handed}
use Rattle.hub_feed.specs.declared.next.Next.TheVariants.{Nothing}
use Rattle.hub_feed.proofs.FeedsLemmas.{both_ok, ok_or_err}
use Rattle.hub_feed.proofs.HandLemmas.{hands_keeps, hands_lifted}
use Rattle.hub_database.specs.Database.{Database}
use Rattle.hub_database.specs.Hosting.{hosted_of, with_hosted}
use Rattle.hub_database.specs.Listing.{IsListing}
use Rattle.hub_database.proofs.FeedLemmas.{same_place}
use Rattle.hub_database.proofs.ListingLemmas.{answer_kept, handed_kept}
use Rattle.hub_database.proofs.database.DbState.hand_at.Goals as goal

pub invariant_of-self : goal.invariant_of-self
invariant_of-self g c =
    let id = c.args.feed.number in
    let db = c.self.inside in
    let old = db.feeds in
    let new = c.hand_at.new.self in
    let J = db.contents.journal in
    let len = length J in
    let rows = current J in
    let shown = row_of J in
    let seen = over len rows shown old in
    let given = feeds_of (hosted_after_hand seen id) in
    let looked = feeds_of (hosted_after_next seen id Nothing) in
    let K : FeedList → Type 0 = λ z. IsListing J z.feeds z.next db.listing in
    let kept = c.self.invariant.1 in (
      c.hand_at.ensures.behind,
      ok_or_err {P = K new} c.hand_at.result
          (λ did hands. hands_keeps g.K.Sink.behind (g.H.Pushes.refuses c.args.handle.now) c.args.sink.now K old
          given looked new kept (handed_kept J len rows shown old given id db.listing refl kept)
          (answer_kept J len rows shown old looked id Nothing db.listing refl kept)
          (next_of_number seen id) did c.hand_at.new.sink hands)
          (λ w. subst K (sym w.0) kept)
          c.hand_at.ensures.ok c.hand_at.ensures.err,
    )

pub returns-clause-ok : goal.returns-clause-ok
returns-clause-ok g c =
    let id = c.args.feed.number in
    let db = c.self.inside in
    let whole : FeedList → Database = λ z. record {
      journal = db.contents.journal;
      deleted = db.deleted;
      locals = db.contents.locals;
      feeds = z.feeds;
      next_feed = z.next;
      limits = db.contents.limits;
      life = db.contents.life;
    } in
    let old = db.feeds in
    let new = c.hand_at.new.self in
    let behind = g.K.Sink.behind in
    let refuses = g.H.Pushes.refuses c.args.handle.now in
    let sink = c.args.sink.now in
    let taker = c.hand_at.new.sink in
    let J = db.contents.journal in
    let seen = over (length J) (current J) (row_of J) old in
    let given = feeds_of (hosted_after_hand seen id) in
    let looked = feeds_of (hosted_after_next seen id Nothing) in
    let Hands : Handed → Type 0 =
    λ did. HandsTo behind refuses old given looked sink (next_of_number seen id) did new taker in
    both_ok {P = Hands} {Q = Hands} c.hand_at.result
    (λ did hands _.
    subst (λ (database : Database). HandsOne hosted_of with_hosted behind refuses id database sink did (whole new)
    taker) (c.self.view_is ∙ c.first_at-first.ensures.same)
    (hands_lifted behind refuses sink old given looked new
    (whole old) (whole given) (whole looked) (whole new)
    (ap whole) (ap whole) (ap whole) (next_of_number seen id) did taker
    hands))
    c.hand_at.ensures.ok c.hand_at.ensures.ok

pub returns-clause-stays : goal.returns-clause-stays
returns-clause-stays g c =
    let id = c.args.feed.number in
    let old = c.self.inside.feeds in
    let new = c.hand_at.new.self in
    let J = c.self.inside.contents.journal in
    let len = length J in
    let seen = over len (current J) (row_of J) old in
    let P : FeedList → Type 0 = λ z. Some c.args.at ≡ position (is_of id) z.feeds in
    let placed : P old =
    subst (λ (database : Database). Some c.args.at ≡ position (is_of id) database.feeds)
    (sym (c.self.view_is ∙ c.first_at-first.ensures.same)) c.requires.placed in
    ok_or_err {P = P new} c.hand_at.result
    (λ did hands. hands_keeps g.K.Sink.behind (g.H.Pushes.refuses c.args.handle.now) c.args.sink.now P old
    (feeds_of (hosted_after_hand seen id)) (feeds_of (hosted_after_next seen id Nothing)) new placed
    (placed ∙ same_place id id (hosted_feed_after_due seen) old.feeds)
    (placed ∙ same_place id id (λ f. after_nothing f len) old.feeds)
    (next_of_number seen id) did c.hand_at.new.sink hands)
    (λ w. subst P (sym w.0) placed)
    c.hand_at.ensures.ok c.hand_at.ensures.err
