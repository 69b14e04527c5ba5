-- A hand of the feeds is a hand of the log.
use Rattle.std.proofs.Common.{◌≡◌, ◌∙◌, sym, subst, ap, refl, rules, None}
use Rattle.std.specs.Prelude.{length}
use Rattle.hub_model.specs.Entries.{entry_in}
use Rattle.hub_model.specs.Current.{current}
use Rattle.hub_model.specs.Updates.{edits_of_log, update_row_of}
use Rattle.hub_model.proofs.Entries.{no_entry}
use Rattle.hub_feed.specs.Feeds.{FeedList, feeds_of, over}
use Rattle.hub_feed.specs.Hand.{HandsTo}
use Rattle.hub_feed.specs.Host.{next_if_any, next_of_number, hosted_after_next, hosted_after_hand}
use Rattle.hub_feed.specs.Reach.{IsFirst}
use Rattle.hub_feed.specs.declared.handed.Handed.TheVariants.{Gone}
use Rattle.hub_feed.specs.declared.next.Next.TheVariants.{Nothing}
use Rattle.hub_feed.proofs.FeedsLemmas.{both_ok}
use Rattle.hub_feed.proofs.HandLemmas.{hands_lifted}
use Rattle.hub_updates.specs.Log.{Updates, hosted_of, with_hosted}
use Rattle.hub_updates.proofs.host.UpdatesStateFeedHost.hand.Goals as goal

pub hand_at-requires-clause-ready : goal.hand_at-requires-clause-ready
hand_at-requires-clause-ready g c =
    let rows = current (edits_of_log c.self.inside.log.notes) in
    record {
      behind = search rules;
      placed = search rules;
      first =
          subst (IsFirst c.first_of_open-first.result rows) (sym c.state_at.ensures.found)
          c.first_of_open-first.ensures;
    }

pub returns-in_default-clause-ok : goal.returns-in_default-clause-ok
returns-in_default-clause-ok g c =
    let id = c.args.feed.number in
    let state = c.self.inside in
    let log = c.args.self.now in
    let sink = c.args.sink.now in
    let whole : FeedList → Updates = λ z. record {
      notes = state.log.notes;
      feeds = z.feeds;
      next_feed = z.next;
      limits = state.limits;
      life = state.log.life;
    } in
    let none : entry_in id log.feeds ≡ None =
    subst (λ (updates : Updates). entry_in id updates.feeds ≡ None) c.self.view_is
    (no_entry id state.feeds.feeds (sym c.in_default.ensures.1)) in
    subst (λ o. HandsTo g.K.Sink.behind (g.H.Pushes.refuses c.args.handle.now) log
    (with_hosted log (hosted_after_hand (hosted_of log) id))
    (with_hosted log (hosted_after_next (hosted_of log) id Nothing)) sink
    (next_if_any (hosted_of log) o) Gone (whole c.place.new.self) sink) (sym none)
    (refl, ap whole c.place.ensures.0 ∙ c.self.view_is, refl)

pub returns-clause-ok : goal.returns-clause-ok
returns-clause-ok g c =
    let id = c.args.feed.number in
    let state = c.self.inside in
    let whole : FeedList → Updates = λ z. record {
      notes = state.log.notes;
      feeds = z.feeds;
      next_feed = z.next;
      limits = state.limits;
      life = state.log.life;
    } in
    let same = ap whole c.place.ensures.0 ∙ c.self.view_is in
    let old = c.place.new.self in
    let new = c.hand_at.new.self in
    let behind = g.K.Sink.behind in
    let refuses = g.H.Pushes.refuses c.args.handle.now in
    let sink = c.args.sink.now in
    let edits = edits_of_log state.log.notes in
    let seen = over (length state.log.notes) (current edits) (update_row_of edits) old in
    let given = feeds_of (hosted_after_hand seen id) in
    let looked = feeds_of (hosted_after_next seen id Nothing) in
    both_ok c.hand_at.result
    (λ did hands _.
    subst (λ (log : Updates). HandsTo behind refuses log
    (with_hosted log (hosted_after_hand (hosted_of log) id))
    (with_hosted log (hosted_after_next (hosted_of log) id Nothing)) sink
    (next_of_number (hosted_of log) id) did (whole new) c.hand_at.new.sink) same
    (hands_lifted behind refuses sink old given looked new
    (whole old) (whole given) (whole looked) (whole new)
    (ap whole) (ap whole) (ap whole) (next_of_number seen id) did c.hand_at.new.sink hands))
    c.hand_at.ensures.ok c.hand_at.ensures.ok
