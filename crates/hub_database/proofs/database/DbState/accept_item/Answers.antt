use Rattle.std.proofs.Common.{◌≡◌, ◌∙◌, length, arith, sym, subst, ap, rules, Some, None}
use Rattle.std.specs.Prelude.{option_and_then}
use Rattle.std.proofs.lemmas.Option.{none-some}
use Rattle.hub_model.specs.Current.{current}
use Rattle.hub_model.specs.Entries.{entry_in}
use Rattle.hub_model.specs.Row.{ChangeRow, row_of}
use Rattle.hub_model.proofs.Entries.{no_entry}
use Rattle.hub_feed.specs.Feeds.{AreBehind, FeedList}
use Rattle.hub_feed.specs.Host.{hosted_after_hand, item_of_feed, item_of_number}
use Rattle.hub_database.specs.Database.{Database}
use Rattle.hub_database.specs.Hosting.{hosted_of, with_hosted}
use Rattle.hub_database.specs.Listing.{IsListing}
use Rattle.hub_database.proofs.ListingLemmas.{handed_kept}
use Rattle.hub_database.proofs.database.DbState.accept_item.Goals as goal

pub returns-in_default : goal.returns-in_default
returns-in_default c =
    let id = c.args.feed.number in
    let db = c.args.self.now in
    let none : entry_in id db.feeds ≡ None =
    subst (λ (database : Database). entry_in id database.feeds ≡ None) c.self.view_is
    (no_entry id c.self.inside.feeds.feeds (sym c.in_default.ensures.1)) in
    let lost : None ≡ Some c.args.item.now =
    subst (λ o. option_and_then (item_of_feed (hosted_of db)) o ≡ Some c.args.item.now) none c.requires.due in
    absurd (none-some c.args.item.now lost)

pub accept_at-requires : goal.accept_at-requires
accept_at-requires c =
    let id = c.args.feed.number in
    let state = c.self.inside in
    let whole : FeedList → Database = λ z. record {
      journal = state.contents.journal;
      deleted = state.deleted;
      locals = state.contents.locals;
      feeds = z.feeds;
      next_feed = z.next;
      limits = state.contents.limits;
      life = state.contents.life;
    } in
    record {
      placed = search rules;
      due =
          subst (λ (db : Database). item_of_number (hosted_of db) id ≡ Some c.args.item.now)
          (sym (ap whole c.place.ensures.0 ∙ c.self.view_is)) c.requires.due;
    }

pub invariant_of-self-2 : goal.invariant_of-self-2
invariant_of-self-2 c =
    let old = c.place.new.self in
    let new = c.accept_at.new.self in
    let J = c.self.inside.contents.journal in
    let K : FeedList → Type 0 = λ list. IsListing J list.feeds list.next c.self.inside.listing in
    let behind : AreBehind (length J) old.feeds =
    subst (λ (list : FeedList). AreBehind (length J) list.feeds) (sym c.place.ensures.0) c.self.invariant.0 in (
      c.accept_at.ensures.behind (length J) (omega arith) behind,
      handed_kept {R = ChangeRow} J (length J) (current J)
          (row_of J) old new c.args.feed.number c.self.inside.listing
          c.accept_at.ensures.new (subst K (sym c.place.ensures.0) c.self.invariant.1),
    )

pub returns : goal.returns
returns c =
    let id = c.args.feed.number in
    let state = c.self.inside in
    let whole : FeedList → Database = λ z. record {
      journal = state.contents.journal;
      deleted = state.deleted;
      locals = state.contents.locals;
      feeds = z.feeds;
      next_feed = z.next;
      limits = state.contents.limits;
      life = state.contents.life;
    } in
    let new = c.accept_at.new.self in
    subst (λ (db : Database). whole new ≡ with_hosted db (hosted_after_hand (hosted_of db) id))
    (ap whole c.place.ensures.0 ∙ c.self.view_is) (ap whole c.accept_at.ensures.new)
