-- The answer of the feeds is the database's, and the rows that are kept stay so.
use Rattle.std.proofs.Common.{◌≡◌, ◌∙◌, length, sym, subst, ap, refl, rules, None}
use Rattle.hub_model.specs.Current.{current}
use Rattle.hub_model.specs.Entries.{entry_in}
use Rattle.hub_model.specs.Row.{ChangeRow, row_of}
use Rattle.hub_model.proofs.Entries.{no_entry}
use Rattle.hub_feed.specs.Feeds.{FeedList}
use Rattle.hub_feed.specs.Host.{next_if_any, next_of_number, hosted_after_next, due_of_number}
use Rattle.hub_feed.specs.Next.{IsRowDue}
use Rattle.hub_feed.specs.declared.next.Next.{Next}
use Rattle.hub_feed.specs.declared.next.Next.TheVariants.{Gone}
use Rattle.hub_feed.proofs.FeedsLemmas.{both_ok, err_then, ok_or_err}
use Rattle.hub_database.specs.Database.{Database}
use Rattle.hub_database.specs.Hosting.{hosted_of, with_hosted}
use Rattle.hub_database.specs.Listing.{IsListing}
use Rattle.hub_database.proofs.ListingLemmas.{answer_kept}
use Rattle.hub_database.proofs.database.DbState.next_item.Goals as goal

pub returns-in_default-clause-ok : goal.returns-in_default-clause-ok
returns-in_default-clause-ok c =
    let id = c.args.feed.number in
    let state = c.self.inside in
    let whole : FeedList → Database = λ z. record {
      journal = state.contents.journal;
      deleted = state.deleted;
      locals = state.contents.locals;
      feeds = z.feeds;
      next_feed = z.next;
      limits = state.contents.limits;
      life = state.contents.life;
    } in
    let db = c.args.self.now in
    let none : entry_in id db.feeds ≡ None =
    subst (λ (database : Database). entry_in id database.feeds ≡ None) c.self.view_is
    (no_entry id state.feeds.feeds (sym c.in_default.ensures.1)) in
    let gone : Next ChangeRow = Gone in (
      subst (λ o. gone ≡ next_if_any (hosted_of db) o) (sym none) refl,
      ap whole c.place.ensures.0 ∙ c.self.view_is,
    )

pub next_at-requires : goal.next_at-requires
next_at-requires c = record { behind = search rules; placed = search rules }

pub invariant_of-self-2 : goal.invariant_of-self-2
invariant_of-self-2 c =
    let db = c.self.inside in
    let old = c.place.new.self in
    let new = c.next_at.new.self in
    let J = db.contents.journal in
    let K : FeedList → Type 0 = λ list. IsListing J list.feeds list.next db.listing in
    let kept : K old = subst K (sym c.place.ensures.0) c.self.invariant.1 in (
      c.next_at.ensures.behind,
      ok_or_err {P = K new} c.next_at.result
          (λ answer is. answer_kept {R = ChangeRow} J (length J) (current J) (row_of J) old new
          c.args.feed.number answer db.listing is.1 kept)
          (λ w. subst K (sym w.0) kept)
          c.next_at.ensures.ok c.next_at.ensures.err,
    )

pub returns-clause-ok : goal.returns-clause-ok
returns-clause-ok c =
    let id = c.args.feed.number in
    let state = c.self.inside in
    let whole : FeedList → Database = λ z. record {
      journal = state.contents.journal;
      deleted = state.deleted;
      locals = state.contents.locals;
      feeds = z.feeds;
      next_feed = z.next;
      limits = state.contents.limits;
      life = state.contents.life;
    } in
    let new = c.next_at.new.self in
    both_ok c.next_at.result
    (λ next is _. subst (λ (db : Database). (next ≡ next_of_number (hosted_of db) id)
    × (whole new ≡ with_hosted db (hosted_after_next (hosted_of db) id next)))
    (ap whole c.place.ensures.0 ∙ c.self.view_is) (is.0, ap whole is.1))
    c.next_at.ensures.ok c.next_at.ensures.ok

pub returns-clause-err : goal.returns-clause-err
returns-clause-err c =
    let id = c.args.feed.number in
    let state = c.self.inside in
    let whole : FeedList → Database = λ z. record {
      journal = state.contents.journal;
      deleted = state.deleted;
      locals = state.contents.locals;
      feeds = z.feeds;
      next_feed = z.next;
      limits = state.contents.limits;
      life = state.contents.life;
    } in
    let same = ap whole c.place.ensures.0 ∙ c.self.view_is in
    err_then c.next_at.result
    (λ w. (
      ap whole w.0 ∙ same,
      subst (λ (db : Database). IsRowDue (due_of_number (hosted_of db) id)) same w.1,
    )) c.next_at.ensures.err
