-- An item that is given is due. The feed that has taken it is not beyond the edits.
use Rattle.std.proofs.Common.{length, sym, ◌∙◌, subst}
use Rattle.hub_model.specs.Current.{Current}
use Rattle.hub_model.specs.Feed.{Feed, next_due}
use Rattle.hub_feed_tests.specs.declared.tests.edits.Shown.{Shown}
use Rattle.hub_feed_tests.specs.Edits.{IsWithin, rows_of}
use Rattle.hub_feed_tests.specs.EditsLaws.{rows_within}
use Rattle.hub_feed_tests.proofs.EditsLemmas.{within_next, within_due, given_accepted}
use Rattle.hub_feed_tests.proofs.tests.take.Goals as goal

show : Feed → Current → Shown
show feed row = record { seq = row.seq; style = feed.params.style; include_docs = feed.params.include_docs }

pub accept_item-requires : goal.accept_item-requires
unfolding show
accept_item-requires c =
    let edits = c.args.edits.now.ids.now in
    let next = c.in_ok-next.ensures in
    record {
      due =
          given_accepted show (rows_of 1 edits) c.in-Give.item c.args.feed.now c.next_item.new.self
          (length edits) (sym c.in-Give.is ∙ next.ok) next.new;
    }

pub returns-in-Give : goal.returns-in-Give
returns-in-Give c =
    let edits = c.args.edits.now.ids.now in
    let rows = rows_of 1 edits in
    let next = c.in_ok-next.ensures in
    let looked =
    subst (λ (feed : Feed). IsWithin feed (length edits)) (sym next.new)
    (within_next c.args.feed.now (next_due rows c.args.feed.now) (length edits) c.requires) in
    subst (λ (feed : Feed). IsWithin feed (length edits)) (sym c.accept_item.ensures)
    (within_due rows c.next_item.new.self (length edits) (rows_within edits) looked)
