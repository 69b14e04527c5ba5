-- The first row that is found among kept rows is the first in reach.
use Rattle.std.proofs.Common.{◌<◌, AllPairs, map, string_bytes, refl, subst, sym}
use Rattle.hub_model.specs.Current.{current}
use Rattle.hub_model.specs.Entries.{entry_in}
use Rattle.hub_model.specs.Filter.{DocIds}
use Rattle.hub_feed.specs.Reach.{IsFirst}
use Rattle.hub_database.specs.Database.{Database}
use Rattle.hub_database.proofs.ListingLemmas.{first_is, passing_rises}
use Rattle.hub_database.proofs.database.DbState.first_at.Goals as goal

pub first_between-requires : goal.first_between-requires
first_between-requires c =
    subst (AllPairs (λ m n. m < n)) (sym (c.if-holds.ensures.held refl))
    (passing_rises (DocIds (map string_bytes c.in-Some.ids.now)) c.self.inside.contents.journal)

pub returns-then-holds-clause-first : goal.returns-then-holds-clause-first
returns-then-holds-clause-first c =
    let id = c.args.feed.number in
    let first = c.first_between.result in
    let J = c.self.inside.contents.journal in
    let is =
    first_is c.state_at-state.result.now J
    (map string_bytes c.in-Some.ids.now) c.place-then-holds.result c.bound.result c.holds.new.self.rows.items
    first
    c.in-Some.ensures c.place-then-holds.ensures c.bound.ensures
    (c.if-holds.ensures.held refl) c.first_between.ensures.first in
    let there = subst (IsFirst first (current J)) (sym c.state_at-state.ensures.found) is in
    subst (λ (db : Database). IsFirst first (current db.journal) (entry_in id db.feeds)) c.self.view_is there
