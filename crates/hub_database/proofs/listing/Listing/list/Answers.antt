use Rattle.std.proofs.Common.{map, refl, string_bytes}
use Rattle.hub_database.proofs.ListingLemmas.{arranged}
use Rattle.hub_database.proofs.listing.Listing.list.Goals as goal

pub returns-clause-ok : goal.returns-clause-ok
returns-clause-ok c = (
  refl,
  arranged c.args.contents.now.journal
      (map string_bytes c.args.ids.now) c.gather.new.list.items c.arrange.new.list.items
      c.in_ok-gather.ensures c.arrange.ensures.rises c.arrange.ensures.keeps c.arrange.ensures.adds_none,
)
