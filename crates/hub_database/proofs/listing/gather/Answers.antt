use Rattle.std.proofs.Common.{◌∙◌, ap, string_bytes}
use Rattle.hub_database.specs.Listing.{seq_of_row}
use Rattle.hub_database.proofs.ListingLemmas.{gathered}
use Rattle.hub_database.proofs.listing.gather.Goals as goal

pub loop-id-preserved : goal.loop-id-preserved
loop-id-preserved c =
    let here = c.next_of.ensures
    ∙ ap (seq_of_row c.args.contents.now.journal) (c.as_str.ensures.value ∙ ap string_bytes c.id-item.is) in
    c.in_ok-push_some.ensures
    ∙ gathered c.args.contents.now.journal c.args.ids.now c.loop-id.id-index c.id-item.result
    c.loop-id-test.true
    c.loop-id.list.items c.next_of.result c.loop-id.invariant here
