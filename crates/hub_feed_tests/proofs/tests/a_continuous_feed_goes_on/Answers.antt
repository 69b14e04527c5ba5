-- A feed that expires is not beyond the edits.
use Rattle.std.proofs.Common.{sym, subst}
use Rattle.hub_model.specs.Feed.{Feed}
use Rattle.hub_feed_tests.specs.Edits.{IsWithin}
use Rattle.hub_feed_tests.proofs.EditsLemmas.{within_expire}
use Rattle.hub_feed_tests.proofs.tests.a_continuous_feed_goes_on.Goals as goal

pub walk-requires-3 : goal.walk-requires-3
walk-requires-3 g c =
    subst (λ (feed : Feed). IsWithin feed 5) (sym c.expire.ensures)
    (within_expire c.walk-2.new.feed 5 c.walk-2.ensures)
