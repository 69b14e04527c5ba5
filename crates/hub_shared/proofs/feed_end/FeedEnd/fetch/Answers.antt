-- The lane's next block is left as a whole, so no item was taken.
use Rattle.std.proofs.Common.{◌∙◌, sym, subst, length, ◌<◌, ◌≡◌, []}
use Rattle.std.specs.Prelude.{IfSome, IfNone}
use Rattle.hub_shared.proofs.Blocks.{end_fetches}
use Rattle.hub_shared.proofs.feed_end.FeedEnd.fetch.Goals as goal

pub returns-clause-same : goal.returns-clause-same
returns-clause-same g c =
    end_fetches c.self.inside.receiver c.take.new.self c.of.result c.self.inside.rest c.take.result
    c.if-not-is_empty.ensures.none c.take.ensures.taken c.take.ensures.same
    (subst (λ block. IfSome block (λ items. (c.of.result ≡ items) × (0 < length items))) (sym c.in-Some.is)
    c.of.ensures.some)
    (subst (λ block. IfNone block (c.of.result ≡ [])) (sym c.in-Some.is) c.of.ensures.none)
    ∙ c.self.view_is
