use Rattle.std.proofs.Common.{◌≡◌, ◌∙◌, ap₂, sym, subst, []}
use Rattle.hub_model.specs.Feed.{since_of}
use Rattle.hub_params.specs.FeedModel.{params_in}
use Rattle.hub_params.specs.FeedShown.{params_asked}
use Rattle.hub_shared.specs.Label.{Label, label_of}
use Rattle.hub_shared.proofs.Sending.{nothing_allowed}
use Rattle.hub_shared.proofs.locked.Locked.open_outbox.Goals as goal

pub open-requires-clause-allowed : goal.open-requires-clause-allowed
open-requires-clause-allowed g c =
    let v = g.S.HostView in
    let h = g.S.FeedHost in
    let laws = g.met.S.FeedHost in
    let s = c.self.inside.state in
    let label : c.new-label.result ≡ label_of (params_asked c.args.params.now) (v.hosted s) =
    c.new-label.ensures
    ∙ (λ k. record {
      asked = c.in_ok-copy.ensures.ok k;
      since =
          (c.within-since.ensures
          ∙ ap₂ (since_of c.args.params.now.since) c.length.ensures.length c.life-life.ensures) k;
      life = c.life-life.ensures k;
    }) in
    subst (λ (l : Label). v.right (params_in l.asked) l.since []) (sym label)
    (nothing_allowed g.K.Outbox.label g.K.Outbox.items v.hosted h.with_hosted v.fits v.right laws.hosts
    laws.rightly laws.stays
    s c.args.params.now c.length.ensures.begins)
