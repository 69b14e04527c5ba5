use Rattle.std.proofs.Common.{◌∙◌, ◌∷◌, [], ap, option_map, string_bytes, List, ℕ}
use Rattle.hub_model.specs.Current.{Current}
use Rattle.hub_feed.specs.Reach.{first_listed}
use Rattle.hub_feed.proofs.ListedLemmas.{listed_none, listed_step}
use Rattle.hub_feed.proofs.feed.first_of.Goals as goal

pub loop-id-init : goal.loop-id-init
loop-id-init g c = listed_none c.args.place c.args.bound (g.S.Source.current c.args.source.now)

pub loop-id-preserved : goal.loop-id-preserved
loop-id-preserved g c =
    let rows = g.S.Source.current c.args.source.now in
    let here =
    c.next_of.ensures
    ∙ ap (λ (id : List ℕ).
    option_map (λ (row : Current). row.seq) (first_listed c.args.place c.args.bound (id ∷ []) rows))
    (c.as_str.ensures.value ∙ ap string_bytes c.id-item.is) in
    c.lesser-first.ensures
    ∙ listed_step c.args.place c.args.bound rows
    (g.met.S.Source.rise c.args.source.now) c.args.ids.now c.loop-id.id-index c.id-item.result
    c.loop-id-test.true c.loop-id.first c.next_of.result c.loop-id.invariant here
