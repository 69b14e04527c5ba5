use Rattle.std.proofs.Common.{arith, ◌≡◌, get_or, ap}
use Rattle.hub_model.proofs.Entries.{placed_at}
use Rattle.hub_model.proofs.places.place_near.Goals as goal

-- the entry at `near` has the number
pub returns-then-entries-near : goal.returns-then-entries-near
returns-then-entries-near g c =
    let e = c.index-entries-near.result in
    let here : (get_or c.args.entries.now c.args.near e).0 ≡ c.args.number =
    omega (arith, ap (λ p. p.0) c.index-entries-near.is, c.if-entries-near.true) in
    placed_at c.args.number c.args.entries.now c.args.near e c.requires.rising
    (omega (arith, c.if-near-entries.true)) here
