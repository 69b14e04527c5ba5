-- The sequence so far is that of the first row of the ids so far.
use Rattle.std.proofs.Common.{◌≡◌, map, take, option_map, string_bytes}
use Rattle.hub_model.specs.Current.{Current}
use Rattle.hub_feed.specs.Reach.{first_listed}
use Rattle.hub_feed.proofs.feed.first_of.Given as goal

abbrev pub invariant-loop-id : goal.invariant-loop-id
invariant-loop-id g l =
    l.first ≡ option_map (λ (row : Current). row.seq)
    (first_listed l.place l.bound (map string_bytes (take l.id-index l.ids)) (g.S.Source.current l.source))
