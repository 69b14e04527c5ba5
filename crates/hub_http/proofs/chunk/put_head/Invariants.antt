use Rattle.std.proofs.Common.{◌++◌, ◌∷◌, drop, false}
use Rattle.std.specs.Fmt.{digits}
use Rattle.hub_http.proofs.ChunkLemmas.{SizeLeft}
use Rattle.hub_http.proofs.chunk.put_head.Given as goal

abbrev pub invariant-loop-left : goal.invariant-loop-left
invariant-loop-left l =
    SizeLeft l.at l.left l.bytes (digits 16 false l.size ++ (13 ∷ 10 ∷ drop 18 l.fn.bytes))

abbrev pub decreases-loop-left : goal.decreases-loop-left
decreases-loop-left l = l.left
