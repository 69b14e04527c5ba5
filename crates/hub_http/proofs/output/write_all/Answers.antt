use Rattle.std.proofs.Common.{arith}
use Rattle.std.proofs.lemmas.Grind.{common_steps}
use Rattle.hub_http.proofs.FrontLemmas.{front_kept, front_of, next_part}
use Rattle.hub_http.proofs.output.write_all.Goals as goal

pub loop-rest-preserved-then-n-gt0 : goal.loop-rest-preserved-then-n-gt0
loop-rest-preserved-then-n-gt0 g c = (
  next_part _ _ _ c.args.bytes.now c.loop-rest.rest.now c.in-Ok.n
      c.loop-rest.invariant.0 c.in-Ok.ensures.bytes,
  grind (arith, common_steps),
  grind (arith, common_steps),
  omega arith,
  omega arith,
  grind (arith, common_steps),
)

pub returns-in_default-clause-front : goal.returns-in_default-clause-front
returns-in_default-clause-front g c =
    front_of _ _ c.args.bytes.now _
    (next_part _ _ _ c.args.bytes.now c.loop-rest.rest.now c.in-Ok.n
    c.loop-rest.invariant.0 c.in-Ok.ensures.bytes)

pub returns-in_default-2-clause-front : goal.returns-in_default-2-clause-front
returns-in_default-2-clause-front g c =
    front_kept _ _ _ c.args.bytes.now c.loop-rest.rest.now c.loop-rest.invariant.0 c.in-Err.ensures.bytes

pub returns-in_default-3-clause-front : goal.returns-in_default-3-clause-front
returns-in_default-3-clause-front g c =
    front_kept _ _ _ c.args.bytes.now c.loop-rest.rest.now c.loop-rest.invariant.0 c.in-Err.ensures.bytes

pub returns-clause-front : goal.returns-clause-front
returns-clause-front g c = front_of _ _ c.args.bytes.now c.loop-rest.rest.now c.loop-rest.invariant.0
