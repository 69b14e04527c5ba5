use Rattle.std.proofs.Common.{◌≡◌, ◌-◌, ◌<◌, length, sym, subst, arith}
use Rattle.hub_model.specs.Path.{IsPath}
use Rattle.hub_revtree.proofs.RunLemmas.{is_absent, is_there, too_new, too_old}
use Rattle.hub_revtree.proofs.run.Run.position.Goals as goal

pub returns-then-own-newest-clause-absent : goal.returns-then-own-newest-clause-absent
returns-then-own-newest-clause-absent c =
    too_new c.args.self.now (subst IsPath c.self.view_is c.self.invariant) c.generation-newest.result
    c.generation-newest.ensures c.args.sought.now (omega
    (arith, c.if-own-newest.true, rw c.rev.ensures at c.generation-own.ensures.value))

pub returns-then-from-len-clause-absent : goal.returns-then-from-len-clause-absent
returns-then-from-len-clause-absent c =
    let down : c.from.result ≡ c.generation-newest.result - c.args.sought.now.generation =
    grind (arith, rw c.rev.ensures at c.generation-own.ensures.value) in
    too_old c.args.self.now (subst IsPath c.self.view_is c.self.invariant) c.generation-newest.result
    c.generation-newest.ensures c.args.sought.now c.from.result down
    (omega (arith, c.if-from-len.true, c.len.ensures))

pub returns-clause-found : goal.returns-clause-found
returns-clause-found c =
    let down : c.from.result ≡ c.generation-newest.result - c.args.sought.now.generation =
    grind (arith, rw c.rev.ensures at c.generation-own.ensures.value) in
    let low : c.from.result < length c.args.self.now = omega (arith, c.if-from-len.false, c.len.ensures) in
    rw (c.then_some-2.ensures, sym c.from.ensures)
    (is_there c.args.self.now (subst IsPath c.self.view_is c.self.invariant) c.generation-newest.result
    c.generation-newest.ensures c.args.sought.now c.from.result down c.is_at.result
    (rw (c.from-2.ensures, sym c.from.ensures) at c.is_at.ensures) low)

pub returns-clause-absent : goal.returns-clause-absent
returns-clause-absent c =
    let down : c.from.result ≡ c.generation-newest.result - c.args.sought.now.generation =
    grind (arith, rw c.rev.ensures at c.generation-own.ensures.value) in
    rw (c.then_some-2.ensures, sym c.from.ensures)
    (is_absent c.args.self.now (subst IsPath c.self.view_is c.self.invariant) c.generation-newest.result
    c.generation-newest.ensures c.args.sought.now c.from.result down c.is_at.result
    (rw (c.from-2.ensures, sym c.from.ensures) at c.is_at.ensures))
