use Rattle.std.proofs.Common.{◌<◌, ◌^◌, arith, false, true, rules, sym, refl}
use Rattle.std.proofs.lemmas.Result.{err_from_is_err_and}
use Rattle.hub_revtree.proofs.BranchLemmas.{within_generation}
use Rattle.hub_revtree.proofs.TreeLemmas.{rev_tree, head_known, head_new, acceptable, contradicts}
use Rattle.hub_revtree.proofs.tree.RevTree.look_merge.Goals as goal

pub returns-then-is_named-clause-tree : goal.returns-then-is_named-clause-tree
returns-then-is_named-clause-tree c = rw (sym c.self.view_is) (rev_tree _ c.self.invariant.legal)

pub returns-then-is_named-clause-known : goal.returns-then-is_named-clause-known
returns-then-is_named-clause-known c =
    rw (sym c.self.view_is) (
      λ _. head_known c.self.inside.branches.list c.args.path c.head-head.result c.head-head.ensures.value
          c.is_named.result c.is_named.ensures c.if-is_named.true,
      λ _. refl,
    )

pub returns-in_default-clause-tree : goal.returns-in_default-clause-tree
returns-in_default-clause-tree c = rw (sym c.self.view_is) (rev_tree _ c.self.invariant.legal)

pub returns-in_default-clause-err : goal.returns-in_default-clause-err
returns-in_default-clause-err c =
    rw (sym c.self.view_is) (
      head_new c.self.inside.branches.list c.args.path c.head-head.result c.head-head.ensures.value
          c.is_named.result c.is_named.ensures c.if-is_named.false,
      contradicts c.self.inside.branches.list c.args.path c.head-head.result c.head-head.ensures.value
          c.is_named.result c.is_named.ensures false c.in_default.ensures.agrees
          c.args.deleted c.args.body refl,
    )

pub returns-in_err-run-clause-tree : goal.returns-in_err-run-clause-tree
returns-in_err-run-clause-tree c =
    rw (sym c.self.view_is) (rev_tree _ c.self.invariant.legal)

pub returns-in_err-run-clause-err : goal.returns-in_err-run-clause-err
returns-in_err-run-clause-err c =
    let p = err_from_is_err_and c.from_residual.result c.from_residual.ensures.1 in
    rw (p.1, p.2, sym c.self.view_is)
    (acceptable c.self.inside.branches.list c.args.path c.head-head.result
    c.head-head.ensures.value c.is_named.result c.is_named.ensures true c.in-Some.ensures.agrees
    c.args.deleted c.args.body c.self.invariant.legal c.head-head.ensures.good c.if-is_named.false refl)

pub returns-in_err-ready-clause-tree : goal.returns-in_err-ready-clause-tree
returns-in_err-ready-clause-tree c =
    rw (c.ready_with.ensures.edits, sym c.self.view_is) (rev_tree _ c.self.invariant.legal)

pub returns-in_err-ready-clause-err : goal.returns-in_err-ready-clause-err
returns-in_err-ready-clause-err c =
    let p = err_from_is_err_and c.from_residual-in_err-ready.result c.from_residual-in_err-ready.ensures.1 in
    rw (p.1, p.2, sym c.self.view_is)
    (acceptable c.self.inside.branches.list c.args.path c.head-head.result
    c.head-head.ensures.value c.is_named.result c.is_named.ensures true c.in-Some.ensures.agrees
    c.args.deleted c.args.body c.self.invariant.legal c.head-head.ensures.good c.if-is_named.false refl)

pub ready_with-requires-clause-short : goal.ready_with-requires-clause-short
ready_with-requires-clause-short c =
    let below : c.head-head.result.generation < 2 ^ 16 = search rules in
    rw (c.whole.ensures, c.into_revisions.ensures)
    (omega (
      arith,
      below,
      within_generation c.args.path c.head-head.result c.head-head.ensures.good
          c.head-head.ensures.value,
    ))

pub returns-clause-tree : goal.returns-clause-tree
returns-clause-tree c =
    rw (c.ready_with.ensures.edits, sym c.self.view_is) (rev_tree _ c.self.invariant.legal)

pub returns-clause-known : goal.returns-clause-known
returns-clause-known c =
    rw (sym c.self.view_is) (
      λ e. absurd (cc),
      λ k. absurd (head_new c.self.inside.branches.list c.args.path c.head-head.result
          c.head-head.ensures.value c.is_named.result c.is_named.ensures c.if-is_named.false k),
    )

pub returns-clause-acceptable : goal.returns-clause-acceptable
returns-clause-acceptable c =
    rw (c.in_ok-ready.ensures.ready, c.whole.ensures, c.into_revisions.ensures, sym c.self.view_is)
    (acceptable c.self.inside.branches.list c.args.path c.head-head.result c.head-head.ensures.value
    c.is_named.result c.is_named.ensures true c.in-Some.ensures.agrees c.args.deleted c.args.body
    c.self.invariant.legal c.head-head.ensures.good c.if-is_named.false refl)
