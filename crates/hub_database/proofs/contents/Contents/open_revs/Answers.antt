use Rattle.std.proofs.Common.{◌≡◌, sym, ◌∙◌, subst}
use Rattle.std.specs.Prelude.{IfOk}
use Rattle.hub_database.proofs.ShortLemmas.{edits_open, leaves_open, listed_open}
use Rattle.hub_database.proofs.ShownLemmas.{all_found, listed_found}
use Rattle.hub_database.proofs.StoreLemmas.{err_then}
use Rattle.hub_revtree.proofs.BranchLemmas.{on_err}
use Rattle.hub_database.proofs.contents.Contents.open_revs.Goals as goal

pub returns-in_err-leaves-in-Some-All-clause-memory :
    goal.returns-in_err-leaves-in-Some-All-clause-memory
returns-in_err-leaves-in-Some-All-clause-memory c =
    rw (c.in-Some-All.is-1)
    (on_err c.from_residual.result _
    (edits_open c.args.self.now.journal c.args.id.now
    c.in-Some-All.document.now c.in-Some-All.ensures.found c.args.revs c.document.ensures.legal
    c.in_err-leaves-in-Some-All.ensures.memory))

pub returns-in_ok-leaves-in-Some-All-clause-ok : goal.returns-in_ok-leaves-in-Some-All-clause-ok
returns-in_ok-leaves-in-Some-All-clause-ok c =
    rw (c.in-Some-All.is-1)
    (subst (λ os. IfOk c.open_each.result (λ found. found.items ≡ os))
    (all_found c.args.self.now.journal
    c.args.id.now c.in-Some-All.document.now c.in-Some-All.ensures.found c.args.revs c.as_slice.result.now
    (c.as_slice.ensures ∙ c.in_ok-leaves-in-Some-All.ensures.ok)) c.open_each.ensures.ok)

pub returns-in_ok-leaves-in-Some-All-clause-memory :
    goal.returns-in_ok-leaves-in-Some-All-clause-memory
returns-in_ok-leaves-in-Some-All-clause-memory c =
    rw (c.in-Some-All.is-1)
    (err_then c.open_each.result
    (leaves_open c.args.self.now.journal c.args.id.now
    c.in-Some-All.document.now c.in-Some-All.ensures.found c.args.revs c.as_slice.result.now
    (c.as_slice.ensures ∙ c.in_ok-leaves-in-Some-All.ensures.ok))
    c.open_each.ensures.memory)

pub returns-in-Some-Listed-clause-ok : goal.returns-in-Some-Listed-clause-ok
returns-in-Some-Listed-clause-ok c =
    rw (c.in-Some-Listed.is-1, sym c.as_slice-in-Some-Listed.ensures)
    (subst (λ os. IfOk c.open_each-in-Some-Listed.result (λ found. found.items ≡ os))
    (listed_found c.args.self.now.journal c.args.id.now c.in-Some-Listed.document.now
    c.in-Some-Listed.ensures.found c.args.revs c.as_slice-in-Some-Listed.result.now)
    c.open_each-in-Some-Listed.ensures.ok)

pub returns-in-Some-Listed-clause-memory : goal.returns-in-Some-Listed-clause-memory
returns-in-Some-Listed-clause-memory c =
    rw (c.in-Some-Listed.is-1, sym c.as_slice-in-Some-Listed.ensures)
    (err_then c.open_each-in-Some-Listed.result
    (listed_open c.args.self.now.journal c.args.id.now c.args.revs
    c.as_slice-in-Some-Listed.result.now)
    c.open_each-in-Some-Listed.ensures.memory)
