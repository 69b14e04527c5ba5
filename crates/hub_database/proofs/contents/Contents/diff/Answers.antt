use Rattle.std.proofs.Common.{sym, ◌∙◌}
use Rattle.hub_database.proofs.MissingLemmas.{none_of, some_of, some_wanted}
use Rattle.hub_database.proofs.MissingLemmas.{whole_found, diff_found, unknown_diff}
use Rattle.hub_revtree.proofs.BranchLemmas.{on_err}
use Rattle.hub_database.proofs.contents.Contents.diff.Goals as goal

pub returns-in_default-clause-ok : goal.returns-in_default-clause-ok
returns-in_default-clause-ok c =
    let some = some_of c.as_slice.result.now c.if-is_empty.ensures in
    rw (sym c.asked.view_is, sym c.as_str.ensures.value, sym c.as_slice.ensures)
    (unknown_diff c.args.self.now.journal c.as_str.result.now c.in_default.ensures.none
    c.as_slice.result.now c.new-in_default.result (c.new-in_default.ensures ∙ c.new.ensures.items) some)

pub returns-then-is_empty-2-clause-ok : goal.returns-then-is_empty-2-clause-ok
returns-then-is_empty-2-clause-ok c =
    let none = none_of c.as_slice-3.result.now c.if-is_empty-2.ensures in
    rw (sym c.asked.view_is, sym c.as_str.ensures.value, sym c.as_slice-2.ensures)
    (whole_found c.args.self.now.journal c.as_str.result.now c.in-Some.document.now
    c.in-Some.ensures.found c.as_slice-2.result.now c.in_ok-missing.missing c.in_ok-missing.ensures.ok
    (sym c.as_slice-3.ensures ∙ none))

pub returns-clause-ok : goal.returns-clause-ok
returns-clause-ok c =
    let some = some_of c.in_ok-missing.missing (rw c.as_slice-3.ensures at c.if-is_empty-2.ensures) in
    let ancestors =
    rw (c.as_slice-4.ensures, sym c.as_slice-2.ensures) at c.in_ok-possible_ancestors.ensures.ok in
    rw (sym c.asked.view_is, sym c.as_str.ensures.value, sym c.as_slice-2.ensures)
    (diff_found c.args.self.now.journal c.as_str.result.now
    c.in-Some.document.now c.in-Some.ensures.found c.as_slice-2.result.now c.in_ok-missing.missing
    c.in_ok-possible_ancestors.possible_ancestors c.in_ok-missing.ensures.ok ancestors some)

pub returns-in_err-missing-clause-memory : goal.returns-in_err-missing-clause-memory
returns-in_err-missing-clause-memory c =
    rw (sym c.asked.view_is, sym c.as_str.ensures.value, sym c.as_slice-2.ensures)
    (on_err c.from_residual.result _
    (some_wanted c.args.self.now.journal c.as_str.result.now c.in-Some.document.now
    c.in-Some.ensures.found c.as_slice-2.result.now c.in_err-missing.ensures.memory))

pub returns-in_err-possible_ancestors-clause-memory :
    goal.returns-in_err-possible_ancestors-clause-memory
returns-in_err-possible_ancestors-clause-memory c =
    let some = some_of c.in_ok-missing.missing (rw c.as_slice-3.ensures at c.if-is_empty-2.ensures) in
    rw (sym c.asked.view_is, sym c.as_str.ensures.value, sym c.as_slice-2.ensures)
    (on_err c.from_residual-in_err-possible_ancestors.result _
    (some_wanted c.args.self.now.journal c.as_str.result.now c.in-Some.document.now
    c.in-Some.ensures.found c.as_slice-2.result.now (λ none. some (c.in_ok-missing.ensures.ok ∙ none))))
