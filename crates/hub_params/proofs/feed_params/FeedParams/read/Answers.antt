use Rattle.std.proofs.Common.{◌≡◌, ◌⊎◌, ◌&&◌, codes, false, Some, None, rules}
use Rattle.hub_model.specs.Feed.{is_waiting_mode}
use Rattle.hub_params.specs.FeedValues.{flag_in}
use Rattle.hub_params.specs.Query.{value_of, written_of}
use Rattle.hub_params.specs.Room.{IsEscaped}
use Rattle.hub_params.specs.declared.feed_fault.ParamFault.TheVariants.{NoMemory, BadFlag}
use Rattle.hub_params.proofs.feed_params.FeedParams.read.Goals as goal

pub returns-in_err-filter-clause-memory : goal.returns-in_err-filter-clause-memory
returns-in_err-filter-clause-memory c =
    let values = c.in_ok-read_written.ensures.values in
    search (rules, values)

pub returns-in_err-descending-clause-memory : goal.returns-in_err-descending-clause-memory
returns-in_err-descending-clause-memory c =
    let values = c.in_ok-read_written.ensures.values in
    search (rules, values)

pub returns-then-waits-clause-err : goal.returns-then-waits-clause-err
returns-then-waits-clause-err c =
    let values = c.in_ok-read_written.ensures.values in
    search (rules, values)

pub returns-in_err-include_docs-clause-memory : goal.returns-in_err-include_docs-clause-memory
returns-in_err-include_docs-clause-memory c =
    let values = c.in_ok-read_written.ensures.values in
    let escaped : c.in_err-include_docs.field-0.0 ≡ NoMemory
    → IsEscaped (written_of (codes "include_docs") c.args.query.now) = search (rules, values) in
    let upward : (c.in_ok-descending.descending && is_waiting_mode c.in_ok-mode.mode) ≡ false = search rules in
    search (rules, values, escaped, upward)

pub returns-in_err-include_docs-clause-err : goal.returns-in_err-include_docs-clause-err
returns-in_err-include_docs-clause-err c =
    let values = c.in_ok-read_written.ensures.values in
    let bad : (c.in_err-include_docs.field-0.0 ≡ NoMemory) ⊎ ((c.in_err-include_docs.field-0.0 ≡ BadFlag)
    × (flag_in (value_of (codes "include_docs") c.args.query.now) ≡ None)) =
    search (rules, values, c.in_err-include_docs.ensures.err) in
    let upward : (c.in_ok-descending.descending && is_waiting_mode c.in_ok-mode.mode) ≡ false = search rules in
    search (rules, values, bad, upward)

pub returns-clause-ok : goal.returns-clause-ok
returns-clause-ok c =
    let values = c.in_ok-read_written.ensures.values in
    let include_docs : flag_in (value_of (codes "include_docs") c.args.query.now)
    ≡ Some c.in_ok-include_docs.include_docs = search (rules, values) in
    let upward : (c.in_ok-descending.descending && is_waiting_mode c.in_ok-mode.mode) ≡ false = search rules in
    search (rules, values, include_docs, upward)
