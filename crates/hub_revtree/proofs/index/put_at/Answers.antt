use Rattle.std.proofs.Common.{◌∙◌, sym}
use Rattle.std.specs.Ordering.{eq_by_cmp}
use Rattle.hub_model.specs.Revision.{revision_cmp}
use Rattle.hub_revtree.specs.Index.{number_in}
use Rattle.hub_revtree.proofs.FirstLemmas.{exact_revisions, put_one}
use Rattle.hub_revtree.proofs.IndexLemmas.{none_there, put_known}
use Rattle.hub_revtree.proofs.index.put_at.Goals as goal

pub returns-then-contains_key : goal.returns-then-contains_key
returns-then-contains_key c =
    put_known (eq_by_cmp revision_cmp) exact_revisions
    (number_in c.args.map.now) c.args.rev.now c.args.number
    (sym c.contains_key.ensures ∙ c.if-contains_key.true)

pub returns : goal.returns
returns c =
    let none =
    none_there _ (sym c.contains_key.ensures ∙ c.if-contains_key.false) in
    put_one (eq_by_cmp revision_cmp) (number_in c.args.map.now)
    (number_in c.insert.new.self) c.args.rev.now c.args.number none
    c.in_ok-insert.ensures.updates.0
