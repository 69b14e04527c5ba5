use Rattle.std.proofs.Common.{◌∙◌, ap, sym}
use Rattle.hub_model.specs.Feed.{since_of}
use Rattle.hub_params.specs.FeedModel.{params_of}
use Rattle.hub_database.specs.Database.{Contents}
use Rattle.hub_database.specs.Falling.{lowest_row}
use Rattle.hub_database.proofs.FallingLemmas.{answer_is, answer_some, last_high}
use Rattle.hub_revtree.proofs.BranchLemmas.{on_err}
use Rattle.hub_database.proofs.contents.Contents.changes_descending.Goals as goal

pub count_between-pending-requires : goal.count_between-pending-requires
count_between-pending-requires c =
    last_high c.args.self.now.journal (params_of c.args.params.now) c.within-since.result
    c.in_ok-rows.rows.items c.lowest_row-last_seq.result c.in_ok-rows.ensures.ok
    (c.lowest_row-last_seq.ensures ∙ ap (lowest_row c.within-since.result) c.as_slice.ensures.value)

pub returns-clause-ok : goal.returns-clause-ok
returns-clause-ok c =
    rw (sym (ap (λ (contents : Contents). contents.life) c.self.view_is))
    (answer_is c.args.self.now.journal (params_of c.args.params.now) c.within-since.result
    c.in_ok-rows.rows.items c.lowest_row-last_seq.result c.in_ok-rows.ensures.ok
    (c.lowest_row-last_seq.ensures ∙ ap (lowest_row c.within-since.result) c.as_slice.ensures.value)
    c.self.inside.life c.count_between-pending.result c.count_between-pending.ensures
    (c.within-since.ensures
    ∙ ap (λ n. since_of c.args.params.now.since n c.self.inside.life) c.length.ensures))

pub returns-in_err-rows-clause-memory : goal.returns-in_err-rows-clause-memory
returns-in_err-rows-clause-memory c =
    rw (sym (ap (λ (contents : Contents). contents.life) c.self.view_is))
    (on_err c.from_residual.result _
    (answer_some c.args.self.now.journal (params_of c.args.params.now) c.within-since.result
    c.self.inside.life
    (c.within-since.ensures
    ∙ ap (λ n. since_of c.args.params.now.since n c.self.inside.life) c.length.ensures)
    c.in_err-rows.ensures.memory))
