-- The row of the sequence that is due is a current row.
use Rattle.std.proofs.Common.{◌≡◌, sym, ◌∙◌, ap, subst}
use Rattle.hub_model.specs.Feed.{Feed}
use Rattle.hub_feed.specs.declared.next.Next.TheVariants.{Give}
use Rattle.hub_feed.proofs.DueLemmas.{end_given, row_given, row_here}
use Rattle.hub_feed.proofs.feed.FeedState.next_item.Goals as goal

pub row-requires : goal.row-requires
row-requires g c =
    let rows = g.S.Source.current c.args.source.now in
    let (row, is, here, same, reached) =
    row_here rows c.args.self.now c.in-Row.seq
    (sym c.in-Row.is ∙ c.due.ensures rows c.first_of_open-first.ensures) in
    (row, here, same)

pub returns-in_ok-row-in-Row-clause-ok : goal.returns-in_ok-row-in-Row-clause-ok
returns-in_ok-row-in-Row-clause-ok g c =
    let f = c.args.self.now in
    let rows = g.S.Source.current c.args.source.now in
    let show = g.S.Source.shown c.args.source.now f.params.style f.params.include_docs in
    sym (row_given show rows f c.in-Row.seq c.in_ok-row-in-Row.row
    (sym c.in-Row.is ∙ c.due.ensures rows c.first_of_open-first.ensures)
    (λ row here same. subst (λ (feed : Feed). c.in_ok-row-in-Row.row
    ≡ g.S.Source.shown c.args.source.now feed.params.style feed.params.include_docs row) c.self.view_is
    (c.in_ok-row-in-Row.ensures row here same)))

pub returns-in-End-clause-ok : goal.returns-in-End-clause-ok
returns-in-End-clause-ok g c =
    let f = c.args.self.now in
    let rows = g.S.Source.current c.args.source.now in
    let show = g.S.Source.shown c.args.source.now f.params.style f.params.include_docs in
    ap Give c.end_at.ensures
    ∙ sym (end_given show rows f c.in-End.last_seq
    (sym c.in-End.is ∙ c.due.ensures rows c.first_of_open-first.ensures))
