-- The row that is made with its document is the row that is due.
use Rattle.std.proofs.Common.{◌≡◌, sym, subst, true}
use Rattle.hub_model.specs.Feed.{Feed, feed_after_due, after_nothing, next_due}
use Rattle.hub_model.specs.declared.feeds.Item.TheVariants as item
use Rattle.hub_feed.specs.Hand.{HandsTo, MayTake}
use Rattle.hub_feed.specs.declared.next.Next.TheVariants.{Give}
use Rattle.hub_feed.proofs.DueLemmas.{row_allowed, row_given, row_here}
use Rattle.hub_feed.proofs.feed.FeedState.hand_with_doc.Goals as goal

pub row_over-requires : goal.row_over-requires
row_over-requires g c =
    let (row, is, here, same, reached) =
    row_here (g.S.Source.current c.args.source.now) c.args.self.now c.args.seq c.requires.due in
    (row, here, same)

pub give-requires-clause-item : goal.give-requires-clause-item
give-requires-clause-item g c =
    let f = c.args.self.now in
    let show = λ (feed : Feed). g.S.Source.shown c.args.source.now feed.params.style in
    row_given (show f f.params.include_docs) (g.S.Source.current c.args.source.now) f c.args.seq c.in_ok-row.row
    c.requires.due
    (λ row here same. subst (λ docs. c.in_ok-row.row ≡ show f docs row) (sym c.requires.docs)
    (subst (λ feed. c.in_ok-row.row ≡ show feed true row) c.self.view_is (c.in_ok-row.ensures.row row here same)))

pub give-requires-clause-may : goal.give-requires-clause-may
give-requires-clause-may g c =
    let f = c.args.self.now in
    let show = λ (feed : Feed). g.S.Source.shown c.args.source.now feed.params.style in
    subst (λ k. MayTake g.K.Sink.allows g.K.Sink.sent k (item.Row c.in_ok-row.row)) (sym c.row_over.ensures.sink)
    (row_allowed (show f f.params.include_docs) (g.S.Source.current c.args.source.now) f c.args.seq c.in_ok-row.row
    c.requires.due
    (λ row here same. subst (λ docs. c.in_ok-row.row ≡ show f docs row) (sym c.requires.docs)
    (subst (λ feed. c.in_ok-row.row ≡ show feed true row) c.self.view_is (c.in_ok-row.ensures.row row here same)))
    (MayTake g.K.Sink.allows g.K.Sink.sent c.args.sink.now) c.requires.may)

pub returns-clause-ok : goal.returns-clause-ok
returns-clause-ok g c =
    let f = c.args.self.now in
    let rows = g.S.Source.current c.args.source.now in
    let len = g.S.Source.length c.args.source.now in
    let show = λ (feed : Feed). g.S.Source.shown c.args.source.now feed.params.style in
    let hands = HandsTo g.K.Sink.behind (g.H.Pushes.refuses c.args.handle.now) f
    (feed_after_due f (next_due rows f) len) (after_nothing f len) in
    subst (λ next. hands c.args.sink.now next c.give.result c.give.new.self c.give.new.sink)
    (sym (row_given (show f f.params.include_docs) rows f c.args.seq c.in_ok-row.row c.requires.due
    (λ row here same. subst (λ docs. c.in_ok-row.row ≡ show f docs row) (sym c.requires.docs)
    (subst (λ feed. c.in_ok-row.row ≡ show feed true row) c.self.view_is (c.in_ok-row.ensures.row row here same)))))
    (subst (λ k. hands k (Give (item.Row c.in_ok-row.row)) c.give.result c.give.new.self c.give.new.sink)
    c.row_over.ensures.sink c.give.ensures)
