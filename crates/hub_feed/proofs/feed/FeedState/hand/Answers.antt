-- The step that is due by the first sequence is the step that is due.
use Rattle.std.proofs.Common.{◌≡◌, sym, ◌∙◌, subst}
use Rattle.hub_model.specs.Feed.{Feed, feed_after_due, after_nothing, next_due}
use Rattle.hub_feed.specs.Hand.{HandsTo, MayTake}
use Rattle.hub_feed.proofs.DueLemmas.{row_allowed, row_given, row_here}
use Rattle.hub_feed.proofs.feed.FeedState.hand.Goals as goal

pub row-requires : goal.row-requires
row-requires g c =
    let f = c.args.self.now in
    let rows = g.S.Source.current c.args.source.now in
    let (row, is, here, same, reached) =
    row_here rows f c.in-Row.seq (sym c.in-Row.is ∙ c.due-due.ensures rows c.requires.ready.first) in
    (row, here, same)

pub give-requires-clause-item : goal.give-requires-clause-item
give-requires-clause-item g c =
    let f = c.args.self.now in
    let rows = g.S.Source.current c.args.source.now in
    row_given (g.S.Source.shown c.args.source.now f.params.style f.params.include_docs) rows f c.in-Row.seq
    c.in_ok-row-in-Row.row (sym c.in-Row.is ∙ c.due-due.ensures rows c.requires.ready.first)
    (λ row here same. subst (λ (feed : Feed). c.in_ok-row-in-Row.row
    ≡ g.S.Source.shown c.args.source.now feed.params.style feed.params.include_docs row) c.self.view_is
    (c.in_ok-row-in-Row.ensures row here same))

pub give-requires-clause-may : goal.give-requires-clause-may
give-requires-clause-may g c =
    let f = c.args.self.now in
    let rows = g.S.Source.current c.args.source.now in
    row_allowed (g.S.Source.shown c.args.source.now f.params.style f.params.include_docs) rows f c.in-Row.seq
    c.in_ok-row-in-Row.row (sym c.in-Row.is ∙ c.due-due.ensures rows c.requires.ready.first)
    (λ row here same. subst (λ (feed : Feed). c.in_ok-row-in-Row.row
    ≡ g.S.Source.shown c.args.source.now feed.params.style feed.params.include_docs row) c.self.view_is
    (c.in_ok-row-in-Row.ensures row here same)) (MayTake g.K.Sink.allows g.K.Sink.sent c.args.sink.now) c.requires.may

pub returns-in_ok-row-in-Row-clause-ok : goal.returns-in_ok-row-in-Row-clause-ok
returns-in_ok-row-in-Row-clause-ok g c =
    let f = c.args.self.now in
    let rows = g.S.Source.current c.args.source.now in
    let len = g.S.Source.length c.args.source.now in
    subst (λ next. HandsTo g.K.Sink.behind (g.H.Pushes.refuses c.args.handle.now) f
    (feed_after_due f (next_due rows f) len) (after_nothing f len) c.args.sink.now next c.give.result c.give.new.self
    c.give.new.sink)
    (sym (row_given (g.S.Source.shown c.args.source.now f.params.style f.params.include_docs) rows f c.in-Row.seq
    c.in_ok-row-in-Row.row (sym c.in-Row.is ∙ c.due-due.ensures rows c.requires.ready.first)
    (λ row here same. subst (λ (feed : Feed). c.in_ok-row-in-Row.row
    ≡ g.S.Source.shown c.args.source.now feed.params.style feed.params.include_docs row) c.self.view_is
    (c.in_ok-row-in-Row.ensures row here same))))
    c.give.ensures
