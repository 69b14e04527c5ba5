-- A row that is due lies above the place, and not above the bound or the length.
use Rattle.std.proofs.Common.{sym, ◌∙◌}
use Rattle.hub_feed.proofs.DueLemmas.{row_lies}
use Rattle.hub_feed.proofs.feed.FeedState.accept_due.Goals as goal

pub accept_row-requires : goal.accept_row-requires
accept_row-requires g c =
    let source = c.args.source.now in
    let lies =
    row_lies (g.S.Source.current source) (g.S.Source.length source) c.args.self.now c.in-Row.seq
    (g.met.S.Source.within source) (sym c.in-Row.is ∙ c.requires.due) in
    record { above = lies.0; within = rw c.length.ensures lies.1; bound = lies.2 }
