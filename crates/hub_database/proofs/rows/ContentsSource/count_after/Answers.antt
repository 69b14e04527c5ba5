use Rattle.std.proofs.Common.{sym, ◌∙◌}
use Rattle.hub_index.proofs.IndexedLemmas.{count_is}
use Rattle.hub_database.specs.Indexed.{latest_at}
use Rattle.hub_database.specs.Documents.{files}
use Rattle.hub_database.specs.Inside.{edits_inside}
use Rattle.hub_database.proofs.rows.ContentsSource.count_after.Goals as goal

pub returns : goal.returns
returns c =
    rw (sym c.self.view_is)
    (c.count_after.ensures.count
    ∙ count_is (latest_at (files c.self.inside.documents.items))
    (edits_inside c.self.inside) c.self.inside.index c.self.invariant.rows c.args.place)
