use Rattle.hub_model.specs.Current.{current}
use Rattle.hub_database.proofs.FallingLemmas.{between}
use Rattle.hub_database.proofs.contents.Contents.count_between.Goals as goal

pub returns : goal.returns
returns c =
    rw (
      c.saturating_sub-2.ensures,
      c.count_after.ensures,
      c.count_after-above.ensures,
      c.saturating_sub.ensures,
    )
    (between c.args.since c.args.last_seq (current c.args.self.now.journal) c.requires)
