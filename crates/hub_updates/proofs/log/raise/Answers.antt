use Rattle.hub_updates.proofs.KeptLemmas.{pair_raised}
use Rattle.hub_updates.proofs.log.raise.Goals as goal

pub returns-clause-pairs : goal.returns-clause-pairs
returns-clause-pairs c =
    pair_raised c.args.pairs.now.items c.args.number c.args.seq c.index_mut-pair.result.now c.requires.there
    c.index_mut-pair.ensures.value
