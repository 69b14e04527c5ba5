use Rattle.hub_http.proofs.ChunkLemmas.{head_set}
use Rattle.hub_http.proofs.chunk.set_head.Goals as goal

pub returns-clause-ok : goal.returns-clause-ok
returns-clause-ok c =
    head_set c.args.out.now.items c.args.start c.args.size _ _ c.requires.place c.requires.behind
    c.if-size-lt16.false c.if-size-ge256.false c.digit.ensures c.digit-2.ensures
