use Rattle.std.proofs.Common.{arith, rules}
use Rattle.hub_http.proofs.BoxLemmas.{drop_second}
use Rattle.hub_http.proofs.outbox.Outbox.sent.Goals as goal

pub returns-else-count-texts : goal.returns-else-count-texts
returns-else-count-texts c =
    let old = c.args.self.now in record {
      pending = drop_second old.texts old.moved _ _ c.args.count c.len-texts.result c.len-texts.ensures
          (omega (arith, c.if-count-texts.false))
          c.take-else-count-texts.ensures c.take-else-count-texts-2.ensures;
      faults = search rules;
    }
