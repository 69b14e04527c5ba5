use Rattle.std.proofs.Common.{◌<◌, ◌^◌, ◌∙◌, ap, sym, arith, rules}
use Rattle.hub_revtree.specs.Run.{kept_in}
use Rattle.hub_revtree.proofs.RunLemmas.{digest_length, shared_length}
use Rattle.hub_revtree.proofs.run.Run.len.Goals as goal

pub returns-in-Digests : goal.returns-in-Digests
returns-in-Digests c =
    let is = sym (ap kept_in c.in-Digests.is) ∙ c.self.view_is in
    c.len.ensures
    ∙ c.in-Digests.digests.ok.0
    ∙ sym (digest_length c.args.self.now c.in-Digests.field-0 c.in-Digests.digests.items is)

pub returns-in-Shared : goal.returns-in-Shared
returns-in-Shared c =
    let is = sym (ap kept_in c.in-Shared.is) ∙ c.self.view_is in
    let below : c.in-Shared.most < 2 ^ 16 = search rules in
    omega (
      arith,
      c.min.ensures,
      c.from.ensures,
      c.saturating_add.ensures,
      c.len-in-Shared.ensures,
      below,
      shared_length c.args.self.now c.in-Shared.field-0 c.in-Shared.most
          c.in-Shared.field-2 c.in-Shared.line is,
    )
