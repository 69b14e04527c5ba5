use Rattle.std.proofs.Common.{◌<◌, ◌^◌, sym, rules}
use Rattle.hub_document.proofs.RevisionLemmas.{laid_out}
use Rattle.hub_document.proofs.revision.RevId.from_parts.Goals as goal

pub invariant_of-result : goal.invariant_of-result
invariant_of-result c =
    let below : c.args.generation < 2 ^ 16 = search rules in
    rw c.padded.ensures
    (laid_out c.args.generation c.args.hash.now c.requires below (sym c.if-not-is_hash.ensures))
