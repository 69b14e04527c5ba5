use Rattle.std.proofs.Common.{sym}
use Rattle.hub_revtree.proofs.SoughtLemmas.{text_of_digest}
use Rattle.hub_revtree.proofs.sought.Sought.has_digest.Goals as goal

pub returns-in-Digest : goal.returns-in-Digest
returns-in-Digest c =
    let form = rw c.in-Digest.is at c.self.invariant in
    rw (sym c.self.view_is)
    (text_of_digest c.self.inside.rev.now.hash c.in-Digest.own c.args.digest.now c.from_le_bytes.result
    c.from_le_bytes-in-Digest.result form.0 form.1 c.told-digest form.2 c.fits-digest c.from_le_bytes.ensures
    c.from_le_bytes-in-Digest.ensures)
