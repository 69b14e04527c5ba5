use Rattle.hub_document.proofs.DigestLemmas.{not_read, other_read}
use Rattle.hub_document.proofs.revision.RevId.digest.Goals as goal

pub returns-in_err-digest-clause-none : goal.returns-in_err-digest-clause-none
returns-in_err-digest-clause-none c =
    rw c.from_residual.ensures (λ digest sized fits same. not_read c.hash.result.now c.from_hex.result
    c.from_hex.ensures digest sized fits (rw c.hash.ensures same) c.in_err-digest.ensures.value)

pub returns-else-has_digest-clause-none : goal.returns-else-has_digest-clause-none
returns-else-has_digest-clause-none c = λ digest sized fits same.
    other_read c.hash.result.now c.from_hex.result c.from_hex.ensures digest sized fits
    (rw c.hash.ensures same) c.in_ok-digest.digest c.has_digest.result c.in_ok-digest.ensures.value
    (rw c.hash.ensures c.has_digest.ensures) c.if-has_digest.false
