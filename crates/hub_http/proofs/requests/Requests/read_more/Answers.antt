use Rattle.std.proofs.Common.{refl}
use Rattle.std.proofs.lemmas.Result.{err_from_is_err_and}
use Rattle.hub_http.proofs.BlockLemmas.{given_kept}
use Rattle.hub_http.proofs.CountLemmas.{counts_for}
use Rattle.hub_http.proofs.requests.Requests.read_more.Goals as goal

pub returns-clause-kept : goal.returns-clause-kept
returns-clause-kept g c =
    rw (c.in_ok-n.ensures.held, c.in_ok-n.ensures.rest)
    (given_kept _ _ _ _ c.in_ok-n.n c.in_ok-refill.ensures.kept)

pub returns-clause-counts : goal.returns-clause-counts
returns-clause-counts g c = counts_for (λ e. cc) c.in_ok-refill.ensures.counts

pub returns-in_err-n-clause-counts : goal.returns-in_err-n-clause-counts
returns-in_err-n-clause-counts g c =
    let p = err_from_is_err_and c.from_residual-in_err-n.result c.from_residual-in_err-n.ensures.1 in
    rw (p.1, p.2) (counts_for (λ e. cc) c.in_ok-refill.ensures.counts)

pub returns-in_err-refill-clause-counts : goal.returns-in_err-refill-clause-counts
returns-in_err-refill-clause-counts g c =
    let p = err_from_is_err_and c.from_residual.result c.from_residual.ensures.1 in
    rw (p.1, p.2) (counts_for (λ e. refl) c.in_err-refill.ensures.counts)
