use Rattle.std.proofs.Common.{◌+◌, length, ap, ◌∙◌}
use Rattle.hub_http.specs.Refusals.{error_of}
use Rattle.hub_session.proofs.PartsLemmas.{refusal_length}
use Rattle.hub_session.proofs.parts.refusal_len.Goals as goal

pub returns : goal.returns
returns c =
    ap (λ l. 25 + length l + length c.reason.result.now) c.error.ensures
    ∙ (ap (λ l. 25 + length (error_of c.args.refusal) + length l) c.reason.ensures
    ∙ refusal_length c.args.refusal)
