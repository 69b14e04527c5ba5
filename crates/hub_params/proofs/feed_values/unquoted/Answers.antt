use Rattle.std.proofs.Common.{None, Some, sym, arith}
use Rattle.std.proofs.lemmas.Str.Pattern.{strip_prefix_char, strip_suffix_char}
use Rattle.hub_params.proofs.QuoteLemmas.{kept_before, kept_behind, within}
use Rattle.hub_params.proofs.feed_values.unquoted.Goals as goal

pub returns-in_default : goal.returns-in_default
returns-in_default c =
    sym (kept_before c.args.text.now
    (strip_prefix_char 34 c.args.text.now None c.in_default.ensures.cases (omega arith)))

pub returns-in-Some-strip_suffix : goal.returns-in-Some-strip_suffix
returns-in-Some-strip_suffix c = within c.args.text.now c.in-Some.rest.now c.in-Some-strip_suffix.inner.now
    (strip_prefix_char 34 c.args.text.now (Some c.in-Some.rest) c.in-Some.ensures.cases (omega arith))
    (strip_suffix_char 34 c.in-Some.rest.now
    (Some c.in-Some-strip_suffix.inner) c.in-Some-strip_suffix.ensures.cases (omega arith))

pub returns-in-None : goal.returns-in-None
returns-in-None c = kept_behind c.args.text.now c.in-Some.rest.now
    (strip_prefix_char 34 c.args.text.now (Some c.in-Some.rest) c.in-Some.ensures.cases (omega arith))
    (strip_suffix_char 34 c.in-Some.rest.now None c.in-None.ensures.cases (omega arith))
