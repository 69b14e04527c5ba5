use Rattle.std.proofs.Common.{arith, refl}
use Rattle.std.proofs.lemmas.Fmt.{decimal_digit}
use Rattle.hub_document.proofs.DigestLemmas.{quoted_parts}
use Rattle.hub_document.proofs.revision.digest_rev.fill_short.Goals as goal

pub returns : goal.returns
returns c =
    rw (
      c.requires.form,
      quoted_parts c.args.digest.now c.args.generation c.requires.short.0
          (omega (arith, c.requires.short.1)) c.fits-digest c.told-digest,
      decimal_digit c.args.generation c.requires.short.1,
      c.write_digits.ensures,
    ) refl
