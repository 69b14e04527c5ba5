use Rattle.std.proofs.Common.{◌<◌, ◌^◌, ap, rules}
use Rattle.hub_document.proofs.DigestLemmas.{text_kept, text_laid_out}
use Rattle.hub_document.proofs.revision.RevId.from_digest.Goals as goal

pub invariant_of-result : goal.invariant_of-result
invariant_of-result c =
    let below : c.args.generation < 2 ^ 16 = search rules in
    text_laid_out c.args.generation c.args.digest.now c.write_digits.new.letters c.requires
    below c.fits-digest c.told-digest c.write_digits.ensures

pub returns : goal.returns
returns c =
    ap (λ (hash : _). record { generation = c.args.generation; hash = hash })
    (text_kept c.args.digest.now c.write_digits.new.letters _ c.told-digest c.write_digits.ensures)
