use Rattle.std.proofs.Common.{◌%◌, ◌^◌, ap, refl}
use Rattle.hub_revtree.proofs.key.key_of.Goals as goal

pub returns : goal.returns
returns c = record {
  digest = c.args.digest.now;
  text = refl;
  sized = c.told-digest;
  bytes = c.fits-digest;
  number = ap (λ n. n % 2 ^ 64) c.from_le_bytes.ensures;
}
