-- Keys of revisions whose hashes are digests (own). An example: the hash 0100000000000000ffffffffffffffff is
-- the text of a digest. The first byte of the digest is 1, the next seven are 0 and the last eight are 255,
-- so that its key is 1. The hash x has no key.
use Rattle.std.specs.Prelude.{◌≡◌, ℕ, ◌%◌, ◌^◌, List, length, Option, Some, None}
use Rattle.std.specs.Int.{w128, from_le_bytes}
use Rattle.hex.specs.Hex.{IsBytes, encode_lower}

-- the key of a digest: the number of its first eight bytes, of which the first counts least
abbrev pub key_of : List ℕ → ℕ
key_of digest = from_le_bytes w128 digest % 2 ^ 64

-- the hash is the hexadecimal text of a digest, 16 bytes, in lower-case digits, and this is the digest's key
pub record IsKey (hash : List ℕ) (key : ℕ) : Type 0 where
  pub digest : List ℕ
  pub text : hash ≡ encode_lower digest
  pub sized : length digest ≡ 16
  pub bytes : IsBytes digest
  pub number : key ≡ key_of digest

-- the key of the hash; None where the hash has none
abbrev pub HasKey : List ℕ → Option ℕ → Type 0
HasKey hash None = (key : ℕ) → ¬ IsKey hash key
HasKey hash (Some key) = IsKey hash key
