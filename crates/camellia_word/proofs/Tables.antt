-- The tables that come from the entries of s1 are the substitutions.
use Rattle.std.proofs.Common.{◌≡◌, ℕ, ◌<◌, refl, arith}
use lib.ListN.{get_or-map}
use Rattle.std.proofs.lemmas.List.FromFn.{get_or-map-range_with_len}
use Rattle.camellia.specs.Numbers.{rotl, rotr}
use Rattle.camellia.specs.Sbox.{s1, s2, s3, s4, s1table}
use Rattle.camellia.proofs.Range.{s1-lt, s2-lt, s3-lt, s4-lt}
use Rattle.camellia_word.specs.Tables.{first, second, third, fourth}

-- y, which is computed as x, is a byte
pub record Byte (x y : ℕ) : Type 0 where
  pub is : x ≡ y
  pub lt : y < 256

module _ (x : ℕ) where
  pub first_byte : Byte (first s1table x) (s1 x)
  unfolding s1
  first_byte = record { is = refl; lt = s1-lt x }

  pub second-byte : Byte (second s1table x) (s2 x)
  unfolding s1
  second-byte = record { is = get_or-map (rotl 8 1) s1table x 0; lt = s2-lt x }

  pub third-byte : Byte (third s1table x) (s3 x)
  unfolding s1
  third-byte = record { is = get_or-map (rotr 8 1) s1table x 0; lt = s3-lt x }

  pub fourth-byte : x < 256 → Byte (fourth s1table x) (s4 x)
  unfolding s1
  fourth-byte h = record { is = get_or-map-range_with_len s4 0 256 x x 0 h (omega arith); lt = s4-lt x }
