-- FL and its inverse go by the parts of a half and of a key.
use Rattle.std.proofs.Common.{◌≡◌, ℕ, ◌/◌, ◌%◌, ◌^◌, ◌<◌, arith}
use Rattle.camellia.specs.Functions.{FL, FLINV}
use Rattle.camellia_rounds.specs.Parts.{whole, parts_of, fl_of, fl_inverse_of}

module _ (x k : ℕ) (h : k < 2 ^ 64) where
  low : k / 2 ^ 32 ≡ k / 2 ^ 32 % 2 ^ 32
  low = omega arith

  pub fl_by_parts : whole (fl_of (parts_of x) (parts_of k)) ≡ FL x k
  unfolding FL
  fl_by_parts = λ i. whole (fl_of (parts_of x) (record { left = low i; right = k % 2 ^ 32 }))

  pub fl_inverse_by_parts : whole (fl_inverse_of (parts_of x) (parts_of k)) ≡ FLINV x k
  unfolding FLINV
  fl_inverse_by_parts = λ i. whole (fl_inverse_of (parts_of x) (record { left = low i; right = k % 2 ^ 32 }))
