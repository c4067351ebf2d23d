-- Decimal numerals of a fixed width: zeros in front, the most significant digit first.
use Rattle.std.specs.Prelude.{◌≡◌, ℕ, zero, suc, ◌+◌, ◌/◌, ◌%◌, ◌^◌, ◌<◌, List, [], ◌∷◌, ◌++◌}

-- the last digits of n, as many as the width says; '0' is 48
abbrev pub numeral : ℕ → ℕ → List ℕ
numeral zero n = []
numeral (suc width) n = numeral width (n / 10) ++ ((48 + n % 10) ∷ [])

-- the digits are the numeral of a number that has no more of them
pub record NumeralOf (digits : List ℕ) (width n : ℕ) : Type 0 where
  pub small : n < 10 ^ width
  pub reads : digits ≡ numeral width n
