-- Bytes stay bytes where a list is cut and put together.
use Prim.Native.Nat.{ℕ, zero, suc}
use mathlib.Core.List.{List, [], ◌∷◌, ◌++◌}
use native.Mathlib.Omega.{arith}
use lib.ListN.{take, drop}
use Rattle.octets.specs.Octets.{Bytes}

pub take-bytes : (n : ℕ) (s : List ℕ) → Bytes s → Bytes (take n s)
take-bytes zero s h i = omega arith
take-bytes (suc n) [] h i = omega arith
take-bytes (suc n) (x ∷ s) h zero = h 0
take-bytes (suc n) (x ∷ s) h (suc i) = take-bytes n s (λ j. h (suc j)) i

pub drop-bytes : (n : ℕ) (s : List ℕ) → Bytes s → Bytes (drop n s)
drop-bytes zero s h i = h i
drop-bytes (suc n) [] h i = omega arith
drop-bytes (suc n) (x ∷ s) h i = drop-bytes n s (λ j. h (suc j)) i

pub append-bytes : (s t : List ℕ) → Bytes s → Bytes t → Bytes (s ++ t)
append-bytes [] t g h i = h i
append-bytes (x ∷ s) t g h zero = g 0
append-bytes (x ∷ s) t g h (suc i) = append-bytes s t (λ j. g (suc j)) h i
