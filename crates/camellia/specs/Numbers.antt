-- Numbers of 64 bits and their eight bytes, the most significant first; xor and rotations.
use Rattle.std.specs.Prelude.{ℕ, ◌+◌, ◌-◌, ◌*◌, ◌/◌, ◌%◌, ◌^◌, List, [], ◌∷◌, bit_or, bit_xor, slice_index}

-- x <<< n and x >>> n for numbers of w bits; n counts modulo w
abbrev pub rotl : ℕ → ℕ → ℕ → ℕ
rotl w n x = bit_or ((x * 2 ^ (n % w)) % 2 ^ w) (x / 2 ^ ((w - n % w) % w))

abbrev pub rotr : ℕ → ℕ → ℕ → ℕ
rotr w n x = bit_or (x / 2 ^ (n % w)) ((x * 2 ^ ((w - n % w) % w)) % 2 ^ w)

infixl 20 ◌⊕◌
abbrev pub ◌⊕◌ : ℕ → ℕ → ℕ
a ⊕ b = bit_xor a b

abbrev pub join8 : ℕ → ℕ → ℕ → ℕ → ℕ → ℕ → ℕ → ℕ → ℕ
join8 a b c d e f g h =
    a * 2 ^ 56 + b * 2 ^ 48 + c * 2 ^ 40 + d * 2 ^ 32 + e * 2 ^ 24 + f * 2 ^ 16 + g * 2 ^ 8 + h

-- the number that the eight bytes from place i on are
abbrev pub half_at : List ℕ → ℕ → ℕ
half_at bs i =
    join8 (slice_index bs i) (slice_index bs (i + 1)) (slice_index bs (i + 2)) (slice_index bs (i + 3))
    (slice_index bs (i + 4)) (slice_index bs (i + 5)) (slice_index bs (i + 6)) (slice_index bs (i + 7))

abbrev pub bytes8 : ℕ → List ℕ
bytes8 x =
    (x / 2 ^ 56 % 256) ∷ (x / 2 ^ 48 % 256) ∷ (x / 2 ^ 40 % 256) ∷ (x / 2 ^ 32 % 256)
    ∷ (x / 2 ^ 24 % 256) ∷ (x / 2 ^ 16 % 256) ∷ (x / 2 ^ 8 % 256) ∷ (x % 256) ∷ []
