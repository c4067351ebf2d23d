-- XTS of IEEE 1619 on a frame of eight blocks, over any cipher.
use Rattle.std.specs.Prelude.{ℕ, zero, suc, ◌+◌, ◌*◌, ◌/◌, ◌%◌, ◌^◌, cond, List, [], ◌∷◌, ◌++◌, map, take, drop, bit_xor, nat_lt, slice_index}

-- a number as sixteen bytes, the least significant first, and back, from the eight bytes at a place
unfoldable pub bytes16 : ℕ → List ℕ
bytes16 x =
    (x % 256) ∷ (x / 2 ^ 8 % 256) ∷ (x / 2 ^ 16 % 256) ∷ (x / 2 ^ 24 % 256)
    ∷ (x / 2 ^ 32 % 256) ∷ (x / 2 ^ 40 % 256) ∷ (x / 2 ^ 48 % 256) ∷ (x / 2 ^ 56 % 256)
    ∷ (x / 2 ^ 64 % 256) ∷ (x / 2 ^ 72 % 256) ∷ (x / 2 ^ 80 % 256) ∷ (x / 2 ^ 88 % 256)
    ∷ (x / 2 ^ 96 % 256) ∷ (x / 2 ^ 104 % 256) ∷ (x / 2 ^ 112 % 256) ∷ (x / 2 ^ 120 % 256) ∷ []

abbrev pub number8 : List ℕ → ℕ → ℕ
number8 b i =
    slice_index b i + slice_index b (i + 1) * 2 ^ 8 + slice_index b (i + 2) * 2 ^ 16 + slice_index b (i + 3) * 2 ^ 24
    + slice_index b (i + 4) * 2 ^ 32 + slice_index b (i + 5) * 2 ^ 40 + slice_index b (i + 6) * 2 ^ 48 + slice_index b (i + 7) * 2 ^ 56

unfoldable pub number16 : List ℕ → ℕ
number16 b = number8 b 0 + number8 b 8 * 2 ^ 64

-- the unit number of a frame
abbrev pub unit : ℕ → List ℕ
unit frame = bytes16 frame

-- the sum of two strings of sixteen bytes
abbrev pub added : List ℕ → List ℕ → List ℕ
added b t = bytes16 (bit_xor (number16 b) (number16 t))

-- a bit that falls out of a shift comes back as 0x87
abbrev pub carried : ℕ → ℕ
carried x = cond (nat_lt x (2 ^ 127)) 0 0x87

abbrev pub doubled : List ℕ → List ℕ
doubled t = bytes16 (bit_xor ((number16 t * 2) % 2 ^ 128) (carried (number16 t)))

-- so many tweaks, from the first on
unfoldable pub tweaks : ℕ → List ℕ → List (List ℕ)
tweaks zero t = []
tweaks (suc n) t = t ∷ tweaks n (doubled t)

-- each block takes its tweak
abbrev pub masked : List (List ℕ) → List (List ℕ) → List (List ℕ)
masked [] bs = bs
masked (t ∷ ts) [] = []
masked (t ∷ ts) (b ∷ bs) = added b t ∷ masked ts bs

-- so many blocks of sixteen bytes, and the bytes of blocks
unfoldable pub blocks : ℕ → List ℕ → List (List ℕ)
blocks zero f = []
blocks (suc n) f = take 16 f ∷ blocks n (drop 16 f)

abbrev pub joined : List (List ℕ) → List ℕ
joined [] = []
joined (b ∷ bs) = b ++ joined bs

-- a frame of eight blocks, with a cipher for the blocks (E to seal, D to open) and E of the tweak key
abbrev pub xts : (List ℕ → List ℕ) → (List ℕ → List ℕ) → ℕ → List ℕ → List ℕ
xts cipher tweak frame f =
    let ts = tweaks 8 (tweak (unit frame)) in
    joined (masked ts (map cipher (masked ts (blocks 8 f))))
