-- Blocks of sixteen bytes and their two halves.
use Rattle.std.proofs.Common.{◌≡◌, ℕ, zero, suc, ◌+◌, ◌/◌, ◌%◌, ◌^◌, ◌<◌, List, [], ◌∷◌, ◌++◌, map, get_or, sym, refl, ◌∙◌, ap₂, arith}
use Rattle.std.proofs.lemmas.Slice.Eq.{text_from_reads}
use Rattle.octets.specs.Octets.{Bytes, Block}
use Rattle.camellia.specs.Numbers.{join8, half_at, bytes8}
use Rattle.camellia.specs.Rounds.{State, st}
use Rattle.camellia.specs.Cipher.{to_state, to_bytes}
use Rattle.camellia.proofs.Small.{Small, half_at-lt}

pub number-bytes8 : (x : ℕ) → x < 2 ^ 64 → half_at (bytes8 x) 0 ≡ x
number-bytes8 x h = omega arith

pub state-back : (s : State) → Small s → to_state (to_bytes s) ≡ s
unfolding to_state to_bytes
state-back s p = ap₂ st (number-bytes8 s.left p.left_lt) (number-bytes8 s.right p.right_lt)

bytes8_join : (a b c d e f g h : ℕ) → a < 256 → b < 256 → c < 256 → d < 256 → e < 256 → f < 256 → g < 256 → h < 256
    → bytes8 (join8 a b c d e f g h) ≡ a ∷ b ∷ c ∷ d ∷ e ∷ f ∷ g ∷ h ∷ []
bytes8_join a b c d e f g h ha hb hc hd he hf hg hh =
    let y : ℕ = join8 a b c d e f g h in
    let e0 : y / 2 ^ 56 % 256 ≡ a = omega arith in
    let e1 : y / 2 ^ 48 % 256 ≡ b = omega arith in
    let e2 : y / 2 ^ 40 % 256 ≡ c = omega arith in
    let e3 : y / 2 ^ 32 % 256 ≡ d = omega arith in
    let e4 : y / 2 ^ 24 % 256 ≡ e = omega arith in
    let e5 : y / 2 ^ 16 % 256 ≡ f = omega arith in
    let e6 : y / 2 ^ 8 % 256 ≡ g = omega arith in
    let e7 : y % 256 ≡ h = omega arith in
    λ i. e0 i ∷ e1 i ∷ e2 i ∷ e3 i ∷ e4 i ∷ e5 i ∷ e6 i ∷ e7 i ∷ []

pub bytes8-half_at : (bs : List ℕ) (i : ℕ) → Bytes bs
    → bytes8 (half_at bs i)
    ≡ get_or bs i 0 ∷ get_or bs (i + 1) 0 ∷ get_or bs (i + 2) 0 ∷ get_or bs (i + 3) 0
    ∷ get_or bs (i + 4) 0 ∷ get_or bs (i + 5) 0 ∷ get_or bs (i + 6) 0 ∷ get_or bs (i + 7) 0 ∷ []
bytes8-half_at bs i h =
    bytes8_join (get_or bs i 0) (get_or bs (i + 1) 0) (get_or bs (i + 2) 0) (get_or bs (i + 3) 0) (get_or bs (i + 4) 0) (get_or bs (i + 5) 0) (get_or bs (i + 6) 0) (get_or bs (i + 7) 0)
    (h i) (h (i + 1)) (h (i + 2)) (h (i + 3)) (h (i + 4)) (h (i + 5)) (h (i + 6)) (h (i + 7))

pub block_back : (b : List ℕ) → Block b → to_bytes (to_state b) ≡ b
unfolding to_bytes to_state
block_back b p =
    ap₂ ◌++◌ (bytes8-half_at b 0 p.bytes) (bytes8-half_at b 8 p.bytes)
    ∙ sym (text_from_reads b _ p.sixteen
    (refl, (refl, (refl, (refl, (refl, (refl, (refl, (refl, (refl, (refl, (refl, (refl, (refl, (refl, (refl, (refl, tt)))))))))))))))))

pub block_small : (b : List ℕ) → Block b → Small (to_state b)
unfolding to_state
block_small b p = record { left_lt = half_at-lt b 0 p.bytes; right_lt = half_at-lt b 8 p.bytes }

mods_bytes : (qs bs : List ℕ) → Bytes bs → Bytes (map (λ q. q % 256) qs ++ bs)
mods_bytes [] bs h i = h i
mods_bytes (q ∷ qs) bs h zero = omega arith
mods_bytes (q ∷ qs) bs h (suc i) = mods_bytes qs bs h i

bytes8-bytes : (x : ℕ) (bs : List ℕ) → Bytes bs → Bytes (bytes8 x ++ bs)
bytes8-bytes x bs h =
    mods_bytes ((x / 2 ^ 56) ∷ (x / 2 ^ 48) ∷ (x / 2 ^ 40) ∷ (x / 2 ^ 32) ∷ (x / 2 ^ 24) ∷ (x / 2 ^ 16) ∷ (x / 2 ^ 8) ∷ x ∷ []) bs h

-- what a state is written as is a block
pub to_bytes_block : (s : State) → Block (to_bytes s)
unfolding to_bytes
to_bytes_block s =
    record { sixteen = refl; bytes = bytes8-bytes s.left (bytes8 s.right) (bytes8-bytes s.right [] (λ i. omega arith)) }
