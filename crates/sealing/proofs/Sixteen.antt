-- Sixteen bytes and the number that they are.
use Rattle.std.proofs.Common.{◌≡◌, ℕ, zero, suc, ◌+◌, ◌*◌, ◌/◌, ◌%◌, ◌^◌, ◌<◌, List, [], ◌∷◌, ◌++◌, map, length-drop, length-take, length, take, drop, get_or, set, refl, ap, ◌∙◌, ap₂, add-one, arith}
use Rattle.std.specs.Int.{w64, w128, from_le_bytes, to_le_bytes}
use lib.Bits.{bit_xor, xor_assoc, xor_self, xor_zero_r, xor_shr, xor_mod}
use Rattle.std.proofs.lemmas.Grind.{common_steps}
use Rattle.std.proofs.lemmas.List.{take-append-drop}
use Rattle.std.proofs.lemmas.Nat.{le_bytes_8}
use Rattle.octets.specs.Octets.{Bytes, Block}
use Rattle.octets.proofs.Bytes.{take-bytes, drop-bytes}
use Rattle.sealing.specs.Xts.{bytes16, number8, number16, added}

-- what std reads from sixteen bytes
pub number_read : (b : List ℕ) (n : ℕ) → n ≡ from_le_bytes w128 b → n ≡ number16 b
unfolding number16
number_read b n e = omega arith

pub number_bytes : (x : ℕ) → x < 2 ^ 128 → number16 (bytes16 x) ≡ x
unfolding number16 bytes16
number_bytes x h = omega arith

mods_bytes : (qs : List ℕ) → Bytes (map (λ q. q % 256) qs)
mods_bytes [] i = omega arith
mods_bytes (q ∷ qs) zero = omega arith
mods_bytes (q ∷ qs) (suc i) = mods_bytes qs i

pub bytes_block : (x : ℕ) → Block (bytes16 x)
unfolding bytes16
bytes_block x = record {
  sixteen = refl;
  bytes = mods_bytes
      (x ∷ (x / 2 ^ 8) ∷ (x / 2 ^ 16) ∷ (x / 2 ^ 24) ∷ (x / 2 ^ 32) ∷ (x / 2 ^ 40) ∷ (x / 2 ^ 48) ∷ (x / 2 ^ 56)
      ∷ (x / 2 ^ 64) ∷ (x / 2 ^ 72) ∷ (x / 2 ^ 80) ∷ (x / 2 ^ 88) ∷ (x / 2 ^ 96) ∷ (x / 2 ^ 104) ∷ (x / 2 ^ 112) ∷ (x / 2 ^ 120) ∷ []);
}

-- a number's bytes are those of its halves
halves : (lo hi : ℕ) → lo < 2 ^ 64 → bytes16 (lo + hi * 2 ^ 64) ≡ to_le_bytes w64 lo ++ to_le_bytes w64 hi
unfolding bytes16
halves lo hi h = grind arith

pub halved_bytes : (x : ℕ) → bytes16 x ≡ to_le_bytes w64 (x % 2 ^ 64) ++ to_le_bytes w64 (x / 2 ^ 64)
halved_bytes x =
    let e : x ≡ x % 2 ^ 64 + x / 2 ^ 64 * 2 ^ 64 = omega arith in ap bytes16 e ∙ halves (x % 2 ^ 64) (x / 2 ^ 64) (omega arith)

number8_lt : (b : List ℕ) → Bytes b → number8 b 0 < 2 ^ 64
number8_lt b h = omega (arith, h 0, h 1, h 2, h 3, h 4, h 5, h 6, h 7)

first_half : (b : List ℕ) → number8 b 0 ≡ from_le_bytes w64 (take 8 b)
first_half b = grind (arith, common_steps)

second_half : (b : List ℕ) → number8 b 8 ≡ from_le_bytes w64 (drop 8 b)
second_half b = grind (arith, common_steps)

pub bytes-number : (b : List ℕ) → Block b → bytes16 (number16 b) ≡ b
unfolding number16
bytes-number b p =
    halves (number8 b 0) (number8 b 8) (number8_lt b p.bytes)
    ∙ ap₂ ◌++◌ (le_bytes_8 (take 8 b) _ (length-take 8 b ∙ omega arith) (take-bytes 8 b p.bytes) (first_half b)) (le_bytes_8 (drop 8 b) _ (length-drop 8 b ∙ omega arith) (drop-bytes 8 b p.bytes) (second_half b))
    ∙ take-append-drop 8 b

-- bytes summed one by one, as far as those of the tweak go
abbrev pub xored : List ℕ → List ℕ → List ℕ
xored [] bs = bs
xored (t ∷ ts) [] = []
xored (t ∷ ts) (b ∷ bs) = bit_xor b t ∷ xored ts bs

xored_suc : (ts bs : List ℕ) (i : ℕ) → i < length ts
    → set (xored (take i ts) bs) i (bit_xor (get_or (xored (take i ts) bs) i 0) (get_or ts i 0)) ≡ xored (take (suc i) ts) bs
xored_suc [] bs i h = absurd (omega arith)
xored_suc (t ∷ ts) [] zero h = refl
xored_suc (t ∷ ts) [] (suc i) h = refl
xored_suc (t ∷ ts) (b ∷ bs) zero h = refl
xored_suc (t ∷ ts) (b ∷ bs) (suc i) h = ap (λ r. bit_xor b t ∷ r) (xored_suc ts bs i (omega arith))

pub xored_more : (ts bs : List ℕ) (i : ℕ) → i < length ts
    → set (xored (take i ts) bs) i (bit_xor (get_or (xored (take i ts) bs) i 0) (get_or ts i 0)) ≡ xored (take (i + 1) ts) bs
xored_more ts bs i h = rw add-one (xored_suc ts bs i h)

bytes_xored : (x y : ℕ) → bytes16 (bit_xor x y) ≡ xored (bytes16 y) (bytes16 x)
unfolding bytes16
bytes_xored x y =
    let at = λ (k : ℕ). ap (λ v. v % 256) (xor_shr x y k) ∙ xor_mod (x / 2 ^ k) (y / 2 ^ k) 8 in
    λ i. xor_mod x y 8 i ∷ at 8 i ∷ at 16 i ∷ at 24 i ∷ at 32 i ∷ at 40 i ∷ at 48 i ∷ at 56 i
    ∷ at 64 i ∷ at 72 i ∷ at 80 i ∷ at 88 i ∷ at 96 i ∷ at 104 i ∷ at 112 i ∷ at 120 i ∷ []

pub added_xored : (b t : List ℕ) → Block b → Block t → added b t ≡ xored t b
added_xored b t p q = bytes_xored (number16 b) (number16 t) ∙ ap₂ xored (bytes-number t q) (bytes-number b p)

pub added_block : (b t : List ℕ) → Block (added b t)
added_block b t = bytes_block (bit_xor (number16 b) (number16 t))

xored_twice : (ts bs : List ℕ) → xored ts (xored ts bs) ≡ bs
xored_twice [] bs = refl
xored_twice (t ∷ ts) [] = refl
xored_twice (t ∷ ts) (b ∷ bs) = ap₂ ◌∷◌ (xor_assoc b t t ∙ ap (bit_xor b) (xor_self t) ∙ xor_zero_r b) (xored_twice ts bs)

pub added_twice : (b t : List ℕ) → Block b → Block t → added (added b t) t ≡ b
added_twice b t p q =
    added_xored (added b t) t (added_block b t) q ∙ ap (xored t) (added_xored b t p q) ∙ xored_twice t b
