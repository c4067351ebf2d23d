-- Words by their bytes: a rotation by whole bytes moves them, xor goes byte by byte, and so P by rotations is P.
use Rattle.std.proofs.Common.{◌≡◌, ℕ, ◌+◌, ◌*◌, ◌/◌, ◌%◌, ◌^◌, ◌<◌, sym, ap, ◌∙◌, ap₂, arith}
use lib.Bits.{bit_or, bit_xor, xor_lt, or_shifted, or_shifted_r}
use Rattle.camellia.specs.Numbers.{rotl, rotr, join8, ◌⊕◌}
use Rattle.camellia.specs.Sbox.{s1table}
use Rattle.camellia.specs.Functions.{P, PS}
use Rattle.camellia.proofs.Bytes.{Eight, xor-join8, PS-join8}
use Rattle.camellia.proofs.Xors.{xors}
use Rattle.camellia_rounds.specs.Parts.{whole}
use Rattle.camellia_word.specs.Tables.{join4, left_s, right_s}
use Rattle.camellia_word.specs.Words.{rotated}
use Rattle.camellia_word.proofs.Tables.{Byte, first_byte, second-byte, third-byte, fourth-byte}

-- the word x has the bytes a, b, c, d
record Word (x a b c d : ℕ) : Type 0 where
  a_lt : a < 256
  b_lt : b < 256
  c_lt : c < 256
  d_lt : d < 256
  is : x ≡ join4 a b c d

joined : {a b c d a' b' c' d' : ℕ} → Byte a a' → Byte b b' → Byte c c' → Byte d d' → Word (join4 a b c d) a' b' c' d'
joined p q r s =
    record { a_lt = p.lt; b_lt = q.lt; c_lt = r.lt; d_lt = s.lt; is = λ i. join4 (p.is i) (q.is i) (r.is i) (s.is i) }

bytes_of : (x : ℕ) → x < 2 ^ 32 → Word x (x / 2 ^ 24 % 256) (x / 2 ^ 16 % 256) (x / 2 ^ 8 % 256) (x % 256)
bytes_of x h =
    let top : x / 2 ^ 24 % 256 ≡ x / 2 ^ 24 = omega arith in
    record { a_lt = omega arith; b_lt = omega arith; c_lt = omega arith; d_lt = omega arith; is = omega arith }

module _ {x a b c d : ℕ} (w : Word x a b c d) where
  left8 : Word (rotl 32 8 x) b c d a
  left8 =
      let low : ℕ = b * 2 ^ 16 + c * 2 ^ 8 + d in
      let e : (x * 2 ^ 8) % 2 ^ 32 ≡ low * 2 ^ 8 = omega arith in
      let g : x / 2 ^ 24 ≡ a = omega arith in
      record {
        a_lt = w.b_lt;
        b_lt = w.c_lt;
        c_lt = w.d_lt;
        d_lt = w.a_lt;
        is = ap₂ bit_or e g ∙ or_shifted low 8 a w.a_lt ∙ omega arith;
      }

  left16 : Word (rotl 32 16 x) c d a b
  left16 =
      let low : ℕ = c * 2 ^ 8 + d in
      let high : ℕ = a * 2 ^ 8 + b in
      let e : (x * 2 ^ 16) % 2 ^ 32 ≡ low * 2 ^ 16 = omega arith in
      let g : x / 2 ^ 16 ≡ high = omega arith in
      record {
        a_lt = w.c_lt;
        b_lt = w.d_lt;
        c_lt = w.a_lt;
        d_lt = w.b_lt;
        is = ap₂ bit_or e g ∙ or_shifted low 16 high (omega arith) ∙ omega arith;
      }

  right8 : Word (rotr 32 8 x) d a b c
  right8 =
      let high : ℕ = a * 2 ^ 16 + b * 2 ^ 8 + c in
      let e : x / 2 ^ 8 ≡ high = omega arith in
      let g : (x * 2 ^ 24) % 2 ^ 32 ≡ d * 2 ^ 24 = omega arith in
      record {
        a_lt = w.d_lt;
        b_lt = w.a_lt;
        c_lt = w.b_lt;
        d_lt = w.c_lt;
        is = ap₂ bit_or e g ∙ or_shifted_r d 24 high (omega arith) ∙ omega arith;
      }

-- two words side by side
module _ {x a b c d y a' b' c' d' : ℕ} (v : Word x a b c d) (w : Word y a' b' c' d') where
  eight : Eight a b c d a' b' c' d'
  eight =
      record { b1 = v.a_lt; b2 = v.b_lt; b3 = v.c_lt; b4 = v.d_lt; b5 = w.a_lt; b6 = w.b_lt; b7 = w.c_lt; b8 = w.d_lt }

  whole-join8 : whole (record { left = x; right = y }) ≡ join8 a b c d a' b' c' d'
  whole-join8 = omega arith

none : Word 0 0 0 0 0
none = bytes_of 0 (omega arith)

alone : {x a b c d : ℕ} → Word x a b c d → x ≡ join8 0 0 0 0 a b c d
alone w = omega arith

sum : {x a b c d y a' b' c' d' : ℕ} → Word x a b c d → Word y a' b' c' d' → Word (x ⊕ y) (a ⊕ a') (b ⊕ b') (c ⊕ c') (d ⊕ d')
sum {x} {a} {b} {c} {d} {y} {a'} {b'} {c'} {d'} v w =
    record {
      a_lt = xor_lt 8 a a' v.a_lt w.a_lt;
      b_lt = xor_lt 8 b b' v.b_lt w.b_lt;
      c_lt = xor_lt 8 c c' v.c_lt w.c_lt;
      d_lt = xor_lt 8 d d' v.d_lt w.d_lt;
      is = ap₂ bit_xor (alone v) (alone w) ∙ xor-join8 (eight none v) (eight none w) ∙ omega arith;
    }

rotated-P : {l r z1 z2 z3 z4 z5 z6 z7 z8 : ℕ} → Word l z1 z2 z3 z4 → Word r z5 z6 z7 z8
    → whole (rotated l r) ≡ P z1 z2 z3 z4 z5 z6 z7 z8
unfolding P
rotated-P v w =
    let l1 = sum v (left8 w) in
    let r1 = sum w (left16 l1) in
    let l2 = sum l1 (right8 r1) in
    let r2 = sum r1 (right8 l2) in
    whole-join8 r2 l2 ∙ simp xors

pub PS_words : (l r : ℕ) → l < 2 ^ 32 → r < 2 ^ 32
    → whole (rotated (left_s s1table l) (right_s s1table r)) ≡ PS (whole (record { left = l; right = r }))
PS_words l r hl hr =
    let v = bytes_of l hl in
    let w = bytes_of r hr in
    rotated-P
    (joined (first_byte (l / 2 ^ 24 % 256)) (second-byte (l / 2 ^ 16 % 256)) (third-byte (l / 2 ^ 8 % 256)) (fourth-byte (l % 256) v.d_lt))
    (joined (second-byte (r / 2 ^ 24 % 256)) (third-byte (r / 2 ^ 16 % 256)) (fourth-byte (r / 2 ^ 8 % 256) w.c_lt) (first_byte (r % 256)))
    ∙ sym (ap PS (whole-join8 v w) ∙ PS-join8 (eight v w))
