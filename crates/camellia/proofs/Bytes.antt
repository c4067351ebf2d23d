-- Eight bytes as one number: xor goes byte by byte, and S and P read the bytes.
use Rattle.std.proofs.Common.{◌≡◌, ℕ, ◌+◌, ◌*◌, ◌/◌, ◌%◌, ◌^◌, ◌<◌, sym, ◌∙◌, ap₂, arith}
use lib.Bits.{bit_xor, xor_block}
use Rattle.camellia.specs.Numbers.{join8}
use Rattle.camellia.specs.Sbox.{s1, s2, s3, s4}
use Rattle.camellia.specs.Functions.{P, PS}

pub record Eight (a b c d e f g h : ℕ) : Type 0 where
  pub b1 : a < 256
  pub b2 : b < 256
  pub b3 : c < 256
  pub b4 : d < 256
  pub b5 : e < 256
  pub b6 : f < 256
  pub b7 : g < 256
  pub b8 : h < 256

join8_horner : (a b c d e f g h : ℕ)
    → join8 a b c d e f g h ≡ ((((((a * 256 + b) * 256 + c) * 256 + d) * 256 + e) * 256 + f) * 256 + g) * 256 + h
join8_horner a b c d e f g h = omega arith

xor-more : (a b r s : ℕ) → r < 256 → s < 256 → bit_xor (a * 256 + r) (b * 256 + s) ≡ bit_xor a b * 256 + bit_xor r s
xor-more a b r s hr hs = xor_block 8 a b r s hr hs

pub xor-join8 : {a b c d e f g h a' b' c' d' e' f' g' h' : ℕ} → Eight a b c d e f g h → Eight a' b' c' d' e' f' g' h'
    → bit_xor (join8 a b c d e f g h) (join8 a' b' c' d' e' f' g' h')
    ≡ join8 (bit_xor a a') (bit_xor b b') (bit_xor c c') (bit_xor d d') (bit_xor e e') (bit_xor f f') (bit_xor g g') (bit_xor h h')
xor-join8 {a} {b} {c} {d} {e} {f} {g} {h} {a'} {b'} {c'} {d'} {e'} {f'} {g'} {h'} p q =
    ap₂ bit_xor (join8_horner a b c d e f g h) (join8_horner a' b' c' d' e' f' g' h')
    ∙ simp (xor-more, p.b2, p.b3, p.b4, p.b5, p.b6, p.b7, p.b8, q.b2, q.b3, q.b4, q.b5, q.b6, q.b7, q.b8)
    (sym (join8_horner (bit_xor a a') (bit_xor b b') (bit_xor c c') (bit_xor d d') (bit_xor e e') (bit_xor f f') (bit_xor g g') (bit_xor h h')))

pub PS-join8 : {a b c d e f g h : ℕ} → Eight a b c d e f g h
    → PS (join8 a b c d e f g h) ≡ P (s1 a) (s2 b) (s3 c) (s4 d) (s2 e) (s3 f) (s4 g) (s1 h)
unfolding PS
PS-join8 {a} {b} {c} {d} {e} {f} {g} {h} p =
    let y : ℕ = join8 a b c d e f g h in
    let e1 : y / 2 ^ 56 % 256 ≡ a = omega arith in
    let e2 : y / 2 ^ 48 % 256 ≡ b = omega arith in
    let e3 : y / 2 ^ 40 % 256 ≡ c = omega arith in
    let e4 : y / 2 ^ 32 % 256 ≡ d = omega arith in
    let e5 : y / 2 ^ 24 % 256 ≡ e = omega arith in
    let e6 : y / 2 ^ 16 % 256 ≡ f = omega arith in
    let e7 : y / 2 ^ 8 % 256 ≡ g = omega arith in
    let e8 : y % 256 ≡ h = omega arith in
    rw (e1, e2, e3, e4, e5, e6, e7, e8)
