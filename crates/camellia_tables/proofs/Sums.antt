-- P is the sum of its eight columns, each multiplied by one byte.
use Rattle.std.proofs.Common.{◌≡◌, ℕ, ◌*◌, ◌<◌, ◌∙◌, ap₂, arith, lit<, bit_xor}
use Rattle.std.specs.Int.Bits.{xor_zero_r}
use Rattle.std.proofs.lemmas.Nat.{xor_lt}
use Rattle.camellia.specs.Numbers.{join8, ◌⊕◌}
use Rattle.camellia.specs.Functions.{P}
use Rattle.camellia.proofs.Bytes.{Eight, xor-join8}
use Rattle.camellia.proofs.Xors.{xors}

-- a number as its eight bytes
record Is (v a b c d e f g h : ℕ) : Type 0 where
  is : v ≡ join8 a b c d e f g h
  bytes : Eight a b c d e f g h

eight : {a b c d e f g h : ℕ} → a < 256 → b < 256 → c < 256 → d < 256 → e < 256 → f < 256 → g < 256 → h < 256 → Eight a b c d e f g h
eight p q r s t u v w = record { b1 = p; b2 = q; b3 = r; b4 = s; b5 = t; b6 = u; b7 = v; b8 = w }

xor_is : {v a b c d e f g h v' a' b' c' d' e' f' g' h' : ℕ} → Is v a b c d e f g h → Is v' a' b' c' d' e' f' g' h'
    → Is (bit_xor v v') (bit_xor a a') (bit_xor b b') (bit_xor c c') (bit_xor d d') (bit_xor e e') (bit_xor f f') (bit_xor g g') (bit_xor h h')
xor_is {v} {a} {b} {c} {d} {e} {f} {g} {h} {v'} {a'} {b'} {c'} {d'} {e'} {f'} {g'} {h'} p q =
    let x = p.bytes in
    let y = q.bytes in
    record {
      is = ap₂ bit_xor p.is q.is ∙ xor-join8 x y;
      bytes =
          eight (xor_lt 8 a a' x.b1 y.b1) (xor_lt 8 b b' x.b2 y.b2) (xor_lt 8 c c' x.b3 y.b3) (xor_lt 8 d d' x.b4 y.b4)
          (xor_lt 8 e e' x.b5 y.b5) (xor_lt 8 f f' x.b6 y.b6) (xor_lt 8 g g' x.b7 y.b7) (xor_lt 8 h h' x.b8 y.b8);
    }

same : {a b c d e f g h a' b' c' d' e' f' g' h' : ℕ}
    → a ≡ a' → b ≡ b' → c ≡ c' → d ≡ d' → e ≡ e' → f ≡ f' → g ≡ g' → h ≡ h'
    → join8 a b c d e f g h ≡ join8 a' b' c' d' e' f' g' h'
same p q r s t u v w = λ i. join8 (p i) (q i) (r i) (s i) (t i) (u i) (v i) (w i)

z : 0 < 256
z = lit< tt

pub columns-P : (t1 t2 t3 t4 t5 t6 t7 t8 : ℕ)
    → t1 < 256 → t2 < 256 → t3 < 256 → t4 < 256 → t5 < 256 → t6 < 256 → t7 < 256 → t8 < 256
    → t1 * 0x0101010001000001 ⊕ t2 * 0x0001010101010000 ⊕ t3 * 0x0100010100010100 ⊕ t4 * 0x0101000100000101
    ⊕ t5 * 0x0001010100010101 ⊕ t6 * 0x0100010101000101 ⊕ t7 * 0x0101000101010001 ⊕ t8 * 0x0101010001010100
    ≡ P t1 t2 t3 t4 t5 t6 t7 t8
unfolding P
columns-P t1 t2 t3 t4 t5 t6 t7 t8 h1 h2 h3 h4 h5 h6 h7 h8 =
    let c1 : Is (t1 * 0x0101010001000001) t1 t1 t1 0 t1 0 0 t1 = record { is = omega arith; bytes = eight h1 h1 h1 z h1 z z h1 } in
    let c2 : Is (t2 * 0x0001010101010000) 0 t2 t2 t2 t2 t2 0 0 = record { is = omega arith; bytes = eight z h2 h2 h2 h2 h2 z z } in
    let c3 : Is (t3 * 0x0100010100010100) t3 0 t3 t3 0 t3 t3 0 = record { is = omega arith; bytes = eight h3 z h3 h3 z h3 h3 z } in
    let c4 : Is (t4 * 0x0101000100000101) t4 t4 0 t4 0 0 t4 t4 = record { is = omega arith; bytes = eight h4 h4 z h4 z z h4 h4 } in
    let c5 : Is (t5 * 0x0001010100010101) 0 t5 t5 t5 0 t5 t5 t5 = record { is = omega arith; bytes = eight z h5 h5 h5 z h5 h5 h5 } in
    let c6 : Is (t6 * 0x0100010101000101) t6 0 t6 t6 t6 0 t6 t6 = record { is = omega arith; bytes = eight h6 z h6 h6 h6 z h6 h6 } in
    let c7 : Is (t7 * 0x0101000101010001) t7 t7 0 t7 t7 t7 0 t7 = record { is = omega arith; bytes = eight h7 h7 z h7 h7 h7 z h7 } in
    let c8 : Is (t8 * 0x0101010001010100) t8 t8 t8 0 t8 t8 t8 0 = record { is = omega arith; bytes = eight h8 h8 h8 z h8 h8 h8 z } in
    let seventh : bit_xor (bit_xor (bit_xor (bit_xor (bit_xor t3 t4) t5) t6) 0) t8 ≡ t3 ⊕ t4 ⊕ t5 ⊕ t6 ⊕ t8 = simp xor_zero_r in
    (xor_is (xor_is (xor_is (xor_is (xor_is (xor_is (xor_is c1 c2) c3) c4) c5) c6) c7) c8).is
    ∙ same (simp xor_zero_r (simp xors)) (simp xor_zero_r (simp xors)) (simp xor_zero_r (simp xors)) (simp xor_zero_r (simp xors))
    (simp xor_zero_r (simp xors)) (simp xor_zero_r (simp xors)) seventh (simp xor_zero_r (simp xors))
