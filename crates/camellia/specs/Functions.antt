-- The functions of a 64-bit half: S, P and F, FL and its inverse (RFC 3713, section 2.4).
use Rattle.std.specs.Prelude.{ℕ, ◌+◌, ◌*◌, ◌/◌, ◌%◌, ◌^◌, bit_and, bit_or}
use Rattle.camellia.specs.Numbers.{rotl, join8, ◌⊕◌}
use Rattle.camellia.specs.Sbox.{s1, s2, s3, s4}

-- eight sums of bytes
unfoldable pub P : ℕ → ℕ → ℕ → ℕ → ℕ → ℕ → ℕ → ℕ → ℕ
P t1 t2 t3 t4 t5 t6 t7 t8 =
    join8
    (t1 ⊕ t3 ⊕ t4 ⊕ t6 ⊕ t7 ⊕ t8) (t1 ⊕ t2 ⊕ t4 ⊕ t5 ⊕ t7 ⊕ t8)
    (t1 ⊕ t2 ⊕ t3 ⊕ t5 ⊕ t6 ⊕ t8) (t2 ⊕ t3 ⊕ t4 ⊕ t5 ⊕ t6 ⊕ t7)
    (t1 ⊕ t2 ⊕ t6 ⊕ t7 ⊕ t8) (t2 ⊕ t3 ⊕ t5 ⊕ t7 ⊕ t8)
    (t3 ⊕ t4 ⊕ t5 ⊕ t6 ⊕ t8) (t1 ⊕ t4 ⊕ t5 ⊕ t6 ⊕ t7)

-- S on the bytes of x, then P
unfoldable pub PS : ℕ → ℕ
PS x =
    P (s1 (x / 2 ^ 56 % 256)) (s2 (x / 2 ^ 48 % 256)) (s3 (x / 2 ^ 40 % 256)) (s4 (x / 2 ^ 32 % 256))
    (s2 (x / 2 ^ 24 % 256)) (s3 (x / 2 ^ 16 % 256)) (s4 (x / 2 ^ 8 % 256)) (s1 (x % 256))

unfoldable pub F : ℕ → ℕ → ℕ
F x k = PS (x ⊕ k)

-- one 32-bit part of FL and of its inverse, from the other part and a part of the key
abbrev pub fl_right : ℕ → ℕ → ℕ → ℕ
fl_right k1 x1 x2 = rotl 32 1 (bit_and x1 k1) ⊕ x2

abbrev pub fl_left : ℕ → ℕ → ℕ → ℕ
fl_left k2 x1 x2 = bit_or x2 k2 ⊕ x1

unfoldable pub FL : ℕ → ℕ → ℕ
FL x k =
    let y2 = fl_right (k / 2 ^ 32 % 2 ^ 32) (x / 2 ^ 32) (x % 2 ^ 32) in
    fl_left (k % 2 ^ 32) (x / 2 ^ 32) y2 * 2 ^ 32 + y2

unfoldable pub FLINV : ℕ → ℕ → ℕ
FLINV y k =
    let x1 = fl_left (k % 2 ^ 32) (y / 2 ^ 32) (y % 2 ^ 32) in
    x1 * 2 ^ 32 + fl_right (k / 2 ^ 32 % 2 ^ 32) x1 (y % 2 ^ 32)
