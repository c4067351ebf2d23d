-- And, or and a rotation over xor.
use Rattle.std.proofs.Common.{ℕ, zero, suc, ◌+◌, ◌-◌, ◌*◌, ◌/◌, ◌%◌, ◌^◌, ◌≤◌, ◌<◌, ◌≡◌, refl, sym, ap, ap₂, ◌∙◌, arith, bit_and, bit_or, bit_xor}
use Rattle.std.specs.Int.Bits.{xor_add_and}
use Rattle.std.proofs.Math.Arith.{bin_ind}
use Rattle.std.proofs.lemmas.Nat.{and_shr, or_shr, xor_shr, and_mod, or_mod, xor_mod, and_mask, and_comm, xor_comm, xor_lt, xor_block, or_shifted}
use Rattle.camellia.specs.Numbers.{rotl, ◌⊕◌}

-- ---- functions of three numbers that go digit by digit agree everywhere if they agree on digits
record Bitwise (f : ℕ → ℕ → ℕ → ℕ) : Type 0 where
  half : (a b c : ℕ) → f a b c / 2 ≡ f (a / 2) (b / 2) (c / 2)
  low : (a b c : ℕ) → f a b c % 2 ≡ f (a % 2) (b % 2) (c % 2)

module _ (f g : ℕ → ℕ → ℕ → ℕ) (p : Bitwise f) (q : Bitwise g)
    (digit : (a b c : ℕ) → f (a % 2) (b % 2) (c % 2) ≡ g (a % 2) (b % 2) (c % 2)) where
  agree_below : (n a b c : ℕ) → a ≤ n → b ≤ n → c ≤ n → f a b c ≡ g a b c
  agree_below =
      bin_ind (λ (n : ℕ). (a b c : ℕ) → a ≤ n → b ≤ n → c ≤ n → f a b c ≡ g a b c)
      (λ a b c ha hb hc.
      let ea : a ≡ a % 2 = omega arith in
      let eb : b ≡ b % 2 = omega arith in
      let ec : c ≡ c % 2 = omega arith in
      (λ i. f (ea i) (eb i) (ec i)) ∙ digit a b c ∙ sym (λ i. g (ea i) (eb i) (ec i)))
      (λ n ih a b c ha hb hc.
      let high : f a b c / 2 ≡ g a b c / 2 = p.half a b c ∙ ih (a / 2) (b / 2) (c / 2) (omega arith) (omega arith) (omega arith) ∙ sym (q.half a b c) in
      let low : f a b c % 2 ≡ g a b c % 2 = p.low a b c ∙ digit a b c ∙ sym (q.low a b c) in
      omega arith)

  agree : (a b c : ℕ) → f a b c ≡ g a b c
  agree a b c = agree_below (a + b + c) a b c (omega arith) (omega arith) (omega arith)

-- a digit is 0 or 1
digits : (P : ℕ → Type 0) → P 0 → P 1 → (n : ℕ) → P (n % 2)
digits P p q n = go (n % 2) (omega arith)
  where
    go : (r : ℕ) → r < 2 → P r
    go zero h = p
    go (suc zero) h = q
    go (suc (suc r)) h = absurd (omega arith)

-- what holds of three digits, by its eight cases
digits3 : (P : ℕ → ℕ → ℕ → Type 0)
    → P 0 0 0 → P 0 0 1 → P 0 1 0 → P 0 1 1 → P 1 0 0 → P 1 0 1 → P 1 1 0 → P 1 1 1
    → (a b c : ℕ) → P (a % 2) (b % 2) (c % 2)
digits3 P p0 p1 p2 p3 p4 p5 p6 p7 a b c =
    digits (λ x. P x (b % 2) (c % 2))
    (digits (λ y. P 0 y (c % 2)) (digits (λ z. P 0 0 z) p0 p1 c) (digits (λ z. P 0 1 z) p2 p3 c) b)
    (digits (λ y. P 1 y (c % 2)) (digits (λ z. P 1 0 z) p4 p5 c) (digits (λ z. P 1 1 z) p6 p7 c) b)
    a

and_half : (a b : ℕ) → bit_and a b / 2 ≡ bit_and (a / 2) (b / 2)
and_half a b = and_shr a b 1

or_half : (a b : ℕ) → bit_or a b / 2 ≡ bit_or (a / 2) (b / 2)
or_half a b = or_shr a b 1

xor_half : (a b : ℕ) → bit_xor a b / 2 ≡ bit_xor (a / 2) (b / 2)
xor_half a b = xor_shr a b 1

and_low : (a b : ℕ) → bit_and a b % 2 ≡ bit_and (a % 2) (b % 2)
and_low a b = and_mod a b 1

or_low : (a b : ℕ) → bit_or a b % 2 ≡ bit_or (a % 2) (b % 2)
or_low a b = or_mod a b 1

xor_low : (a b : ℕ) → bit_xor a b % 2 ≡ bit_xor (a % 2) (b % 2)
xor_low a b = xor_mod a b 1

ruleset halves = (and_half, or_half, xor_half)

ruleset lows = (and_low, or_low, xor_low)

pub and_xor : (a b c : ℕ) → bit_and (a ⊕ b) c ≡ bit_and a c ⊕ bit_and b c
and_xor =
    agree (λ a b c. bit_and (a ⊕ b) c) (λ a b c. bit_and a c ⊕ bit_and b c)
    (record { half = λ a b c. simp halves; low = λ a b c. simp lows }) (record { half = λ a b c. simp halves; low = λ a b c. simp lows })
    (digits3 (λ a b c. bit_and (a ⊕ b) c ≡ bit_and a c ⊕ bit_and b c) refl refl refl refl refl refl refl refl)

pub or-xor : (a b c : ℕ) → bit_or (a ⊕ b) c ≡ bit_or a c ⊕ (b ⊕ bit_and b c)
or-xor =
    agree (λ a b c. bit_or (a ⊕ b) c) (λ a b c. bit_or a c ⊕ (b ⊕ bit_and b c))
    (record { half = λ a b c. simp halves; low = λ a b c. simp lows }) (record { half = λ a b c. simp halves; low = λ a b c. simp lows })
    (digits3 (λ a b c. bit_or (a ⊕ b) c ≡ bit_or a c ⊕ (b ⊕ bit_and b c)) refl refl refl refl refl refl refl refl)

-- d and not b: what of d is not in b
pub and-not : (d b : ℕ) → d < 2 ^ 32 → b < 2 ^ 32 → bit_and d (2 ^ 32 - 1 - b) ≡ d ⊕ bit_and d b
and-not d b hd hb =
    let e : 2 ^ 32 - 1 - b ≡ b ⊕ (2 ^ 32 - 1) = omega (arith, xor_add_and b (2 ^ 32 - 1), and_mask b 32) in
    let all : bit_and (2 ^ 32 - 1) d ≡ d = and_comm (2 ^ 32 - 1) d ∙ and_mask d 32 ∙ omega arith in
    and_comm d (2 ^ 32 - 1 - b) ∙ ap (λ t. bit_and t d) e ∙ and_xor b (2 ^ 32 - 1) d
    ∙ ap₂ ◌⊕◌ (and_comm b d) all ∙ xor_comm (bit_and d b) d

rotl_sum : (u : ℕ) → u < 2 ^ 32 → rotl 32 1 u ≡ (u % 2 ^ 31) * 2 + u / 2 ^ 31
rotl_sum u h =
    let e : (u * 2) % 2 ^ 32 ≡ (u % 2 ^ 31) * 2 = omega arith in
    ap (λ t. bit_or t (u / 2 ^ 31)) e ∙ or_shifted (u % 2 ^ 31) 1 (u / 2 ^ 31) (omega arith)

pub rotl-xor : (u v : ℕ) → u < 2 ^ 32 → v < 2 ^ 32 → rotl 32 1 (u ⊕ v) ≡ rotl 32 1 u ⊕ rotl 32 1 v
rotl-xor u v hu hv =
    rotl_sum (u ⊕ v) (xor_lt 32 u v hu hv)
    ∙ ap₂ (λ s t. s * 2 + t) (xor_mod u v 31) (xor_shr u v 31)
    ∙ sym (xor_block 1 (u % 2 ^ 31) (v % 2 ^ 31) (u / 2 ^ 31) (v / 2 ^ 31) (omega arith) (omega arith))
    ∙ sym (ap₂ ◌⊕◌ (rotl_sum u hu) (rotl_sum v hv))
