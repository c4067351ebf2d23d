-- The functions of a half give halves.
use Rattle.std.proofs.Common.{◌≡◌, ℕ, ◌+◌, ◌*◌, ◌/◌, ◌%◌, ◌^◌, ◌<◌, arith}
use lib.ListN.{get_or-map}
use lib.Bits.{bit_or, or_lt, xor_lt}
use Rattle.camellia.specs.Numbers.{rotl, join8, ◌⊕◌}
use Rattle.camellia.specs.Sbox.{s1, s2, s3, s4, s1table}
use Rattle.camellia.specs.Functions.{P, PS, F, FL, FLINV, fl_right, fl_left}
use Rattle.camellia.proofs.Undo.{fl_right-lt}

-- the table is its own remainders by 256, which antt computes
s1-byte : (x : ℕ) → s1 x ≡ s1 x % 256
unfolding s1 s1table
s1-byte x = get_or-map (λ v. v % 256) s1table x 0

pub s1-lt : (x : ℕ) → s1 x < 256
s1-lt x = omega (arith, s1-byte x)

pub s2-lt : (x : ℕ) → s2 x < 256
s2-lt x = let h = s1-lt x in or_lt 8 ((s1 x * 2 ^ 1) % 2 ^ 8) (s1 x / 2 ^ 7) (omega arith) (omega arith)

pub s3-lt : (x : ℕ) → s3 x < 256
s3-lt x = let h = s1-lt x in or_lt 8 (s1 x / 2 ^ 1) ((s1 x * 2 ^ 7) % 2 ^ 8) (omega arith) (omega arith)

pub s4-lt : (x : ℕ) → s4 x < 256
s4-lt x = s1-lt (rotl 8 1 x)

five : (a b c d e : ℕ) → a < 256 → b < 256 → c < 256 → d < 256 → e < 256 → (a ⊕ b ⊕ c ⊕ d ⊕ e) < 256
five a b c d e ha hb hc hd he = xor_lt 8 (a ⊕ b ⊕ c ⊕ d) e (xor_lt 8 (a ⊕ b ⊕ c) d (xor_lt 8 (a ⊕ b) c (xor_lt 8 a b ha hb) hc) hd) he

six : (a b c d e f : ℕ) → a < 256 → b < 256 → c < 256 → d < 256 → e < 256 → f < 256 → (a ⊕ b ⊕ c ⊕ d ⊕ e ⊕ f) < 256
six a b c d e f ha hb hc hd he hf = xor_lt 8 (a ⊕ b ⊕ c ⊕ d ⊕ e) f (five a b c d e ha hb hc hd he) hf

pub join8-lt : (a b c d e f g h : ℕ) → a < 256 → b < 256 → c < 256 → d < 256 → e < 256 → f < 256 → g < 256 → h < 256
    → join8 a b c d e f g h < 2 ^ 64
join8-lt a b c d e f g h ha hb hc hd he hf hg hh = omega arith

P-lt : (a b c d e f g h : ℕ) → a < 256 → b < 256 → c < 256 → d < 256 → e < 256 → f < 256 → g < 256 → h < 256
    → P a b c d e f g h < 2 ^ 64
unfolding P
P-lt a b c d e f g h ha hb hc hd he hf hg hh =
    join8-lt (a ⊕ c ⊕ d ⊕ f ⊕ g ⊕ h) (a ⊕ b ⊕ d ⊕ e ⊕ g ⊕ h) (a ⊕ b ⊕ c ⊕ e ⊕ f ⊕ h) (b ⊕ c ⊕ d ⊕ e ⊕ f ⊕ g)
    (a ⊕ b ⊕ f ⊕ g ⊕ h) (b ⊕ c ⊕ e ⊕ g ⊕ h) (c ⊕ d ⊕ e ⊕ f ⊕ h) (a ⊕ d ⊕ e ⊕ f ⊕ g)
    (six a c d f g h ha hc hd hf hg hh) (six a b d e g h ha hb hd he hg hh) (six a b c e f h ha hb hc he hf hh) (six b c d e f g hb hc hd he hf hg)
    (five a b f g h ha hb hf hg hh) (five b c e g h hb hc he hg hh) (five c d e f h hc hd he hf hh) (five a d e f g ha hd he hf hg)

PS-lt : (y : ℕ) → PS y < 2 ^ 64
unfolding PS
PS-lt y =
    P-lt (s1 (y / 2 ^ 56 % 256)) (s2 (y / 2 ^ 48 % 256)) (s3 (y / 2 ^ 40 % 256)) (s4 (y / 2 ^ 32 % 256))
    (s2 (y / 2 ^ 24 % 256)) (s3 (y / 2 ^ 16 % 256)) (s4 (y / 2 ^ 8 % 256)) (s1 (y % 256))
    (s1-lt (y / 2 ^ 56 % 256)) (s2-lt (y / 2 ^ 48 % 256)) (s3-lt (y / 2 ^ 40 % 256)) (s4-lt (y / 2 ^ 32 % 256))
    (s2-lt (y / 2 ^ 24 % 256)) (s3-lt (y / 2 ^ 16 % 256)) (s4-lt (y / 2 ^ 8 % 256)) (s1-lt (y % 256))

pub F-lt : (x k : ℕ) → F x k < 2 ^ 64
unfolding F
F-lt x k = PS-lt (x ⊕ k)

parts_lt : (l r : ℕ) → l < 2 ^ 32 → r < 2 ^ 32 → l * 2 ^ 32 + r < 2 ^ 64
parts_lt l r hl hr = omega arith

fl_left-lt : (k x r : ℕ) → k < 2 ^ 32 → x < 2 ^ 32 → r < 2 ^ 32 → fl_left k x r < 2 ^ 32
fl_left-lt k x r hk hx hr = xor_lt 32 (bit_or r k) x (or_lt 32 r k hr hk) hx

pub FL-lt : (x k : ℕ) → x < 2 ^ 64 → FL x k < 2 ^ 64
unfolding FL
FL-lt x k h =
    let a : ℕ = k / 2 ^ 32 % 2 ^ 32 in
    let yr : ℕ = fl_right a (x / 2 ^ 32) (x % 2 ^ 32) in
    let hr : yr < 2 ^ 32 = fl_right-lt a (x / 2 ^ 32) (x % 2 ^ 32) (omega arith) (omega arith) in
    parts_lt (fl_left (k % 2 ^ 32) (x / 2 ^ 32) yr) yr (fl_left-lt (k % 2 ^ 32) (x / 2 ^ 32) yr (omega arith) (omega arith) hr) hr

pub FLINV-lt : (y k : ℕ) → y < 2 ^ 64 → FLINV y k < 2 ^ 64
unfolding FLINV
FLINV-lt y k h =
    let a : ℕ = k / 2 ^ 32 % 2 ^ 32 in
    let xl : ℕ = fl_left (k % 2 ^ 32) (y / 2 ^ 32) (y % 2 ^ 32) in
    let hl : xl < 2 ^ 32 = fl_left-lt (k % 2 ^ 32) (y / 2 ^ 32) (y % 2 ^ 32) (omega arith) (omega arith) (omega arith) in
    parts_lt xl (fl_right a xl (y % 2 ^ 32)) hl (fl_right-lt a xl (y % 2 ^ 32) (omega arith) (omega arith))
