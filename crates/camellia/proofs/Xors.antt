-- Sums by xor: what stands twice is gone.
use Rattle.std.proofs.Common.{◌≡◌, ℕ, sym, ap, ◌∙◌}
use lib.Bits.{bit_xor, xor_assoc, xor_comm, xor_self, xor_zero_r}

pub xor-back : (a b : ℕ) → bit_xor a (bit_xor a b) ≡ b
xor-back a b = sym (xor_assoc a a b) ∙ ap (λ t. bit_xor t b) (xor_self a)

pub xor-off : (a b : ℕ) → bit_xor (bit_xor a b) b ≡ a
xor-off a b = xor_assoc a b b ∙ ap (λ t. bit_xor a t) (xor_self b) ∙ xor_zero_r a

pub xor-left-comm : (a b c : ℕ) → bit_xor a (bit_xor b c) ≡ bit_xor b (bit_xor a c)
xor-left-comm a b c = sym (xor_assoc a b c) ∙ ap (λ t. bit_xor t c) (xor_comm a b) ∙ xor_assoc b a c

-- both sides of an equation, sorted
pub ruleset xors = (xor_assoc, xor_comm, xor-left-comm, xor_self, xor-back, xor_zero_r)
