-- The key schedule (RFC 3713, section 2.2).
use Rattle.std.specs.Prelude.{ℕ, ◌+◌, ◌-◌, ◌*◌, ◌/◌, ◌%◌, ◌^◌, cond, List, [], ◌∷◌, map, length, ◌==◌}
use Rattle.camellia.specs.Numbers.{rotl, ◌⊕◌, half_at}
use Rattle.camellia.specs.Rounds.{State, st, run, backward}
use Rattle.camellia.specs.declared.plan.Layer.{Layer}
use Rattle.camellia.specs.declared.plan.Layer.TheVariants.{Round, Fl}
use Rattle.camellia.specs.declared.plan.Material.{Material}
use Rattle.camellia.specs.declared.plan.Slot.{Slot}
use Rattle.camellia.specs.declared.plan.Slot.TheVariants.{Left, Right}
use Rattle.camellia.specs.declared.plan.Whitening.{Whitening}
use Rattle.camellia.specs.declared.plan.Source.{Source}
use Rattle.camellia.specs.declared.plan.Source.TheVariants.{KL, KR, KA, KB}

-- a number of 128 bits and its two halves
abbrev pub joined : ℕ → ℕ → ℕ
joined l r = l * 2 ^ 64 + r

abbrev pub left_half : ℕ → ℕ
left_half x = x / 2 ^ 64

abbrev pub right_half : ℕ → ℕ
right_half x = x % 2 ^ 64

abbrev pub halves : ℕ → State
halves x = st (left_half x) (right_half x)

-- K_L is the first 16 bytes of a key
abbrev pub key_l : List ℕ → ℕ
key_l key = joined (half_at key 0) (half_at key 8)

-- the last 8 bytes of a 24-byte key, then their complement
abbrev pub with_complement : ℕ → ℕ
with_complement r = joined r (2 ^ 64 - 1 - r)

-- K_R by the key's length
unfoldable pub key_r : List ℕ → ℕ
key_r key =
    cond (length key == 16) 0
    (cond (length key == 24) (with_complement (half_at key 16)) (joined (half_at key 16) (half_at key 24)))

-- two rounds under two constants
unfoldable pub mixed : ℕ → ℕ → ℕ → ℕ
mixed a b x = let s = run (Round a ∷ Round b ∷ []) (halves x) in joined s.left s.right

-- K_A and K_B under the constants Sigma1 to Sigma6
abbrev pub material : ℕ → ℕ → Material
material l r =
    let t = mixed 0xA09E667F3BCC908B 0xB67AE8584CAA73B2 (l ⊕ r) in
    let a = mixed 0xC6EF372FE94F82BE 0x54FF53A5F1D36F1C (t ⊕ l) in
    let b = mixed 0x10E527FADE682D1D 0xB05688C2B3E6C1FD (a ⊕ r) in
    record { kl = l; kr = r; ka = a; kb = b }

abbrev pub from : Material → Source → ℕ
from m KL = m.kl
from m KR = m.kr
from m KA = m.ka
from m KB = m.kb

abbrev pub subkey : Material → Slot → ℕ
subkey m (Left s n) = left_half (rotl 128 n (from m s))
subkey m (Right s n) = right_half (rotl 128 n (from m s))

-- ---- the tables: which half of which source, rotated how far
abbrev k : Slot → Layer Slot
k s = Round s

abbrev ke : Source → ℕ → Layer Slot
ke s n = Fl (Left s n) (Right s n)

-- 18 rounds and 4 keys of FL, for 16-byte keys
abbrev pub whitening18 : Whitening Slot
whitening18 = record { kw1 = Left KL 0; kw2 = Right KL 0; kw3 = Left KA 111; kw4 = Right KA 111 }

abbrev pub layers18 : List (Layer Slot)
layers18 =
    k (Left KA 0) ∷ k (Right KA 0) ∷ k (Left KL 15) ∷ k (Right KL 15) ∷ k (Left KA 15) ∷ k (Right KA 15) ∷ ke KA 30
    ∷ k (Left KL 45) ∷ k (Right KL 45) ∷ k (Left KA 45) ∷ k (Right KL 60) ∷ k (Left KA 60) ∷ k (Right KA 60) ∷ ke KL 77
    ∷ k (Left KL 94) ∷ k (Right KL 94) ∷ k (Left KA 94) ∷ k (Right KA 94) ∷ k (Left KL 111) ∷ k (Right KL 111) ∷ []

-- 24 rounds and 6 keys of FL, for 24- and 32-byte keys
abbrev pub whitening24 : Whitening Slot
whitening24 = record { kw1 = Left KL 0; kw2 = Right KL 0; kw3 = Left KB 111; kw4 = Right KB 111 }

abbrev pub layers24 : List (Layer Slot)
layers24 =
    k (Left KB 0) ∷ k (Right KB 0) ∷ k (Left KR 15) ∷ k (Right KR 15) ∷ k (Left KA 15) ∷ k (Right KA 15) ∷ ke KR 30
    ∷ k (Left KB 30) ∷ k (Right KB 30) ∷ k (Left KL 45) ∷ k (Right KL 45) ∷ k (Left KA 45) ∷ k (Right KA 45) ∷ ke KL 60
    ∷ k (Left KR 60) ∷ k (Right KR 60) ∷ k (Left KB 60) ∷ k (Right KB 60) ∷ k (Left KL 77) ∷ k (Right KL 77) ∷ ke KA 77
    ∷ k (Left KR 94) ∷ k (Right KR 94) ∷ k (Left KA 94) ∷ k (Right KA 94) ∷ k (Left KL 111) ∷ k (Right KL 111) ∷ []

-- ---- the subkeys that a table takes from the key material
pub record Schedule : Type 0 where
  pub kw : Whitening ℕ
  pub layers : List (Layer ℕ)

abbrev pub layer_of : Material → Layer Slot → Layer ℕ
layer_of m (Round s) = Round (subkey m s)
layer_of m (Fl s t) = Fl (subkey m s) (subkey m t)

abbrev pub whitening_of : Material → Whitening Slot → Whitening ℕ
whitening_of m w = record { kw1 = subkey m w.kw1; kw2 = subkey m w.kw2; kw3 = subkey m w.kw3; kw4 = subkey m w.kw4 }

abbrev pub scheduled : Material → Whitening Slot → List (Layer Slot) → Schedule
scheduled m w ys = record { kw = whitening_of m w; layers = map (layer_of m) ys }

unfoldable pub schedule : List ℕ → Schedule
schedule key =
    let m = material (key_l key) (key_r key) in
    cond (length key == 16) (scheduled m whitening18 layers18) (scheduled m whitening24 layers24)

-- the same subkeys in the reverse order
abbrev pub reversed : Schedule → Schedule
reversed s = record {
  kw = record { kw1 = s.kw.kw3; kw2 = s.kw.kw4; kw3 = s.kw.kw1; kw4 = s.kw.kw2 };
  layers = backward s.layers;
}
