-- Numbers of 64 bits stay so: through the layers, and in the schedule of a key.
use Rattle.std.proofs.Common.{ℕ, ◌+◌, ◌-◌, ◌*◌, ◌/◌, ◌%◌, ◌^◌, ◌<◌, Bool, true, false, cond, eqb, List, [], ◌∷◌, length, get_or, arith}
use lib.Bits.{bit_xor, or_lt, xor_lt}
use Rattle.std.proofs.lemmas.Nat.{shr_le}
use Rattle.octets.specs.Octets.{Bytes}
use Rattle.camellia.specs.Numbers.{rotl, half_at}
use Rattle.camellia.specs.Functions.{F}
use Rattle.camellia.specs.Rounds.{State, step, run, swapped, whitened}
use Rattle.camellia.specs.Keys.{joined, left_half, right_half, halves, mixed, material, from, subkey, key_l, key_r, Schedule, schedule, scheduled, reversed, whitening18, whitening24, layers18, layers24}
use Rattle.camellia.specs.Cipher.{encrypt}
use Rattle.camellia.specs.declared.plan.Layer.{Layer}
use Rattle.camellia.specs.declared.plan.Layer.TheVariants.{Round, Fl}
use Rattle.camellia.specs.declared.plan.Material.{Material}
use Rattle.camellia.specs.declared.plan.Slot.{Slot}
use Rattle.camellia.specs.declared.plan.Slot.TheVariants.{Left, Right}
use Rattle.camellia.specs.declared.plan.Source.{Source}
use Rattle.camellia.specs.declared.plan.Source.TheVariants.{KL, KR, KA, KB}
use Rattle.camellia.specs.declared.plan.Whitening.{Whitening}
use Rattle.camellia.proofs.Range.{F-lt, FL-lt, FLINV-lt, join8-lt}

pub record Small (s : State) : Type 0 where
  pub left_lt : s.left < 2 ^ 64
  pub right_lt : s.right < 2 ^ 64

pub record SmallKeys (w : Whitening ℕ) : Type 0 where
  pub lt1 : w.kw1 < 2 ^ 64
  pub lt2 : w.kw2 < 2 ^ 64
  pub lt3 : w.kw3 < 2 ^ 64
  pub lt4 : w.kw4 < 2 ^ 64

step_small : (y : Layer ℕ) (s : State) → Small s → Small (step y s)
step_small (Round k) s p = record { left_lt = xor_lt 64 s.right (F s.left k) p.right_lt (F-lt s.left k); right_lt = p.left_lt }
step_small (Fl a b) s p = record { left_lt = FL-lt s.left a p.left_lt; right_lt = FLINV-lt s.right b p.right_lt }

pub run_small : (ys : List (Layer ℕ)) (s : State) → Small s → Small (run ys s)
unfolding run
run_small [] s p = p
run_small (y ∷ ys) s p = run_small ys (step y s) (step_small y s p)

whitened-small : (a b : ℕ) (s : State) → a < 2 ^ 64 → b < 2 ^ 64 → Small s → Small (whitened a b s)
whitened-small a b s ha hb p = record { left_lt = xor_lt 64 s.left a p.left_lt ha; right_lt = xor_lt 64 s.right b p.right_lt hb }

swapped-small : (s : State) → Small s → Small (swapped s)
swapped-small s p = record { left_lt = p.right_lt; right_lt = p.left_lt }

pub encrypt-small : (k : Schedule) (m : State) → SmallKeys k.kw → Small m → Small (encrypt k m)
unfolding encrypt
encrypt-small k m h p =
    let w = k.kw in
    let s : State = whitened w.kw1 w.kw2 m in
    whitened-small w.kw3 w.kw4 (swapped (run k.layers s)) h.lt3 h.lt4
    (swapped-small (run k.layers s) (run_small k.layers s (whitened-small w.kw1 w.kw2 m h.lt1 h.lt2 p)))

pub reversed-small : (k : Schedule) → SmallKeys k.kw → SmallKeys (reversed k).kw
reversed-small k h = record { lt1 = h.lt3; lt2 = h.lt4; lt3 = h.lt1; lt4 = h.lt2 }

-- ---- the schedule of a key
rotl128_lt : (n x : ℕ) → x < 2 ^ 128 → rotl 128 n x < 2 ^ 128
rotl128_lt n x h =
    let d : ℕ = (128 - n % 128) % 128 in
    or_lt 128 ((x * 2 ^ (n % 128)) % 2 ^ 128) (x / 2 ^ d) (omega arith) (omega (arith, shr_le x d))

left_half_lt : (x : ℕ) → x < 2 ^ 128 → left_half x < 2 ^ 64
left_half_lt x p = omega arith

right_half_lt : (x : ℕ) → right_half x < 2 ^ 64
right_half_lt x = omega arith

pub record Wide (m : Material) : Type 0 where
  pub l_lt : m.kl < 2 ^ 128
  pub r_lt : m.kr < 2 ^ 128
  pub a_lt : m.ka < 2 ^ 128
  pub b_lt : m.kb < 2 ^ 128

from-lt : (m : Material) (s : Source) → Wide m → from m s < 2 ^ 128
from-lt m KL w = w.l_lt
from-lt m KR w = w.r_lt
from-lt m KA w = w.a_lt
from-lt m KB w = w.b_lt

subkey-lt : (m : Material) (s : Slot) → Wide m → subkey m s < 2 ^ 64
subkey-lt m (Left s n) w = left_half_lt (rotl 128 n (from m s)) (rotl128_lt n (from m s) (from-lt m s w))
subkey-lt m (Right s n) w = right_half_lt (rotl 128 n (from m s))

joined-lt : (l r : ℕ) → l < 2 ^ 64 → r < 2 ^ 64 → joined l r < 2 ^ 128
joined-lt l r hl hr = omega arith

mixed-lt : (a b x : ℕ) → x < 2 ^ 128 → mixed a b x < 2 ^ 128
unfolding mixed
mixed-lt a b x h =
    let ys : List (Layer ℕ) = Round a ∷ Round b ∷ [] in
    let p : Small (run ys (halves x)) = run_small ys (halves x) (record { left_lt = left_half_lt x h; right_lt = right_half_lt x }) in
    joined-lt (run ys (halves x)).left (run ys (halves x)).right p.left_lt p.right_lt

pub material-wide : (l r : ℕ) → l < 2 ^ 128 → r < 2 ^ 128 → Wide (material l r)
material-wide l r hl hr =
    let t : ℕ = mixed 0xA09E667F3BCC908B 0xB67AE8584CAA73B2 (bit_xor l r) in
    let ht : t < 2 ^ 128 = mixed-lt 0xA09E667F3BCC908B 0xB67AE8584CAA73B2 (bit_xor l r) (xor_lt 128 l r hl hr) in
    let a : ℕ = mixed 0xC6EF372FE94F82BE 0x54FF53A5F1D36F1C (bit_xor t l) in
    let ha : a < 2 ^ 128 = mixed-lt 0xC6EF372FE94F82BE 0x54FF53A5F1D36F1C (bit_xor t l) (xor_lt 128 t l ht hl) in
    record { l_lt = hl; r_lt = hr; a_lt = ha; b_lt = mixed-lt 0x10E527FADE682D1D 0xB05688C2B3E6C1FD (bit_xor a r) (xor_lt 128 a r ha hr) }

pub half_at-lt : (bs : List ℕ) (i : ℕ) → Bytes bs → half_at bs i < 2 ^ 64
half_at-lt bs i h =
    join8-lt (get_or bs i 0) (get_or bs (i + 1) 0) (get_or bs (i + 2) 0) (get_or bs (i + 3) 0) (get_or bs (i + 4) 0) (get_or bs (i + 5) 0) (get_or bs (i + 6) 0) (get_or bs (i + 7) 0)
    (h i) (h (i + 1)) (h (i + 2)) (h (i + 3)) (h (i + 4)) (h (i + 5)) (h (i + 6)) (h (i + 7))

pub key_l-lt : (key : List ℕ) → Bytes key → key_l key < 2 ^ 128
key_l-lt key h = joined-lt (half_at key 0) (half_at key 8) (half_at-lt key 0 h) (half_at-lt key 8 h)

cond-lt : (b : Bool) (x y n : ℕ) → x < n → y < n → cond b x y < n
cond-lt true x y n hx hy = hx
cond-lt false x y n hx hy = hy

pub key_r-lt : (key : List ℕ) → Bytes key → key_r key < 2 ^ 128
unfolding key_r
key_r-lt key h =
    let r : ℕ = half_at key 16 in
    let hr : r < 2 ^ 64 = half_at-lt key 16 h in
    let low : ℕ = cond (eqb (length key) 24) (joined r (2 ^ 64 - 1 - r)) (joined r (half_at key 24)) in
    cond-lt (eqb (length key) 16) 0 low (2 ^ 128) (omega arith)
    (cond-lt (eqb (length key) 24) (joined r (2 ^ 64 - 1 - r)) (joined r (half_at key 24)) (2 ^ 128) (omega arith) (joined-lt r (half_at key 24) hr (half_at-lt key 24 h)))

scheduled-small : (m : Material) (w : Whitening Slot) (ys : List (Layer Slot)) → Wide m → SmallKeys (scheduled m w ys).kw
scheduled-small m w ys h = record { lt1 = subkey-lt m w.kw1 h; lt2 = subkey-lt m w.kw2 h; lt3 = subkey-lt m w.kw3 h; lt4 = subkey-lt m w.kw4 h }

pub schedule-small : (key : List ℕ) → Bytes key → SmallKeys (schedule key).kw
unfolding schedule
schedule-small key h =
    let m : Material = material (key_l key) (key_r key) in
    let w : Wide m = material-wide (key_l key) (key_r key) (key_l-lt key h) (key_r-lt key h) in
    either (eqb (length key) 16) (scheduled m whitening18 layers18) (scheduled m whitening24 layers24)
    (scheduled-small m whitening18 layers18 w) (scheduled-small m whitening24 layers24 w)
  where
    either : (b : Bool) (x y : Schedule) → SmallKeys x.kw → SmallKeys y.kw → SmallKeys (cond b x y).kw
    either true x y p q = p
    either false x y p q = q
