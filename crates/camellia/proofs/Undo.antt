-- The layers in the reverse order undo the layers, whatever F is.
use Rattle.std.proofs.Common.{◌≡◌, ℕ, ◌*◌, ◌/◌, ◌%◌, ◌^◌, ◌<◌, List, [], ◌∷◌, ◌++◌, sym, refl, ap, ◌∙◌, ap₂, append_assoc, arith}
use lib.Bits.{bit_and, bit_or, or_lt, xor_lt, and_le_r}
use Rattle.std.proofs.lemmas.Nat.{shr_high, mod_low, shr_split}
use Rattle.camellia.specs.Numbers.{rotl}
use Rattle.camellia.specs.Functions.{F, FL, FLINV, fl_right, fl_left}
use Rattle.camellia.specs.Rounds.{State, st, step, run, swapped, whitened, turned, backward}
use Rattle.camellia.specs.Keys.{Schedule, reversed}
use Rattle.camellia.specs.Cipher.{encrypt}
use Rattle.camellia.specs.declared.plan.Layer.{Layer}
use Rattle.camellia.specs.declared.plan.Layer.TheVariants.{Round, Fl}
use Rattle.camellia.proofs.Xors.{xor-back, xor-off}

pub rotl32_lt : (v : ℕ) → v < 2 ^ 32 → rotl 32 1 v < 2 ^ 32
rotl32_lt v h = or_lt 32 ((v * 2 ^ 1) % 2 ^ 32) (v / 2 ^ 31) (omega arith) (omega arith)

pub fl_right-lt : (k x r : ℕ) → k < 2 ^ 32 → r < 2 ^ 32 → fl_right k x r < 2 ^ 32
fl_right-lt k x r hk hr =
    let h : bit_and x k < 2 ^ 32 = omega (arith, and_le_r x k) in
    xor_lt 32 (rotl 32 1 (bit_and x k)) r (rotl32_lt (bit_and x k) h) hr

pub FL-FLINV : (x k : ℕ) → FLINV (FL x k) k ≡ x
unfolding FL FLINV
FL-FLINV x k =
    let a : ℕ = k / 2 ^ 32 % 2 ^ 32 in
    let b : ℕ = k % 2 ^ 32 in
    let xl : ℕ = x / 2 ^ 32 in
    let xr : ℕ = x % 2 ^ 32 in
    let yr : ℕ = fl_right a xl xr in
    let yl : ℕ = fl_left b xl yr in
    let h : yr < 2 ^ 32 = fl_right-lt a xl xr (omega arith) (omega arith) in
    rw (shr_high yl 32 yr h, mod_low yl 32 yr h, xor-back (bit_or yr b) xl, xor-back (rotl 32 1 (bit_and xl a)) xr) (shr_split x 32)

pub FLINV-FL : (y k : ℕ) → FL (FLINV y k) k ≡ y
unfolding FL FLINV
FLINV-FL y k =
    let a : ℕ = k / 2 ^ 32 % 2 ^ 32 in
    let b : ℕ = k % 2 ^ 32 in
    let yl : ℕ = y / 2 ^ 32 in
    let yr : ℕ = y % 2 ^ 32 in
    let xl : ℕ = fl_left b yl yr in
    let xr : ℕ = fl_right a xl yr in
    let h : xr < 2 ^ 32 = fl_right-lt a xl yr (omega arith) (omega arith) in
    rw (shr_high xl 32 xr h, mod_low xl 32 xr h, xor-back (rotl 32 1 (bit_and xl a)) yr, xor-back (bit_or yr b) yl) (shr_split y 32)

step_back : (y : Layer ℕ) (s : State) → step (turned y) (swapped (step y s)) ≡ swapped s
step_back (Round k) s = ap (λ t. st t s.left) (xor-off s.right (F s.left k))
step_back (Fl a b) s = ap₂ st (FLINV-FL s.right b) (FL-FLINV s.left a)

pub run-++ : (xs ys : List (Layer ℕ)) (s : State) → run (xs ++ ys) s ≡ run ys (run xs s)
unfolding run
run-++ [] ys s = refl
run-++ (x ∷ xs) ys s = run-++ xs ys (step x s)

pub run-back : (ys : List (Layer ℕ)) (s : State) → run (backward ys) (swapped (run ys s)) ≡ swapped s
unfolding run backward
run-back [] s = refl
run-back (y ∷ ys) s =
    run-++ (backward ys) (turned y ∷ []) (swapped (run ys (step y s)))
    ∙ ap (step (turned y)) (run-back ys (step y s)) ∙ step_back y s

turned-turned : (y : Layer ℕ) → turned (turned y) ≡ y
turned-turned (Round k) = refl
turned-turned (Fl a b) = refl

backward-++ : (xs ys : List (Layer ℕ)) → backward (xs ++ ys) ≡ backward ys ++ backward xs
unfolding backward
backward-++ [] ys = sym (append-nil (backward ys))
  where
    append-nil : (zs : List (Layer ℕ)) → zs ++ [] ≡ zs
    append-nil [] = refl
    append-nil (z ∷ zs) = ap (λ t. z ∷ t) (append-nil zs)
backward-++ (x ∷ xs) ys =
    ap (λ t. t ++ (turned x ∷ [])) (backward-++ xs ys) ∙ append_assoc (backward ys) (backward xs) (turned x ∷ [])

backward-backward : (ys : List (Layer ℕ)) → backward (backward ys) ≡ ys
unfolding backward
backward-backward [] = refl
backward-backward (y ∷ ys) =
    backward-++ (backward ys) (turned y ∷ []) ∙ ap₂ ◌∷◌ (turned-turned y) (backward-backward ys)

pub reversed-reversed : (k : Schedule) → reversed (reversed k) ≡ k
reversed-reversed k = ap (λ ys. record { kw = k.kw; layers = ys }) (backward-backward k.layers)

whitened-twice : (a b : ℕ) (s : State) → whitened a b (whitened a b s) ≡ s
whitened-twice a b s = ap₂ st (xor-off s.left a) (xor-off s.right b)

pub decrypt_encrypt : (k : Schedule) (m : State) → encrypt (reversed k) (encrypt k m) ≡ m
unfolding encrypt
decrypt_encrypt k m =
    let w = k.kw in
    let s : State = whitened w.kw1 w.kw2 m in
    ap (λ t. whitened w.kw1 w.kw2 (swapped (run (backward k.layers) t))) (whitened-twice w.kw3 w.kw4 (swapped (run k.layers s)))
    ∙ ap (λ t. whitened w.kw1 w.kw2 (swapped t)) (run-back k.layers s) ∙ whitened-twice w.kw1 w.kw2 m
