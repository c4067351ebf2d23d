-- The folded schedule is the same cipher: kw2 goes in from the front, then kw4 by the same lemma on the reversed schedule.
use Rattle.std.proofs.Common.{ℕ, Bool, true, false, cond, ◌≡◌, refl, sym, ap, ◌∙◌, List, eqb, length}
use Rattle.std.specs.Int.Bits.{xor_zero_r}
use Rattle.camellia.specs.Numbers.{◌⊕◌}
use Rattle.camellia.specs.Rounds.{State, st, run, swapped, whitened, backward}
use Rattle.camellia.specs.Keys.{Schedule, schedule, scheduled, reversed, material, key_l, key_r, whitening18, layers18, whitening24, layers24}
use Rattle.camellia.specs.Cipher.{encrypt}
use Rattle.camellia.specs.declared.plan.Layer.{Layer}
use Rattle.camellia.specs.declared.plan.Material.{Material}
use Rattle.camellia.proofs.Xors.{xors, xor-off}
use Rattle.camellia.proofs.Undo.{decrypt_encrypt, reversed-reversed}
use Rattle.camellia_fold.specs.Fold.{on_right, amount, added, folded, last_offset, folded_back, fold}
use Rattle.camellia_fold.specs.Laws.{Folded}
use Rattle.camellia_fold.proofs.Offsets.{run_offset}

-- an offset that comes in on the right goes out on the right
abbrev pub Kept : List (Layer ℕ) → Type 0
Kept ys = (d : ℕ) → last_offset (on_right d) ys ≡ on_right (amount (last_offset (on_right d) ys))

-- one cipher, whichever schedule
abbrev pub Alike : Schedule → Schedule → Type 0
Alike s t = (m : State) → encrypt s m ≡ encrypt t m

-- an inverse is unique
pub alike_reversed : (s t : Schedule) → Alike s t → Alike (reversed s) (reversed t)
alike_reversed s t e m =
    let n : State = encrypt (reversed t) m in
    let back : encrypt t n ≡ m = ap (λ u. encrypt u n) (sym (reversed-reversed t)) ∙ decrypt_encrypt (reversed t) m in
    ap (encrypt (reversed s)) (sym (e n ∙ back)) ∙ decrypt_encrypt s n

-- kw2 folded in
abbrev front : Schedule → Schedule
front s =
    let w = s.kw in
    let o = on_right w.kw2 in
    record {
      kw = record { kw1 = w.kw1; kw2 = 0; kw3 = w.kw3 ⊕ amount (last_offset o s.layers); kw4 = w.kw4 };
      layers = folded o s.layers;
    }

front_alike : (s : Schedule) → Kept s.layers → Alike (front s) s
unfolding encrypt
front_alike s h m =
    let w = s.kw in
    let ys : List (Layer ℕ) = folded (on_right w.kw2) s.layers in
    let d : ℕ = amount (last_offset (on_right w.kw2) s.layers) in
    let start : State = whitened w.kw1 w.kw2 m in
    let t : State = run s.layers start in
    let off : m.right ⊕ 0 ≡ m.right ⊕ w.kw2 ⊕ w.kw2 = xor_zero_r m.right ∙ sym (xor-off m.right w.kw2) in
    let end : run ys (whitened w.kw1 0 m) ≡ st t.left (t.right ⊕ d) =
    ap (λ r. run ys (st (m.left ⊕ w.kw1) r)) off
    ∙ run_offset (on_right w.kw2) s.layers start ∙ ap (λ o. added o t) (h w.kw2) in
    ap (λ u. whitened (w.kw3 ⊕ d) w.kw4 (swapped u)) end
    ∙ ap (λ l. st l (t.left ⊕ w.kw4)) (twice t.right d w.kw3)
  where
    twice : (r d k : ℕ) → (r ⊕ d) ⊕ (k ⊕ d) ≡ r ⊕ k
    twice r d k = simp xors

-- the layers with kw2 folded in
abbrev pub once : Schedule → List (Layer ℕ)
once s = folded (on_right s.kw.kw2) s.layers

pub fold_alike : (s : Schedule) → Kept s.layers → Kept (backward (once s)) → Alike (fold s) s
unfolding fold folded_back
fold_alike s h k m =
    let back : Schedule = reversed (front s) in
    alike_reversed (front back) back (front_alike back k) m
    ∙ ap (λ u. encrypt u m) (reversed-reversed (front s)) ∙ front_alike s h m

pub fold_alike_18 : (m : Material) → Alike (fold (scheduled m whitening18 layers18)) (scheduled m whitening18 layers18)
unfolding folded last_offset backward
fold_alike_18 m = fold_alike (scheduled m whitening18 layers18) (λ d. refl) (λ d. refl)

pub fold_alike_24 : (m : Material) → Alike (fold (scheduled m whitening24 layers24)) (scheduled m whitening24 layers24)
unfolding folded last_offset backward
fold_alike_24 m = fold_alike (scheduled m whitening24 layers24) (λ d. refl) (λ d. refl)

pub fold_alike_schedule : (key : List ℕ) → Alike (fold (schedule key)) (schedule key)
unfolding schedule
fold_alike_schedule key =
    let m : Material = material (key_l key) (key_r key) in
    either (eqb (length key) 16) (scheduled m whitening18 layers18) (scheduled m whitening24 layers24) (fold_alike_18 m) (fold_alike_24 m)
  where
    either : (b : Bool) (s t : Schedule) → Alike (fold s) s → Alike (fold t) t → Alike (fold (cond b s t)) (cond b s t)
    either true s t p q = p
    either false s t p q = q

pub all_folded : Folded
all_folded = record {
  enciphers = fold_alike_schedule;
  deciphers = λ key. alike_reversed (fold (schedule key)) (schedule key) (fold_alike_schedule key);
}
