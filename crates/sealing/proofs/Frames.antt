-- A frame cut into blocks and put together again, and its tweaks written one by one.
use Rattle.std.proofs.Common.{◌≡◌, ℕ, zero, suc, ◌+◌, ◌-◌, ◌/◌, ◌<◌, ◌≤◌, List, [], ◌∷◌, ◌++◌, length, take, drop, set, refl, ap, ◌∙◌, append_assoc, arith}
use Rattle.std.proofs.lemmas.List.{append-nil, take_all, take_more_set}
use Rattle.std.specs.List.{flat_map}
use Rattle.std.specs.Simd.{first_chunks}
use Rattle.sealing.specs.Xts.{doubled, tweaks, blocks, joined}

-- std's words for both
chunks_blocks : (n : ℕ) (f : List ℕ) → first_chunks 16 n f ≡ blocks n f
unfolding blocks
chunks_blocks zero f = refl
chunks_blocks (suc n) f = ap (λ bs. take 16 f ∷ bs) (chunks_blocks n (drop 16 f))

pub frame_blocks : (f : List ℕ) → length f ≡ 128 → first_chunks 16 (length f / 16) f ≡ blocks 8 f
frame_blocks f l = let n : length f / 16 ≡ 8 = omega arith in rw n (chunks_blocks 8 f)

flat : (bs : List (List ℕ)) → flat_map (λ b. b) bs ≡ joined bs
flat [] = refl
flat (b ∷ bs) = ap (λ f. b ++ f) (flat bs)

pub flat_joined : (bs cs : List (List ℕ)) → bs ≡ cs → flat_map (λ b. b) bs ≡ joined cs
flat_joined bs cs e = flat bs ∙ ap joined e

-- one tweak more is written
pub tweaks_more : (ts : List (List ℕ)) (i : ℕ) (w t next : List ℕ) → i < 8 → length ts ≡ 8 → w ≡ t → next ≡ doubled t
    → take (i + 1) (set ts i w) ++ tweaks (8 - (i + 1)) next ≡ take i ts ++ tweaks (8 - i) t
unfolding tweaks
tweaks_more ts i w t next h l e d =
    let n : 8 - i ≡ suc (8 - (i + 1)) = omega arith in
    rw (take_more_set ts i w (omega arith), n, e, d) (append_assoc (take i ts) (t ∷ []) (tweaks (8 - (i + 1)) (doubled t)))

pub tweaks_made : (ts : List (List ℕ)) (t : List ℕ) (i : ℕ) → 8 ≤ i → length ts ≡ 8 → take i ts ++ tweaks (8 - i) t ≡ ts
unfolding tweaks
tweaks_made ts t i h l = let n : 8 - i ≡ 0 = omega arith in rw (take_all i ts (omega arith), n) (append-nil ts)
