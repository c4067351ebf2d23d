-- XTS looks at its cipher on blocks alone.
use Rattle.std.proofs.Common.{◌≡◌, ℕ, zero, suc, ◌≤◌, List, [], ◌∷◌, map, length, refl, ap, ◌∙◌, ap₂, arith}
use Rattle.octets.specs.Octets.{Block}
use Rattle.sealing.specs.Xts.{unit, added, doubled, tweaks, masked, blocks, joined, xts}
use Rattle.sealing.proofs.Sixteen.{bytes_block, added_block}
use Rattle.sealing.proofs.Undo.{length-blocks}

length-tweaks : (n : ℕ) (t : List ℕ) → length (tweaks n t) ≡ n
unfolding tweaks
length-tweaks zero t = refl
length-tweaks (suc n) t = ap suc (length-tweaks n (doubled t))

pub unit_block : (n : ℕ) → Block (unit n)
unit_block n = bytes_block n

module _ (e e' t t' : List ℕ → List ℕ) (same : (b : List ℕ) → Block b → e b ≡ e' b) (twin : (b : List ℕ) → Block b → t b ≡ t' b) where
  masked_same : (ts bs : List (List ℕ)) → length bs ≤ length ts → map e (masked ts bs) ≡ map e' (masked ts bs)
  masked_same [] [] h = refl
  masked_same [] (b ∷ bs) h = absurd (omega arith)
  masked_same (x ∷ ts) [] h = refl
  masked_same (x ∷ ts) (b ∷ bs) h = ap₂ ◌∷◌ (same (added b x) (added_block b x)) (masked_same ts bs (omega arith))

  pub xts-same : (n : ℕ) (f : List ℕ) → xts e t n f ≡ xts e' t' n f
  xts-same n f =
      let ts = tweaks 8 (t (unit n)) in
      let lt = length-tweaks 8 (t (unit n)) in
      let lb = length-blocks 8 f in
      ap (λ (zs : List (List ℕ)). joined (masked ts zs)) (masked_same ts (blocks 8 f) (omega arith))
      ∙ ap (λ (u : List ℕ). joined (masked (tweaks 8 u) (map e' (masked (tweaks 8 u) (blocks 8 f))))) (twin (unit n) (bytes_block n))
