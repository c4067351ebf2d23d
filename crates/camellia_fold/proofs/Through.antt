-- FL and its inverse of a half with an offset: the offset goes through by itself.
use Rattle.std.proofs.Common.{ℕ, ◌+◌, ◌-◌, ◌*◌, ◌/◌, ◌%◌, ◌^◌, ◌<◌, ◌≡◌, ap, ap₂, sym, ◌∙◌, arith, bit_and, bit_or}
use Rattle.std.proofs.lemmas.Nat.{xor_shr, xor_mod, xor_block, and_le_r}
use Rattle.camellia.specs.Numbers.{rotl, ◌⊕◌}
use Rattle.camellia.specs.Functions.{FL, FLINV, fl_right, fl_left}
use Rattle.camellia.proofs.Xors.{xors}
use Rattle.camellia.proofs.Undo.{fl_right-lt}
use Rattle.camellia_fold.specs.Fold.{offset_left, through_fl, through_fl_inverse}
use Rattle.camellia_fold.proofs.Digits.{and_xor, or-xor, and-not, rotl-xor}

pairs : (p q r s : ℕ) → (p ⊕ q) ⊕ (r ⊕ s) ≡ (p ⊕ r) ⊕ (q ⊕ s)
pairs p q r s = simp xors

fl_right_offset : (a xl dl xr dr : ℕ) → a < 2 ^ 32 → fl_right a (xl ⊕ dl) (xr ⊕ dr) ≡ fl_right a xl xr ⊕ fl_right a dl dr
fl_right_offset a xl dl xr dr h =
    let u : ℕ = bit_and xl a in
    let v : ℕ = bit_and dl a in
    let hu : u < 2 ^ 32 = omega (arith, and_le_r xl a) in
    let hv : v < 2 ^ 32 = omega (arith, and_le_r dl a) in
    ap (λ t. t ⊕ (xr ⊕ dr)) (ap (rotl 32 1) (and_xor xl dl a) ∙ rotl-xor u v hu hv)
    ∙ pairs (rotl 32 1 u) (rotl 32 1 v) xr dr

fl_left_offset : (b xl dl yr dr : ℕ) → b < 2 ^ 32 → dr < 2 ^ 32 → fl_left b (xl ⊕ dl) (yr ⊕ dr) ≡ fl_left b xl yr ⊕ offset_left b dl dr
fl_left_offset b xl dl yr dr hb hd =
    ap (λ t. t ⊕ (xl ⊕ dl)) (or-xor yr dr b ∙ ap (λ t. bit_or yr b ⊕ t) (sym (and-not dr b hd hb)))
    ∙ pairs (bit_or yr b) (bit_and dr (2 ^ 32 - 1 - b)) xl dl

module _ (x d k : ℕ) where
  pub FL_offset : FL (x ⊕ d) k ≡ FL x k ⊕ through_fl d k
  unfolding FL through_fl
  FL_offset =
      let a : ℕ = k / 2 ^ 32 % 2 ^ 32 in
      let b : ℕ = k % 2 ^ 32 in
      let ha : a < 2 ^ 32 = omega arith in
      let xl : ℕ = x / 2 ^ 32 in
      let xr : ℕ = x % 2 ^ 32 in
      let dl : ℕ = d / 2 ^ 32 in
      let dr : ℕ = d % 2 ^ 32 in
      let yr : ℕ = fl_right a xl xr in
      let er : ℕ = fl_right a dl dr in
      let hy : yr < 2 ^ 32 = fl_right-lt a xl xr ha (omega arith) in
      let he : er < 2 ^ 32 = fl_right-lt a dl dr ha (omega arith) in
      ap₂ (λ s t. fl_left b s (fl_right a s t) * 2 ^ 32 + fl_right a s t) (xor_shr x d 32) (xor_mod x d 32)
      ∙ ap (λ t. fl_left b (xl ⊕ dl) t * 2 ^ 32 + t) (fl_right_offset a xl dl xr dr ha)
      ∙ ap (λ t. t * 2 ^ 32 + (yr ⊕ er)) (fl_left_offset b xl dl yr er (omega arith) he)
      ∙ sym (xor_block 32 (fl_left b xl yr) (offset_left b dl er) yr er hy he)

  pub FLINV_offset : FLINV (x ⊕ d) k ≡ FLINV x k ⊕ through_fl_inverse d k
  unfolding FLINV through_fl_inverse
  FLINV_offset =
      let a : ℕ = k / 2 ^ 32 % 2 ^ 32 in
      let b : ℕ = k % 2 ^ 32 in
      let ha : a < 2 ^ 32 = omega arith in
      let xl : ℕ = x / 2 ^ 32 in
      let xr : ℕ = x % 2 ^ 32 in
      let dl : ℕ = d / 2 ^ 32 in
      let dr : ℕ = d % 2 ^ 32 in
      let yl : ℕ = fl_left b xl xr in
      let el : ℕ = offset_left b dl dr in
      ap₂ (λ s t. fl_left b s t * 2 ^ 32 + fl_right a (fl_left b s t) t) (xor_shr x d 32) (xor_mod x d 32)
      ∙ ap (λ t. t * 2 ^ 32 + fl_right a t (xr ⊕ dr)) (fl_left_offset b xl dl xr dr (omega arith) (omega arith))
      ∙ ap (λ t. (yl ⊕ el) * 2 ^ 32 + t) (fl_right_offset a yl el xr dr ha)
      ∙ sym (xor_block 32 yl el (fl_right a yl xr) (fl_right a el dr) (fl_right-lt a yl xr ha (omega arith)) (fl_right-lt a el dr ha (omega arith)))
