-- An offset through FL and its inverse on the two 32-bit parts of the offset and of a key.
use Rattle.std.proofs.Common.{ℕ, ◌+◌, ◌*◌, ◌/◌, ◌%◌, ◌^◌, ◌<◌, ◌≡◌, arith}
use Rattle.camellia.specs.Functions.{fl_right}
use Rattle.camellia_fold.specs.Fold.{offset_left, through_fl, through_fl_inverse}

module _ (dl dr a b : ℕ) (hd : dr < 2 ^ 32) (ha : a < 2 ^ 32) (hb : b < 2 ^ 32) where
  pub through_fl_parts :
      through_fl (dl * 2 ^ 32 + dr) (a * 2 ^ 32 + b) ≡ offset_left b dl (fl_right a dl dr) * 2 ^ 32 + fl_right a dl dr
  unfolding through_fl
  through_fl_parts =
      let e1 : (dl * 2 ^ 32 + dr) / 2 ^ 32 ≡ dl = omega arith in
      let e2 : (dl * 2 ^ 32 + dr) % 2 ^ 32 ≡ dr = omega arith in
      let e3 : (a * 2 ^ 32 + b) / 2 ^ 32 % 2 ^ 32 ≡ a = omega arith in
      let e4 : (a * 2 ^ 32 + b) % 2 ^ 32 ≡ b = omega arith in
      λ i. offset_left (e4 i) (e1 i) (fl_right (e3 i) (e1 i) (e2 i)) * 2 ^ 32 + fl_right (e3 i) (e1 i) (e2 i)

  pub through_fl_inverse_parts :
      through_fl_inverse (dl * 2 ^ 32 + dr) (a * 2 ^ 32 + b) ≡ offset_left b dl dr * 2 ^ 32 + fl_right a (offset_left b dl dr) dr
  unfolding through_fl_inverse
  through_fl_inverse_parts =
      let e1 : (dl * 2 ^ 32 + dr) / 2 ^ 32 ≡ dl = omega arith in
      let e2 : (dl * 2 ^ 32 + dr) % 2 ^ 32 ≡ dr = omega arith in
      let e3 : (a * 2 ^ 32 + b) / 2 ^ 32 % 2 ^ 32 ≡ a = omega arith in
      let e4 : (a * 2 ^ 32 + b) % 2 ^ 32 ≡ b = omega arith in
      λ i. offset_left (e4 i) (e1 i) (e2 i) * 2 ^ 32 + fl_right (e3 i) (offset_left (e4 i) (e1 i) (e2 i)) (e2 i)
