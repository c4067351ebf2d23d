-- Bytes, blocks of sixteen of them and frames of 128.
use Rattle.std.specs.Prelude.{ℕ, ◌<◌, List, ◌≡◌, length, get_or}

abbrev pub Bytes : List ℕ → Type 0
Bytes bs = (i : ℕ) → get_or bs i 0 < 256

pub record Block (b : List ℕ) : Type 0 where
  pub sixteen : length b ≡ 16
  pub bytes : Bytes b

pub record Frame (f : List ℕ) : Type 0 where
  pub long : length f ≡ 128
  pub bytes : Bytes f
