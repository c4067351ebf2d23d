-- What a store tells: its frames, and which of them are worn.
use Rattle.std.specs.Prelude.{◌≡◌, ℕ, zero, suc, ◌+◌, ◌<◌, ◌≤◌, Bool, false, cond, List, [], length, slice_index_or}

pub record Store : Type 0 where
  pub frames : List (List ℕ)
  pub worn : ℕ → Bool

abbrev pub size : Store → ℕ
size s = length s.frames

abbrev pub frame_at : Store → ℕ → List ℕ
frame_at s n = slice_index_or s.frames n []

-- what every store promises
pub record Sized (s : Store) : Type 0 where
  pub few : size s ≤ 1024
  pub present : (n : ℕ) → size s ≤ n → s.worn n ≡ false

-- two stores tell the same frames: number, bytes and which are worn
pub record Same (s t : Store) : Type 0 where
  pub frames : s.frames ≡ t.frames
  pub worn : (n : ℕ) → n < size s → s.worn n ≡ t.worn n

-- a data frame that is not worn
pub record Sound (s : Store) (n : ℕ) : Type 0 where
  pub data_frame : 0 < n
  pub inside : n < size s
  pub unworn : s.worn n ≡ false

-- how many of the frames 1 to n are not worn
abbrev pub unworn_to : (ℕ → Bool) → ℕ → ℕ
unworn_to w zero = 0
unworn_to w (suc n) = unworn_to w n + cond (w (suc n)) 0 1
