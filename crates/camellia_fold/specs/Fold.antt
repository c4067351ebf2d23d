-- Two whitening keys leave the block: kw2 goes into the even round keys and into kw3, kw4 into the odd round keys and into kw1.
use Rattle.std.specs.Prelude.{ℕ, ◌+◌, ◌-◌, ◌*◌, ◌/◌, ◌%◌, ◌^◌, List, [], ◌∷◌}
use Rattle.std.specs.Int.Bits.{bit_and}
use Rattle.camellia.specs.Numbers.{◌⊕◌}
use Rattle.camellia.specs.Functions.{fl_right}
use Rattle.camellia.specs.Rounds.{State, st, backward}
use Rattle.camellia.specs.Keys.{Schedule}
use Rattle.camellia.specs.declared.plan.Layer.{Layer}
use Rattle.camellia.specs.declared.plan.Layer.TheVariants.{Round, Fl}

-- the left part takes the right part and not b, the right part of the key: a bit that "or b" sets carries no difference
abbrev pub offset_left : ℕ → ℕ → ℕ → ℕ
offset_left b dl dr = bit_and dr (2 ^ 32 - 1 - b) ⊕ dl

-- what the offset d of a half becomes under FL and under its inverse; its right part changes as a value's does,
-- since and and a rotation go over xor
unfoldable pub through_fl : ℕ → ℕ → ℕ
through_fl d k =
    let er = fl_right (k / 2 ^ 32 % 2 ^ 32) (d / 2 ^ 32) (d % 2 ^ 32) in
    offset_left (k % 2 ^ 32) (d / 2 ^ 32) er * 2 ^ 32 + er

unfoldable pub through_fl_inverse : ℕ → ℕ → ℕ
through_fl_inverse d k =
    let el = offset_left (k % 2 ^ 32) (d / 2 ^ 32) (d % 2 ^ 32) in
    el * 2 ^ 32 + fl_right (k / 2 ^ 32 % 2 ^ 32) el (d % 2 ^ 32)

-- ---- an offset on one side of a state
pub data Offset : Type 0 where
  on_left : ℕ → Offset
  on_right : ℕ → Offset

abbrev pub amount : Offset → ℕ
amount (on_left d) = d
amount (on_right d) = d

abbrev pub added : Offset → State → State
added (on_left d) s = st (s.left ⊕ d) s.right
added (on_right d) s = st s.left (s.right ⊕ d)

-- a round reads the left half, so there its key takes the offset
abbrev pub taken : Offset → Layer ℕ → Layer ℕ
taken (on_left d) (Round k) = Round (k ⊕ d)
taken (on_right d) (Round k) = Round k
taken (on_left d) (Fl a b) = Fl a b
taken (on_right d) (Fl a b) = Fl a b

abbrev pub moved : Offset → Layer ℕ → Offset
moved (on_left d) (Round k) = on_right d
moved (on_right d) (Round k) = on_left d
moved (on_left d) (Fl a b) = on_left (through_fl d a)
moved (on_right d) (Fl a b) = on_right (through_fl_inverse d b)

-- ---- an offset through all layers, from the front and from the back
unfoldable pub folded : Offset → List (Layer ℕ) → List (Layer ℕ)
folded o [] = []
folded o (y ∷ ys) = taken o y ∷ folded (moved o y) ys

unfoldable pub last_offset : Offset → List (Layer ℕ) → Offset
last_offset o [] = o
last_offset o (y ∷ ys) = last_offset (moved o y) ys

unfoldable pub folded_back : Offset → List (Layer ℕ) → List (Layer ℕ)
folded_back o ys = backward (folded o (backward ys))

-- only kw1 and kw3 are left to be added to a block
unfoldable pub fold : Schedule → Schedule
fold s =
    let w = s.kw in
    let front = on_right w.kw2 in
    let back = on_right w.kw4 in
    let once = folded front s.layers in
    record {
      kw = record {
        kw1 = w.kw1 ⊕ amount (last_offset back (backward once));
        kw2 = 0;
        kw3 = w.kw3 ⊕ amount (last_offset front s.layers);
        kw4 = 0;
      };
      layers = folded_back back once;
    }
