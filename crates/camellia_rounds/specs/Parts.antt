-- A half from its two 32-bit parts, and FL and its inverse on them.
use Rattle.std.specs.Prelude.{ℕ, ◌+◌, ◌*◌, ◌/◌, ◌%◌, ◌^◌}
use Rattle.camellia.specs.Functions.{fl_right, fl_left}
use Rattle.camellia_rounds.specs.declared.parts.Parts.{Parts}

abbrev parts : ℕ → ℕ → Parts
parts left right = record { left = left; right = right }

abbrev pub whole : Parts → ℕ
whole p = p.left * 2 ^ 32 + p.right

abbrev pub parts_of : ℕ → Parts
parts_of x = parts (x / 2 ^ 32) (x % 2 ^ 32)

abbrev pub fl_of : Parts → Parts → Parts
fl_of x k = let right = fl_right k.left x.left x.right in parts (fl_left k.right x.left right) right

abbrev pub fl_inverse_of : Parts → Parts → Parts
fl_inverse_of y k = let left = fl_left k.right y.left y.right in parts left (fl_right k.left left y.right)
