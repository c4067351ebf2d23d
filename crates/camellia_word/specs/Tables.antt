-- The substitutions as tables, from the entries of the first, and S on each word of a half.
use Rattle.std.specs.Prelude.{ℕ, ◌+◌, ◌*◌, ◌/◌, ◌%◌, ◌^◌, List, map, slice_index}
use Rattle.std.specs.List.{range_with_len}
use Rattle.camellia.specs.Numbers.{rotl, rotr}

abbrev pub first : List ℕ → ℕ → ℕ
first table x = slice_index table x

abbrev pub second : List ℕ → ℕ → ℕ
second table x = slice_index (map (rotl 8 1) table) x

abbrev pub third : List ℕ → ℕ → ℕ
third table x = slice_index (map (rotr 8 1) table) x

abbrev pub fourth : List ℕ → ℕ → ℕ
fourth table x = slice_index (map (λ i. first table (rotl 8 1 i)) (range_with_len 0 256)) x

-- a word from its four bytes
abbrev pub join4 : ℕ → ℕ → ℕ → ℕ → ℕ
join4 a b c d = a * 2 ^ 24 + b * 2 ^ 16 + c * 2 ^ 8 + d

abbrev pub left_s : List ℕ → ℕ → ℕ
left_s t x = join4 (first t (x / 2 ^ 24 % 256)) (second t (x / 2 ^ 16 % 256)) (third t (x / 2 ^ 8 % 256)) (fourth t (x % 256))

abbrev pub right_s : List ℕ → ℕ → ℕ
right_s t x = join4 (second t (x / 2 ^ 24 % 256)) (third t (x / 2 ^ 16 % 256)) (fourth t (x / 2 ^ 8 % 256)) (first t (x % 256))
