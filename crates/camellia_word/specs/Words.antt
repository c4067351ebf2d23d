-- P by rotations of words.
use Rattle.std.specs.Prelude.{ℕ}
use Rattle.camellia.specs.Numbers.{rotl, rotr, ◌⊕◌}
use Rattle.camellia_rounds.specs.declared.parts.Parts.{Parts}

-- each word twice takes the other, rotated, and then the two change places
abbrev pub rotated : ℕ → ℕ → Parts
rotated left right =
    let l = left ⊕ rotl 32 8 right in
    let r = right ⊕ rotl 32 16 l in
    let l' = l ⊕ rotr 32 8 r in
    let r' = r ⊕ rotr 32 8 l' in
    record { left = r'; right = l' }
