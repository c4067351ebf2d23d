-- Lower-case hexadecimal: two digits for each byte, the more significant first.
use Rattle.std.specs.Prelude.{◌≡◌, ℕ, ◌/◌, ◌%◌, ◌<◌, List, [], ◌∷◌, length, codes, slice_index}
use Rattle.std.specs.Str.Parse.{digits_value}
use Rattle.std.specs.List.{flat_map, AllByRecursion}
use Rattle.text_lines.specs.Line.{line}

abbrev pub digit : ℕ → ℕ
digit n = slice_index (codes "0123456789abcdef") n

abbrev pub pair : ℕ → List ℕ
pair byte = digit (byte / 16) ∷ digit (byte % 16) ∷ []

abbrev pub hex : List ℕ → List ℕ
hex = flat_map pair

-- the bytes that pairs of digits write
abbrev pub unhex : List ℕ → List ℕ
unhex (high ∷ low ∷ digits) = digits_value 16 (high ∷ low ∷ []) ∷ unhex digits
unhex (one ∷ []) = []
unhex [] = []

-- so many bytes
pub record Bytes (count : ℕ) (bytes : List ℕ) : Type 0 where
  pub counted : length bytes ≡ count
  pub small : AllByRecursion (λ b. b < 256) bytes

-- the character is the digit n
pub record DigitOf (character n : ℕ) : Type 0 where
  pub small : n < 16
  pub reads : character ≡ digit n

-- the two characters are the digits of a byte
pub record PairOf (digits : List ℕ) (byte : ℕ) : Type 0 where
  pub small : byte < 256
  pub reads : digits ≡ pair byte

-- the digits are the hexadecimal of so many bytes
pub record HexOf (digits : List ℕ) (count : ℕ) (bytes : List ℕ) : Type 0 where
  pub sized : Bytes count bytes
  pub reads : digits ≡ hex bytes

-- the input begins with a line of this name, whose value is the hexadecimal of so many bytes
pub record HexLineOf (input name : List ℕ) (count : ℕ) (bytes rest : List ℕ) : Type 0 where
  pub sized : Bytes count bytes
  pub reads : input ≡ line name (hex bytes) rest
