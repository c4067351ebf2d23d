-- A group of a test vector as text: the lines key, plain and cipher, in hexadecimal.
use Rattle.std.specs.Prelude.{◌≡◌, ℕ, List, codes}
use Rattle.text_lines.specs.Line.{line}
use Rattle.text_lines.specs.Hex.{hex, Bytes}
use Rattle.vector_groups.specs.declared.group.Key.{Key}
use Rattle.vector_groups.specs.declared.group.Key.TheVariants.{Bits128, Bits192, Bits256}
use Rattle.vector_groups.specs.declared.group.Group.{Group}

abbrev pub key_bytes : Key → List ℕ
key_bytes (Bits128 bytes) = bytes
key_bytes (Bits192 bytes) = bytes
key_bytes (Bits256 bytes) = bytes

abbrev pub key_length : Key → ℕ
key_length (Bits128 bytes) = 16
key_length (Bits192 bytes) = 24
key_length (Bits256 bytes) = 32

abbrev pub key_line : Key → List ℕ → List ℕ
key_line key rest = line (codes "key") (hex (key_bytes key)) rest

abbrev pub text : Group → List ℕ → List ℕ
text group rest =
    key_line group.key (line (codes "plain") (hex group.plain) (line (codes "cipher") (hex group.cipher) rest))

-- a key of as many bytes as its case says
abbrev pub ValidKey : Key → Type 0
ValidKey key = Bytes (key_length key) (key_bytes key)

pub record Valid (group : Group) : Type 0 where
  pub key : ValidKey group.key
  pub plain : Bytes 16 group.plain
  pub cipher : Bytes 16 group.cipher

-- the input begins with the line of a key
pub record KeyOf (input : List ℕ) (key : Key) (rest : List ℕ) : Type 0 where
  pub valid : ValidKey key
  pub reads : input ≡ key_line key rest

-- the input begins with a group
pub record GroupOf (input : List ℕ) (group : Group) (rest : List ℕ) : Type 0 where
  pub valid : Valid group
  pub reads : input ≡ text group rest
