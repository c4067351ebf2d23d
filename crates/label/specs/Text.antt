-- What a label says, the text that says it, and the rules that every label keeps.
use Rattle.std.specs.Prelude.{◌≡◌, ℕ, ◌-◌, ◌<◌, ◌≤◌, Bool, true, ◌||◌, List, length, Some, None, codes, Option, ◌==◌}
use Rattle.octets.specs.Octets.{Bytes}
use Rattle.engine.specs.Kind.{EightLetters}
use Rattle.text_lines.specs.Decimal.{numeral}
use Rattle.text_lines.specs.Hex.{hex}
use Rattle.label_lines.specs.Lines.{Values, laid}

-- next is the check value of the pair that a change leads to, and none at rest
pub record Fields : Type 0 where
  pub cipher : List ℕ
  pub keybits : ℕ
  pub frames : ℕ
  pub check : List ℕ
  pub next : Option (List ℕ)
  pub moved : ℕ

-- dashes at rest
abbrev pub next_value : Option (List ℕ) → List ℕ
next_value None = codes "--------"
next_value (Some check) = hex check

abbrev pub values : Fields → Values
values l =
    record {
      cipher = l.cipher;
      keybits = numeral 3 l.keybits;
      frames = numeral 4 l.frames;
      check = hex l.check;
      next = next_value l.next;
      moved = numeral 4 l.moved;
    }

unfoldable pub text : Fields → List ℕ
text l = laid (values l)

-- the bits of one key
abbrev pub sizes : ℕ → Bool
sizes n = n == 128 || (n == 192 || n == 256)

abbrev pub KeySize : ℕ → Type 0
KeySize n = sizes n ≡ true

abbrev pub Four : List ℕ → Type 0
Four b = (length b ≡ 4) × Bytes b

pub record Rules (l : Fields) : Type 0 where
  pub named : EightLetters l.cipher
  pub sized : KeySize l.keybits
  pub counted : (2 ≤ l.frames) × (l.frames ≤ 1024)
  pub checked : Four l.check
  pub nexted : (b : List ℕ) → l.next ≡ Some b → Four b
  pub within : l.moved < l.frames - 1
  pub still : l.next ≡ None → l.moved ≡ 0
