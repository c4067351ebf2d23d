-- A label in the code as the fields of the definition.
use Rattle.std.specs.Prelude.{ℕ, List, Option}
use Rattle.std.specs.Option.{option_map}
use Rattle.label.specs.Text.{Fields}
use Rattle.label.specs.declared.label.KeyBits.{KeyBits}
use Rattle.label.specs.declared.label.KeyBits.TheVariants.{K128, K192, K256}
use Rattle.label.specs.declared.label.Label.{Label}

abbrev pub bits : KeyBits → ℕ
bits K128 = 128
bits K192 = 192
bits K256 = 256

abbrev pub fields : List ℕ → KeyBits → ℕ → List ℕ → Option (List ℕ) → ℕ → Fields
fields cipher keybits frames check next moved =
    record {
      cipher = cipher;
      keybits = bits keybits;
      frames = frames;
      check = check;
      next = next;
      moved = moved;
    }

abbrev pub told : Label → Fields
told l = fields l.cipher l.keybits l.frames l.check l.next l.moved

abbrev pub fields_in : Option Label → Option Fields
fields_in r = option_map told r
