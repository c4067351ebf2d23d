-- The label that 128 bytes are the text of, if they are the text of any.
use Rattle.std.specs.Prelude.{ℕ, ◌-◌, Bool, cond, ◌&&◌, ltb, List, length, take, drop, Some, None, Option, ◌==◌, nat_le, nat_lt, slice_index}
use Rattle.std.specs.Str.Parse.{digits_value}
use Rattle.std.specs.List.{list_all}
use Rattle.std.specs.Str.{bytes_eq}
use Rattle.text_lines.specs.Hex.{unhex}
use Rattle.label.specs.Text.{Fields, text, sizes}

-- the rules of a label as tests
abbrev pub lettered : List ℕ → Bool
lettered name = length name == 8 && list_all (λ c. nat_le 97 c && nat_le c 122) name

abbrev pub four_bytes : List ℕ → Bool
four_bytes b = length b == 4 && list_all (λ x. ltb x 256) b

abbrev pub next_test : Option (List ℕ) → ℕ → Bool
next_test None moved = moved == 0
next_test (Some check) moved = four_bytes check

unfoldable pub kept : Fields → Bool
kept l =
    lettered l.cipher && (sizes l.keybits && (nat_le 2 l.frames && (nat_le l.frames 1024
    && (four_bytes l.check && (next_test l.next l.moved && nat_lt l.moved (l.frames - 1))))))

-- these fields, if they keep the rules
abbrev pub allowed : Fields → Option Fields
allowed l = cond (kept l) (Some l) None

-- so many characters from a place on
abbrev pub part : ℕ → ℕ → List ℕ → List ℕ
part place width f = take width (drop place f)

abbrev pub next_in : List ℕ → Option (List ℕ)
next_in digits = cond (slice_index digits 0 == 45) None (Some (unhex digits))

-- what stands at the places of the values, label or not
unfoldable pub candidate : List ℕ → Fields
candidate f =
    record {
      cipher = part 7 8 f;
      keybits = digits_value 10 (part 24 3 f);
      frames = digits_value 10 (part 35 4 f);
      check = unhex (part 46 8 f);
      next = next_in (part 60 8 f);
      moved = digits_value 10 (part 75 4 f);
    }

unfoldable pub reads : List ℕ → Option Fields
reads f = let l = candidate f in cond (bytes_eq (text l) f) (allowed l) None
