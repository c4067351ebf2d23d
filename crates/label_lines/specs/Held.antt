-- The code's results in the definition's words.
use Rattle.std.specs.Prelude.{ℕ, List, Option, MatchOption}
use Rattle.std.specs.Borrow.{Bor}
use Rattle.text_lines.specs.Line.{LineOf}
use Rattle.label_lines.specs.Lines.{Values}
use Rattle.label_lines.specs.declared.lines.Lines.{Lines}

abbrev pub held : Lines → Values
held x =
    record {
      cipher = x.cipher;
      keybits = x.keybits;
      frames = x.frames;
      check = x.check;
      next = x.next;
      moved = x.moved;
    }

-- the value and the rest, exactly where the text begins with such a line
abbrev pub Cuts : List ℕ → List ℕ → ℕ → Option (List ℕ × Bor (List ℕ)) → Type 0
Cuts text name width r =
    MatchOption r ((value rest : List ℕ) → LineOf text name width value rest → ⊥) (λ found. LineOf text name width found.0 found.1.now)
