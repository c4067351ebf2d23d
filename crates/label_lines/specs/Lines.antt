-- The lines of a label, and the zero bytes that fill its frame.
use Rattle.std.specs.Prelude.{◌≡◌, ℕ, List, length, replicate, codes}
use Rattle.text_lines.specs.Line.{line}

-- the values as they stand in the lines
pub record Values : Type 0 where
  pub cipher : List ℕ
  pub keybits : List ℕ
  pub frames : List ℕ
  pub check : List ℕ
  pub next : List ℕ
  pub moved : List ℕ

unfoldable pub laid : Values → List ℕ
laid v =
    line (codes "cipher") v.cipher
    (line (codes "keybits") v.keybits
    (line (codes "frames") v.frames
    (line (codes "check") v.check
    (line (codes "next") v.next
    (line (codes "moved") v.moved
    (replicate 48 0))))))

-- how wide each value is
pub record Sized (v : Values) : Type 0 where
  pub cipher : length v.cipher ≡ 8
  pub keybits : length v.keybits ≡ 3
  pub frames : length v.frames ≡ 4
  pub check : length v.check ≡ 8
  pub next : length v.next ≡ 8
  pub moved : length v.moved ≡ 4

-- the frame holds lines with these values, and nothing else
pub record LinesOf (frame : List ℕ) (v : Values) : Type 0 where
  pub sized : Sized v
  pub reads : frame ≡ laid v
