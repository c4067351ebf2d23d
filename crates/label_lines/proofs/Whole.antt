-- The lines of a label, taken off a frame one by one.
use Rattle.std.proofs.Common.{◌≡◌, ℕ, List, length, replicate, codes, sym, refl, ap, ◌∙◌}
use Rattle.text_lines.specs.Line.{line, LineOf}
use Rattle.text_lines.proofs.OneLine.{same-wide-line}
use Rattle.label_lines.specs.Lines.{Values, laid, Sized, LinesOf}

-- what is left of the frame is such an end of a label's lines, if the frame holds any
abbrev pub Left : List ℕ → (Values → List ℕ) → List ℕ → Type 0
Left frame end rest = (v : Values) → LinesOf frame v → rest ≡ end v

-- one of the six lines, between those before it and those after it
pub record Step (name : List ℕ) (width : ℕ) (here after : Values → List ℕ) : Type 0 where
  pub value : Values → List ℕ
  pub wide : (v : Values) → Sized v → length (value v) ≡ width
  pub splits : (v : Values) → here v ≡ line name (value v) (after v)

module _ {name : List ℕ} {width : ℕ} {here after : Values → List ℕ} (step : Step name width here after) {frame text : List ℕ} (left : Left frame here text) where
  its-line : (v : Values) → LinesOf frame v → LineOf text name width (step.value v) (after v)
  its-line v h = record { wide = step.wide v h.sized; reads = left v h ∙ step.splits v }

  -- the line was there
  pub pass : {value rest : List ℕ} → LineOf text name width value rest → Left frame after rest
  pass {value} {rest} found v h =
      let its = its-line v h in
      (same-wide-line name value (step.value v) rest (after v) (found.wide ∙ sym its.wide) (sym found.reads ∙ its.reads)).1

  -- it was not
  pub stop : ((value rest : List ℕ) → LineOf text name width value rest → ⊥) → (v : Values) → LinesOf frame v → ⊥
  stop none v h = none (step.value v) (after v) (its-line v h)

abbrev pub from-moved : Values → List ℕ
from-moved v = line (codes "moved") v.moved (replicate 48 0)

abbrev pub from_next : Values → List ℕ
from_next v = line (codes "next") v.next (from-moved v)

abbrev pub from-check : Values → List ℕ
from-check v = line (codes "check") v.check (from_next v)

abbrev pub from-frames : Values → List ℕ
from-frames v = line (codes "frames") v.frames (from-check v)

abbrev pub from-keybits : Values → List ℕ
from-keybits v = line (codes "keybits") v.keybits (from-frames v)

pub cipher-step : Step (codes "cipher") 8 laid from-keybits
unfolding laid
cipher-step = record { value = λ v. v.cipher; wide = λ v z. z.cipher; splits = λ v. refl }

pub keybits-step : Step (codes "keybits") 3 from-keybits from-frames
keybits-step = record { value = λ v. v.keybits; wide = λ v z. z.keybits; splits = λ v. refl }

pub frames-step : Step (codes "frames") 4 from-frames from-check
frames-step = record { value = λ v. v.frames; wide = λ v z. z.frames; splits = λ v. refl }

pub check-step : Step (codes "check") 8 from-check from_next
check-step = record { value = λ v. v.check; wide = λ v z. z.check; splits = λ v. refl }

pub next-step : Step (codes "next") 8 from_next from-moved
next-step = record { value = λ v. v.next; wide = λ v z. z.next; splits = λ v. refl }

pub moved-step : Step (codes "moved") 4 from-moved (λ v. replicate 48 0)
moved-step = record { value = λ v. v.moved; wide = λ v z. z.moved; splits = λ v. refl }

-- what is left after each line
pub start : (frame : List ℕ) → Left frame laid frame
start frame v h = h.reads

pub past-cipher : {frame s a : List ℕ} → LineOf frame (codes "cipher") 8 a s → Left frame from-keybits s
past-cipher {frame} = pass cipher-step (start frame)

pub past-keybits : {frame s t a b : List ℕ} → LineOf frame (codes "cipher") 8 a s → LineOf s (codes "keybits") 3 b t → Left frame from-frames t
past-keybits cipher = pass keybits-step (past-cipher cipher)

pub past-frames : {frame s t u a b c : List ℕ} → LineOf frame (codes "cipher") 8 a s → LineOf s (codes "keybits") 3 b t
    → LineOf t (codes "frames") 4 c u → Left frame from-check u
past-frames cipher keybits = pass frames-step (past-keybits cipher keybits)

pub past-check : {frame s t u w a b c d : List ℕ} → LineOf frame (codes "cipher") 8 a s → LineOf s (codes "keybits") 3 b t
    → LineOf t (codes "frames") 4 c u → LineOf u (codes "check") 8 d w → Left frame from_next w
past-check cipher keybits frames = pass check-step (past-frames cipher keybits frames)

pub past_next : {frame s t u w x a b c d e : List ℕ} → LineOf frame (codes "cipher") 8 a s → LineOf s (codes "keybits") 3 b t
    → LineOf t (codes "frames") 4 c u → LineOf u (codes "check") 8 d w → LineOf w (codes "next") 8 e x → Left frame from-moved x
past_next cipher keybits frames check = pass next-step (past-check cipher keybits frames check)

pub past-moved : {frame s t u w x y a b c d e f : List ℕ} → LineOf frame (codes "cipher") 8 a s → LineOf s (codes "keybits") 3 b t
    → LineOf t (codes "frames") 4 c u → LineOf u (codes "check") 8 d w → LineOf w (codes "next") 8 e x → LineOf x (codes "moved") 4 f y
    → Left frame (λ v. replicate 48 0) y
past-moved cipher keybits frames check next = pass moved-step (past_next cipher keybits frames check next)

-- lines taken off one after the other are the lines of a label
pub taken_apart : {frame s t u w x y a b c d e f : List ℕ}
    → LineOf frame (codes "cipher") 8 a s
    → LineOf s (codes "keybits") 3 b t
    → LineOf t (codes "frames") 4 c u
    → LineOf u (codes "check") 8 d w
    → LineOf w (codes "next") 8 e x
    → LineOf x (codes "moved") 4 f y
    → y ≡ replicate 48 0
    → LinesOf frame (record { cipher = a; keybits = b; frames = c; check = d; next = e; moved = f })
unfolding laid
taken_apart {a = a} {b = b} {c = c} {d = d} {e = e} {f = f} cipher keybits frames check next moved filling =
    record {
      sized = record { cipher = cipher.wide; keybits = keybits.wide; frames = frames.wide; check = check.wide; next = next.wide; moved = moved.wide };
      reads =
          cipher.reads ∙ ap (line (codes "cipher") a)
          (keybits.reads ∙ ap (line (codes "keybits") b)
          (frames.reads ∙ ap (line (codes "frames") c)
          (check.reads ∙ ap (line (codes "check") d)
          (next.reads ∙ ap (line (codes "next") e)
          (moved.reads ∙ ap (line (codes "moved") f) filling)))));
    }
