-- Labels and their texts belong together, one to one.
use Rattle.std.specs.Prelude.{◌≡◌, ℕ, List, Some, None, ◌≢◌}
use Rattle.octets.specs.Octets.{Frame}
use Rattle.label.specs.Text.{Fields, text, Rules}
use Rattle.label.specs.Read.{reads}
use Rattle.label.specs.Told.{told}
use Rattle.label.specs.declared.label.Label.{Label}

pub record Faithful : Type 0 where
  -- a label's text is a frame, and reads as that label
  pub framed : (l : Label) → Frame (text (told l))
  pub read_back : (l : Label) → reads (text (told l)) ≡ Some (told l)
  -- labels with one text are one label
  pub told_apart : (l m : Label) → text (told l) ≡ text (told m) → l ≡ m
  -- what reads as a label is that label's text, and the label keeps the rules
  pub written : (f : List ℕ) (l : Fields) → reads f ≡ Some l → text l ≡ f
  pub ruled : (f : List ℕ) (l : Fields) → reads f ≡ Some l → Rules l
  -- what no label has as its text does not read as one
  pub refused : (f : List ℕ) → ((l : Fields) → Rules l → text l ≢ f) → reads f ≡ None
