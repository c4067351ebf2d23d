-- The labels that a card writes.
use Rattle.std.specs.Prelude.{ℕ, ◌*◌, cond, ◌&&◌, List, Some, None, Option, nat_le}
use Rattle.sealing.specs.Pair.{paired}
use Rattle.label.specs.Text.{Fields}
use Rattle.law.specs.Model.{is_over, step_label}

-- of a new card, if the pair has a pair's length and a card may have so many frames
abbrev pub made_fields : List ℕ → ℕ → ℕ → List ℕ → Option Fields
made_fields name len frames check =
    cond (paired len && (nat_le 2 frames && nat_le frames 1024))
    (Some (record { cipher = name; keybits = 4 * len; frames = frames; check = check; next = None; moved = 0 })) None

-- after a step, if a change is under way
abbrev pub stepped_by : Option (List ℕ) → Fields → Option Fields
stepped_by None l = None
stepped_by (Some next) l = Some (step_label (is_over l) l)

abbrev pub stepped_fields : Fields → Option Fields
stepped_fields l = stepped_by l.next l
