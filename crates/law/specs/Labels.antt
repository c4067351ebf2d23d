-- The labels of a card: what frame 0 tells, and what it says at rest and in a change.
use Rattle.std.specs.Prelude.{ℕ, ◌*◌, Bool, true, false, List, [], length, Some, None, Option}
use Rattle.std.specs.Option.{unwrap_or}
use Rattle.label.specs.Text.{Fields}
use Rattle.label.specs.Read.{reads}
use Rattle.law.specs.Kind.{Kind, keys_of, check_of}
use Rattle.law.specs.Store.{Store, frame_at}

-- stands where there is no label
abbrev pub blank : Fields
blank = record { cipher = []; keybits = 0; frames = 0; check = []; next = None; moved = 0 }

-- the label in frame 0, if that is one
abbrev pub label_in : Store → Fields
label_in s = unwrap_or (reads (frame_at s 0)) blank

-- the state that a label tells: in a change it has the new pair's check value
abbrev pub labelled : Option (List ℕ) → ℕ
labelled None = 1
labelled (Some c) = 2

-- at rest under the pair p
abbrev pub made_label : Kind → ℕ → List ℕ → Fields
made_label M N p =
    record { cipher = M.name; keybits = 4 * length p; frames = N; check = check_of (keys_of M p); next = None; moved = 0 }

-- or, in a change to the pair q, with m frames moved
abbrev pub label_for : Kind → ℕ → Bool → List ℕ → List ℕ → ℕ → Fields
label_for M N true p q m =
    record { cipher = M.name; keybits = 4 * length p; frames = N; check = check_of (keys_of M p); next = Some (check_of (keys_of M q)); moved = m }
label_for M N false p q m = made_label M N p
