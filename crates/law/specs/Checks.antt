-- The checks of each call, in their order: a call is refused by the first one that fails.
use Rattle.std.specs.Prelude.{ℕ, ◌*◌, Bool, true, cond, not, ◌&&◌, List, [], ◌∷◌, length, is_some, Some, None, Option, ◌==◌, nat_le, nat_lt}
use Rattle.std.specs.Str.{bytes_eq}
use Rattle.refusal.specs.declared.Refusal.{Refusal}
use Rattle.refusal.specs.declared.Refusal.TheVariants.{WrongState, PairLength, KeyLength, CardBufferLength, TooFewFrames, LabelFrame, FrameNumber, WornFrame, NotLabel, OtherCard, OtherKeys}
use Rattle.sealing.specs.Pair.{paired}
use Rattle.label.specs.Read.{reads}
use Rattle.law.specs.Kind.{Kind, keys_of, check_of, half_taken}
use Rattle.law.specs.Store.{Store, size, frame_at}
use Rattle.law.specs.Labels.{label_in}
use Rattle.law.specs.Calls.{Call, make, mount, eject, read, write, start, step, status}

-- a test that fails the call, and the refusal
abbrev pub Check : Type 0
Check = Bool × Refusal

abbrev pub first_of : List Check → Option Refusal
first_of [] = None
first_of (c ∷ cs) = cond c.0 (Some c.1) (first_of cs)

-- the second pair that a label asks for: of the pair's size in a change, empty at rest
abbrev pub second_fits : Option (List ℕ) → List ℕ → List ℕ → Bool
second_fits None p q = length q == 0
second_fits (Some c) p q = length q == length p

abbrev pub second_checks : Kind → Option (List ℕ) → List ℕ → Bool
second_checks M None q = true
second_checks M (Some c) q = bytes_eq (check_of (keys_of M q)) c

-- a read or a write of frame n with so long a buffer
abbrev pub frame_checks : ℕ → Store → ℕ → ℕ → List Check
frame_checks state s n len =
    ((state == 0), WrongState)
    ∷ (not (len == 128), CardBufferLength n)
    ∷ ((n == 0), LabelFrame)
    ∷ (nat_le (size s) n, FrameNumber n)
    ∷ (s.worn n, WornFrame n)
    ∷ []

-- by the state (0 unmounted, 1 at rest, 2 changing), and by the label's keybits
abbrev pub checks : Kind → ℕ → ℕ → Store → Call → List Check
checks M state bits s (make p) =
    (not (state == 0), WrongState)
    ∷ (not (paired (length p)), PairLength)
    ∷ (not (half_taken M p), KeyLength)
    ∷ (nat_lt (size s) 2, TooFewFrames)
    ∷ (s.worn 0, WornFrame 0)
    ∷ []
checks M state bits s (mount p q) =
    (not (state == 0), WrongState)
    ∷ (nat_lt (size s) 2, TooFewFrames)
    ∷ (s.worn 0, WornFrame 0)
    ∷ (not (is_some (reads (frame_at s 0))), NotLabel)
    ∷ (not (bytes_eq (label_in s).cipher M.name && (label_in s).frames == size s), OtherCard)
    ∷ (not (paired (length p) && (label_in s).keybits == 4 * length p && second_fits (label_in s).next p q), PairLength)
    ∷ (not (half_taken M p), KeyLength)
    ∷ (not (bytes_eq (check_of (keys_of M p)) (label_in s).check && second_checks M (label_in s).next q), OtherKeys)
    ∷ []
checks M state bits s eject = ((state == 0), WrongState) ∷ []
checks M state bits s (read n b) = frame_checks state s n (length b)
checks M state bits s (write n b) = frame_checks state s n (length b)
checks M state bits s (start p) =
    (not (state == 1), WrongState)
    ∷ (not (paired (length p) && bits == 4 * length p), PairLength)
    ∷ (not (half_taken M p), KeyLength)
    ∷ []
checks M state bits s step = (not (state == 2), WrongState) ∷ []
checks M state bits s status = []

abbrev pub refusal : Kind → ℕ → ℕ → Store → Call → Option Refusal
refusal M state bits s c = first_of (checks M state bits s c)
