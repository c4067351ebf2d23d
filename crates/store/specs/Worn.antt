-- The worn frames of a dump: at most twenty.
use Rattle.std.specs.Prelude.{ℕ, Bool, cond, ◌||◌, List, [], ◌∷◌, ◌++◌, length, Ok, Err, Result, ◌==◌, nat_lt}
use Rattle.std.specs.List.{list_any, list_all}
use Rattle.refusal.specs.declared.Refusal.{Refusal}
use Rattle.refusal.specs.declared.Refusal.TheVariants.{FrameNumber, TooManyWorn}

abbrev pub among : List ℕ → ℕ → Bool
among marks n = list_any (λ w. w == n) marks

-- every marked frame is one of so many
abbrev pub below : ℕ → List ℕ → Bool
below count marks = list_all (λ w. nat_lt w count) marks

-- to mark frame n of so many: n is looked at first, then whether it is marked already, then whether there is room
abbrev pub mark_answer : ℕ → List ℕ → ℕ → Result (Unit {0}) Refusal
mark_answer count marks n =
    cond (nat_lt n count) (cond (among marks n || nat_lt (length marks) 20) (Ok tt) (Err (TooManyWorn n))) (Err (FrameNumber n))

-- a frame that is marked again adds nothing
abbrev pub marked : List ℕ → ℕ → List ℕ
marked marks n = cond (among marks n) marks (marks ++ n ∷ [])
