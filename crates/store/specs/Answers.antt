-- What the calls of a store answer, and what they leave.
use Rattle.std.specs.Prelude.{ℕ, Bool, cond, Ok, Err, Result, ◌==◌, nat_lt}
use Rattle.refusal.specs.declared.Refusal.{Refusal}
use Rattle.refusal.specs.declared.Refusal.TheVariants.{BufferLength, FrameNumber, WornFrame}

-- to read or write frame n of so many: the buffer's length is looked at first, then n, then whether n is worn
abbrev pub call_answer : ℕ → ℕ → Bool → ℕ → Result (Unit {0}) Refusal
call_answer len count worn n =
    cond (len == 128) (cond (nat_lt n count) (cond worn (Err (WornFrame n)) (Ok tt)) (Err (FrameNumber n))) (Err (BufferLength n))

-- what is there after a call: something new, or what was there if the call was refused
abbrev pub left : {A : Type 0} → Result (Unit {0}) Refusal → A → A → A
left (Ok done) new old = new
left (Err why) new old = old
