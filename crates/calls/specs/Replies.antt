-- What each state and each reply stands for: its number and its values.
use Rattle.std.specs.Prelude.{ℕ, List, Ok, Err, Result}
use Rattle.refusal.specs.declared.Refusal.{Refusal}
use Rattle.law.specs.Calls.{Answer, refused, made, mounted, ejected, got, kept, started, stepped, told}
use Rattle.calls.specs.declared.State.{State}
use Rattle.calls.specs.declared.State.TheVariants.{Unmounted, AtRest, Changing}
use Rattle.calls.specs.declared.Stepped.{Stepped}
use Rattle.calls.specs.declared.Status.{Status}
use Rattle.calls.specs.declared.Reply.{Reply}
use Rattle.calls.specs.declared.Reply.TheVariants as reply

abbrev pub state_number : State → ℕ
state_number Unmounted = 0
state_number AtRest = 1
state_number Changing = 2

abbrev pub stepped_answer : Stepped → Answer
stepped_answer r = stepped r.frame r.passed_over r.over

abbrev pub status_answer : Status → Answer
status_answer r = told (state_number r.state) r.frames r.moved

-- a reply or a refusal, with the bytes that a read left in its buffer
abbrev pub answer_by : Result Reply Refusal → List ℕ → Answer
answer_by (Ok (reply.Made n)) b = made n
answer_by (Ok (reply.Mounted s)) b = mounted (state_number s)
answer_by (Ok reply.Ejected) b = ejected
answer_by (Ok reply.Read) b = got b
answer_by (Ok reply.Written) b = kept
answer_by (Ok (reply.Started n)) b = started n
answer_by (Ok (reply.Stepped r)) b = stepped_answer r
answer_by (Ok (reply.Told r)) b = status_answer r
answer_by (Err r) b = refused r

-- the answer of one call of a card
abbrev pub answer_of : {A : Type 0} → (A → Answer) → Result A Refusal → Answer
answer_of f (Ok a) = f a
answer_of f (Err r) = refused r
