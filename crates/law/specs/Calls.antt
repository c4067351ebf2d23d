-- The calls of a card with the bytes that they are given, and what they answer.
use Rattle.std.specs.Prelude.{ℕ, Bool, true, false, List, length, replicate, Some, None, Option}
use Rattle.octets.specs.Octets.{Bytes}
use Rattle.refusal.specs.declared.Refusal.{Refusal}

pub data Call : Type 0 where
  make : List ℕ → Call
  mount : List ℕ → List ℕ → Call
  eject : Call
  read : ℕ → List ℕ → Call
  write : ℕ → List ℕ → Call
  start : List ℕ → Call
  step : Call
  status : Call

-- what a call is given are bytes
abbrev pub Given : Call → Type 0
Given (make p) = Bytes p
Given (mount p q) = Bytes p × Bytes q
Given eject = Unit {0}
Given (read n b) = Bytes b
Given (write n b) = Bytes b
Given (start p) = Bytes p
Given step = Unit {0}
Given status = Unit {0}

-- made: how many frames were sealed; mounted: the state; got: the buffer left; started: N - 1;
-- stepped: the frame, whether it was passed over, whether the change is over; told: state, N and moved
pub data Answer : Type 0 where
  refused : Refusal → Answer
  made : ℕ → Answer
  mounted : ℕ → Answer
  ejected : Answer
  got : List ℕ → Answer
  kept : Answer
  started : ℕ → Answer
  stepped : ℕ → Bool → Bool → Answer
  told : ℕ → ℕ → ℕ → Answer

abbrev pub refused_by : Answer → Option Refusal
refused_by (refused r) = Some r
refused_by (made n) = None
refused_by (mounted n) = None
refused_by ejected = None
refused_by (got b) = None
refused_by kept = None
refused_by (started n) = None
refused_by (stepped n p o) = None
refused_by (told s n m) = None

abbrev pub accepted : Answer → Bool
accepted (refused r) = false
accepted (made n) = true
accepted (mounted n) = true
accepted ejected = true
accepted (got b) = true
accepted kept = true
accepted (started n) = true
accepted (stepped n p o) = true
accepted (told s n m) = true

-- the bytes that a call leaves: keys zeroed, and a frame buffer as it was, unless a read was accepted
abbrev pub buffer_left : Answer → List ℕ → List ℕ
buffer_left (refused r) b = b
buffer_left (made n) b = b
buffer_left (mounted n) b = b
buffer_left ejected b = b
buffer_left (got f) b = f
buffer_left kept b = b
buffer_left (started n) b = b
buffer_left (stepped n p o) b = b
buffer_left (told s n m) b = b

abbrev pub zeroed : List ℕ → List ℕ
zeroed p = replicate (length p) 0

abbrev pub left_by : Call → Answer → Call
left_by (make p) a = make (zeroed p)
left_by (mount p q) a = mount (zeroed p) (zeroed q)
left_by eject a = eject
left_by (read n b) a = read n (buffer_left a b)
left_by (write n b) a = write n b
left_by (start p) a = start (zeroed p)
left_by step a = step
left_by status a = status
