-- What the calls so far come to, told from the calls and their answers alone. Newest first.
use Rattle.std.specs.Prelude.{◌≡◌, ℕ, suc, ◌-◌, Bool, true, false, cond, List, [], ◌∷◌, replicate, ◌==◌, nat_le}
use Rattle.law.specs.Store.{Store}
use Rattle.law.specs.Calls.{Call, make, mount, eject, read, write, start, step, status, Answer, refused, made, mounted, ejected, got, kept, started, stepped, told, accepted}

-- a call with the bytes that it was given, its answer, the call with the bytes that it left, and the store after it
pub record Event : Type 0 where
  pub call : Call
  pub answer : Answer
  pub left : Call
  pub store : Store

abbrev pub History : Type 0
History = List Event

-- a fold over the accepted calls
abbrev pub on_accepted : {A : Type 0} → Event → A → A → A
on_accepted e next same = cond (accepted e.answer) next same

-- the content of frame n: the last accepted write to it since the latest accepted making, or zero bytes
abbrev pub content_by : ℕ → Call → List ℕ → List ℕ
content_by n (make p) b = replicate 128 0
content_by n (mount p q) b = b
content_by n eject b = b
content_by n (read k x) b = b
content_by n (write k x) b = cond (k == n) x b
content_by n (start q) b = b
content_by n step b = b
content_by n status b = b

abbrev pub content : ℕ → History → List ℕ
content n [] = replicate 128 0
content n (e ∷ h) = on_accepted e (content_by n e.call (content n h)) (content n h)

-- the accepted steps since the latest accepted start
abbrev pub steps_by : Call → ℕ → ℕ
steps_by (make p) k = 0
steps_by (mount p q) k = k
steps_by eject k = k
steps_by (read n x) k = k
steps_by (write n x) k = k
steps_by (start q) k = 0
steps_by step k = suc k
steps_by status k = k

abbrev pub steps : History → ℕ
steps [] = 0
steps (e ∷ h) = on_accepted e (steps_by e.call (steps h)) (steps h)

-- the new pair: of the latest accepted start
abbrev pub new_pair_by : Call → List ℕ → List ℕ
new_pair_by (make p) b = []
new_pair_by (mount p q) b = b
new_pair_by eject b = b
new_pair_by (read n x) b = b
new_pair_by (write n x) b = b
new_pair_by (start q) b = q
new_pair_by step b = b
new_pair_by status b = b

abbrev pub new_pair : History → List ℕ
new_pair [] = []
new_pair (e ∷ h) = on_accepted e (new_pair_by e.call (new_pair h)) (new_pair h)

-- a change of a card with N frames is under way: from an accepted start to the N - 1st accepted step after it, or to an accepted making
abbrev pub in_change_by : ℕ → Call → ℕ → Bool → Bool
in_change_by N (make p) k b = false
in_change_by N (mount p q) k b = b
in_change_by N eject k b = b
in_change_by N (read n x) k b = b
in_change_by N (write n x) k b = b
in_change_by N (start q) k b = true
in_change_by N step k b = cond (suc k == N - 1) false b
in_change_by N status k b = b

abbrev pub in_change : ℕ → History → Bool
in_change N [] = false
in_change N (e ∷ h) = on_accepted e (in_change_by N e.call (steps h) (in_change N h)) (in_change N h)

-- the pair in force: of the latest accepted making or finished change
abbrev pub pair_by : ℕ → Call → ℕ → List ℕ → List ℕ → List ℕ
pair_by N (make p) k q b = p
pair_by N (mount p q') k q b = b
pair_by N eject k q b = b
pair_by N (read n x) k q b = b
pair_by N (write n x) k q b = b
pair_by N (start q') k q b = b
pair_by N step k q b = cond (suc k == N - 1) q b
pair_by N status k q b = b

abbrev pub pair : ℕ → History → List ℕ
pair N [] = []
pair N (e ∷ h) = on_accepted e (pair_by N e.call (steps h) (new_pair h) (pair N h)) (pair N h)

-- the second pair in force: the new pair in a change, else an empty one
abbrev pub second : ℕ → History → List ℕ
second N h = cond (in_change N h) (new_pair h) []

-- the pair under which frame n stands
abbrev pub pair_at : ℕ → History → ℕ → List ℕ
pair_at N h n = cond (in_change N h) (cond (nat_le n (steps h)) (new_pair h) (pair N h)) (pair N h)

-- the card is mounted
abbrev pub is_on_by : Call → Bool → Bool
is_on_by (make p) b = true
is_on_by (mount p q) b = true
is_on_by eject b = false
is_on_by (read n x) b = b
is_on_by (write n x) b = b
is_on_by (start q) b = b
is_on_by step b = b
is_on_by status b = b

abbrev pub is_on : History → Bool
is_on [] = false
is_on (e ∷ h) = on_accepted e (is_on_by e.call (is_on h)) (is_on h)

-- the state as the answers tell it: 0 unmounted, 1 at rest, 2 changing
abbrev pub state_after : Answer → ℕ → ℕ
state_after (refused r) s = s
state_after (made n) s = 1
state_after (mounted n) s = n
state_after ejected s = 0
state_after (got b) s = s
state_after kept s = s
state_after (started n) s = 2
state_after (stepped n p o) s = cond o 1 s
state_after (told a b c) s = s

abbrev pub state : History → ℕ
state [] = 0
state (e ∷ h) = state_after e.answer (state h)

-- how many frames a label says are moved, as the answers tell it
abbrev pub moved_after : Answer → ℕ → ℕ
moved_after (refused r) m = m
moved_after (made n) m = 0
moved_after (mounted n) m = m
moved_after ejected m = m
moved_after (got b) m = m
moved_after kept m = m
moved_after (started n) m = 0
moved_after (stepped n p o) m = cond o 0 n
moved_after (told a b c) m = m

-- a making was accepted, and each mount accepted since the latest one was given the keys in force
abbrev pub claim_by : Call → List ℕ → List ℕ → Type 0 → Type 0
claim_by (make p) a b C = Unit {0}
claim_by (mount p q) a b C = C × (p ≡ a) × (q ≡ b)
claim_by eject a b C = C
claim_by (read n x) a b C = C
claim_by (write n x) a b C = C
claim_by (start q) a b C = C
claim_by step a b C = C
claim_by status a b C = C

abbrev pub Claimed : ℕ → History → Type 0
Claimed N [] = ⊥
Claimed N (e ∷ h) = cond (accepted e.answer) (claim_by e.call (pair N h) (second N h) (Claimed N h)) (Claimed N h)
