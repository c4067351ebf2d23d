-- What each call does to a card and its store.
use Rattle.std.specs.Prelude.{ℕ, zero, suc, ◌-◌, Bool, true, false, cond, List, [], ◌∷◌, replicate, Some, None, Option, ◌==◌, nat_le, slice_set}
use Rattle.std.specs.Option.{unwrap_or}
use Rattle.refusal.specs.declared.Refusal.{Refusal}
use Rattle.label.specs.Text.{Fields, text}
use Rattle.law.specs.Kind.{Kind, Keys, keys_of, idle, seal, unseal, check_of}
use Rattle.law.specs.Store.{Store, size, frame_at, unworn_to}
use Rattle.law.specs.Labels.{blank, label_in, labelled, made_label}
use Rattle.law.specs.Calls.{Call, make, mount, eject, read, write, start, step, status, Answer, refused, made, mounted, ejected, got, kept, started, stepped, told, left_by}
use Rattle.law.specs.Checks.{refusal}
use Rattle.law.specs.History.{Event}

-- a card: its label while mounted, and what its two pairs of engines tell
pub record Card : Type 0 where
  pub label : Option Fields
  pub old : Keys
  pub new : Keys

-- its state
abbrev pub state_by : Option Fields → ℕ
state_by None = 0
state_by (Some l) = labelled l.next

abbrev pub state_of : Card → ℕ
state_of c = state_by c.label

abbrev pub held : Option Fields → Fields
held o = unwrap_or o blank

-- an unmounted card: the engines that a state doesn't use hold sixteen zero bytes
abbrev pub off : Kind → Card
off M = record { label = None; old = idle M; new = idle M }

-- the keys under which a frame stands: the new ones up to the mark
abbrev pub keys_by : Option (List ℕ) → ℕ → Keys → Keys → ℕ → Keys
keys_by None m k q n = k
keys_by (Some c) m k q n = cond (nat_le n m) q k

abbrev pub keys_for : Card → ℕ → Keys
keys_for c n = keys_by (held c.label).next (held c.label).moved c.old c.new n

-- the labels that a start and a step write
abbrev pub started_label : Fields → List ℕ → Fields
started_label l c =
    record { cipher = l.cipher; keybits = l.keybits; frames = l.frames; check = l.check; next = Some c; moved = 0 }

abbrev pub moved_label : Fields → Fields
moved_label l =
    record { cipher = l.cipher; keybits = l.keybits; frames = l.frames; check = l.check; next = l.next; moved = suc l.moved }

abbrev pub ended_label : Fields → Fields
ended_label l =
    record { cipher = l.cipher; keybits = l.keybits; frames = l.frames; check = unwrap_or l.next l.check; next = None; moved = 0 }

-- the step after which the change is over, and the label after a step
abbrev pub is_over : Fields → Bool
is_over l = suc l.moved == l.frames - 1

abbrev pub step_label : Bool → Fields → Fields
step_label true l = ended_label l
step_label false l = moved_label l

-- a write to a store: a worn frame stays
abbrev pub kept_if : Bool → List (List ℕ) → ℕ → List ℕ → List (List ℕ)
kept_if true fs n f = fs
kept_if false fs n f = slice_set fs n f

abbrev pub put : Store → ℕ → List ℕ → Store
put s n f = record { frames = kept_if (s.worn n) s.frames n f; worn = s.worn }

abbrev pub zeros : List ℕ
zeros = replicate 128 0

-- frames 1 to n become sealed zero bytes
abbrev pub cleared_to : (ℕ → Bool) → Keys → ℕ → List (List ℕ) → List (List ℕ)
cleared_to w k zero fs = fs
cleared_to w k (suc n) fs = kept_if (w (suc n)) (cleared_to w k n fs) (suc n) (seal k (suc n) zeros)

abbrev pub relabelled : Fields → Store → Store
relabelled l s = put s 0 (text l)

abbrev pub resealed : Keys → Keys → ℕ → Store → Store
resealed k q n s = put s n (seal q n (unseal k n (frame_at s n)))

pub record Outcome : Type 0 where
  pub answer : Answer
  pub card : Card
  pub store : Store

-- the second pair's keys, where the label has a next check value
abbrev pub second_keys : Kind → Option (List ℕ) → List ℕ → Keys
second_keys M None q = idle M
second_keys M (Some c) q = keys_of M q

abbrev pub start_on : Kind → Option Fields → Card → Store → List ℕ → Outcome
start_on M None c s y = record { answer = kept; card = c; store = s }
start_on M (Some l) c s y =
    let l' : Fields = started_label l (check_of (keys_of M y)) in
    record {
      answer = started (l.frames - 1);
      card = record { label = Some l'; old = c.old; new = keys_of M y };
      store = relabelled l' s;
    }

abbrev pub after_step : Bool → Kind → Fields → Card → Card
after_step true M l c = record { label = Some (ended_label l); old = c.new; new = idle M }
after_step false M l c = record { label = Some (moved_label l); old = c.old; new = c.new }

abbrev pub step_on : Kind → Option Fields → Card → Store → Outcome
step_on M None c s = record { answer = kept; card = c; store = s }
step_on M (Some l) c s =
    let n : ℕ = suc l.moved in
    record {
      answer = stepped n (s.worn n) (is_over l);
      card = after_step (is_over l) M l c;
      store = relabelled (step_label (is_over l) l) (resealed c.old c.new n s);
    }

abbrev pub status_of : Option Fields → ℕ → Answer
status_of None N = told 0 0 0
status_of (Some l) N = told (labelled l.next) N l.moved

-- an accepted call
abbrev pub perform : Kind → Card → Store → Call → Outcome
perform M c s (make p) =
    let l : Fields = made_label M (size s) p in
    record {
      answer = made (unworn_to s.worn (size s - 1));
      card = record { label = Some l; old = keys_of M p; new = idle M };
      store = relabelled l (record { frames = cleared_to s.worn (keys_of M p) (size s - 1) s.frames; worn = s.worn });
    }
perform M c s (mount p q) =
    let l : Fields = label_in s in
    record {
      answer = mounted (labelled l.next);
      card = record { label = Some l; old = keys_of M p; new = second_keys M l.next q };
      store = s;
    }
perform M c s eject = record { answer = ejected; card = off M; store = s }
perform M c s (read n b) = record { answer = got (unseal (keys_for c n) n (frame_at s n)); card = c; store = s }
perform M c s (write n b) = record { answer = kept; card = c; store = put s n (seal (keys_for c n) n b) }
perform M c s (start y) = start_on M c.label c s y
perform M c s step = step_on M c.label c s
perform M c s status = record { answer = status_of c.label (size s); card = c; store = s }

-- a refused call changes nothing
abbrev pub decide : Option Refusal → Card → Store → Outcome → Outcome
decide None c s o = o
decide (Some r) c s o = record { answer = refused r; card = c; store = s }

-- one call
abbrev pub act : Kind → Card → Store → Call → Outcome
act M c s k = decide (refusal M (state_of c) (held c.label).keybits s k) c s (perform M c s k)

abbrev pub event_of : Call → Outcome → Event
event_of k o = record { call = k; answer = o.answer; left = left_by k o.answer; store = o.store }

-- a list of calls, as events, and the card and the store after it
abbrev pub events : Kind → Card → Store → List Call → List Event
events M c s [] = []
events M c s (k ∷ ks) =
    let o : Outcome = act M c s k in
    event_of k o ∷ events M o.card o.store ks

abbrev pub card_after : Kind → Card → Store → List Call → Card
card_after M c s [] = c
card_after M c s (k ∷ ks) = let o : Outcome = act M c s k in card_after M o.card o.store ks
