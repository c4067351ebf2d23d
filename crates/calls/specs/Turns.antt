-- Requests as calls, and turns as calls with their answers.
use Rattle.std.specs.Prelude.{◌≡◌, ℕ, List, [], ◌∷◌, map, vec_items, Some, Option}
use Rattle.std.specs.Option.{option_map}
use Rattle.law.specs.Calls.{Call, make, mount, eject, read, write, start, step, status, Answer}
use Rattle.law.specs.History.{Event}
use Rattle.calls.specs.Replies.{answer_by}
use Rattle.calls.specs.declared.Request.{Request}
use Rattle.calls.specs.declared.Request.TheVariants as request
use Rattle.calls.specs.declared.Turn.{Turn}

abbrev pub call_of : Request → Call
call_of (request.Make p) = make (vec_items p)
call_of (request.Mount p q) = mount (vec_items p) (vec_items q)
call_of request.Eject = eject
call_of (request.Read n b) = read n (vec_items b)
call_of (request.Write n b) = write n (vec_items b)
call_of (request.Start p) = start (vec_items p)
call_of request.Step = step
call_of request.Status = status

-- what an accepted read gives
abbrev pub buffer_in : Request → List ℕ
buffer_in (request.Make p) = []
buffer_in (request.Mount p q) = []
buffer_in request.Eject = []
buffer_in (request.Read n b) = vec_items b
buffer_in (request.Write n b) = []
buffer_in (request.Start p) = []
buffer_in request.Step = []
buffer_in request.Status = []

abbrev pub call_in : Turn → Call
call_in t = call_of t.request

-- none before a card has taken the turn
abbrev pub answer_in : Turn → Option Answer
answer_in t = option_map (λ r. answer_by r (buffer_in t.request)) t.reply

abbrev pub calls : List Turn → List Call
calls ts = map call_in ts

-- turns as they were given and as they were left are these events, one each
abbrev pub Seen : List Turn → List Turn → List Event → Type 0
Seen [] [] [] = Unit {0}
Seen [] [] (e ∷ es) = ⊥
Seen [] (y ∷ ys) es = ⊥
Seen (x ∷ xs) [] es = ⊥
Seen (x ∷ xs) (y ∷ ys) [] = ⊥
Seen (x ∷ xs) (y ∷ ys) (e ∷ es) = (e.call ≡ call_in x) × (answer_in y ≡ Some e.answer) × (e.left ≡ call_in y) × Seen xs ys es
