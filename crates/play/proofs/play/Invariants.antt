use Rattle.std.proofs.Common.{◌≡◌, ℕ, ◌≤◌, get_or}
use Rattle.calls.specs.declared.Turn.{Turn}
use Rattle.play.proofs.Stage.{Stage}
use Rattle.play.proofs.play.Given as goal

abbrev pub invariant-loop-turn : goal.invariant-loop-turn
invariant-loop-turn g l =
    let C = g.C.CardCalls in
    record {
      played : Stage C.kind (C.card l.initial.card) (C.card l.card) (C.store l.initial.card) (C.store l.card) l.initial.turns l.turns l.turn-index;
      waiting : (j : ℕ) (d : Turn) → l.turn-index ≤ j → get_or l.turns j d ≡ get_or l.initial.turns j d;
    }
