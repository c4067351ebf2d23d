use Rattle.std.proofs.Common.{◌≡◌}
use Rattle.camellia.specs.Rounds.{run}
use Rattle.camellia_rounds.specs.Told.{state_of}
use Rattle.camellia_rounds.proofs.rounds.Halves.enciphered.Given as goal

abbrev pub invariant-loop-layer : goal.invariant-loop-layer
invariant-loop-layer g l = state_of g.H.Half.value l.s ≡ run l.yielded (state_of g.H.Half.value l.initial.s)
