use Rattle.std.proofs.Common.{◌≡◌, map, length, take}
use Rattle.camellia.specs.Keys.{layer_of}
use Rattle.camellia_rounds.proofs.schedule.Schedule.of.Given as goal

abbrev pub invariant-loop-i : goal.invariant-loop-i
invariant-loop-i g l = (length l.layers ≡ 27) × (take l.i l.layers ≡ map (layer_of l.m) (take l.i l.plan.layers.now))
