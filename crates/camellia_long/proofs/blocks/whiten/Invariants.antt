use Rattle.std.proofs.Common.{◌≡◌, ◌++◌, map, take, drop}
use Rattle.camellia.specs.Numbers.{◌⊕◌}
use Rattle.camellia_long.proofs.blocks.whiten.Given as goal

abbrev pub invariant-loop-x : goal.invariant-loop-x
invariant-loop-x g l = l.halves ≡ map (λ x. x ⊕ l.k) (take l.x-index l.initial.halves) ++ drop l.x-index l.initial.halves
