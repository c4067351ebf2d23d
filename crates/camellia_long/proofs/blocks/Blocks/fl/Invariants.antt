use Rattle.std.proofs.Common.{◌≡◌, ◌++◌, map, take, drop}
use Rattle.camellia.specs.Functions.{FL, FLINV}
use Rattle.camellia_long.proofs.blocks.Blocks.fl.Given as goal

abbrev pub invariant-loop-x : goal.invariant-loop-x
invariant-loop-x g l = l.x-items ≡ map (λ x. FL x l.k.left) (take l.x-index l.initial.x-items) ++ drop l.x-index l.initial.x-items

abbrev pub invariant-loop-y : goal.invariant-loop-y
invariant-loop-y g l = l.y-items ≡ map (λ y. FLINV y l.k.right) (take l.y-index l.initial.y-items) ++ drop l.y-index l.initial.y-items
