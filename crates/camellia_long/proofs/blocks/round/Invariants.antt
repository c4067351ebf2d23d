use Rattle.std.proofs.Common.{◌≡◌, ℕ, ◌<◌, ◌≤◌, length, get_or}
use Rattle.camellia.specs.Numbers.{◌⊕◌}
use Rattle.camellia.specs.Functions.{F}
use Rattle.camellia_long.proofs.blocks.round.Given as goal

abbrev pub invariant-loop-i : goal.invariant-loop-i
invariant-loop-i g l =
    (length l.to ≡ g.row.N)
    × ((j : ℕ) → j < l.i → get_or l.to j 0 ≡ get_or l.initial.to j 0 ⊕ F (get_or l.from j 0) l.k)
    × ((j : ℕ) → l.i ≤ j → get_or l.to j 0 ≡ get_or l.initial.to j 0)
