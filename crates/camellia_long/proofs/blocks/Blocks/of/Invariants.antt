use Rattle.std.proofs.Common.{◌≡◌, ℕ, ◌<◌, [], length, get_or}
use Rattle.camellia.specs.Rounds.{st}
use Rattle.camellia.specs.Cipher.{to_state}
use Rattle.camellia_long.proofs.blocks.Blocks.of.Given as goal

abbrev pub invariant-loop-i : goal.invariant-loop-i
invariant-loop-i g l =
    (length l.left ≡ g.row.N) × (length l.right ≡ g.row.N)
    × ((j : ℕ) → j < l.i → st (get_or l.left j 0) (get_or l.right j 0) ≡ to_state (get_or l.blocks j []))
