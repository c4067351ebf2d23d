use Rattle.std.proofs.Common.{◌≡◌, ℕ, ◌<◌, [], length, get_or}
use Rattle.camellia.specs.Rounds.{st}
use Rattle.camellia.specs.Cipher.{to_bytes}
use Rattle.camellia_long.proofs.blocks.Blocks.put.Given as goal

abbrev pub invariant-loop-i : goal.invariant-loop-i
invariant-loop-i g l =
    (length l.blocks ≡ g.row.N)
    × ((j : ℕ) → j < l.i → get_or l.blocks j [] ≡ to_bytes (st (get_or l.self.right j 0) (get_or l.self.left j 0)))
