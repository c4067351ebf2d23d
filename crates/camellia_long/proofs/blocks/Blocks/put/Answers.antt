use Rattle.std.proofs.Common.{[], arith}
use Rattle.camellia.specs.Rounds.{swapped}
use Rattle.camellia.specs.Cipher.{to_bytes}
use Rattle.camellia_long.proofs.Each.{states_to}
use Rattle.camellia_long.proofs.blocks.Blocks.put.Goals as goal

pub returns : goal.returns
returns g c =
    states_to (λ s. to_bytes (swapped s)) c.args.self.now.left c.args.self.now.right c.loop-i.blocks [] (omega arith) (omega arith)
    (λ i h. c.loop-i.invariant.1 i (omega arith))
