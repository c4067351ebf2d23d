use Rattle.std.proofs.Common.{[], arith}
use Rattle.camellia.specs.Cipher.{to_state}
use Rattle.camellia_long.proofs.Each.{states_from}
use Rattle.camellia_long.proofs.blocks.Blocks.of.Goals as goal

pub returns : goal.returns
returns g c =
    states_from to_state c.loop-i.left c.loop-i.right c.args.blocks.now [] (omega arith) (omega arith)
    (λ i h. c.loop-i.invariant.2 i (omega arith))
