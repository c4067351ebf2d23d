use Rattle.std.proofs.Common.{◌∙◌, ap₂, arith}
use Rattle.camellia.specs.Rounds.{st}
use Rattle.camellia.specs.Cipher.{to_state}
use Rattle.camellia_rounds.proofs.bytes.halves.Goals as goal

pub returns : goal.returns
unfolding to_state
returns c = ap₂ st (c.left.ensures ∙ omega arith) (c.right.ensures ∙ omega arith)
