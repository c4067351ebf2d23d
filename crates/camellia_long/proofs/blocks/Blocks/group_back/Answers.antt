use Rattle.camellia.specs.Rounds.{backward}
use Rattle.camellia_long.proofs.Each.{after}
use Rattle.camellia_long.proofs.blocks.Blocks.group_back.Goals as goal

pub returns : goal.returns
unfolding backward
returns g c = after _ _ _ _ _ c.rounds_back.ensures c.fl.ensures
