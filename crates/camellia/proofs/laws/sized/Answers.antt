use Rattle.camellia.proofs.Whole.{sized}
use Rattle.camellia.proofs.laws.sized.Goals as goal

pub returns : goal.returns
returns c = sized
