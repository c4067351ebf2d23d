use Rattle.camellia.proofs.Whole.{undone}
use Rattle.camellia.proofs.laws.undone.Goals as goal

pub returns : goal.returns
returns c = undone
