use Rattle.law.proofs.Law.{every}
use Rattle.law.proofs.law_holds.Goals as goal

pub returns : goal.returns
returns c = every
