use Rattle.worked_history.proofs.Computed.{worked}
use Rattle.worked_history.proofs.law_is_met.Goals as goal

pub returns : goal.returns
returns c = worked
