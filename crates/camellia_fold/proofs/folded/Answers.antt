use Rattle.camellia_fold.proofs.Same.{all_folded}
use Rattle.camellia_fold.proofs.folded.Goals as goal

pub returns : goal.returns
returns c = all_folded
