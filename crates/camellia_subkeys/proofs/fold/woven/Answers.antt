use Rattle.std.proofs.Common.{refl}
use Rattle.camellia.specs.Rounds.{backward}
use Rattle.camellia_fold.specs.Fold.{folded, folded_back}
use Rattle.camellia_subkeys.proofs.Grouped.{one_by_one}
use Rattle.camellia_subkeys.proofs.fold.woven.Goals as goal

pub returns : goal.returns
unfolding folded folded_back backward
returns c = rw (one_by_one c.args.rounds.now c.told-rounds) refl
