use Rattle.camellia_subkeys.proofs.Grouped.{one_by_one}
use Rattle.camellia_long.proofs.Each.{after}
use Rattle.camellia_long.proofs.blocks.Blocks.rounds.Goals as goal

pub returns : goal.returns
returns g c = rw (one_by_one c.args.k.now c.told-k) (after _ _ _ _ _ c.two.ensures (after _ _ _ _ _ c.two-2.ensures c.two-3.ensures))
