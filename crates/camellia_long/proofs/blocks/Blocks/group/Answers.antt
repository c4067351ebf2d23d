use Rattle.std.proofs.Common.{[], ◌∷◌}
use Rattle.camellia.specs.declared.plan.Layer.TheVariants.{Fl}
use Rattle.camellia_subkeys.specs.Groups.{rounds_of}
use Rattle.camellia_long.proofs.Each.{after}
use Rattle.camellia_long.proofs.blocks.Blocks.group.Goals as goal

pub returns : goal.returns
returns g c = let k = c.args.group.now in after (Fl k.fl.left k.fl.right ∷ []) (rounds_of k.rounds) _ _ _ c.fl.ensures c.rounds.ensures
