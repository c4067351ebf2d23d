use Rattle.std.proofs.Common.{rules}
use Rattle.std.proofs.lemmas.List.Edits.{map_over_more}
use Rattle.std.proofs.lemmas.List.{take_all, drop_all}
use Rattle.camellia.specs.Numbers.{◌⊕◌}
use Rattle.camellia_long.proofs.blocks.whiten.Goals as goal

pub loop-x-preserved : goal.loop-x-preserved
loop-x-preserved g c = search (rules, map_over_more (λ x. x ⊕ c.args.k))

pub returns : goal.returns
returns g c = search (rules, take_all, drop_all)
