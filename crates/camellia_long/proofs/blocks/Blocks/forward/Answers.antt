use Rattle.std.proofs.Common.{map, sym, ap, ◌∙◌}
use Rattle.camellia.specs.Rounds.{run}
use Rattle.camellia_long.specs.Wide.{blocks_of}
use Rattle.camellia_subkeys.proofs.Grouped.{three_groups, four_groups}
use Rattle.camellia_long.proofs.Each.{after}
use Rattle.camellia_long.proofs.blocks.Blocks.forward.Goals as goal

pub returns-in-Some : goal.returns-in-Some
returns-in-Some g c =
    after _ _ _ _ _ c.rounds.ensures (after _ _ _ _ _ c.group.ensures (after _ _ _ _ _ c.group-2.ensures c.group-in-Some.ensures))
    ∙ ap (λ ys. map (run ys) (blocks_of c.args.self.now)) (sym (four_groups c.args.groups.now _ c.in-Some.is))

pub returns-in_default : goal.returns-in_default
returns-in_default g c =
    after _ _ _ _ _ c.rounds.ensures (after _ _ _ _ _ c.group.ensures c.group-2.ensures)
    ∙ ap (λ ys. map (run ys) (blocks_of c.args.self.now)) (sym (three_groups c.args.groups.now c.in_default.is))
