use Rattle.std.proofs.Common.{map, sym, ap, ◌∙◌}
use Rattle.camellia.specs.Rounds.{run, backward}
use Rattle.camellia_long.specs.Wide.{blocks_of}
use Rattle.camellia_subkeys.specs.Groups.{group_of}
use Rattle.camellia_subkeys.proofs.Grouped.{three_groups_back, four_groups_back}
use Rattle.camellia_long.proofs.Each.{after}
use Rattle.camellia_long.proofs.blocks.Blocks.backward.Goals as goal
use Rattle.camellia_long.proofs.blocks.Blocks.backward.Goals.{in-Some, in_default}

pub returns : goal.returns
returns g c =
    let k = c.args.groups.now in
    let s = blocks_of c.args.self.now in
    elim c.match-groups.branch [
      | in-Some w ↦
          after _ _ _ _ _ (after _ _ _ _ _ (after _ _ _ _ _ (ap blocks_of w.self-is ∙ w.group_back.ensures) c.group_back-2.ensures) c.group_back-3.ensures) c.rounds_back.ensures
          ∙ ap (λ ys. map (run ys) s) (sym (four_groups_back k _ w.in-Some.is))
      | in_default w ↦
          after _ _ _ _ _ (after _ _ _ _ _ (c.group_back-2.ensures ∙ ap (λ b. map (run (backward (group_of k.third))) (blocks_of b)) w.self-is) c.group_back-3.ensures) c.rounds_back.ensures
          ∙ ap (λ ys. map (run ys) s) (sym (three_groups_back k w.in_default.is))
    ]
