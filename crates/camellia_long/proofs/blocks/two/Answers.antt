use Rattle.std.proofs.Common.{get_or, ap, ◌∙◌, ap₂, arith}
use Rattle.camellia.specs.Numbers.{◌⊕◌}
use Rattle.camellia.specs.Functions.{F}
use Rattle.camellia.specs.Rounds.{st, run}
use Rattle.camellia_long.proofs.Each.{each}
use Rattle.camellia_long.proofs.blocks.two.Goals as goal

pub returns : goal.returns
unfolding run
returns g c =
    let left = c.args.left.now in
    each _ left c.args.right.now c.round-2.new.to c.round.new.to (omega arith) (omega arith) (omega arith)
    (λ i h.
    let right = c.round.ensures.at i (omega arith) in
    ap₂ st (c.round-2.ensures.at i (omega arith) ∙ ap (λ t. get_or left i 0 ⊕ F t c.args.m) right) right)
