use Rattle.std.proofs.Common.{◌≡◌, ap, ◌∙◌, ap₂}
use Rattle.camellia.specs.Rounds.{State, st, run, step}
use Rattle.camellia.specs.Keys.{joined, halves, mixed}
use Rattle.camellia.specs.declared.plan.Layer.TheVariants.{Round}
use Rattle.camellia_rounds.proofs.sources.mixed.Goals as goal

pub returns : goal.returns
unfolding mixed run
returns g c =
    let start : _ ≡ halves c.args.x = c.from-s.ensures ∙ ap₂ st c.left.ensures c.right.ensures in
    let first = c.round.ensures ∙ ap (step (Round c.args.first)) start in
    let second = c.round-2.ensures ∙ ap (step (Round c.args.second)) first in
    c.joined.ensures ∙ ap (λ (s : State). joined s.left s.right) (c.into-left.ensures ∙ second)
