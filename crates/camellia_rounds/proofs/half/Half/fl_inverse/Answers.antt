use Rattle.std.proofs.Common.{ap, ◌∙◌, ap₂, rules}
use Rattle.camellia.specs.Functions.{FLINV}
use Rattle.camellia_rounds.specs.Parts.{whole, fl_inverse_of}
use Rattle.camellia_rounds.proofs.ByParts.{fl_inverse_by_parts}
use Rattle.camellia_rounds.proofs.half.Half.fl_inverse.Goals as goal

pub returns : goal.returns
returns g c =
    g.met.Self.Half.made _ _ c.from-3.ensures ∙ c.into.ensures ∙ ap whole c.fl_inverse.ensures
    ∙ ap₂ (λ x k. whole (fl_inverse_of x k)) c.from.ensures c.from-2.ensures
    ∙ fl_inverse_by_parts _ c.into-k.result (search rules)
    ∙ ap₂ FLINV (g.met.Self.Half.told _ _ c.into-y.ensures) (g.met.Self.Half.told _ _ c.into-k.ensures)
