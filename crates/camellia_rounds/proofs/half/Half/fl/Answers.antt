use Rattle.std.proofs.Common.{ap, ◌∙◌, ap₂, rules}
use Rattle.camellia.specs.Functions.{FL}
use Rattle.camellia_rounds.specs.Parts.{whole, fl_of}
use Rattle.camellia_rounds.proofs.ByParts.{fl_by_parts}
use Rattle.camellia_rounds.proofs.half.Half.fl.Goals as goal

pub returns : goal.returns
returns g c =
    g.met.Self.Half.made _ _ c.from-3.ensures ∙ c.into.ensures ∙ ap whole c.fl.ensures
    ∙ ap₂ (λ x k. whole (fl_of x k)) c.from.ensures c.from-2.ensures
    ∙ fl_by_parts _ c.into-k.result (search rules)
    ∙ ap₂ FL (g.met.Self.Half.told _ _ c.into-x.ensures) (g.met.Self.Half.told _ _ c.into-k.ensures)
