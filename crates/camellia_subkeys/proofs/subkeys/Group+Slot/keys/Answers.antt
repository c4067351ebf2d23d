use Rattle.std.proofs.Common.{◌∷◌, sym, ap, ap₂, ◌∙◌}
use Rattle.camellia.specs.declared.plan.Layer.TheVariants.{Fl}
use Rattle.camellia_subkeys.specs.Groups.{rounds_of}
use Rattle.camellia_subkeys.proofs.Grouped.{planned}
use Rattle.camellia_subkeys.proofs.subkeys.Group+Slot.keys.Goals as goal

pub returns : goal.returns
returns c =
    ap₂ ◌∷◌ (ap₂ Fl c.subkey.ensures c.subkey-2.ensures)
    (ap rounds_of c.rounds.ensures ∙ sym (planned c.args.m.now c.args.self.rounds))
