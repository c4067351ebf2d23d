use Rattle.std.proofs.Common.{sym, ap, ◌∙◌}
use Rattle.camellia.specs.Keys.{layer_of}
use Rattle.camellia_subkeys.specs.Groups.{rounds_of}
use Rattle.camellia_subkeys.proofs.Grouped.{planned, none, some, in_parts}
use Rattle.camellia_subkeys.proofs.subkeys.Groups+Slot.keys.Goals as goal

pub returns-in-None : goal.returns-in-None
returns-in-None c =
    in_parts (layer_of c.args.m.now) c.args.self _ (ap rounds_of c.rounds.ensures ∙ sym (planned c.args.m.now c.args.self.first))
    c.keys.ensures c.keys-2.ensures (none _ _ c.in-None.is)

pub returns-in-Some : goal.returns-in-Some
returns-in-Some c =
    in_parts (layer_of c.args.m.now) c.args.self _ (ap rounds_of c.rounds.ensures ∙ sym (planned c.args.m.now c.args.self.first))
    c.keys.ensures c.keys-2.ensures (some _ _ _ _ c.in-Some.is c.keys-in-Some.ensures)
