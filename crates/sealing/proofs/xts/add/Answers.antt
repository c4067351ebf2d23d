use Rattle.std.proofs.Common.{sym, ap, ◌∙◌, arith, rules}
use Rattle.std.proofs.lemmas.List.{take_all}
use Rattle.octets.specs.Octets.{Block}
use Rattle.sealing.proofs.Sixteen.{xored, added_xored}
use Rattle.sealing.proofs.xts.add.Goals as goal

pub returns : goal.returns
returns c =
    let block : Block c.args.block = record { sixteen = search rules; bytes = search rules } in
    let tweak : Block c.args.tweak = record { sixteen = search rules; bytes = search rules } in
    let l = tweak.sixteen in
    c.loop-i.invariant ∙ ap (λ t. xored t c.args.block) (take_all c.loop-i.i c.args.tweak (omega arith)) ∙ sym (added_xored _ _ block tweak)
