use Rattle.std.proofs.Common.{sym, ap, ◌∙◌, rules}
use Rattle.octets.specs.Octets.{Block}
use Rattle.sealing.specs.Xts.{bytes16, tweaks}
use Rattle.sealing.proofs.Frames.{tweaks_more, tweaks_made}
use Rattle.sealing.proofs.Sixteen.{number_read, bytes-number}
use Rattle.sealing.proofs.xts.tweaks.Goals as goal

pub loop-tweak-preserved : goal.loop-tweak-preserved
loop-tweak-preserved c =
    let so = c.loop-tweak.invariant in
    record {
      long = search rules;
      made = tweaks_more c.loop-tweak.tweak-items c.loop-tweak.tweak-index _ _ _ c.loop-tweak-test.true so.long c.bytes.ensures c.double-next.ensures ∙ so.made;
    }

pub returns : goal.returns
returns c =
    let so = c.loop-tweak.invariant in
    let first : Block c.args.first = record { sixteen = search rules; bytes = search rules } in
    sym (tweaks_made c.loop-tweak.tweak-items _ c.loop-tweak.tweak-index c.loop-tweak-test.false so.long) ∙ so.made
    ∙ ap (tweaks 8) (ap bytes16 (number_read c.args.first _ c.from_le_bytes-next.ensures) ∙ bytes-number c.args.first first)
