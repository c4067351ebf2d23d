use Rattle.std.proofs.Common.{refl, ap, ◌∙◌, ap₂}
use Rattle.sealing.specs.Xts.{tweaks, masked}
use Rattle.sealing.proofs.Frames.{frame_blocks, flat_joined}
use Rattle.sealing.proofs.xts.between_masks.Goals as goal

pub returns : goal.returns
returns g c =
    let ts = c.tweaks-tweaks.ensures ∙ ap (tweaks 8) c.first_tweak.ensures in
    let cut = c.copy_from_slice.ensures.after ∙ c.as_chunks.ensures.front ∙ frame_blocks c.args.bytes.now c.told-bytes in
    let met = c.cipher.ensures in (
      c.cipher.new.arg2,
      record { shown = _; shows = c.mask.ensures ∙ ap₂ masked ts cut; left = _; met = met; leaves = refl },
      c.copy_from_slice-2.ensures.after ∙ c.as_flattened.ensures.value
          ∙ flat_joined _ _ (c.mask-2.ensures ∙ ap (λ t. masked t c.cipher.new.arg2) ts),
    )
