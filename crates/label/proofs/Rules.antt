-- Every label keeps the rules, by its type.
use Rattle.std.proofs.Common.{refl}
use Rattle.label.specs.Text.{KeySize, Rules}
use Rattle.label.specs.Told.{bits, told}
use Rattle.label.specs.declared.label.KeyBits.{KeyBits}
use Rattle.label.specs.declared.label.KeyBits.TheVariants.{K128, K192, K256}
use Rattle.label.specs.declared.label.Label.{Label}
use Rattle.label.proofs.Kept.{lettered_decides}

pub bits-sized : (k : KeyBits) → KeySize (bits k)
bits-sized K128 = refl
bits-sized K192 = refl
bits-sized K256 = refl

pub rules_of : (l : Label) → Rules (told l)
rules_of l =
    record {
      named = (lettered_decides l.cipher).0 l.named;
      sized = bits-sized l.keybits;
      counted = l.counted;
      checked = l.checked;
      nexted = l.nexted;
      within = l.within;
      still = l.still;
    }
