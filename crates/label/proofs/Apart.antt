-- Labels with one text are one label.
use Rattle.std.proofs.Common.{◌≡◌, ℕ, ◌-◌, ◌<◌, ◌≤◌, true, cond, eqb, List, Some, None, sym, refl, ap, ◌∙◌}
use mathlib.Core.HLevel.{is_prop→PathP}
use denote.Struct.Props.{props}
use Rattle.label.specs.Text.{Fields, text, Four}
use Rattle.label.specs.Read.{lettered}
use Rattle.label.specs.Told.{bits, told}
use Rattle.label.specs.declared.label.KeyBits.{KeyBits}
use Rattle.label.specs.declared.label.KeyBits.TheVariants.{K128, K192, K256}
use Rattle.label.specs.declared.label.Label.{Label}
use Rattle.label.proofs.Read.{text_same}
use Rattle.label.proofs.Rules.{rules_of}

keybits_of : ℕ → KeyBits
keybits_of n = cond (eqb n 128) K128 (cond (eqb n 192) K192 K256)

keybits-back : (k : KeyBits) → keybits_of (bits k) ≡ k
unfolding keybits_of
keybits-back K128 = refl
keybits-back K192 = refl
keybits-back K256 = refl

pub same_text : (l m : Label) → text (told l) ≡ text (told m) → l ≡ m
same_text l m e =
    let same = text_same (told l) (told m) (rules_of l) (rules_of m) e in
    let cipher = ap (λ (x : Fields). x.cipher) same in
    let keybits = sym (keybits-back l.keybits) ∙ ap (λ (x : Fields). keybits_of x.keybits) same ∙ keybits-back m.keybits in
    let frames = ap (λ (x : Fields). x.frames) same in
    let check = ap (λ (x : Fields). x.check) same in
    let next = ap (λ (x : Fields). x.next) same in
    let moved = ap (λ (x : Fields). x.moved) same in
    λ i.
    record {
      cipher = cipher i;
      keybits = keybits i;
      frames = frames i;
      check = check i;
      next = next i;
      moved = moved i;
      named = is_prop→PathP (λ j. lettered (cipher j) ≡ true) (λ j. hlevel props) l.named m.named i;
      counted = is_prop→PathP (λ j. (2 ≤ frames j) × (frames j ≤ 1024)) (λ j. hlevel props) l.counted m.counted i;
      checked = is_prop→PathP (λ j. Four (check j)) (λ j. hlevel props) l.checked m.checked i;
      nexted = is_prop→PathP (λ j. ((b : List ℕ) → next j ≡ Some b → Four b)) (λ j. hlevel props) l.nexted m.nexted i;
      within = is_prop→PathP (λ j. moved j < frames j - 1) (λ j. hlevel props) l.within m.within i;
      still = is_prop→PathP (λ j. (next j ≡ None → moved j ≡ 0)) (λ j. hlevel props) l.still m.still i;
    }
