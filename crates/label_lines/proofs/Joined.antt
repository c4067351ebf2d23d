-- The lines of a label, written one after the other.
use Rattle.std.proofs.Common.{◌≡◌, ℕ, List, [], ◌++◌, replicate, codes, ◌∙◌}
use Rattle.std.proofs.lemmas.List.{append_assoc}
use Rattle.text_lines.specs.Line.{assigned, line}
use Rattle.label_lines.specs.Lines.{Values, laid}

assigned_then : (value t rest : List ℕ) → assigned value t ++ rest ≡ assigned value (t ++ rest)
unfolding assigned
assigned_then value t rest = simp append_assoc

pub joined_lines : (v : Values) (empty p q r s t u out : List ℕ)
    → empty ≡ []
    → p ≡ empty ++ line (codes "cipher") v.cipher []
    → q ≡ p ++ line (codes "keybits") v.keybits []
    → r ≡ q ++ line (codes "frames") v.frames []
    → s ≡ r ++ line (codes "check") v.check []
    → t ≡ s ++ line (codes "next") v.next []
    → u ≡ t ++ line (codes "moved") v.moved []
    → out ≡ u ++ replicate 48 0
    → out ≡ laid v
unfolding laid
joined_lines v empty p q r s t u out z a b c d e f g = g ∙ simp (f, e, d, c, b, a, z, assigned_then)
