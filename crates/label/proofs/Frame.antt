-- A label's text fills a frame with bytes.
use Rattle.std.proofs.Common.{◌≡◌, ℕ, zero, suc, ◌+◌, ◌/◌, ◌%◌, ◌<◌, true, ltb, List, [], ◌∷◌, length, replicate, Some, None, codes, Option, refl, arith}
use Rattle.std.specs.List.{AllByRecursion, list_all}
use Rattle.std.proofs.ByRecursion.{All-append, All-push, All-from_get_or}
use Rattle.octets.specs.Octets.{Bytes}
use Rattle.engine.specs.Kind.{EightLetters}
use Rattle.text_lines.specs.Line.{assigned, line}
use Rattle.text_lines.specs.Decimal.{numeral}
use Rattle.text_lines.specs.Hex.{digit, hex}
use Rattle.text_lines.proofs.OneHex.{digit-is}
use Rattle.label_lines.specs.Lines.{laid}
use Rattle.label.specs.Text.{Fields, next_value, values, text, Four}
use Rattle.label.proofs.Kept.{small-get_or, small_decides}
use Rattle.label.proofs.Candidate.{Fitting, placed, sized-values}

pub length-text : (l : Fields) → Fitting l → length (text l) ≡ 128
unfolding text
length-text l z = (placed (values l) (sized-values l z)).long

abbrev Small : List ℕ → Type 0
Small = AllByRecursion (λ x. x < 256)

small-digit : (n : ℕ) → n < 16 → digit n < 256
small-digit n h = let d = digit-is n h in grind arith

small-hex : (b : List ℕ) → Small b → Small (hex b)
small-hex [] h = tt
small-hex (x ∷ b) h = (small-digit (x / 16) (omega arith), (small-digit (x % 16) (omega arith), small-hex b h.1))

small-four : (b : List ℕ) → Four b → Small (hex b)
small-four b h = small-hex b (All-from_get_or (λ x. x < 256) b 0 (λ i l. h.1 i))

small-numeral : (width n : ℕ) → Small (numeral width n)
small-numeral zero n = tt
small-numeral (suc width) n = All-push (λ x. x < 256) (numeral width (n / 10)) (48 + n % 10) (small-numeral width (n / 10)) (omega arith)

small-next : (next : Option (List ℕ)) → ((b : List ℕ) → next ≡ Some b → Four b) → Small (next_value next)
small-next None h = (small_decides (codes "--------")).0 refl
small-next (Some b) h = small-four b (h b refl)

-- a line under a name that is tested by computing
small_line : (name value rest : List ℕ) → list_all (λ x. ltb x 256) name ≡ true → Small value → Small rest → Small (line name value rest)
unfolding assigned
small_line name value rest n v r =
    All-append (λ x. x < 256) name (assigned value rest) ((small_decides name).0 n)
    (omega arith, All-append (λ x. x < 256) value (10 ∷ rest) v (omega arith, r))

pub bytes-text : (l : Fields) → EightLetters l.cipher → Fitting l → Bytes (text l)
unfolding text laid
bytes-text l name z =
    let letters = All-from_get_or (λ x. x < 256) l.cipher 0 (λ i h. omega (arith, name.letters i (omega (arith, name.eight)))) in
    small-get_or (text l)
    (small_line (codes "cipher") _ _ refl letters
    (small_line (codes "keybits") _ _ refl (small-numeral 3 l.keybits)
    (small_line (codes "frames") _ _ refl (small-numeral 4 l.frames)
    (small_line (codes "check") _ _ refl (small-four l.check z.check)
    (small_line (codes "next") _ _ refl (small-next l.next z.next)
    (small_line (codes "moved") _ _ refl (small-numeral 4 l.moved)
    ((small_decides (replicate 48 0)).0 refl)))))))
