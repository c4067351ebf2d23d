-- A numeral has its width, and the number that it writes.
use Rattle.std.proofs.Common.{◌≡◌, ℕ, zero, suc, ◌+◌, ◌/◌, ◌%◌, ◌^◌, ◌<◌, length, refl, ◌∙◌, pow-suc, arith, length-append}
use native.Mathlib.Nat.{pow-zero}
use Rattle.std.specs.Char.{digit_value}
use Rattle.std.specs.Str.Parse.{digits_value}
use Rattle.std.proofs.lemmas.Int.Digits.{digits_value_push}
use Rattle.text_lines.specs.Decimal.{numeral}

pub length-numeral : (width n : ℕ) → length (numeral width n) ≡ width
length-numeral zero n = refl
length-numeral (suc width) n = simp length-append (omega (arith, length-numeral width (n / 10)))

digit_value_lem : (d : ℕ) → d < 10 → digit_value (48 + d) ≡ d
digit_value_lem d h = grind arith

pub value-numeral : (width n : ℕ) → n < 10 ^ width → digits_value 10 (numeral width n) ≡ n
value-numeral zero n h = omega (arith, pow-zero 10)
value-numeral (suc width) n h =
    let power = pow-suc 10 width in
    let high = value-numeral width (n / 10) (omega arith) in
    let low = digit_value_lem (n % 10) (omega arith) in
    digits_value_push 10 (numeral width (n / 10)) (48 + n % 10) ∙ omega arith
