-- Hexadecimal writes bytes in one way, and ends no line.
use Rattle.std.proofs.Common.{◌≡◌, ℕ, ◌+◌, ◌*◌, ◌/◌, ◌%◌, ◌<◌, cond, ltb, ◌≢◌, List, [], ◌∷◌, length, refl, arith}
use Rattle.std.specs.Char.{digit_value}
use Rattle.std.specs.Str.Parse.{digits_value}
use Rattle.std.specs.List.{AllByRecursion}
use Rattle.std.proofs.lemmas.Bool.{cond_both, ltb-true, ltb-false}
use Rattle.std.proofs.lemmas.List.FromFn.{get_or-map-range_with_len}
use Rattle.text_lines.specs.Line.{line}
use Rattle.text_lines.specs.Hex.{digit, hex, unhex}
use Rattle.text_lines.proofs.OneLine.{Unbroken, same_line}

-- the sixteen digits, compared by computing
pub digit-is : (n : ℕ) → n < 16 → digit n ≡ cond (ltb n 10) (48 + n) (87 + n)
digit-is n h = get_or-map-range_with_len (λ k. cond (ltb k 10) (48 + k) (87 + k)) 0 16 n n 0 h (omega arith)

same-digit : (m n : ℕ) → m < 16 → n < 16 → digit m ≡ digit n → m ≡ n
same-digit m n h k e = let a = digit-is m h in let b = digit-is n k in grind arith

abbrev Small : List ℕ → Type 0
Small = AllByRecursion (λ b. b < 256)

pub length-hex : (bytes : List ℕ) → length (hex bytes) ≡ 2 * length bytes
length-hex [] = refl
length-hex (b ∷ bytes) = omega (arith, length-hex bytes)

pub same-hex : (x y : List ℕ) → Small x → Small y → hex x ≡ hex y → x ≡ y
same-hex [] [] p q e = refl
same-hex [] (b ∷ y) p q e = cc
same-hex (a ∷ x) [] p q e = cc
same-hex (a ∷ x) (b ∷ y) p q e =
    let high = same-digit (a / 16) (b / 16) (omega arith) (omega arith) (cc) in
    let low = same-digit (a % 16) (b % 16) (omega arith) (omega arith) (cc) in
    let head : a ≡ b = omega arith in
    let tail : x ≡ y = same-hex x y p.1 q.1 (cc) in
    cc

digit_value_lem : (n : ℕ) → n < 16 → digit_value (digit n) ≡ n
digit_value_lem n h =
    rw (digit-is n h)
    (cond_both (ltb n 10) (48 + n) (87 + n) (λ c. digit_value c ≡ n) (λ e. let l = ltb-true n 10 e in grind arith) (λ e. let l = ltb-false n 10 e in grind arith))

pub unhex-hex : (bytes : List ℕ) → Small bytes → unhex (hex bytes) ≡ bytes
unhex-hex [] h = refl
unhex-hex (b ∷ bytes) h =
    let high = digit_value_lem (b / 16) (omega arith) in
    let low = digit_value_lem (b % 16) (omega arith) in
    let byte : digits_value 16 (digit (b / 16) ∷ digit (b % 16) ∷ []) ≡ b = omega arith in
    let rest = unhex-hex bytes h.1 in
    cc

not_break : (n : ℕ) → n < 16 → digit n ≢ 10
not_break n h e = let d = digit-is n h in grind arith

pub unbroken_hex : (bytes : List ℕ) → Small bytes → Unbroken (hex bytes)
unbroken_hex [] h = tt
unbroken_hex (b ∷ bytes) h = (not_break (b / 16) (omega arith), (not_break (b % 16) (omega arith), unbroken_hex bytes h.1))

-- a line in hexadecimal is one in one way, whatever its width
pub same-hex-line : (name x y t u : List ℕ) → Small x → Small y → line name (hex x) t ≡ line name (hex y) u → (x ≡ y) × (t ≡ u)
same-hex-line name x y t u p q e =
    let r = same_line name (hex x) (hex y) t u (unbroken_hex x p) (unbroken_hex y q) e in
    (same-hex x y p q r.0, r.1)
