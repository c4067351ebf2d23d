use Rattle.std.proofs.Common.{sym, ◌∙◌, arith}
use Rattle.text_lines.proofs.OneHex.{length-hex}
use Rattle.text_lines.proofs.OneLine.{same-wide-line}
use Rattle.text_lines.proofs.hex.read_hex_line.Goals as goal

pub returns-in_err-digits : goal.returns-in_err-digits
returns-in_err-digits g c =
    rw c.from_residual.ensures
    (λ bytes rest h.
    c.in_err-digits.ensures _ rest (record { wide = omega (arith, length-hex bytes, h.sized.counted); reads = h.reads }))

pub returns-in_err-bytes : goal.returns-in_err-bytes
returns-in_err-bytes g c =
    rw c.from_residual-in_err-bytes.ensures
    (λ bytes rest h.
    let found = c.in_ok-digits.ensures in
    let same = same-wide-line _ _ _ _ _ (omega (arith, length-hex bytes, h.sized.counted, found.wide)) (sym found.reads ∙ h.reads) in
    c.in_err-bytes.ensures bytes (record { sized = h.sized; reads = same.0 }))
