use Rattle.std.proofs.Common.{length, ap, arith}
use Rattle.text_lines.proofs.OneHex.{length-hex}
use Rattle.text_lines.proofs.Pairs.{is-pair, all_read}
use Rattle.text_lines.proofs.hex.read_bytes.Goals as goal

pub returns-in_default : goal.returns-in_default
returns-in_default g c = λ bytes h.
    omega (arith, ap length h.reads, length-hex bytes, h.sized.counted, c.in_default.len_at_least, c.as_chunks.ensures.back_len)

pub returns-then-pairs : goal.returns-then-pairs
returns-then-pairs g c = λ bytes h.
    omega (arith, ap length h.reads, length-hex bytes, h.sized.counted, c.if-pairs.true, c.as_chunks.ensures.front_len)

pub returns-in_err-bytes : goal.returns-in_err-bytes
returns-in_err-bytes g c =
    rw c.from_residual.ensures
    (λ bytes h. c.in_err-bytes.ensures _ (is-pair _ h (omega arith) c.as_chunks.ensures.front (omega arith)))

pub returns : goal.returns
returns g c =
    all_read c.loop-i.invariant (omega arith) c.as_chunks.ensures.front (omega arith) (omega arith)
