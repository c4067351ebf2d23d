use Rattle.text_lines.proofs.Pairs.{Read}
use Rattle.text_lines.proofs.hex.read_bytes.Given as goal

abbrev pub invariant-loop-i : goal.invariant-loop-i
invariant-loop-i g l = Read l.pairs l.bytes l.i g.row.N
