use Rattle.std.proofs.Common.{take}
use Rattle.text_lines.specs.Decimal.{NumeralOf}
use Rattle.text_lines.proofs.decimal.read_four.Given as goal

abbrev pub invariant-loop-digit : goal.invariant-loop-digit
invariant-loop-digit l = NumeralOf (take l.digit-index l.four) l.digit-index l.n
