use Rattle.std.proofs.Common.{codes, refl, arith, rules, ltb-false}
use Rattle.label_lines.proofs.Front.{line_found, line-front}
use Rattle.label_lines.proofs.cut.cipher_line.Goals as goal

pub returns-in-99 : goal.returns-in-99
returns-in-99 c = line_found (codes "cipher") _ c.args.text.now 8 refl (omega (arith, ltb-false)) (search rules)

pub returns-in_default : goal.returns-in_default
returns-in_default c = λ value rest h. let front = line-front (codes "cipher") 8 h in search rules
