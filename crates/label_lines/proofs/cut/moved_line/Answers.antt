use Rattle.std.proofs.Common.{codes, refl, arith, rules, ltb-false}
use Rattle.label_lines.proofs.Front.{line_found, line-front}
use Rattle.label_lines.proofs.cut.moved_line.Goals as goal

pub returns-in-109 : goal.returns-in-109
returns-in-109 c = line_found (codes "moved") _ c.args.text.now 4 refl (omega (arith, ltb-false)) (search rules)

pub returns-in_default : goal.returns-in_default
returns-in_default c = λ value rest h. let front = line-front (codes "moved") 4 h in search rules
