use Rattle.std.proofs.Common.{codes, refl, arith, rules, ltb-false}
use Rattle.label_lines.proofs.Front.{line_found, line-front}
use Rattle.label_lines.proofs.cut.frames_line.Goals as goal

pub returns-in-102 : goal.returns-in-102
returns-in-102 c = line_found (codes "frames") _ c.args.text.now 4 refl (omega (arith, ltb-false)) (search rules)

pub returns-in_default : goal.returns-in_default
returns-in_default c = λ value rest h. let front = line-front (codes "frames") 4 h in search rules
