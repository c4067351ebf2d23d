use Rattle.std.proofs.Common.{codes, refl, arith, rules, ltb-false}
use Rattle.label_lines.proofs.Front.{line_found, line-front}
use Rattle.label_lines.proofs.cut.keybits_line.Goals as goal

pub returns-in-107 : goal.returns-in-107
returns-in-107 c = line_found (codes "keybits") _ c.args.text.now 3 refl (omega (arith, ltb-false)) (search rules)

pub returns-in_default : goal.returns-in_default
returns-in_default c = λ value rest h. let front = line-front (codes "keybits") 3 h in search rules
