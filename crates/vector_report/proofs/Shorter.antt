-- What follows a group is shorter than what begins with it.
use Rattle.std.proofs.Common.{ℕ, ◌<◌, List, length, codes, ap, arith, length-append}
use Rattle.text_lines.specs.Line.{assigned, line}
use Rattle.text_lines.specs.Hex.{hex}
use Rattle.vector_groups.specs.declared.group.Group.{Group}
use Rattle.vector_groups.specs.Text.{key_bytes, GroupOf}

line_longer : (name value rest : List ℕ) → length rest < length (line name value rest)
unfolding assigned
line_longer name value rest = simp length-append (omega arith)

pub shorter : (input : List ℕ) (g : Group) (rest : List ℕ) → GroupOf input g rest → length rest < length input
shorter input g rest p =
    let a = line_longer (codes "cipher") (hex g.cipher) rest in
    let b = line_longer (codes "plain") (hex g.plain) (line (codes "cipher") (hex g.cipher) rest) in
    let k = line_longer (codes "key") (hex (key_bytes g.key)) (line (codes "plain") (hex g.plain) (line (codes "cipher") (hex g.cipher) rest)) in
    omega (arith, a, b, k, ap length p.reads)
