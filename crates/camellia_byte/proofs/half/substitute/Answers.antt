use mathlib.Core.Path.{sym, ◌∙◌}
use borrow.Author.Rules.{rules}
use lib.ListN.{get_or}
use Rattle.camellia.specs.Functions.{P}
use Rattle.camellia.proofs.Bytes.{Eight, PS-join8}
use Rattle.camellia_byte.proofs.half.substitute.Goals as goal

pub returns : goal.returns
unfolding P
returns c =
    let x = c.args.x in
    let p : Eight (get_or x 0 0) (get_or x 1 0) (get_or x 2 0) (get_or x 3 0) (get_or x 4 0) (get_or x 5 0) (get_or x 6 0) (get_or x 7 0) = search rules in
    (λ i. P (c.s1.ensures i) (c.s2.ensures i) (c.s3.ensures i) (c.s4.ensures i)
    (c.s2-2.ensures i) (c.s3-2.ensures i) (c.s4-2.ensures i) (c.s1-2.ensures i))
    ∙ sym (PS-join8 p)
