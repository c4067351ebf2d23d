use Rattle.std.proofs.Common.{ap, ◌∙◌, ap₂, rules}
use Rattle.camellia.specs.Sbox.{s1table}
use Rattle.camellia_rounds.specs.Parts.{whole}
use Rattle.camellia_word.specs.Words.{rotated}
use Rattle.camellia_word.proofs.Words.{PS_words}
use Rattle.camellia_word.proofs.half.WordHalfHalf.ps.Goals as goal

pub returns : goal.returns
unfolding s1table
returns c =
    let x = c.args.self.0 in
    ap whole c.spread.ensures
    ∙ ap₂ (λ l r. whole (rotated l r)) c.substitute_left.ensures c.substitute_right.ensures
    ∙ PS_words x.left x.right (search rules) (search rules)
