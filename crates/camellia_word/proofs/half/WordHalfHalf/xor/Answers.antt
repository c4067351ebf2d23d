use Rattle.std.proofs.Common.{sym, rules}
use lib.Bits.{xor_block}
use Rattle.camellia_word.proofs.half.WordHalfHalf.xor.Goals as goal

pub returns : goal.returns
returns c =
    let x = c.args.self.0 in
    let y = c.args.other.0 in
    sym (xor_block 32 x.left y.left x.right y.right (search rules) (search rules))
