use Rattle.std.proofs.Common.{◌/◌, ◌%◌, ◌^◌, ◌≡◌, refl, arith}
use Rattle.camellia_fold.specs.Fold.{through_fl_inverse}
use Rattle.camellia_subkeys.proofs.fold.through.Goals as goal

pub returns : goal.returns
unfolding through_fl_inverse
returns c =
    let k = c.args.k in
    let e : k / 2 ^ 32 % 2 ^ 32 ≡ k / 2 ^ 32 = omega arith in
    rw (c.into.ensures, c.rotate_left.ensures, c.from-d.ensures, c.from-k.ensures, e) refl
