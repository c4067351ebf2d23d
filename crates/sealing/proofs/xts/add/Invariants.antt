use Rattle.std.proofs.Common.{◌≡◌, take}
use Rattle.sealing.proofs.Sixteen.{xored}
use Rattle.sealing.proofs.xts.add.Given as goal

abbrev pub invariant-loop-i : goal.invariant-loop-i
invariant-loop-i l = l.block ≡ xored (take l.i l.fn.tweak) l.initial.block
