use Rattle.std.proofs.Common.{◌≡◌, take}
use Rattle.sealing.specs.Xts.{masked}
use Rattle.sealing.proofs.xts.mask.Given as goal

abbrev pub invariant-loop-i : goal.invariant-loop-i
invariant-loop-i l = l.blocks ≡ masked (take l.i l.tweaks) l.initial.blocks
