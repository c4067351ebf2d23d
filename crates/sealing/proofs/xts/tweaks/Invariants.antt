use Rattle.std.proofs.Common.{◌≡◌, ◌-◌, ◌++◌, length, take}
use Rattle.sealing.specs.Xts.{bytes16, tweaks}
use Rattle.sealing.proofs.xts.tweaks.Given as goal

abbrev pub invariant-loop-tweak : goal.invariant-loop-tweak
invariant-loop-tweak l = record {
  long : length l.tweak-items ≡ 8;
  made : take l.tweak-index l.tweak-items ++ tweaks (8 - l.tweak-index) (bytes16 l.next) ≡ tweaks 8 (bytes16 l.initial.next);
}
