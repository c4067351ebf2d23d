use Rattle.std.proofs.Common.{◌≡◌, ◌-◌, ◌≤◌}
use Rattle.law.specs.Store.{unworn_to}
use Rattle.law.specs.Model.{cleared_to}
use Rattle.sealed_store.specs.Told.{keys_in}
use Rattle.sealed_store.proofs.frames.clear.Given as goal

abbrev pub invariant-loop-n : goal.invariant-loop-n
invariant-loop-n g l =
    let s = g.S.Store in
    let w = s.worn l.initial.store in
    record {
      within : l.n - 1 ≤ l.count - 1;
      fits : l.sealed ≤ l.n;
      counted : l.sealed ≡ unworn_to w (l.n - 1);
      frames : s.frames l.store ≡ cleared_to w (keys_in g.E.Engine l.pair) (l.n - 1) (s.frames l.initial.store);
      worn : s.worn l.store ≡ w;
    }
