use Rattle.std.proofs.Common.{arith}
use Rattle.camellia.specs.Rounds.{backward}
use Rattle.camellia_fold.specs.Fold.{fold, folded, folded_back, last_offset}
use Rattle.camellia_subkeys.specs.Groups.{schedule_of}
use Rattle.camellia_subkeys.proofs.Grouped.{one_by_one}
use Rattle.camellia_subkeys.proofs.fold.Subkeys+u64.folded.Goals as goal
use Rattle.camellia_subkeys.proofs.fold.Subkeys+u64.folded.Goals.{in-None, in-Some}

pub returns : goal.returns
unfolding schedule_of fold folded last_offset folded_back backward
returns c =
    let g = c.args.self.now.groups in
    let first = one_by_one g.first (omega arith) in
    let second = one_by_one g.second.rounds (omega arith) in
    let third = one_by_one g.third.rounds (omega arith) in
    rw (
      c.woven-2.ensures,
      c.woven-3.ensures.fl,
      c.woven-3.ensures.rounds,
      c.woven-4.ensures.fl,
      c.woven-4.ensures.rounds,
      c.up-up.ensures,
      c.up-second_up.ensures,
    )
    (elim c.match-fourth.branch [
      | in-None w ↦ rw (w.fourth-is, w.in-None.is, first, second, third) (simp (c.down-third_down.ensures, c.down-second_down.ensures))
      | in-Some w ↦
          let fourth = one_by_one w.in-Some.fourth.rounds w.woven.ensures.six in
          rw (w.fourth-is, w.in-Some.is, w.woven.ensures.fl, w.woven.ensures.rounds, w.up.ensures, w.down-down.ensures, first, second, third, fourth)
          (simp (c.down-third_down.ensures, c.down-second_down.ensures))
    ])
