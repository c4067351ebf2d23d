use Rattle.std.proofs.Common.{◌+◌, take, string_bytes, ap}
use Rattle.std.specs.Iterator.Adapters.{enumerate_source, enumerate_count}
use Rattle.vector_report.proofs.Reported.{more, last, whole}
use Rattle.vector_report.proofs.report.report.Goals as goal

pub loop-i-preserved-in-Continue-1 : goal.loop-i-preserved-in-Continue-1
loop-i-preserved-in-Continue-1 c =
    let step = c.in-Some.ensures.steps in
    let rest = (enumerate_source c.loop-i.i-iterator).rest.now in
    more (take 65536 c.args.input.now) (enumerate_count c.loop-i.i-iterator + 1) rest (string_bytes c.loop-i.out) c.loop-i.invariant
    (ap (λ n. n + 1) step.2) (rw c.in-Ok.is at step.0) c.judge.ensures (rw step.1 at c.in_ok-write_judged-in-Ok.ensures)

pub loop-i-preserved : goal.loop-i-preserved
loop-i-preserved c =
    let step = c.in-Some.ensures.steps in
    let rest = (enumerate_source c.loop-i.i-iterator).rest.now in
    let first = rw c.in-Err.is at step.0 in
    last (take 65536 c.args.input.now) (enumerate_count c.loop-i.i-iterator + 1) rest (string_bytes c.loop-i.out) c.loop-i.invariant
    (ap (λ n. n + 1) step.2) first.0 first.1 first.2 (rw step.1 at c.in_ok-write_malformed-in-Err.ensures)

pub returns : goal.returns
returns c =
    let rest = (enumerate_source c.loop-i.i-iterator).rest.now in
    whole (take 65536 c.args.input.now) (enumerate_count c.loop-i.i-iterator + 1) rest (string_bytes c.loop-i.out)
    c.loop-i.invariant c.in-None.ensures.steps.0.0
