use Rattle.std.proofs.Common.{◌+◌, take, string_bytes}
use Rattle.std.specs.Iterator.Adapters.{enumerate_source, enumerate_count}
use Rattle.vector_report.proofs.Reported.{Open}
use Rattle.vector_report.proofs.report.report.Given as goal

-- what reports the rest completes the report
abbrev pub invariant-loop-i : goal.invariant-loop-i
invariant-loop-i l = Open (take 65536 l.input) (enumerate_count l.i-iterator + 1) (enumerate_source l.i-iterator).rest.now (string_bytes l.out)
