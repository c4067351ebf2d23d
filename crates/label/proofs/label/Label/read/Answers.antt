use Rattle.std.proofs.Common.{codes, ◌∙◌}
use Rattle.std.proofs.lemmas.Bool.{both_ways}
use Rattle.std.proofs.lemmas.Bool.Decides.{Decides-eqb}
use Rattle.std.proofs.lemmas.Slice.Eq.{slice_eq-Decides}
use Rattle.label.proofs.Lines.{no_lines, no_keybits, no_frames, no_check, no_moved, no_next, all_read, at-rest, changing, NextOf}
use Rattle.label.proofs.label.Label.read.Goals as goal
use Rattle.label.proofs.label.Label.read.Goals.{then-eq, else-eq+in_ok-read_bytes}

pub returns-in_err-lines : goal.returns-in_err-lines
returns-in_err-lines c = rw c.from_residual.ensures (no_lines c.args.frame.now c.in_err-lines.ensures)

pub returns-in_err-keybits : goal.returns-in_err-keybits
returns-in_err-keybits c =
    rw c.from_residual-in_err-keybits.ensures (no_keybits c.in_ok-lines.ensures c.in_err-keybits.ensures)

pub returns-in_err-frames : goal.returns-in_err-frames
returns-in_err-frames c =
    rw c.from_residual-in_err-frames.ensures (no_frames c.in_ok-lines.ensures c.in_err-frames.ensures)

pub returns-in_err-check : goal.returns-in_err-check
returns-in_err-check c =
    rw c.from_residual-in_err-check.ensures (no_check c.in_ok-lines.ensures c.in_err-check.ensures)

pub returns-in_err-moved : goal.returns-in_err-moved
returns-in_err-moved c =
    rw c.from_residual-in_err-moved.ensures (no_moved c.in_ok-lines.ensures c.in_err-moved.ensures)

pub returns-in_err-read_bytes : goal.returns-in_err-read_bytes
returns-in_err-read_bytes c =
    let some = slice_eq-Decides Decides-eqb c.in_ok-lines.lines.next (codes "--------") _ c.eq.ensures in
    rw c.from_residual-in_err-read_bytes.ensures
    (no_next c.in_ok-lines.ensures (λ e. both_ways _ c.if-eq.false (some.1 e)) c.in_err-read_bytes.ensures)

pub returns : goal.returns
returns c =
    let next : NextOf c.in_ok-lines.lines.next c.if-eq.next = elim c.if-eq.branch [
      | then-eq w ↦ rw w.next-is (at-rest ((slice_eq-Decides Decides-eqb c.in_ok-lines.lines.next (codes "--------") _ c.eq.ensures).0 w.if-eq.true))
      | else-eq+in_ok-read_bytes w ↦ rw w.next-is (changing w.in_ok-read_bytes.ensures)
    ] in
    c.new.ensures
    ∙ all_read c.in_ok-lines.ensures _ _ _ _ _
    c.in_ok-keybits.ensures c.in_ok-frames.ensures c.in_ok-moved.ensures c.in_ok-check.ensures next
