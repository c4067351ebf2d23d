use Rattle.std.proofs.Common.{replicate, sym, refl, ◌∙◌}
use Rattle.std.proofs.lemmas.Bool.{both_ways, not-true, not-false}
use Rattle.std.proofs.lemmas.Bool.Decides.{Decides-eqb}
use Rattle.std.proofs.lemmas.Slice.Eq.{slice_eq-Decides}
use Rattle.label_lines.proofs.Whole.{start, stop, past-cipher, past-keybits, past-frames, past-check, past_next, past-moved, taken_apart, cipher-step, keybits-step, frames-step, check-step, next-step, moved-step}
use Rattle.label_lines.proofs.lines.Lines.read.Goals as goal

pub returns-in_err-cipher : goal.returns-in_err-cipher
returns-in_err-cipher c = rw c.from_residual.ensures (stop cipher-step (start c.args.frame.now) c.in_err-cipher.ensures)

pub returns-in_err-keybits : goal.returns-in_err-keybits
returns-in_err-keybits c =
    rw c.from_residual-in_err-keybits.ensures (stop keybits-step (past-cipher c.in_ok-cipher.ensures) c.in_err-keybits.ensures)

pub returns-in_err-frames : goal.returns-in_err-frames
returns-in_err-frames c =
    let left = past-keybits c.in_ok-cipher.ensures c.in_ok-keybits.ensures in
    rw c.from_residual-in_err-frames.ensures (stop frames-step left c.in_err-frames.ensures)

pub returns-in_err-check : goal.returns-in_err-check
returns-in_err-check c =
    let left = past-frames c.in_ok-cipher.ensures c.in_ok-keybits.ensures c.in_ok-frames.ensures in
    rw c.from_residual-in_err-check.ensures (stop check-step left c.in_err-check.ensures)

pub returns-in_err-next : goal.returns-in_err-next
returns-in_err-next c =
    let left = past-check c.in_ok-cipher.ensures c.in_ok-keybits.ensures c.in_ok-frames.ensures c.in_ok-check.ensures in
    rw c.from_residual-in_err-next.ensures (stop next-step left c.in_err-next.ensures)

pub returns-in_err-moved : goal.returns-in_err-moved
returns-in_err-moved c =
    let left = past_next c.in_ok-cipher.ensures c.in_ok-keybits.ensures c.in_ok-frames.ensures c.in_ok-check.ensures c.in_ok-next.ensures in
    rw c.from_residual-in_err-moved.ensures (stop moved-step left c.in_err-moved.ensures)

pub returns-then-ne : goal.returns-then-ne
returns-then-ne c = λ v h.
    let left = past-moved c.in_ok-cipher.ensures c.in_ok-keybits.ensures c.in_ok-frames.ensures c.in_ok-check.ensures c.in_ok-next.ensures c.in_ok-moved.ensures in
    let other = not-true _ (sym c.ne.ensures ∙ c.if-ne.true) in
    both_ways _ other ((slice_eq-Decides Decides-eqb c.in_ok-moved.rest.now (replicate 48 0) _ refl).1 (left v h))

pub returns : goal.returns
returns c =
    taken_apart
    c.in_ok-cipher.ensures
    c.in_ok-keybits.ensures
    c.in_ok-frames.ensures
    c.in_ok-check.ensures
    c.in_ok-next.ensures
    c.in_ok-moved.ensures
    ((slice_eq-Decides Decides-eqb c.in_ok-moved.rest.now (replicate 48 0) _ refl).0 (not-false _ (sym c.ne.ensures ∙ c.if-ne.false)))
