use Rattle.std.proofs.Common.{◌≤◌, length, rules, is_some, sym, refl, ap, ◌∙◌, subst, arith}
use mathlib.Core.Bool.{false≢true}
use Rattle.engine.specs.Kind.{EightLetters}
use Rattle.label.proofs.Kept.{lettered_decides}
use Rattle.card_labels.proofs.Check.{check-long, unpaired}
use Rattle.card_labels.proofs.made.Goals as goal

pub returns-in_err-keybits : goal.returns-in_err-keybits
returns-in_err-keybits g c =
    let other = unpaired c.args.len c.in_err-keybits.ensures in
    rw (c.from_residual.ensures, other) refl

pub invariant_of-result : goal.invariant_of-result
invariant_of-result g c =
    let e = c.check_value-check.ensures in
    let frames : (2 ≤ c.in_ok-frames.frames) × (c.in_ok-frames.frames ≤ 1024) = search rules in
    record {
      named = (lettered_decides _).1 (subst EightLetters (sym c.NAME-cipher.ensures) g.met.E.Engine.lettered);
      counted = frames;
      checked = (ap length e ∙ check-long _, c.octets.ensures);
      nexted = λ b x. absurd (false≢true (ap is_some x));
      within = omega (arith, frames);
      still = λ x. refl;
    }
