use Rattle.std.proofs.Common.{sym, ◌∙◌, rules}
use Rattle.std.proofs.lemmas.Bool.{both_ways}
use Rattle.label.specs.Told.{fields}
use Rattle.label.proofs.Kept.{lettered_name, lettered_decides, allowed_some, allowed-none}
use Rattle.label.proofs.Rules.{bits-sized}
use Rattle.label.proofs.label.Label.new.Goals as goal
use Rattle.label.proofs.label.Label.new.Goals.{then-not-is_lettered-via-then-not-is_lettered, then-not-is_lettered-via-else-not-is_lettered+then-not-counts_fit, then-not-is_lettered-via-else-not-is_lettered+else-not-counts_fit+then-not-is_still}

pub returns-then-not-is_lettered : goal.returns-then-not-is_lettered
returns-then-not-is_lettered c =
    allowed-none (fields c.args.cipher c.args.keybits c.args.frames c.args.check c.args.next c.args.moved)
    (λ h.
    elim c.then-not-is_lettered.branch [
      | then-not-is_lettered-via-then-not-is_lettered w ↦
          both_ways _ w.if-not-is_lettered.true (c.is_lettered.ensures ∙ lettered_name c.args.cipher (search rules) ∙ (lettered_decides c.args.cipher).1 h.named)
      | then-not-is_lettered-via-else-not-is_lettered+then-not-counts_fit w ↦
          both_ways _ w.if-not-counts_fit.true (w.counts_fit.ensures.1 (h.counted.0, h.counted.1, h.within))
      | then-not-is_lettered-via-else-not-is_lettered+else-not-counts_fit+then-not-is_still w ↦
          both_ways _ w.if-not-is_still.true (w.is_still.ensures.1 h.still)
    ])

pub returns : goal.returns
returns c =
    let fit = c.counts_fit.ensures.0 c.if-not-counts_fit.false in
    allowed_some (fields c.args.cipher c.args.keybits c.args.frames c.args.check c.args.next c.args.moved)
    (record {
      named = (lettered_decides c.args.cipher).0 (sym (lettered_name c.args.cipher (search rules)) ∙ sym c.is_lettered.ensures ∙ c.if-not-is_lettered.false);
      sized = bits-sized c.args.keybits;
      counted = (fit.0, fit.1);
      checked = search rules;
      nexted = search rules;
      within = fit.2;
      still = c.is_still.ensures.0 c.if-not-is_still.false;
    })
