use Rattle.label.specs.Told.{told}
use Rattle.label.proofs.Apart.{same_text}
use Rattle.label.proofs.Read.{reads-text, reads_rules, reads-back, reads_none, text-frame}
use Rattle.label.proofs.Rules.{rules_of}
use Rattle.label.proofs.laws.faithful.Goals as goal

pub returns : goal.returns
returns c =
    record {
      framed = λ l. text-frame (told l) (rules_of l);
      read_back = λ l. reads-text (told l) (rules_of l);
      told_apart = same_text;
      written = reads-back;
      ruled = reads_rules;
      refused = reads_none;
    }
