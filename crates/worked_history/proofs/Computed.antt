-- What computing shows of the history.
use Rattle.std.proofs.Common.{refl}
use Rattle.camellia.specs.Sbox.{s1, s1table}
use Rattle.camellia.specs.Functions.{P, PS, F, FL, FLINV}
use Rattle.camellia.specs.Rounds.{run, backward}
use Rattle.camellia.specs.Keys.{key_r, mixed, schedule}
use Rattle.camellia.specs.Cipher.{encrypt, to_state, to_bytes}
use Rattle.sealing.specs.Xts.{bytes16, number16, tweaks, blocks}
use Rattle.text_lines.specs.Line.{assigned}
use Rattle.label_lines.specs.Lines.{laid}
use Rattle.label.specs.Text.{text}
use Rattle.label.specs.Read.{kept, candidate, reads}
use Rattle.law.specs.Kind.{keys_of, seal, unseal, check_of}
use Rattle.worked_history.specs.Worked.{Worked}
use Rattle.worked_history.proofs.Premises.{premises}

pub worked : Worked
unfolding s1 s1table P PS F FL FLINV run backward key_r mixed schedule encrypt to_state to_bytes bytes16 number16 tweaks blocks assigned laid text kept candidate reads keys_of seal unseal check_of
worked = record {
  premises = premises;
  answered = refl;
  claimed = (tt, refl, refl);
  contents = record { before = refl; at = refl; next = refl; behind = refl; unwritten = refl };
  counted = refl;
  changing = refl;
  in_force = refl;
  second_in_force = refl;
  up_to_the_mark = refl;
  behind_the_mark = refl;
  handed_over = refl;
  unclaimed = λ c. c.0;
}
