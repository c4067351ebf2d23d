use Rattle.std.proofs.Common.{refl}
use Rattle.camellia.specs.Sbox.{s1, s1table}
use Rattle.camellia.specs.Functions.{P, PS, F, FL, FLINV}
use Rattle.camellia.specs.Rounds.{run, backward}
use Rattle.camellia.specs.Keys.{key_r, mixed, schedule}
use Rattle.camellia.specs.Cipher.{encrypt, to_state, to_bytes}
use Rattle.camellia_fold.specs.Fold.{through_fl, through_fl_inverse, folded, last_offset, folded_back, fold}
use Rattle.camellia_fold.proofs.sampled.Goals as goal

pub returns : goal.returns
unfolding s1 s1table P PS F FL FLINV run backward key_r mixed schedule encrypt to_state to_bytes through_fl through_fl_inverse folded last_offset folded_back fold
returns c = record {
  carried = refl;
  masked = refl;
  rotated = refl;
  rotated_first = refl;
  none2 = refl;
  none4 = refl;
  enciphers = refl;
  deciphers = refl;
}
