use Rattle.std.proofs.Common.{replicate, refl}
use Rattle.camellia.specs.Sbox.{s1, s1table}
use Rattle.camellia.specs.Functions.{P, PS, F}
use Rattle.camellia.specs.Rounds.{run, backward}
use Rattle.camellia.specs.Keys.{key_r, mixed, schedule}
use Rattle.camellia_fold.specs.Fold.{fold, folded, folded_back, last_offset, through_fl, through_fl_inverse}
use Rattle.camellia_subkeys.specs.Groups.{schedule_of}
use Rattle.camellia_long.proofs.Told.{enciphers_as, deciphers_as}
use Rattle.camellia_long.proofs.zero.zero_keys.Goals as goal

pub returns : goal.returns
unfolding schedule_of s1 s1table P PS F run backward key_r mixed schedule fold folded folded_back last_offset through_fl through_fl_inverse
returns c = record { enciphers = enciphers_as _ (replicate 16 0) refl; deciphers = deciphers_as _ (replicate 16 0) refl }
