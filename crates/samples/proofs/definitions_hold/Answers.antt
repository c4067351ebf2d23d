use Rattle.std.proofs.Common.{◌≡◌, ℕ, ◌%◌, ◌^◌, List, [], ◌∷◌, ◌++◌, length, get_or, refl, ap}
use Rattle.std.proofs.lemmas.Slice.Eq.{text_from_reads}
use Rattle.camellia.specs.Sbox.{s1, s1table}
use Rattle.camellia.specs.Functions.{P, PS, F, FL, FLINV}
use Rattle.camellia.specs.Rounds.{run}
use Rattle.camellia.specs.Keys.{key_r, mixed, schedule}
use Rattle.camellia.specs.Cipher.{encrypt, to_state, to_bytes}
use Rattle.sealing.specs.Xts.{bytes16, number16}
use Rattle.text_lines.specs.Line.{assigned}
use Rattle.label_lines.specs.Lines.{laid}
use Rattle.label.specs.Text.{text}
use Rattle.label.specs.Read.{kept, candidate, reads}
use Rattle.samples.specs.Samples.{Complemented, rfc_middle}
use Rattle.samples.proofs.definitions_hold.Goals as goal

sixteen : (s : List ℕ) → length s ≡ 16
    → s ≡ get_or s 0 0 ∷ get_or s 1 0 ∷ get_or s 2 0 ∷ get_or s 3 0 ∷ get_or s 4 0 ∷ get_or s 5 0 ∷ get_or s 6 0 ∷ get_or s 7 0
    ∷ get_or s 8 0 ∷ get_or s 9 0 ∷ get_or s 10 0 ∷ get_or s 11 0 ∷ get_or s 12 0 ∷ get_or s 13 0 ∷ get_or s 14 0 ∷ get_or s 15 0 ∷ []
sixteen s l =
    text_from_reads s _ l (refl, (refl, (refl, (refl, (refl, (refl, (refl, (refl, (refl, (refl, (refl, (refl, (refl, (refl, (refl, (refl, tt))))))))))))))))

complemented : Complemented
unfolding key_r
complemented front l = ap (λ (f : List ℕ). key_r (f ++ rfc_middle) % 2 ^ 64) (sixteen front l)

pub returns : goal.returns
unfolding s1 s1table P PS F FL FLINV run key_r mixed schedule encrypt to_state to_bytes bytes16 number16 assigned laid text kept candidate reads
returns c = record {
  substitutions = record { first = refl; second = refl; third = refl; fourth = refl };
  halves = record { spread = refl; round = refl; ones = refl; top = refl; top_back = refl };
  complemented = complemented;
  examples = record { bits128 = refl; bits192 = refl; bits256 = refl };
  tweaks = record { carried = refl; unit256 = refl };
  check_values = record { bytes32 = refl; bytes48 = refl; bytes64 = refl };
  labels = record { resting = refl; resting-moved = refl; changing = refl; changed = refl };
}
