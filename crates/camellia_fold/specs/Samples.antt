-- The definitions at samples.
use Rattle.std.specs.Prelude.{ℕ, List, [], ◌∷◌, ◌≡◌}
use Rattle.camellia.specs.Keys.{Schedule, schedule}
use Rattle.camellia.specs.Cipher.{enciphered, deciphered}
use Rattle.camellia_fold.specs.Fold.{through_fl, through_fl_inverse, fold}

-- the 128-bit example of RFC 3713, appendix A: its key, which is its block too, and the block enciphered
abbrev pub rfc_key : List ℕ
rfc_key =
    0x01 ∷ 0x23 ∷ 0x45 ∷ 0x67 ∷ 0x89 ∷ 0xab ∷ 0xcd ∷ 0xef ∷ 0xfe ∷ 0xdc ∷ 0xba ∷ 0x98 ∷ 0x76 ∷ 0x54 ∷ 0x32 ∷ 0x10 ∷ []

abbrev pub rfc_cipher : List ℕ
rfc_cipher =
    0x67 ∷ 0x67 ∷ 0x31 ∷ 0x38 ∷ 0x54 ∷ 0x96 ∷ 0x69 ∷ 0x73 ∷ 0x08 ∷ 0x57 ∷ 0x06 ∷ 0x56 ∷ 0x48 ∷ 0xea ∷ 0xbe ∷ 0x43 ∷ []

abbrev rfc_folded : Schedule
rfc_folded = fold (schedule rfc_key)

pub record Samples : Type 0 where
  pub carried : through_fl_inverse 1 0 ≡ 0x100000001
  pub masked : through_fl_inverse 1 1 ≡ 1
  pub rotated : through_fl_inverse 0x8000000000000000 0x8000000000000000 ≡ 0x8000000000000001
  pub rotated_first : through_fl 0x8000000000000000 0x8000000000000000 ≡ 0x8000000100000001
  pub none2 : rfc_folded.kw.kw2 ≡ 0
  pub none4 : rfc_folded.kw.kw4 ≡ 0
  pub enciphers : enciphered rfc_folded rfc_key ≡ rfc_cipher
  pub deciphers : deciphered rfc_folded rfc_cipher ≡ rfc_key
