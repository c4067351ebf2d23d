-- The definitions at samples.
use Rattle.std.specs.Prelude.{◌≡◌, ℕ, ◌%◌, ◌^◌, List, [], ◌∷◌, ◌++◌, length, replicate, Some, None, codes, Option}
use Rattle.std.specs.List.{range_with_len}
use Rattle.camellia.specs.Sbox.{s1, s2, s3, s4}
use Rattle.camellia.specs.Functions.{P, F, FL, FLINV}
use Rattle.camellia.specs.Keys.{key_r}
use Rattle.camellia.specs.Cipher.{E}
use Rattle.sealing.specs.Pair.{data_key, tweak_key, check_value}
use Rattle.sealing.specs.Xts.{unit, doubled}
use Rattle.label.specs.Text.{Fields}
use Rattle.label.specs.Read.{reads}

-- 01 23 45 67 89 ab cd ef fe dc ba 98 76 54 32 10: the block, and the front of each key, of RFC 3713's examples
abbrev pub rfc_block : List ℕ
rfc_block =
    0x01 ∷ 0x23 ∷ 0x45 ∷ 0x67 ∷ 0x89 ∷ 0xab ∷ 0xcd ∷ 0xef ∷ 0xfe ∷ 0xdc ∷ 0xba ∷ 0x98 ∷ 0x76 ∷ 0x54 ∷ 0x32 ∷ 0x10 ∷ []

abbrev pub rfc_middle : List ℕ
rfc_middle = 0x00 ∷ 0x11 ∷ 0x22 ∷ 0x33 ∷ 0x44 ∷ 0x55 ∷ 0x66 ∷ 0x77 ∷ []

abbrev pub rfc_end : List ℕ
rfc_end = 0x88 ∷ 0x99 ∷ 0xaa ∷ 0xbb ∷ 0xcc ∷ 0xdd ∷ 0xee ∷ 0xff ∷ []

pub record Substitutions : Type 0 where
  pub first : s1 0 ≡ 112
  pub second : s2 0 ≡ 224
  pub third : s3 0 ≡ 56
  pub fourth : s4 128 ≡ 130

pub record Halves : Type 0 where
  pub spread : P 1 0 0 0 0 0 0 0 ≡ 0x0101010001000001
  pub round : F 0 0 ≡ 0x00000000A838E0A8
  pub ones : FL 0 0xFFFFFFFFFFFFFFFF ≡ 0xFFFFFFFF00000000
  pub top : FL 0x8000000000000000 0x8000000000000000 ≡ 0x8000000100000001
  pub top_back : FLINV 0x8000000100000001 0x8000000000000000 ≡ 0x8000000000000000

-- whatever stands before: a 24-byte key that ends in 00 11 .. 77 has K_R ending in the complement
abbrev pub Complemented : Type 0
Complemented = (front : List ℕ) → length front ≡ 16 → key_r (front ++ rfc_middle) % 2 ^ 64 ≡ 0xFFEEDDCCBBAA9988

-- the examples of RFC 3713, appendix A
pub record Examples : Type 0 where
  pub bits128 :
      E rfc_block rfc_block
      ≡ 0x67 ∷ 0x67 ∷ 0x31 ∷ 0x38 ∷ 0x54 ∷ 0x96 ∷ 0x69 ∷ 0x73 ∷ 0x08 ∷ 0x57 ∷ 0x06 ∷ 0x56 ∷ 0x48 ∷ 0xea ∷ 0xbe ∷ 0x43 ∷ []
  pub bits192 :
      E (rfc_block ++ rfc_middle) rfc_block
      ≡ 0xb4 ∷ 0x99 ∷ 0x34 ∷ 0x01 ∷ 0xb3 ∷ 0xe9 ∷ 0x96 ∷ 0xf8 ∷ 0x4e ∷ 0xe5 ∷ 0xce ∷ 0xe7 ∷ 0xd7 ∷ 0x9b ∷ 0x09 ∷ 0xb9 ∷ []
  pub bits256 :
      E (rfc_block ++ (rfc_middle ++ rfc_end)) rfc_block
      ≡ 0x9a ∷ 0xcc ∷ 0x23 ∷ 0x7d ∷ 0xff ∷ 0x16 ∷ 0xd7 ∷ 0x6c ∷ 0x20 ∷ 0xef ∷ 0x7c ∷ 0x91 ∷ 0x9e ∷ 0x3a ∷ 0x75 ∷ 0x09 ∷ []

-- the tweak of XTS
pub record Tweaks : Type 0 where
  pub carried : doubled (replicate 15 0 ++ (0x80 ∷ [])) ≡ 0x87 ∷ replicate 15 0
  pub unit256 : unit 256 ≡ 0 ∷ 1 ∷ replicate 14 0

-- the check value of the pair of bytes 0, 1, 2 ..
abbrev pub check_of : ℕ → List ℕ
check_of n = let keys = range_with_len 0 n in check_value (E (data_key keys)) (E (tweak_key keys))

pub record CheckValues : Type 0 where
  pub bytes32 : check_of 32 ≡ 0x20 ∷ 0x3b ∷ 0x53 ∷ 0x59 ∷ []
  pub bytes48 : check_of 48 ≡ 0x2c ∷ 0xd9 ∷ 0xb5 ∷ 0x3c ∷ []
  pub bytes64 : check_of 64 ≡ 0x01 ∷ 0x45 ∷ 0xc8 ∷ 0x76 ∷ []

-- a label of sixteen frames, but for what its last two lines say
abbrev pub sample_label : List ℕ → List ℕ → List ℕ
sample_label next moved =
    codes "cipher=camellia" ++ (10 ∷ codes "keybits=128") ++ (10 ∷ codes "frames=0016") ++ (10 ∷ codes "check=0a1b2c3d")
    ++ (10 ∷ codes "next=") ++ next ++ (10 ∷ codes "moved=") ++ moved ++ (10 ∷ replicate 48 0)

abbrev pub sample_fields : Option (List ℕ) → ℕ → Fields
sample_fields next moved =
    record {
      cipher = codes "camellia";
      keybits = 128;
      frames = 16;
      check = 0x0a ∷ 0x1b ∷ 0x2c ∷ 0x3d ∷ [];
      next = next;
      moved = moved;
    }

pub record Labels : Type 0 where
  pub resting : reads (sample_label (codes "--------") (codes "0000")) ≡ Some (sample_fields None 0)
  pub resting-moved : reads (sample_label (codes "--------") (codes "0001")) ≡ None
  pub changing : reads (sample_label (codes "00000000") (codes "0014")) ≡ Some (sample_fields (Some (replicate 4 0)) 14)
  pub changed : reads (sample_label (codes "00000000") (codes "0015")) ≡ None

pub record Samples : Type 0 where
  pub substitutions : Substitutions
  pub halves : Halves
  pub complemented : Complemented
  pub examples : Examples
  pub tweaks : Tweaks
  pub check_values : CheckValues
  pub labels : Labels
