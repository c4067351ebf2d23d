-- What is asked of a kind of engine.
use Rattle.std.specs.Prelude.{◌≡◌, ℕ, ◌<◌, ◌≤◌, Bool, true, false, List, length, Ok, Err, Result, slice_index}
use Rattle.refusal.specs.declared.Refusal.{Refusal}
use Rattle.refusal.specs.declared.Refusal.TheVariants.{KeyLength}
use Rattle.octets.specs.Octets.{Bytes, Block}

-- eight letters from a to z
pub record EightLetters (name : List ℕ) : Type 0 where
  pub eight : length name ≡ 8
  pub letters : (i : ℕ) → i < 8 → (97 ≤ slice_index name i) × (slice_index name i ≤ 122)

pub record Key (takes : ℕ → Bool) (key : List ℕ) : Type 0 where
  pub taken : takes (length key) ≡ true
  pub bytes : Bytes key

-- under every key that is taken, the second map undoes the first on blocks
abbrev pub Undoes : (ℕ → Bool) → (List ℕ → List ℕ → List ℕ) → (List ℕ → List ℕ → List ℕ) → Type 0
Undoes takes map inverse = (key b : List ℕ) → Key takes key → Block b → inverse key (map key b) ≡ b

-- under every key that is taken, a block goes to a block
abbrev pub Blocks : (ℕ → Bool) → (List ℕ → List ℕ → List ℕ) → Type 0
Blocks takes map = (key b : List ℕ) → Key takes key → Block b → Block (map key b)

-- a load answers by whether the key's length is taken
abbrev pub load_answer : Bool → Result (Unit {0}) Refusal
load_answer true = Ok tt
load_answer false = Err KeyLength
