-- A kind of engine, and what engines tell that were loaded with a pair of keys.
use Rattle.std.specs.Prelude.{◌≡◌, ℕ, ◌/◌, Bool, true, ◌&&◌, List, length, replicate}
use Rattle.octets.specs.Octets.{Block}
use Rattle.engine.specs.Kind.{EightLetters, Key, Undoes, Blocks}
use Rattle.sealing.specs.Pair.{paired, data_key, tweak_key, check_value}
use Rattle.sealing.specs.Xts.{xts}

-- the name of its cipher, the key lengths that it takes, and E and D of any key
pub record Kind : Type 0 where
  pub name : List ℕ
  pub takes : ℕ → Bool
  pub cipher : List ℕ → List ℕ → List ℕ
  pub inverse : List ℕ → List ℕ → List ℕ

-- what every kind of engine promises
pub record Lawful (M : Kind) : Type 0 where
  pub lettered : EightLetters M.name
  pub sixteen : M.takes 16 ≡ true
  pub undone : Undoes M.takes M.cipher M.inverse
  pub blocks : Blocks M.takes M.cipher

-- two kinds share name, key lengths and cipher: E and D are equal for every key of a taken length
pub record Shared (M M' : Kind) : Type 0 where
  pub name : M.name ≡ M'.name
  pub takes : (n : ℕ) → M.takes n ≡ M'.takes n
  pub cipher : (k b : List ℕ) → Key M.takes k → Block b → M.cipher k b ≡ M'.cipher k b
  pub inverse : (k b : List ℕ) → Key M.takes k → Block b → M.inverse k b ≡ M'.inverse k b

-- what the two engines of a pair tell: E and D of the data key, E of the tweak key
pub record Keys : Type 0 where
  pub enciphers : List ℕ → List ℕ
  pub deciphers : List ℕ → List ℕ
  pub tweaks : List ℕ → List ℕ

unfoldable pub keys_of : Kind → List ℕ → Keys
keys_of M p = record { enciphers = M.cipher (data_key p); deciphers = M.inverse (data_key p); tweaks = M.cipher (tweak_key p) }

-- of engines that hold sixteen zero bytes
abbrev pub idle : Kind → Keys
idle M = keys_of M (replicate 32 0)

-- a frame sealed and opened, and the check value of the pair
unfoldable pub seal : Keys → ℕ → List ℕ → List ℕ
seal k n f = xts k.enciphers k.tweaks n f

unfoldable pub unseal : Keys → ℕ → List ℕ → List ℕ
unseal k n f = xts k.deciphers k.tweaks n f

unfoldable pub check_of : Keys → List ℕ
check_of k = check_value k.enciphers k.tweaks

-- the engine takes a key of half the pair's length
abbrev pub half_taken : Kind → List ℕ → Bool
half_taken M p = M.takes (length p / 2)

-- a pair that can be loaded
abbrev pub good : Kind → List ℕ → Bool
good M p = paired (length p) && half_taken M p
