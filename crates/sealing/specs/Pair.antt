-- A pair of keys: the first half is the data key, the second the tweak key.
use Rattle.std.specs.Prelude.{ℕ, ◌/◌, Bool, true, false, ◌||◌, List, [], ◌∷◌, length, take, drop, replicate, Ok, Err, Result, ◌==◌, slice_index}
use Rattle.refusal.specs.declared.Refusal.{Refusal}
use Rattle.refusal.specs.declared.Refusal.TheVariants.{PairLength, KeyLength}

-- the sizes of a pair
abbrev pub paired : ℕ → Bool
paired n = n == 32 || (n == 48 || n == 64)

abbrev pub data_key : List ℕ → List ℕ
data_key keys = take (length keys / 2) keys

abbrev pub tweak_key : List ℕ → List ℕ
tweak_key keys = drop (length keys / 2) keys

-- a load answers by whether the size is a pair's, and then whether the engine takes a key of half of it
abbrev pub pair_answer : Bool → Bool → Result (Unit {0}) Refusal
pair_answer false taken = Err PairLength
pair_answer true false = Err KeyLength
pair_answer true true = Ok tt

-- by which a card knows its pair: the front of sixteen zero bytes under the tweak key, then under the data key
abbrev pub check_value : (List ℕ → List ℕ) → (List ℕ → List ℕ) → List ℕ
check_value cipher tweak =
    let b = cipher (tweak (replicate 16 0)) in
    slice_index b 0 ∷ slice_index b 1 ∷ slice_index b 2 ∷ slice_index b 3 ∷ []
