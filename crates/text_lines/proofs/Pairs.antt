-- Digits taken two by two, and the bytes that they write.
use Rattle.std.proofs.Common.{◌≡◌, ℕ, zero, suc, ◌*◌, ◌<◌, ◌≤◌, List, [], ◌∷◌, map, length, get_or, take, drop, sym, refl, ap, ◌∙◌, arith}
use Rattle.std.specs.List.{flat_map, AllByRecursion}
use Rattle.std.specs.Simd.{first_chunks}
use Rattle.std.proofs.lemmas.List.{get_or-map, take_all}
use Rattle.std.proofs.lemmas.List.Folds.{flat_map-map}
use Rattle.std.proofs.ByRecursion.{All-get_or}
use Rattle.text_lines.specs.Hex.{pair, hex, PairOf, HexOf}

-- the pairs of the digits that bytes are written with
pub pairs-hex : (bytes : List ℕ) (count : ℕ) → length bytes ≡ count → first_chunks 2 count (hex bytes) ≡ map pair bytes
pairs-hex [] count l = rw (sym l) refl
pairs-hex (b ∷ bytes) zero l = absurd (omega arith)
pairs-hex (b ∷ bytes) (suc count) l = ap (λ s. pair b ∷ s) (pairs-hex bytes count (omega arith))

pub joined : (count : ℕ) (s : List ℕ) → length s ≡ count * 2 → flat_map (λ x. x) (first_chunks 2 count s) ≡ s
joined zero [] l = refl
joined zero (x ∷ s) l = absurd (omega arith)
joined (suc count) [] l = absurd (omega arith)
joined (suc count) (x ∷ []) l = absurd (omega arith)
joined (suc count) (x ∷ y ∷ s) l = ap (λ t. x ∷ y ∷ t) (joined count s (omega arith))

-- how many pairs are taken
length-first_chunks : (n k : ℕ) (xs : List ℕ) → length (first_chunks n k xs) ≡ k
length-first_chunks n zero xs = refl
length-first_chunks n (suc k) xs = omega (arith, length-first_chunks n k (drop n xs))

-- the first i pairs are those of the first i bytes
pub record Read (pairs : List (List ℕ)) (bytes : List ℕ) (i count : ℕ) : Type 0 where
  pub counted : length bytes ≡ count
  pub small : AllByRecursion (λ b. b < 256) (take i bytes)
  pub reads : take i pairs ≡ map pair (take i bytes)

-- where the digits are those of bytes, each pair is that of its byte
pub is-pair : {digits bytes : List ℕ} {pairs : List (List ℕ)} {count k i : ℕ} (p : List ℕ) → HexOf digits count bytes → i < count
    → pairs ≡ first_chunks 2 k digits → k ≡ count → PairOf (get_or pairs i p) (get_or bytes i 0)
is-pair {bytes = bytes} {count = count} {i = i} p h l e n =
    record {
      small = All-get_or (λ b. b < 256) bytes i 0 (omega (arith, h.sized.counted)) h.sized.small;
      reads =
          ap (λ (s : List (List ℕ)). get_or s i p) (e ∙ (λ j. first_chunks 2 (n j) (h.reads j)) ∙ pairs-hex bytes count h.sized.counted)
          ∙ get_or-map pair bytes i 0 p (omega (arith, h.sized.counted));
    }

pub all_read : {digits bytes : List ℕ} {pairs : List (List ℕ)} {count k i : ℕ} → Read pairs bytes i count → count ≤ i
    → pairs ≡ first_chunks 2 k digits → k ≡ count → length digits ≡ k * 2 → HexOf digits count bytes
all_read {digits} {bytes} {pairs} {count} {k} {i} r l e n w =
    let whole = take_all i bytes (omega (arith, r.counted)) in
    let every = sym (take_all i pairs (omega (arith, ap length e, length-first_chunks 2 k digits))) ∙ r.reads ∙ ap (map pair) whole in
    record {
      sized = record { counted = r.counted; small = rw whole at r.small };
      reads = sym (joined k digits w) ∙ ap (flat_map (λ x. x)) (sym e ∙ every) ∙ flat_map-map (λ x. x) pair bytes;
    }
