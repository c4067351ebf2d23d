-- A key by its words of eight bytes.
use Rattle.std.proofs.Common.{◌≡◌, ℕ, zero, suc, ◌+◌, ◌*◌, ◌/◌, ◌<◌, cond, eqb, List, [], length, drop, take, get_or, sym, ap, ◌∙◌, ap₂, arith}
use Rattle.std.proofs.lemmas.List.{get_or-drop, get_or-take}
use Rattle.std.specs.Simd.{first_chunks}
use Rattle.camellia.specs.Numbers.{half_at, join8}
use Rattle.camellia.specs.Keys.{joined, key_l, key_r, with_complement}
use Rattle.camellia.specs.Laws.{takes}
use Rattle.camellia.proofs.Schedules.{schedule_16, schedule_24, schedule_32}
use Rattle.camellia_rounds.specs.declared.sources.Sources.{Sources}
use Rattle.camellia_rounds.specs.declared.sources.Sources.TheVariants.{Rounds18, Rounds24}
use Rattle.camellia_rounds.specs.Sources.{Read}

half-taken : (xs : List ℕ) → half_at (take 8 xs) 0 ≡ half_at xs 0
half-taken xs =
    let at : (j : ℕ) → j < 8 → get_or (take 8 xs) j 0 ≡ get_or xs j 0 = λ j h. get_or-take 8 xs j 0 h in
    λ t. join8 (at 0 (omega arith) t) (at 1 (omega arith) t) (at 2 (omega arith) t) (at 3 (omega arith) t)
    (at 4 (omega arith) t) (at 5 (omega arith) t) (at 6 (omega arith) t) (at 7 (omega arith) t)

half-dropped : (xs : List ℕ) (i m : ℕ) → 8 + i ≡ m → half_at (drop 8 xs) i ≡ half_at xs m
half-dropped xs i m e =
    let at : (j k : ℕ) → 8 + j ≡ k → get_or (drop 8 xs) j 0 ≡ get_or xs k 0 =
    λ j k h. get_or-drop 8 xs j 0 ∙ ap (λ n. get_or xs n 0) h in
    λ t. join8 (at i m e t) (at (i + 1) (m + 1) (omega arith) t) (at (i + 2) (m + 2) (omega arith) t) (at (i + 3) (m + 3) (omega arith) t)
    (at (i + 4) (m + 4) (omega arith) t) (at (i + 5) (m + 5) (omega arith) t) (at (i + 6) (m + 6) (omega arith) t) (at (i + 7) (m + 7) (omega arith) t)

chunk : (n k : ℕ) (xs : List ℕ) → k < n → half_at (get_or (first_chunks 8 n xs) k []) 0 ≡ half_at xs (k * 8)
chunk zero k xs h = omega (arith, h)
chunk (suc n) zero xs h = half-taken xs
chunk (suc n) (suc k) xs h = chunk n k (drop 8 xs) (omega arith) ∙ half-dropped xs (k * 8) (suc k * 8) (omega arith)

pub word : (words : List (List ℕ)) (key : List ℕ) (k : ℕ) → words ≡ first_chunks 8 (length key / 8) key → k < length key / 8
    → half_at (get_or words k []) 0 ≡ half_at key (k * 8)
word words key k e h = ap (λ ws. half_at (get_or ws k []) 0) e ∙ chunk (length key / 8) k key h

pub pair : (words : List (List ℕ)) (key : List ℕ) (k : ℕ) → words ≡ first_chunks 8 (length key / 8) key → k + 1 < length key / 8
    → joined (half_at (get_or words k []) 0) (half_at (get_or words (k + 1) []) 0) ≡ joined (half_at key (k * 8)) (half_at key ((k + 1) * 8))
pair words key k e h = ap₂ joined (word words key k e (omega arith)) (word words key (k + 1) e h)

abbrev by_length : List ℕ → ℕ → Sources
by_length key n =
    let r = cond (eqb n 16) 0 (cond (eqb n 24) (with_complement (half_at key 16)) (joined (half_at key 16) (half_at key 24))) in
    cond (eqb n 16) (Rounds18 (key_l key)) (Rounds24 (key_l key) r)

pub read_16 : (key : List ℕ) → length key ≡ 16 → Read key (Rounds18 (key_l key))
unfolding key_r
read_16 key n = record { taken = ap takes n; is = sym (ap (by_length key) n); schedule = sym (schedule_16 key n) }

pub read_24 : (key : List ℕ) → length key ≡ 24 → Read key (Rounds24 (key_l key) (with_complement (half_at key 16)))
unfolding key_r
read_24 key n = record { taken = ap takes n; is = sym (ap (by_length key) n); schedule = sym (schedule_24 key n) }

pub read_32 : (key : List ℕ) → length key ≡ 32 → Read key (Rounds24 (key_l key) (joined (half_at key 16) (half_at key 24)))
unfolding key_r
read_32 key n = record { taken = ap takes n; is = sym (ap (by_length key) n); schedule = sym (schedule_32 key n) }
