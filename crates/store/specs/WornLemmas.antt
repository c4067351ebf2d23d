-- Marks of worn frames: one more, one again, and those past the last frame.
use Rattle.std.specs.Prelude.{◌≡◌, ℕ, ◌<◌, ◌≤◌, true, false, ◌||◌, List, [], ◌∷◌, ◌++◌, ◌==◌, refl}
use Rattle.std.proofs.Common.{arith}
use Rattle.std.proofs.lemmas.Bool.{cond_both}
use Rattle.std.proofs.lemmas.Bool.Decides.{nat_tests}
use Rattle.std.proofs.lemmas.List.Folds.{list_all-append, list_any-append}
use Rattle.store.specs.Worn.{among, below, marked}

pub among_past : (count : ℕ) (ms : List ℕ) (n : ℕ) → below count ms ≡ true → count ≤ n → among ms n ≡ false
among_past count [] n b le = refl
among_past count (m ∷ ms) n b le = grind (arith, nat_tests, among_past count ms n)

pub below_push : (count : ℕ) (ms : List ℕ) (n : ℕ) → below count ms ≡ true → n < count → below count (ms ++ n ∷ []) ≡ true
below_push count ms n b lt = rw list_all-append (grind (arith, nat_tests))

among_push : (ms : List ℕ) (n k : ℕ) → among (ms ++ n ∷ []) k ≡ (n == k || among ms k)
among_push ms n k = rw list_any-append (grind (arith, nat_tests))

among_again : (ms : List ℕ) (n k : ℕ) → among ms n ≡ true → among ms k ≡ (n == k || among ms k)
among_again [] n k b = grind (arith, nat_tests)
among_again (m ∷ ms) n k b = grind (arith, nat_tests, among_again ms n k)

pub among-marked : (ms : List ℕ) (n k : ℕ) → among (marked ms n) k ≡ (n == k || among ms k)
among-marked ms n k =
    cond_both (among ms n) ms (ms ++ n ∷ []) (λ l. among l k ≡ (n == k || among ms k)) (among_again ms n k) (λ e. among_push ms n k)
