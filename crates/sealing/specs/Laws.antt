-- Opening undoes sealing, and sealing undoes opening.
use Rattle.std.specs.Prelude.{◌≡◌, ℕ, Bool, List}
use Rattle.octets.specs.Octets.{Frame}
use Rattle.engine.specs.Kind.{Key}
use Rattle.sealing.specs.Xts.{xts}

-- for a cipher with its inverse, under any data key and tweak key that are taken
module _ (takes : ℕ → Bool) (cipher inverse : List ℕ → List ℕ → List ℕ) where
  pub record Undone : Type 0 where
    pub opened : (k t : List ℕ) (n : ℕ) (f : List ℕ) → Key takes k → Key takes t → Frame f
        → xts (inverse k) (cipher t) n (xts (cipher k) (cipher t) n f) ≡ f
    pub sealed : (k t : List ℕ) (n : ℕ) (f : List ℕ) → Key takes k → Key takes t → Frame f
        → xts (cipher k) (cipher t) n (xts (inverse k) (cipher t) n f) ≡ f
