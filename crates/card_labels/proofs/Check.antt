-- A check value has four bytes, and a key one of three sizes.
use Rattle.std.proofs.Common.{◌≡◌, ℕ, ◌*◌, false, length, refl, arith}
use Rattle.std.proofs.lemmas.Bool.{ne_eqb}
use Rattle.sealing.specs.Pair.{paired}
use Rattle.label.specs.Told.{bits}
use Rattle.label.specs.declared.label.KeyBits.{KeyBits}
use Rattle.label.specs.declared.label.KeyBits.TheVariants.{K128, K192, K256}
use Rattle.law.specs.Kind.{Keys, check_of}

pub check-long : (k : Keys) → length (check_of k) ≡ 4
unfolding check_of
check-long k = refl

-- a length of no pair
pub unpaired : (len : ℕ) → ((k : KeyBits) → len * 4 ≡ bits k → ⊥) → paired len ≡ false
unpaired len none =
    rw (
      ne_eqb len 32 (λ e. none K128 (omega (arith, e))),
      ne_eqb len 48 (λ e. none K192 (omega (arith, e))),
      ne_eqb len 64 (λ e. none K256 (omega (arith, e))),
    )
    refl
