-- A chain of checks whose tests all pass refuses nothing, and the other way round.
use Rattle.std.proofs.Common.{◌≡◌, Bool, true, false, cond, List, [], ◌∷◌, Some, None, Option, refl, ◌∙◌, subst, ap₂}
use Rattle.std.proofs.lemmas.Bool.{cond-false}
use Rattle.refusal.specs.declared.Refusal.{Refusal}
use Rattle.law.specs.Checks.{Check, first_of}

abbrev pub Passed : List Check → Type 0
Passed [] = Unit {0}
Passed (c ∷ cs) = (c.0 ≡ false) × Passed cs

abbrev IsSome : Option Refusal → Type 0
IsSome None = ⊥
IsSome (Some r) = Unit {0}

pub some≢none : (r : Refusal) → Some r ≡ None → ⊥
some≢none r e = subst IsSome e tt

passed-at : (b : Bool) (r : Refusal) (cs : List Check) → (first_of cs ≡ None → Passed cs) → first_of ((b, r) ∷ cs) ≡ None → (b ≡ false) × Passed cs
passed-at true r cs f e = absurd (some≢none r e)
passed-at false r cs f e = (refl, f e)

pub passed : (cs : List Check) → first_of cs ≡ None → Passed cs
passed [] e = tt
passed (c ∷ cs) e = passed-at c.0 c.1 cs (passed cs) e

pub all_pass : (cs : List Check) → Passed cs → first_of cs ≡ None
all_pass [] h = refl
all_pass (c ∷ cs) h = cond-false c.0 (Some c.1) (first_of cs) h.0 ∙ all_pass cs h.1

-- two chains agree: test by test, as far as the earlier ones passed
abbrev pub Alike : List Check → List Check → Type 0
Alike [] [] = Unit {0}
Alike [] (d ∷ ds) = ⊥
Alike (c ∷ cs) [] = ⊥
Alike (c ∷ cs) (d ∷ ds) = (c.0 ≡ d.0) × (c.1 ≡ d.1) × (c.0 ≡ false → Alike cs ds)

alike_at : (b : Bool) (x y y' : Option Refusal) → (b ≡ false → y ≡ y') → cond b x y ≡ cond b x y'
alike_at true x y y' f = refl
alike_at false x y y' f = f refl

pub alike_checks : (cs ds : List Check) → Alike cs ds → first_of cs ≡ first_of ds
alike_checks [] [] a = refl
alike_checks [] (d ∷ ds) a = absurd a
alike_checks (c ∷ cs) [] a = absurd a
alike_checks (c ∷ cs) (d ∷ ds) a =
    alike_at c.0 (Some c.1) (first_of cs) (first_of ds) (λ e. alike_checks cs ds (a.2 e))
    ∙ ap₂ (λ (b : Bool) (r : Refusal). cond b (Some r) (first_of ds)) a.0 a.1
