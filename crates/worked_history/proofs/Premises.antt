-- Camellia is lawful, the store is sized, and what the calls are given are bytes.
use Rattle.std.proofs.Common.{◌≡◌, ℕ, true, ◌||◌, ltb, List, [], codes, refl, ap₂, arith}
use Rattle.std.specs.List.{list_all}
use Rattle.std.proofs.lemmas.Bool.{ne_eqb}
use Rattle.octets.specs.Octets.{Bytes}
use Rattle.camellia.proofs.Whole as cipher
use Rattle.label.proofs.Kept.{lettered_decides, small-get_or, small_decides}
use Rattle.law.specs.Kind.{Lawful}
use Rattle.law.specs.Store.{Sized}
use Rattle.law.specs.Runs.{AllGiven}
use Rattle.worked_history.specs.Calls.{camellia, blank, old, new, save, room, both}
use Rattle.worked_history.specs.Worked.{Premises}

lawful : Lawful camellia
lawful = record {
  lettered = (lettered_decides (codes "camellia")).0 refl;
  sixteen = refl;
  undone = (cipher.undone).forth;
  blocks = (cipher.sized).enciphers;
}

sized : Sized blank
sized = record {
  few = omega arith;
  present = λ n h. ap₂ (λ a b. a || b) (ne_eqb n 3 (omega arith)) (ne_eqb n 12 (omega arith));
}

small : (s : List ℕ) → list_all (λ x. ltb x 256) s ≡ true → Bytes s
small s e = small-get_or s ((small_decides s).0 e)

-- one call and the rest
infixr 5 ◌then◌
◌then◌ : {A B : Type 0} → A → B → A × B
a then b = (a, b)

given : AllGiven both
given =
    small old refl then small (save 2) refl then small (save 9) refl then small new refl
    then tt then tt then tt then tt then tt then tt then tt then tt
    then (small old refl, small [] refl) then (small new refl, small old refl) then (small old refl, small new refl) then tt
    then small (save 7) refl then small (save 8) refl
    then small room refl then small room refl then small room refl then small room refl then small room refl then tt then tt

pub premises : Premises
premises = record { lawful = lawful; sized = sized; given = given }
