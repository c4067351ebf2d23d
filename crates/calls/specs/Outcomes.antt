-- What a call comes to.
use Rattle.std.specs.Prelude.{◌≡◌}
use Rattle.law.specs.Store.{Store}
use Rattle.law.specs.Calls.{Answer}
use Rattle.law.specs.Model.{Card, Outcome}

-- a call came to this outcome: it gave this answer, and left this card and this store
pub record ComesTo (o : Outcome) (a : Answer) (k : Card) (s : Store) : Type 0 where
  pub answer : a ≡ o.answer
  pub card : k ≡ o.card
  pub store : s ≡ o.store
