-- The law of the model: of every list of calls, for every kind of engine and every store that keep their promises.
use Rattle.std.specs.Prelude.{ℕ, List, [], ◌∷◌}
use Rattle.law.specs.Kind.{Kind, Lawful}
use Rattle.law.specs.Store.{Store, size, Sized}
use Rattle.law.specs.Calls.{Call, Given}
use Rattle.law.specs.Model.{off, events}
use Rattle.law.specs.History.{Event, History}
use Rattle.law.specs.Law.{Each, Law}

abbrev pub AllGiven : List Call → Type 0
AllGiven [] = Unit {0}
AllGiven (c ∷ cs) = Given c × AllGiven cs

-- of every list on every card that begins new: P of each event, with the history and the store before it
abbrev pub Of : (Kind → ℕ → History → Store → Event → Type 0) → Type 0
Of P = (M : Kind) → Lawful M → (s : Store) → Sized s → (cs : List Call) → AllGiven cs → Each (P M (size s)) [] s (events M (off M) s cs)

-- of every two lists on two such cards: P of their events
abbrev pub Between : (Kind → Kind → Store → Store → List Event → List Event → Type 0) → Type 0
Between P =
    (M M' : Kind) → Lawful M → Lawful M' → (s s' : Store) → Sized s → Sized s' → (cs ds : List Call) → AllGiven cs → AllGiven ds
    → P M M' s s' (events M (off M) s cs) (events M' (off M') s' ds)

-- the law whole
abbrev pub Every : Type 0
Every = Between Law
