-- What a list of turns on a card comes to, and the law of two lists on two new cards.
use Rattle.std.specs.Prelude.{List, ◌≡◌}
use Rattle.law.specs.Kind.{Kind}
use Rattle.law.specs.Store.{Store}
use Rattle.law.specs.Model.{Card, events, card_after}
use Rattle.law.specs.History.{Event}
use Rattle.law.specs.Runs.{AllGiven}
use Rattle.law.specs.Law.{Law, last_store}
use Rattle.calls.specs.Turns.{calls, Seen}
use Rattle.calls.specs.declared.Turn.{Turn}

-- the turns `given`, as they were `left`, are these events, and the last of these leaves the store `end`
pub record Played (s end : Store) (given left : List Turn) (es : List Event) : Type 0 where
  pub seen : Seen given left es
  pub stored : last_store s es ≡ end

-- turns on a card of kind M that holds k, on the store s
pub record Ran (M : Kind) (k k' : Card) (s s' : Store) (given left : List Turn) : Type 0 where
  pub played : Played s s' given left (events M k s (calls given))
  pub card : card_after M k s (calls given) ≡ k'
  pub bytes : AllGiven (calls given)

-- two lists on two new cards are events that keep the law
pub record BothPlayed (M M' : Kind) (s s' end end' : Store) (given left given' left' : List Turn) : Type 0 where
  pub events : List Event
  pub others : List Event
  pub first : Played s end given left events
  pub second : Played s' end' given' left' others
  pub law : Law M M' s s' events others
