-- What the law's words come to there.
use Rattle.std.specs.Prelude.{◌≡◌, true, false, List, [], ◌∷◌, ◌++◌}
use Rattle.refusal.specs.declared.Refusal.TheVariants.{PairLength, OtherKeys}
use Rattle.law.specs.Kind.{Lawful}
use Rattle.law.specs.Store.{Sized}
use Rattle.law.specs.Calls.{Answer, refused, made, mounted, ejected, got, kept, started, stepped, told}
use Rattle.law.specs.History.{content, steps, in_change, pair, second, pair_at, Claimed}
use Rattle.law.specs.Runs.{AllGiven}
use Rattle.worked_history.specs.Calls.{camellia, blank, old, new, save, abroad, both, left, answers, past}

-- the law speaks of it
pub record Premises : Type 0 where
  pub lawful : Lawful camellia
  pub sized : Sized blank
  pub given : AllGiven both

abbrev pub answers_at_home : List Answer
answers_at_home =
    made 13 ∷ kept ∷ kept ∷ started 15
    ∷ stepped 1 false false ∷ stepped 2 false false ∷ stepped 3 true false ∷ stepped 4 false false
    ∷ stepped 5 false false ∷ stepped 6 false false ∷ stepped 7 false false ∷ ejected ∷ []

abbrev pub answers_abroad : List Answer
answers_abroad =
    refused PairLength ∷ refused OtherKeys ∷ mounted 2 ∷ told 2 16 7
    ∷ kept ∷ kept ∷ got (save 2) ∷ got (save 7) ∷ got (save 8) ∷ got (save 9) ∷ got (save 0) ∷ stepped 8 false false ∷ []

-- what was written on both sides of the mark, and a frame that was not
pub record Contents : Type 0 where
  pub before : content 2 (past blank both) ≡ save 2
  pub at : content 7 (past blank both) ≡ save 7
  pub next : content 8 (past blank both) ≡ save 8
  pub behind : content 9 (past blank both) ≡ save 9
  pub unwritten : content 15 (past blank both) ≡ save 0

pub record Worked : Type 0 where
  pub premises : Premises
  pub answered : answers blank both ≡ answers_at_home ++ answers_abroad
  pub claimed : Claimed 16 (past blank both)
  pub contents : Contents
  pub counted : steps (past blank both) ≡ 8
  pub changing : in_change 16 (past blank both) ≡ true
  pub in_force : pair 16 (past blank both) ≡ old
  pub second_in_force : second 16 (past blank both) ≡ new
  pub up_to_the_mark : pair_at 16 (past blank both) 8 ≡ new
  pub behind_the_mark : pair_at 16 (past blank both) 9 ≡ old
  -- a new card on the store left answers alike; its own list has no making, so nothing is claimed of it alone
  pub handed_over : answers left abroad ≡ answers_abroad
  pub unclaimed : Claimed 16 (past left abroad) → ⊥
