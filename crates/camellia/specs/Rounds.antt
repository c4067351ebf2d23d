-- The layers on the two halves of a block, in order and in the reverse order.
use Rattle.std.specs.Prelude.{ℕ, List, [], ◌∷◌, ◌++◌}
use Rattle.camellia.specs.Numbers.{◌⊕◌}
use Rattle.camellia.specs.Functions.{F, FL, FLINV}
use Rattle.camellia.specs.declared.plan.Layer.{Layer}
use Rattle.camellia.specs.declared.plan.Layer.TheVariants.{Round, Fl}

pub record State : Type 0 where
  pub left : ℕ
  pub right : ℕ

abbrev pub st : ℕ → ℕ → State
st l r = record { left = l; right = r }

abbrev pub swapped : State → State
swapped s = st s.right s.left

abbrev pub whitened : ℕ → ℕ → State → State
whitened a b s = st (s.left ⊕ a) (s.right ⊕ b)

abbrev pub step : Layer ℕ → State → State
step (Round k) s = st (s.right ⊕ F s.left k) s.left
step (Fl a b) s = st (FL s.left a) (FLINV s.right b)

unfoldable pub run : List (Layer ℕ) → State → State
run [] s = s
run (y ∷ ys) s = run ys (step y s)

-- the two keys of an FL layer change places, as all subkeys do
abbrev pub turned : Layer ℕ → Layer ℕ
turned (Round k) = Round k
turned (Fl a b) = Fl b a

unfoldable pub backward : List (Layer ℕ) → List (Layer ℕ)
backward [] = []
backward (y ∷ ys) = backward ys ++ (turned y ∷ [])
