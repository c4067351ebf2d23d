-- An offset moves through the layers, and the layers that take it give the same state with the last offset.
use Rattle.std.proofs.Common.{ℕ, ◌≡◌, refl, ap, ◌∙◌, List, [], ◌∷◌}
use Rattle.camellia.specs.Numbers.{◌⊕◌}
use Rattle.camellia.specs.Functions.{PS, F, FL, FLINV}
use Rattle.camellia.specs.Rounds.{State, st, step, run}
use Rattle.camellia.specs.declared.plan.Layer.{Layer}
use Rattle.camellia.specs.declared.plan.Layer.TheVariants.{Round, Fl}
use Rattle.camellia.proofs.Xors.{xors}
use Rattle.camellia_fold.specs.Fold.{Offset, on_left, on_right, added, taken, moved, folded, last_offset}
use Rattle.camellia_fold.proofs.Through.{FL_offset, FLINV_offset}

F_offset : (x k d : ℕ) → F (x ⊕ d) (k ⊕ d) ≡ F x k
unfolding F
F_offset x k d = ap PS (both x k d)
  where
    both : (x k d : ℕ) → (x ⊕ d) ⊕ (k ⊕ d) ≡ x ⊕ k
    both x k d = simp xors

step_offset : (o : Offset) (y : Layer ℕ) (s : State) → step (taken o y) (added o s) ≡ added (moved o y) (step y s)
step_offset (on_left d) (Round k) s = ap (λ t. st (s.right ⊕ t) (s.left ⊕ d)) (F_offset s.left k d)
step_offset (on_right d) (Round k) s = ap (λ t. st t s.left) (last s.right d (F s.left k))
  where
    last : (r d f : ℕ) → r ⊕ d ⊕ f ≡ r ⊕ f ⊕ d
    last r d f = simp xors
step_offset (on_left d) (Fl a b) s = ap (λ t. st t (FLINV s.right b)) (FL_offset s.left d a)
step_offset (on_right d) (Fl a b) s = ap (λ t. st (FL s.left a) t) (FLINV_offset s.right d b)

pub run_offset : (o : Offset) (ys : List (Layer ℕ)) (s : State) → run (folded o ys) (added o s) ≡ added (last_offset o ys) (run ys s)
unfolding run folded last_offset
run_offset o [] s = refl
run_offset o (y ∷ ys) s = ap (run (folded (moved o y) ys)) (step_offset o y s) ∙ run_offset (moved o y) ys (step y s)
