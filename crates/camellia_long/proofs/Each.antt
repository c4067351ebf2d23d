-- Blocks as a list of states: what each block goes through, and one run of layers after another.
use Rattle.std.proofs.Common.{◌≡◌, ℕ, zero, suc, ◌<◌, List, [], ◌∷◌, ◌++◌, map, length, get_or, refl, sym, ap, ◌∙◌, arith}
use Rattle.std.proofs.lemmas.List.FromFn.{fill_by_all}
use Rattle.std.proofs.lemmas.List.{length-map, get_or-map}
use mathlib.Core.List.{map-map}
use Rattle.std.specs.Int.Bits.{xor_zero_r}
use Rattle.camellia.specs.Numbers.{◌⊕◌}
use Rattle.camellia.specs.Rounds.{State, st, run, swapped}
use Rattle.camellia.specs.Keys.{Schedule}
use Rattle.camellia.specs.Cipher.{to_state, to_bytes, encrypt}
use Rattle.camellia.specs.declared.plan.Layer.{Layer}
use Rattle.camellia.proofs.Undo.{run-++}
use Rattle.camellia_long.specs.Wide.{states}

pub length-states : (xs ys : List ℕ) → length xs ≡ length ys → length (states xs ys) ≡ length xs
length-states [] ys e = refl
length-states (x ∷ xs) [] e = absurd (omega arith)
length-states (x ∷ xs) (y ∷ ys) e = let r = length-states xs ys (omega arith) in omega arith

pub get_or-states : (xs ys : List ℕ) (i : ℕ) (d : State) → i < length xs → i < length ys
    → get_or (states xs ys) i d ≡ st (get_or xs i 0) (get_or ys i 0)
get_or-states [] ys i d h k = absurd (omega arith)
get_or-states (x ∷ xs) [] i d h k = absurd (omega arith)
get_or-states (x ∷ xs) (y ∷ ys) zero d h k = refl
get_or-states (x ∷ xs) (y ∷ ys) (suc i) d h k = get_or-states xs ys i d (omega arith) (omega arith)

-- blocks from any list, one by one
pub states_from : {A : Type 0} (f : A → State) (xs ys : List ℕ) (zs : List A) (d : A) → length xs ≡ length zs → length ys ≡ length zs
    → ((i : ℕ) → i < length zs → st (get_or xs i 0) (get_or ys i 0) ≡ f (get_or zs i d)) → states xs ys ≡ map f zs
states_from f xs ys zs d n m at =
    let g : ℕ → State = λ i. f (get_or zs i d) in
    fill_by_all g (states xs ys) (length zs) (st 0 0) (length-states xs ys (n ∙ sym m) ∙ n)
    (λ i h. get_or-states xs ys i (st 0 0) (omega arith) (omega arith) ∙ at i h)
    ∙ sym (fill_by_all g (map f zs) (length zs) (st 0 0) (length-map zs f) (λ i h. get_or-map f zs i d (st 0 0) h))

-- and back to any list
pub states_to : {A : Type 0} (f : State → A) (xs ys : List ℕ) (zs : List A) (d : A) → length xs ≡ length zs → length ys ≡ length zs
    → ((i : ℕ) → i < length zs → get_or zs i d ≡ f (st (get_or xs i 0) (get_or ys i 0))) → zs ≡ map f (states xs ys)
states_to f xs ys zs d n m at =
    let long = length-states xs ys (n ∙ sym m) ∙ n in
    let g = λ (i : ℕ). f (get_or (states xs ys) i (st 0 0)) in
    fill_by_all g zs (length zs) d refl
    (λ i h. at i h ∙ ap f (sym (get_or-states xs ys i (st 0 0) (omega arith) (omega arith))))
    ∙ sym (fill_by_all g (map f (states xs ys)) (length zs) d (length-map (states xs ys) f ∙ long)
    (λ i h. get_or-map f (states xs ys) i (st 0 0) d (omega arith)))

pub each : (f : State → State) (xs ys xs' ys' : List ℕ) → length xs' ≡ length xs → length ys' ≡ length xs → length ys ≡ length xs
    → ((i : ℕ) → i < length xs → st (get_or xs' i 0) (get_or ys' i 0) ≡ f (st (get_or xs i 0) (get_or ys i 0)))
    → states xs' ys' ≡ map f (states xs ys)
each f xs ys xs' ys' n m k at =
    let long = length-states xs ys (sym k) in
    states_from f xs' ys' (states xs ys) (st 0 0) (n ∙ sym long) (m ∙ sym long)
    (λ i h. let lt : i < length xs = omega arith in at i lt ∙ ap f (sym (get_or-states xs ys i (st 0 0) lt (omega arith))))

-- one run after another
pub after : (xs ys : List (Layer ℕ)) (s t u : List State) → t ≡ map (run xs) s → u ≡ map (run ys) t → u ≡ map (run (xs ++ ys)) s
after xs ys s t u p q = q ∙ ap (map (run ys)) p ∙ map-map (run ys) (run xs) s ∙ (λ i. map (λ x. sym (run-++ xs ys x) i) s)

-- halves by themselves
pub of_left : (f : ℕ → ℕ) (xs ys : List ℕ) → states (map f xs) ys ≡ map (λ s. st (f s.left) s.right) (states xs ys)
of_left f [] ys = refl
of_left f (x ∷ xs) [] = refl
of_left f (x ∷ xs) (y ∷ ys) = ap (λ ss. st (f x) y ∷ ss) (of_left f xs ys)

pub of_right : (f : ℕ → ℕ) (xs ys : List ℕ) → states xs (map f ys) ≡ map (λ s. st s.left (f s.right)) (states xs ys)
of_right f [] ys = refl
of_right f (x ∷ xs) [] = refl
of_right f (x ∷ xs) (y ∷ ys) = ap (λ ss. st x (f y) ∷ ss) (of_right f xs ys)

-- whitening around a run of layers
module _ (p q : ℕ) (ys : List (Layer ℕ)) where
  abbrev keyed : Schedule
  keyed = record { kw = record { kw1 = p; kw2 = 0; kw3 = q; kw4 = 0 }; layers = ys }

  whole : (s : State) → (let t = run ys (st (s.left ⊕ p) s.right) in st t.left (t.right ⊕ q)) ≡ swapped (encrypt keyed s)
  unfolding encrypt
  whole s =
      let u : State = run ys (st (s.left ⊕ p) (s.right ⊕ 0)) in
      ap (λ r. let t : State = run ys (st (s.left ⊕ p) r) in st t.left (t.right ⊕ q)) (sym (xor_zero_r s.right))
      ∙ ap (λ l. st l (u.right ⊕ q)) (sym (xor_zero_r u.left))

  pub around : (a b a1 a2 b2 b3 : List ℕ) → a1 ≡ map (λ x. x ⊕ p) a → states a2 b2 ≡ map (run ys) (states a1 b) → b3 ≡ map (λ x. x ⊕ q) b2
      → states a2 b3 ≡ map (λ s. swapped (encrypt keyed s)) (states a b)
  around a b a1 a2 b2 b3 start middle end =
      let first : State → State = λ s. st (s.left ⊕ p) s.right in
      let last : State → State = λ s. st s.left (s.right ⊕ q) in
      ap (states a2) end ∙ of_right (λ x. x ⊕ q) a2 b2
      ∙ ap (map last) (middle ∙ ap (λ l. map (run ys) (states l b)) start ∙ ap (map (run ys)) (of_left (λ x. x ⊕ p) a b) ∙ map-map (run ys) first (states a b))
      ∙ map-map last (λ s. run ys (first s)) (states a b)
      ∙ (λ i. map (λ s. whole s i) (states a b))

-- blocks of bytes through f
pub through : (f : State → State) (blocks blocks' : List (List ℕ)) (s t : List State) → s ≡ map to_state blocks
    → t ≡ map (λ x. swapped (f x)) s → blocks' ≡ map (λ x. to_bytes (swapped x)) t → blocks' ≡ map (λ b. to_bytes (f (to_state b))) blocks
through f blocks blocks' s t start middle end =
    let g : State → State = λ x. swapped (f x) in
    let h : State → List ℕ = λ x. to_bytes (swapped x) in
    end ∙ ap (map h) (middle ∙ ap (map g) start ∙ map-map g to_state blocks) ∙ map-map h (λ b. g (to_state b)) blocks
