-- Lists of six keys, and their rounds.
use Rattle.std.proofs.Common.{ℕ, List, [], ◌∷◌, ◌++◌, ◌≡◌, refl, map, length, get_or, ap, sym, ◌∙◌, ap₂, flat_map, option_to_list, Option, Some, None}
use Rattle.std.proofs.lemmas.List.{append-nil, append_assoc}
use Rattle.std.proofs.lemmas.List.FromFn.{fill_by_all}
use mathlib.Core.List.{map-append, map-map}
use Rattle.camellia.specs.Rounds.{turned, backward}
use Rattle.camellia.specs.Keys.{subkey, layer_of}
use Rattle.camellia.specs.declared.plan.Material.{Material}
use Rattle.camellia.specs.declared.plan.Slot.{Slot}
use Rattle.camellia.specs.declared.plan.Layer.{Layer}
use Rattle.camellia.specs.declared.plan.Layer.TheVariants.{Round}
use Rattle.camellia_subkeys.specs.Groups.{rounds_of, group_of, layers_of}
use Rattle.camellia_subkeys.specs.declared.keys.Group.{Group}
use Rattle.camellia_subkeys.specs.declared.keys.Groups.{Groups}

-- six keys, one by one
pub one_by_one : (k : List ℕ) → length k ≡ 6
    → k ≡ get_or k 0 0 ∷ get_or k 1 0 ∷ get_or k 2 0 ∷ get_or k 3 0 ∷ get_or k 4 0 ∷ get_or k 5 0 ∷ []
one_by_one k n = fill_by_all (λ i. get_or k i 0) k 6 0 n (λ i h. refl)

-- rounds under a plan are rounds of its subkeys
pub planned : (m : Material) (k : List Slot) → map (layer_of m) (rounds_of k) ≡ rounds_of (map (subkey m) k)
planned m k = map-map (layer_of m) (λ s. Round s) k ∙ sym (map-map (λ (x : ℕ). Round x) (subkey m) k)

-- groups under a plan, part by part
module _ (f : Layer Slot → Layer ℕ) where
  pub record IsFourth (s : Option (Group Slot)) (k : Option (Group ℕ)) : Type 0 where
    pub is : flat_map group_of (option_to_list k) ≡ map f (flat_map group_of (option_to_list s))

  pub none : (s : Option (Group Slot)) → s ≡ None → IsFourth s None
  none s e = record { is = rw e refl }

  pub some : (s : Option (Group Slot)) (g : Group Slot) (h : Group ℕ) → s ≡ Some g → group_of h ≡ map f (group_of g) → IsFourth s (Some h)
  some s g h e p = record { is = rw e (ap (λ ys. ys ++ []) p ∙ sym (map-append f (group_of g) [])) }

  pub in_parts : (s : Groups Slot) (k : Groups ℕ) → rounds_of k.first ≡ map f (rounds_of s.first)
      → group_of k.second ≡ map f (group_of s.second) → group_of k.third ≡ map f (group_of s.third) → IsFourth s.fourth k.fourth
      → layers_of k ≡ map f (layers_of s)
  in_parts s k first second third fourth = ap₂ ◌++◌ first (ap₂ ◌++◌ second (ap₂ ◌++◌ third fourth.is)) ∙ simp map-append

pub backward-++ : (xs ys : List (Layer ℕ)) → backward (xs ++ ys) ≡ backward ys ++ backward xs
unfolding backward
backward-++ [] ys = sym (append-nil (backward ys))
backward-++ (x ∷ xs) ys = ap (λ zs. zs ++ (turned x ∷ [])) (backward-++ xs ys) ∙ append_assoc (backward ys) (backward xs) (turned x ∷ [])

-- the layers of three groups and of four, in order and in the reverse order
module _ (g : Groups ℕ) where
  pub three_groups : g.fourth ≡ None → layers_of g ≡ rounds_of g.first ++ (group_of g.second ++ group_of g.third)
  three_groups e = ap (λ ys. rounds_of g.first ++ (group_of g.second ++ ys)) (rw (e, option_to_list) (append-nil (group_of g.third)))

  pub four_groups : (h : Group ℕ) → g.fourth ≡ Some h
      → layers_of g ≡ rounds_of g.first ++ (group_of g.second ++ (group_of g.third ++ group_of h))
  four_groups h e =
      ap (λ ys. rounds_of g.first ++ (group_of g.second ++ (group_of g.third ++ ys))) (rw (e, option_to_list) (append-nil (group_of h)))

  pub three_groups_back : g.fourth ≡ None
      → backward (layers_of g) ≡ (backward (group_of g.third) ++ backward (group_of g.second)) ++ backward (rounds_of g.first)
  three_groups_back e = ap backward (three_groups e) ∙ simp backward-++

  pub four_groups_back : (h : Group ℕ) → g.fourth ≡ Some h
      → backward (layers_of g)
      ≡ ((backward (group_of h) ++ backward (group_of g.third)) ++ backward (group_of g.second)) ++ backward (rounds_of g.first)
  four_groups_back h e = ap backward (four_groups h e) ∙ simp backward-++
