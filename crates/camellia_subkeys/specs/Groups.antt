-- What the grouped subkeys stand for in the definition of the cipher.
use Rattle.std.specs.Prelude.{ℕ, List, ◌∷◌, ◌++◌, map, flat_map, option_to_list}
use Rattle.camellia.specs.Keys.{Schedule}
use Rattle.camellia.specs.declared.plan.Layer.{Layer}
use Rattle.camellia.specs.declared.plan.Layer.TheVariants.{Round, Fl}
use Rattle.camellia_subkeys.specs.declared.keys.Group.{Group}
use Rattle.camellia_subkeys.specs.declared.keys.Groups.{Groups}
use Rattle.camellia_subkeys.specs.declared.keys.Subkeys.{Subkeys}
use Rattle.camellia_subkeys.specs.declared.keys.FoldedKeys.{FoldedKeys}

module _ {K : Type 0} where
  abbrev pub rounds_of : List K → List (Layer K)
  rounds_of k = map Round k

  abbrev pub group_of : Group K → List (Layer K)
  group_of g = Fl g.fl.left g.fl.right ∷ rounds_of g.rounds

  abbrev pub layers_of : Groups K → List (Layer K)
  layers_of g = rounds_of g.first ++ flat_map group_of (g.second ∷ g.third ∷ option_to_list g.fourth)

-- before the fold and after it
abbrev pub plain_of : Subkeys ℕ → Schedule
plain_of s = record { kw = s.kw; layers = layers_of s.groups }

unfoldable pub schedule_of : FoldedKeys → Schedule
schedule_of k = record {
  kw = record { kw1 = k.kw1; kw2 = 0; kw3 = k.kw3; kw4 = 0 };
  layers = layers_of k.groups;
}
