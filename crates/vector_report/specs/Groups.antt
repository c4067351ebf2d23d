-- What a text of groups gives next.
use Rattle.std.specs.Prelude.{◌≡◌, ℕ, List, [], Some, None, Option, Ok, Err, Result, ◌≢◌}
use Rattle.vector_groups.specs.declared.group.Group.{Group}
use Rattle.vector_groups.specs.Text.{GroupOf}
use Rattle.vector_report.specs.declared.groups.Malformed.{Malformed}

-- the first group and the text after it, or none of a text that begins with no group, after which nothing is read
abbrev pub GivesFirst : List ℕ → Result Group Malformed → List ℕ → Type 0
GivesFirst text (Ok group) after = GroupOf text group after
GivesFirst text (Err e) after = (text ≢ []) × ((group : Group) (rest : List ℕ) → GroupOf text group rest → ⊥) × (after ≡ [])

abbrev pub Gives : List ℕ → Option (Result Group Malformed) → List ℕ → Type 0
Gives text None after = (text ≡ []) × (after ≡ [])
Gives text (Some first) after = GivesFirst text first after
