-- K_L and K_R of a key by its number of rounds, and what the tables take from them.
use Rattle.std.specs.Prelude.{◌≡◌, ℕ, true, cond, List, length, ◌==◌}
use Rattle.camellia.specs.Keys.{key_l, key_r, material, Schedule, schedule, scheduled, whitening18, layers18, whitening24, layers24}
use Rattle.camellia.specs.Laws.{takes}
use Rattle.camellia.specs.declared.plan.Material.{Material}
use Rattle.camellia_rounds.specs.declared.sources.Sources.{Sources}
use Rattle.camellia_rounds.specs.declared.sources.Sources.TheVariants.{Rounds18, Rounds24}

abbrev pub sources_of : List ℕ → Sources
sources_of key = cond (length key == 16) (Rounds18 (key_l key)) (Rounds24 (key_l key) (key_r key))

-- 18 rounds have no subkey of K_B
abbrev pub material_of : Sources → Material
material_of (Rounds18 l) = record { kl = l; kr = 0; ka = (material l 0).ka; kb = 0 }
material_of (Rounds24 l r) = material l r

abbrev pub schedule_from : Sources → Schedule
schedule_from (Rounds18 l) = scheduled (material l 0) whitening18 layers18
schedule_from (Rounds24 l r) = scheduled (material l r) whitening24 layers24

-- what a key of a length that is taken is read as
pub record Read (key : List ℕ) (s : Sources) : Type 0 where
  pub taken : takes (length key) ≡ true
  pub is : s ≡ sources_of key
  pub schedule : schedule_from s ≡ schedule key
