-- The schedule of a key, by its length.
use Rattle.std.proofs.Common.{◌≡◌, ℕ, cond, eqb, List, length, ap}
use Rattle.camellia.specs.Numbers.{half_at}
use Rattle.camellia.specs.Keys.{joined, key_l, key_r, with_complement, material, Schedule, schedule, scheduled, whitening18, layers18, whitening24, layers24}

abbrev by_length : List ℕ → ℕ → Schedule
by_length key n =
    let r = cond (eqb n 16) 0 (cond (eqb n 24) (with_complement (half_at key 16)) (joined (half_at key 16) (half_at key 24))) in
    cond (eqb n 16) (scheduled (material (key_l key) r) whitening18 layers18) (scheduled (material (key_l key) r) whitening24 layers24)

pub schedule_16 : (key : List ℕ) → length key ≡ 16 → schedule key ≡ scheduled (material (key_l key) 0) whitening18 layers18
unfolding schedule key_r
schedule_16 key e = ap (by_length key) e

pub schedule_24 : (key : List ℕ) → length key ≡ 24
    → schedule key ≡ scheduled (material (key_l key) (with_complement (half_at key 16))) whitening24 layers24
unfolding schedule key_r
schedule_24 key e = ap (by_length key) e

pub schedule_32 : (key : List ℕ) → length key ≡ 32
    → schedule key ≡ scheduled (material (key_l key) (joined (half_at key 16) (half_at key 24))) whitening24 layers24
unfolding schedule key_r
schedule_32 key e = ap (by_length key) e
