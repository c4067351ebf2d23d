use Rattle.std.proofs.Common.{ℕ, ◌%◌, List, [], map, get_or, ap, ◌∙◌, arith}
use Rattle.std.proofs.lemmas.Nat.{and_mask}
use Rattle.std.specs.List.{range_with_len}
use Rattle.std.proofs.lemmas.List.FromFn.{get_or-map-range_with_len}
use Rattle.camellia_tables.specs.Columns.{spread}
use Rattle.camellia_tables.proofs.half.sp.Goals as goal

pub returns : goal.returns
returns c =
    let i = c.args.i in
    let y = c.args.y % 256 in
    rw (and_mask c.args.y 8)
    (ap (λ (rows : List (List ℕ)). get_or (get_or rows i []) y 0) c.tables.ensures
    ∙ ap (λ row. get_or row y 0) (get_or-map-range_with_len (λ n. map (spread n) (range_with_len 0 256)) 0 8 i i [] c.requires (omega arith))
    ∙ get_or-map-range_with_len (spread i) 0 256 y y 0 (omega arith) (omega arith))
