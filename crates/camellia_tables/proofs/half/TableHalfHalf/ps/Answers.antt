use Rattle.std.proofs.Common.{ℕ, ◌/◌, ◌%◌, ◌^◌, ◌∙◌}
use Rattle.camellia.specs.Sbox.{s1, s2, s3, s4, s1table}
use Rattle.camellia.specs.Functions.{PS}
use Rattle.camellia.proofs.Range.{s1-lt, s2-lt, s3-lt, s4-lt}
use Rattle.camellia_tables.proofs.Sums.{columns-P}
use Rattle.camellia_tables.proofs.half.TableHalfHalf.ps.Goals as goal

pub returns : goal.returns
unfolding PS s1 s1table
returns c =
    let y : ℕ = c.args.self.0 in
    let b1 : ℕ = y / 2 ^ 56 % 256 in
    let b2 : ℕ = y / 2 ^ 48 % 256 in
    let b3 : ℕ = y / 2 ^ 40 % 256 in
    let b4 : ℕ = y / 2 ^ 32 % 256 in
    let b5 : ℕ = y / 2 ^ 24 % 256 in
    let b6 : ℕ = y / 2 ^ 16 % 256 in
    let b7 : ℕ = y / 2 ^ 8 % 256 in
    let b8 : ℕ = y % 256 in
    c.sums.ensures
    ∙ columns-P (s1 b1) (s2 b2) (s3 b3) (s4 b4) (s2 b5) (s3 b6) (s4 b7) (s1 b8)
    (s1-lt b1) (s2-lt b2) (s3-lt b3) (s4-lt b4) (s2-lt b5) (s3-lt b6) (s4-lt b7) (s1-lt b8)
