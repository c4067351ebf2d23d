use Rattle.std.proofs.Common.{◌≡◌, length, sym, ap, ◌∙◌, ap₂, subst, arith}
use Rattle.camellia.specs.Keys.{with_complement}
use Rattle.camellia_rounds.specs.declared.sources.Sources.TheVariants.{Rounds18, Rounds24}
use Rattle.camellia_rounds.specs.Sources.{Read}
use Rattle.camellia_rounds.proofs.Read.{word, pair, read_16, read_24, read_32}
use Rattle.camellia_rounds.proofs.sources.SourcesTryFromRefSliceU8.try_from.Goals as goal

pub returns-in-len2 : goal.returns-in-len2
returns-in-len2 c =
    let key = c.args.key.now in
    let n : length key ≡ 16 = grind arith in
    let l = c.number.ensures ∙ pair _ key 0 c.as_chunks.ensures.front (omega arith) in
    subst (Read key) (sym (ap Rounds18 l)) (read_16 key n)

pub returns-in-len3 : goal.returns-in-len3
returns-in-len3 c =
    let key = c.args.key.now in
    let n : length key ≡ 24 = grind arith in
    let l = c.number-in-len3.ensures ∙ pair _ key 0 c.as_chunks.ensures.front (omega arith) in
    let r = c.with_complement.ensures ∙ ap with_complement (word _ key 2 c.as_chunks.ensures.front (omega arith)) in
    subst (Read key) (sym (ap₂ Rounds24 l r)) (read_24 key n)

pub returns-in-len4 : goal.returns-in-len4
returns-in-len4 c =
    let key = c.args.key.now in
    let n : length key ≡ 32 = grind arith in
    let l = c.number-in-len4.ensures ∙ pair _ key 0 c.as_chunks.ensures.front (omega arith) in
    let r = c.number-in-len4-2.ensures ∙ pair _ key 2 c.as_chunks.ensures.front (omega arith) in
    subst (Read key) (sym (ap₂ Rounds24 l r)) (read_32 key n)
