use Rattle.std.proofs.Common.{◌≡◌, ℕ, ◌+◌, ◌<◌, ◌≤◌, ◌⊎◌, List, length, take, Some, None, Option, MatchOption, Bor, sym, ap, ◌∙◌, arith}
use Rattle.std.specs.Option.{unwrap_or}
use Rattle.std.specs.List.{slice_range}
use Rattle.std.proofs.lemmas.List.{take_all}
use Rattle.vector_report.proofs.report.limited.Goals as goal

first : (s : Bor (List ℕ)) (r : Option (Bor (List ℕ))) (n : ℕ)
    → MatchOption r ((n < 0) ⊎ (length s.now < n)) (λ x. (0 ≤ n) × (n ≤ length s.now) × (x.now ≡ slice_range s.now 0 n) × (length x.now + 0 ≡ n))
    → (unwrap_or r s).now ≡ take n s.now
first s None n m = sym (take_all n s.now (omega (arith, m)))
first s (Some x) n m = m.2 ∙ ap (λ k. take k s.now) (omega arith)

pub returns : goal.returns
returns c = ap (λ (x : Bor (List ℕ)). x.now) c.unwrap_or.ensures ∙ first c.args.input c.get.result 65536 c.get.ensures.lookup.0
