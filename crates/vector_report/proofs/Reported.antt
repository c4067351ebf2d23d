-- A report grows by a line, and ends.
use Rattle.std.proofs.Common.{◌≡◌, ℕ, ◌+◌, List, [], ◌++◌, length, sym, refl, ap, ◌∙◌, subst, append_assoc, arith}
use Rattle.std.proofs.lemmas.List.{append-nil}
use Rattle.vector_groups.specs.declared.group.Group.{Group}
use Rattle.vector_groups.specs.Text.{GroupOf}
use Rattle.vector_report.specs.declared.verdict.Verdict.{Verdict}
use Rattle.vector_report.specs.Report.{Judged, judged_line, malformed_line, Reports, ended, judged, malformed}
use Rattle.vector_report.proofs.Shorter.{shorter}

-- whatever reports the rest from group n on completes what is written to a report of the start
abbrev pub Open : List ℕ → ℕ → List ℕ → List ℕ → Type 0
Open start n rest written = (tail : List ℕ) → Reports n rest tail → Reports 1 start (written ++ tail)

-- at the end of a text there is nothing to report
nothing_more : {n : ℕ} {input tail : List ℕ} → Reports n input tail → input ≡ [] → tail ≡ []
nothing_more ended e = refl
nothing_more (judged {input = input} {rest = rest} {g = g} v p j r) e = absurd (omega (arith, shorter input g rest p, ap length e))
nothing_more (malformed some none) e = absurd (some e)

module _ (start : List ℕ) (n : ℕ) (rest written : List ℕ) (so : Open start n rest written) {m : ℕ} {after longer : List ℕ} (next : m ≡ n + 1) where
  pub more : {g : Group} {v : Verdict} → GroupOf rest g after → Judged g v → longer ≡ written ++ judged_line n v → Open start m after longer
  more {v = v} p j grown tail r =
      let same : written ++ (judged_line n v ++ tail) ≡ longer ++ tail =
      sym (append_assoc written (judged_line n v) tail) ∙ ap (λ t. t ++ tail) (sym grown) in
      subst (Reports 1 start) same (so (judged_line n v ++ tail) (judged v p j (subst (λ k. Reports k after tail) next r)))

  pub last : (rest ≡ [] → ⊥) → ((g : Group) (others : List ℕ) → GroupOf rest g others → ⊥) → after ≡ [] → longer ≡ written ++ malformed_line n → Open start m after longer
  last some none e grown tail r =
      subst (Reports 1 start) (sym grown ∙ sym (append-nil longer) ∙ ap (λ t. longer ++ t) (sym (nothing_more r e)))
      (so (malformed_line n) (malformed some none))

pub whole : (start : List ℕ) (n : ℕ) (rest written : List ℕ) → Open start n rest written → rest ≡ [] → Reports 1 start written
whole start n rest written so e =
    subst (Reports 1 start) (append-nil written) (so [] (subst (λ t. Reports n t []) (sym e) ended))
