-- A line at the front of a text, as a slice pattern with `rest @ ..` finds it.
use Rattle.std.proofs.Common.{◌≡◌, ℕ, suc, ◌-◌, ◌≤◌, List, [], ◌∷◌, ◌++◌, map, length, get_or, take, drop, sym, refl, ap, ◌∙◌, arith}
use Rattle.std.specs.List.{range_with_len}
use Rattle.std.proofs.lemmas.Slice.Eq.{HasBytesAt}
use Rattle.std.proofs.lemmas.List.{take_rest, append_assoc}
use Rattle.std.proofs.lemmas.List.FromFn.{fill_by_all}
use Rattle.text_lines.specs.Line.{assigned, line, LineOf}

-- a list of a known length, written out
pub spelled : (n : ℕ) (s : List ℕ) → length s ≡ n → s ≡ map (λ k. get_or s k 0) (range_with_len 0 n)
spelled n s l = fill_by_all (λ k. get_or s k 0) s n 0 l (λ k h. refl)

shifted : (p s : List ℕ) (x i : ℕ) → HasBytesAt (x ∷ s) (suc i) p → HasBytesAt s i p
shifted [] s x i h = tt
shifted (c ∷ p) s x i h = (h.0, shifted p s x (suc i) h.1)

split : (p s : List ℕ) → length p ≤ length s → HasBytesAt s 0 p → s ≡ p ++ drop (length p) s
split [] s le h = refl
split (c ∷ p) [] le h = absurd (omega arith)
split (c ∷ p) (x ∷ s) le h = ap (λ y. y ∷ s) h.0 ∙ ap (λ t. c ∷ t) (split p s (omega arith) (shifted p s x 0 h.1))

-- the pattern: the name, '=', the value and the end of the line
abbrev pub pattern : List ℕ → List ℕ → List ℕ
pattern name value = name ++ (61 ∷ (value ++ (10 ∷ [])))

joined : (name value rest : List ℕ) → pattern name value ++ rest ≡ line name value rest
unfolding assigned
joined name value rest = simp append_assoc

-- where it matches
pub line_found : (name value s : List ℕ) (width : ℕ) → length value ≡ width → length (pattern name value) ≤ length s → HasBytesAt s 0 (pattern name value)
    → LineOf s name width value (take (length s - length (pattern name value)) (drop (length (pattern name value)) s))
line_found name value s width l le h =
    let n = length (pattern name value) in
    record {
      wide = l;
      reads =
          split (pattern name value) s le h ∙ ap (λ t. pattern name value ++ t) (sym (take_rest s n))
          ∙ joined name value (take (length s - n) (drop n s));
    }

-- a line would match
pub line-front : (name : List ℕ) (width : ℕ) {value rest s : List ℕ} → LineOf s name width value rest
    → s ≡ pattern name (map (λ k. get_or value k 0) (range_with_len 0 width)) ++ rest
line-front name width {value} {rest} {s} h =
    h.reads ∙ sym (joined name value rest) ∙ ap (λ v. pattern name v ++ rest) (spelled width value h.wide)
