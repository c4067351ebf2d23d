-- Reading and the text belong together: what reads as a label is that label's text, and a label's text reads as that label.
use Rattle.std.proofs.Common.{◌≡◌, ℕ, ◌<◌, Bool, true, false, cond, List, Some, None, Option, sym, refl, ap, ◌∙◌, subst, arith}
use Rattle.std.specs.Str.{bytes_eq}
use Rattle.std.proofs.lemmas.Slice.Eq.{bytes_eq-Decides}
use Rattle.std.proofs.lemmas.Bool.Decides.{nat_tests}
use Rattle.std.proofs.lemmas.Bool.{cond-true}
use Rattle.octets.specs.Octets.{Frame}
use Rattle.label.specs.Text.{Fields, text, Rules, KeySize}
use Rattle.label.specs.Read.{kept, allowed, candidate, reads}
use Rattle.label.proofs.Kept.{kept_decides}
use Rattle.label.proofs.Candidate.{Fitting, candidate-text}
use Rattle.label.proofs.Frame.{length-text, bytes-text}

-- a text of fields that may break the rules
pub reads-fitting : (l : Fields) → Fitting l → reads (text l) ≡ allowed l
unfolding reads
reads-fitting l z =
    let same = candidate-text l z in
    ap (λ (m : Fields). cond (bytes_eq (text m) (text l)) (allowed m) None) same
    ∙ cond-true (bytes_eq (text l) (text l)) (allowed l) None ((bytes_eq-Decides (text l) (text l)).1 refl)

size_small : (n : ℕ) → KeySize n → n < 1000
size_small n h = grind (arith, nat_tests)

pub fitting : (l : Fields) → Rules l → Fitting l
fitting l h =
    record {
      cipher = h.named.eight;
      keybits = size_small l.keybits h.sized;
      frames = omega arith;
      check = h.checked;
      next = h.nexted;
      moved = omega arith;
    }

pub reads-text : (l : Fields) → Rules l → reads (text l) ≡ Some l
reads-text l h = reads-fitting l (fitting l h) ∙ cond-true (kept l) (Some l) None ((kept_decides l).1 h)

-- both tests passed where something was read
passed : {A : Type 0} (a b : Bool) (x y : A) → cond a (cond b (Some x) None) None ≡ Some y → (a ≡ true) × (b ≡ true) × (x ≡ y)
passed true true x y e = (refl, refl, cc)
passed true false x y e = let z : ◌≡◌ {A = ℕ} 0 1 = cc in absurd (omega arith)
passed false b x y e = let z : ◌≡◌ {A = ℕ} 0 1 = cc in absurd (omega arith)

pub reads_rules : (f : List ℕ) (l : Fields) → reads f ≡ Some l → Rules l
unfolding reads
reads_rules f l e =
    let p = passed (bytes_eq (text (candidate f)) f) (kept (candidate f)) (candidate f) l e in
    subst Rules p.2 ((kept_decides (candidate f)).0 p.1)

pub reads-back : (f : List ℕ) (l : Fields) → reads f ≡ Some l → text l ≡ f
unfolding reads
reads-back f l e =
    let p = passed (bytes_eq (text (candidate f)) f) (kept (candidate f)) (candidate f) l e in
    ap text (sym p.2) ∙ (bytes_eq-Decides (text (candidate f)) f).0 p.0

pub text_same : (l m : Fields) → Rules l → Rules m → text l ≡ text m → l ≡ m
text_same l m h k e = let a = reads-text l h in let b = reads-text m k in cc

none_since : (f : List ℕ) (o : Option Fields) → reads f ≡ o → ((l : Fields) → Rules l → text l ≡ f → ⊥) → reads f ≡ None
none_since f None e h = e
none_since f (Some l) e h = absurd (h l (reads_rules f l e) (reads-back f l e))

-- what is no label's text is not read
pub reads_none : (f : List ℕ) → ((l : Fields) → Rules l → text l ≡ f → ⊥) → reads f ≡ None
reads_none f h = none_since f (reads f) refl h

pub text-frame : (l : Fields) → Rules l → Frame (text l)
text-frame l h = let z = fitting l h in record { long = length-text l z; bytes = bytes-text l h.named z }
