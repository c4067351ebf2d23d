-- The tests of the rules decide them.
use Rattle.std.proofs.Common.{◌≡◌, ℕ, zero, suc, ◌-◌, ◌<◌, ◌≤◌, Bool, false, ◌&&◌, eqb, ltb, leb, List, [], ◌∷◌, length, Some, None, Decides, Option, sym, refl, arith}
use Rattle.std.specs.Char.{is_ascii_lowercase}
use Rattle.std.specs.List.{AllByRecursion, list_all}
use Rattle.std.proofs.lemmas.Bool.Decides.{Decides-and, Decides-like, Decides-eqb, Decides-ltb, same_from_decides}
use Rattle.std.proofs.ByRecursion.{Decides-by_and, All-get_or, All-from_get_or}
use Rattle.std.proofs.lemmas.Bool.{leb-true, le-leb, false≢true, cond-true, cond-false}
use Rattle.octets.specs.Octets.{Bytes}
use Rattle.engine.specs.Kind.{EightLetters}
use Rattle.label.specs.Text.{Fields, Four, Rules}
use Rattle.label.specs.Read.{lettered, four_bytes, next_test, kept, allowed}

abbrev pub Letter : ℕ → Type 0
Letter c = (97 ≤ c) × (c ≤ 122)

decides_leb : (a b : ℕ) → Decides (leb a b) (a ≤ b)
decides_leb a b = (leb-true a b, le-leb a b)

-- a test of each element, where the count is tested too
counted : (count : ℕ) (p : ℕ → Bool) (P : ℕ → Type 0) → ((x : ℕ) → Decides (p x) (P x)) → (s : List ℕ)
    → Decides (eqb (length s) count && list_all p s) ((length s ≡ count) × AllByRecursion P s)
counted count p P each s =
    Decides-and (eqb (length s) count) (list_all p s) (Decides-eqb (length s) count)
    (Decides-by_and p P (list_all p) each refl (λ x xs. refl) s)

pub lettered_decides : (name : List ℕ) → Decides (lettered name) (EightLetters name)
lettered_decides name =
    Decides-like (lettered name)
    (λ h. record { eight = h.0; letters = λ i l. All-get_or Letter name i 0 (omega (arith, h.0)) h.1 })
    (λ h. (h.eight, All-from_get_or Letter name 0 (λ i l. h.letters i (omega (arith, h.eight)))))
    (counted 8 (λ c. leb 97 c && leb c 122) Letter (λ c. Decides-and (leb 97 c) (leb c 122) (decides_leb 97 c) (decides_leb c 122)) name)

-- of eight characters the letters decide
pub lettered_name : (name : List ℕ) → length name ≡ 8 → list_all is_ascii_lowercase name ≡ lettered name
lettered_name name l = rw l refl

pub small_decides : (s : List ℕ) → Decides (list_all (λ x. ltb x 256) s) (AllByRecursion (λ x. x < 256) s)
small_decides = Decides-by_and (λ x. ltb x 256) (λ x. x < 256) (list_all (λ x. ltb x 256)) (λ x. Decides-ltb x 256) refl (λ x xs. refl)

-- past the end of a list its elements read as 0
pub small-get_or : (s : List ℕ) → AllByRecursion (λ x. x < 256) s → Bytes s
small-get_or [] h i = omega arith
small-get_or (x ∷ s) h zero = h.0
small-get_or (x ∷ s) h (suc i) = small-get_or s h.1 i

pub four_decides : (b : List ℕ) → Decides (four_bytes b) (Four b)
four_decides b =
    Decides-like (four_bytes b)
    (λ h. (h.0, small-get_or b h.1))
    (λ h. (h.0, All-from_get_or (λ x. x < 256) b 0 (λ i l. h.1 i)))
    (counted 4 (λ x. ltb x 256) (λ x. x < 256) (λ x. Decides-ltb x 256) b)

pub record Nexted (next : Option (List ℕ)) (moved : ℕ) : Type 0 where
  pub four : (b : List ℕ) → next ≡ Some b → Four b
  pub still : next ≡ None → moved ≡ 0

pub next_decides : (next : Option (List ℕ)) (moved : ℕ) → Decides (next_test next moved) (Nexted next moved)
next_decides None moved =
    Decides-like (eqb moved 0)
    (λ h. record { four = λ b e. let z : ◌≡◌ {A = ℕ} 0 1 = cc in absurd (omega arith); still = λ e. h })
    (λ h. h.still refl)
    (Decides-eqb moved 0)
next_decides (Some check) moved =
    Decides-like (four_bytes check)
    (λ h. record { four = λ b e. let same : check ≡ b = cc in rw (sym same) h; still = λ e. let z : ◌≡◌ {A = ℕ} 0 1 = cc in absurd (omega arith) })
    (λ h. h.four check refl)
    (four_decides check)

pub kept_decides : (l : Fields) → Decides (kept l) (Rules l)
unfolding kept
kept_decides l =
    Decides-like (kept l)
    (λ h.
    let counts = h.1.1 in
    let checks = counts.1.1 in
    record {
      named = h.0;
      sized = h.1.0;
      counted = (counts.0, counts.1.0);
      checked = checks.0;
      nexted = checks.1.0.four;
      within = checks.1.1;
      still = checks.1.0.still;
    })
    (λ h. (h.named, (h.sized, (h.counted.0, (h.counted.1, (h.checked, (record { four = h.nexted; still = h.still }, h.within)))))))
    (Decides-and _ _ (lettered_decides l.cipher)
    (Decides-and _ _ ((λ e. e), (λ e. e))
    (Decides-and _ _ (decides_leb 2 l.frames)
    (Decides-and _ _ (decides_leb l.frames 1024)
    (Decides-and _ _ (four_decides l.check)
    (Decides-and _ _ (next_decides l.next l.moved)
    (Decides-ltb l.moved (l.frames - 1))))))))

pub allowed_some : (l : Fields) → Rules l → Some l ≡ allowed l
allowed_some l h = sym (cond-true (kept l) (Some l) None ((kept_decides l).1 h))

pub allowed-none : (l : Fields) → (Rules l → ⊥) → None ≡ allowed l
allowed-none l h =
    let refused = same_from_decides false (kept l) ((λ e. absurd (false≢true e)), (λ p. absurd (h p))) (kept_decides l) in
    sym (cond-false (kept l) (Some l) None (sym refused))
