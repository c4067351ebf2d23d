-- What holds at each moment of a claimed list of calls, and that each call keeps it.
use Rattle.std.proofs.Common.{◌≡◌, ℕ, zero, suc, ◌-◌, ◌*◌, ◌<◌, ◌≤◌, Bool, true, false, cond, eqb, leb, ◌≢◌, List, [], length, get_or, replicate, Some, None, Option, unwrap_or, sym, refl, ap, ◌∙◌, subst, ap₂, inl, inr, true≢false, arith, length-set, get_or-set_other, get_or-set_same}
use mathlib.Core.Path.{subst⁻¹}
use mathlib.Core.Bool.{false≢true}
use Rattle.std.proofs.lemmas.Bool.{ltb-false, leb-true, leb-false, eqb-true, eqb-false, le-leb, lt-leb, eq-eqb, ne_eqb, not-false, and_parts, and_from, cases_Bool, cases_eq, cond-true, cond-false, cond_both}
use Rattle.octets.specs.Octets.{Bytes, Frame}
use Rattle.sealing.specs.Pair.{paired}
use Rattle.label.specs.Text.{Fields, Rules, Four, text}
use Rattle.label.specs.Read.{reads}
use Rattle.law.specs.Kind.{Kind, Lawful, Keys, keys_of, idle, seal, unseal, check_of, good}
use Rattle.law.specs.Store.{Store, size, frame_at}
use Rattle.law.specs.Labels.{made_label, label_for}
use Rattle.law.specs.Calls.{Call, make, mount, eject, read, write, start, step, status, Given}
use Rattle.law.specs.Checks.{checks, refusal}
use Rattle.law.specs.Model.{Card, off, state_of, held, keys_for, ended_label, after_step, step_label, second_keys, zeros, cleared_to, kept_if, relabelled, resealed, Outcome, perform, start_on, step_on}
use Rattle.law.specs.History.{content_by, steps_by, new_pair_by, in_change_by, pair_by, is_on_by, claim_by}
use Rattle.law.proofs.Checks.{passed}
use Rattle.law.proofs.Sealing.{opens, check-four, key-size}
use Rattle.label.proofs.Read.{reads-text}

abbrev pub new_keys : Kind → Bool → List ℕ → Keys
new_keys M true q = keys_of M q
new_keys M false q = idle M

abbrev pub standing : Kind → ℕ → Bool → List ℕ → List ℕ → ℕ → Card
standing M N chg p q m = record { label = Some (label_for M N chg p q m); old = keys_of M p; new = new_keys M chg q }

abbrev pub card_of : Kind → ℕ → Bool → Bool → List ℕ → List ℕ → ℕ → Card
card_of M N true chg p q m = standing M N chg p q m
card_of M N false chg p q m = off M

abbrev pub under : Bool → List ℕ → List ℕ → ℕ → ℕ → List ℕ
under chg p q m n = cond chg (cond (leb n m) q p) p

pub record Holds (M : Kind) (N : ℕ) (chg : Bool) (p q : List ℕ) (m : ℕ) (con : ℕ → List ℕ) (s : Store) : Type 0 where
  pub long : size s ≡ N
  pub two : 2 ≤ N
  pub fresh : s.worn 0 ≡ false
  pub good_old : good M p ≡ true
  pub good_new : chg ≡ true → good M q ≡ true
  pub bytes_old : Bytes p
  pub bytes_new : chg ≡ true → Bytes q
  pub even : chg ≡ true → length q ≡ length p
  pub below : chg ≡ true → suc m < N
  pub label : reads (frame_at s 0) ≡ Some (label_for M N chg p q m)
  pub sealed : (n : ℕ) → 0 < n → n < N → s.worn n ≡ false → get_or s.frames n [] ≡ seal (keys_of M (under chg p q m n)) n (con n)
  pub whole : (n : ℕ) → Frame (con n)

-- what the call c makes of it
abbrev pub Kept : (M : Kind) (N : ℕ) (on chg : Bool) (p q : List ℕ) (m : ℕ) (con : ℕ → List ℕ) → Call → Outcome → Type 0
Kept M N on chg p q m con c o =
    Holds M N (in_change_by N c m chg) (pair_by N c m q p) (new_pair_by c q) (steps_by c m) (λ n. content_by n c (con n)) o.store
    × (o.card ≡ card_of M N (is_on_by c on) (in_change_by N c m chg) (pair_by N c m q p) (new_pair_by c q) (steps_by c m))

-- a write to a store
pub length-put : (b : Bool) (fs : List (List ℕ)) (k : ℕ) (v : List ℕ) → length (kept_if b fs k v) ≡ length fs
length-put true fs k v = refl
length-put false fs k v = length-set fs k v

pub put_same : (b : Bool) (fs : List (List ℕ)) (k : ℕ) (v : List ℕ) → b ≡ false → k < length fs → get_or (kept_if b fs k v) k [] ≡ v
put_same true fs k v e h = absurd (true≢false e)
put_same false fs k v e h = get_or-set_same fs k v [] h

pub put_other : (b : Bool) (fs : List (List ℕ)) (k n : ℕ) (v : List ℕ) → n ≢ k → get_or (kept_if b fs k v) n [] ≡ get_or fs n []
put_other true fs k n v h = refl
put_other false fs k n v h = get_or-set_other fs k n v [] h

-- making
pub length_cleared : (w : ℕ → Bool) (k : Keys) (n : ℕ) (fs : List (List ℕ)) → length (cleared_to w k n fs) ≡ length fs
length_cleared w k zero fs = refl
length_cleared w k (suc n) fs = length-put (w (suc n)) (cleared_to w k n fs) (suc n) _ ∙ length_cleared w k n fs

pub get_or_cleared : (w : ℕ → Bool) (k : Keys) (n i : ℕ) (fs : List (List ℕ)) → 0 < i → i ≤ n → n < length fs → w i ≡ false
    → get_or (cleared_to w k n fs) i [] ≡ seal k i zeros
get_or_cleared w k zero i fs p h l e = absurd (omega arith)
get_or_cleared w k (suc n) i fs p h l e = elim (cases_eq i (suc n)) [
  | inl y ↦ subst⁻¹ (λ j. get_or (cleared_to w k (suc n) fs) j [] ≡ seal k j zeros) y
      (put_same (w (suc n)) (cleared_to w k n fs) (suc n) (seal k (suc n) zeros) (ap w (sym y) ∙ e) (let r = length_cleared w k n fs in omega arith))
  | inr y ↦ put_other (w (suc n)) (cleared_to w k n fs) (suc n) i (seal k (suc n) zeros) y ∙ get_or_cleared w k n i fs p (omega arith) (omega arith) e
]

either_keys : (M : Kind) (b : Bool) (p q : List ℕ) → cond b (keys_of M q) (keys_of M p) ≡ keys_of M (cond b q p)
either_keys M true p q = refl
either_keys M false p q = refl

pub under-is : (M : Kind) (N : ℕ) (chg : Bool) (p q : List ℕ) (m n : ℕ) → keys_for (standing M N chg p q m) n ≡ keys_of M (under chg p q m n)
under-is M N true p q m n = either_keys M (leb n m) p q
under-is M N false p q m n = refl

pub leb-next : (n m : ℕ) → n ≢ suc m → leb n m ≡ leb n (suc m)
leb-next n m h = elim (cases_Bool (leb n m)) [
  | inl y ↦ let y' = leb-true n m y in y ∙ sym (le-leb n (suc m) (omega arith))
  | inr y ↦ let y' = leb-false n m y in y ∙ sym (lt-leb n (suc m) (omega arith))
]

abbrev IsSome : Option (List ℕ) → Type 0
IsSome None = ⊥
IsSome (Some r) = Unit {0}

pub none≢some : (x : List ℕ) → None ≡ Some x → ⊥
none≢some x e = subst IsSome (sym e) tt

pub some_same : (x y : List ℕ) → Some x ≡ Some y → x ≡ y
some_same x y e = ap (λ o. unwrap_or o x) e

zero_bytes : (k : ℕ) → Bytes (replicate k 0)
zero_bytes zero i = omega arith
zero_bytes (suc k) zero = omega arith
zero_bytes (suc k) (suc i) = zero_bytes k i

zero_frame : Frame zeros
zero_frame = record { long = refl; bytes = zero_bytes 128 }

module _ (M : Kind) (L : Lawful M) (N : ℕ) (small : N ≤ 1024) where
  pub rules_rest : (p : List ℕ) → good M p ≡ true → Bytes p → 2 ≤ N → Rules (made_label M N p)
  rules_rest p g b t = record {
    named = L.lettered;
    sized = key-size (length p) (and_parts _ _ g).0;
    counted = (t, small);
    checked = check-four M p g b L;
    nexted = λ x e. absurd (none≢some x e);
    within = omega arith;
    still = λ e. refl;
  }

  rules_change : (p q : List ℕ) (m : ℕ) → good M p ≡ true → Bytes p → good M q ≡ true → Bytes q → 2 ≤ N → suc m < N → Rules (label_for M N true p q m)
  rules_change p q m g b h c t lt = record {
    named = L.lettered;
    sized = key-size (length p) (and_parts _ _ g).0;
    counted = (t, small);
    checked = check-four M p g b L;
    nexted = λ x e. subst Four (some_same (check_of (keys_of M q)) x e) (check-four M q h c L);
    within = omega arith;
    still = λ e. absurd (none≢some (check_of (keys_of M q)) (sym e));
  }

  pub keeps-make : (on chg : Bool) (p q : List ℕ) (m : ℕ) (con : ℕ → List ℕ) (card : Card) (s : Store) (x : List ℕ) → Bytes x → size s ≡ N
      → refusal M (state_of card) (held card.label).keybits s (make x) ≡ None → Kept M N on chg p q m con (make x) (perform M card s (make x))
  keeps-make on chg p q m con card s x bx long ok =
      let h = passed (checks M (state_of card) (held card.label).keybits s (make x)) ok in
      let fs = s.frames in
      let two : 2 ≤ size s = ltb-false (size s) 2 h.1.1.1.0 in
      let cs = cleared_to s.worn (keys_of M x) (size s - 1) fs in
      let lc : length cs ≡ size s = length_cleared s.worn (keys_of M x) (size s - 1) fs in
      let lab = text (made_label M (size s) x) in
      let g : good M x ≡ true = and_from _ _ (not-false _ h.1.0) (not-false _ h.1.1.0) in (
        record {
          long = length-put (s.worn 0) cs 0 _ ∙ lc ∙ long;
          two = subst (λ n. 2 ≤ n) long two;
          fresh = h.1.1.1.1.0;
          good_old = and_from _ _ (not-false _ h.1.0) (not-false _ h.1.1.0);
          good_new = λ e. absurd (false≢true e);
          bytes_old = bx;
          bytes_new = λ e. absurd (false≢true e);
          even = λ e. absurd (false≢true e);
          below = λ e. absurd (false≢true e);
          label = ap reads (put_same (s.worn 0) cs 0 lab h.1.1.1.1.0 (omega arith) ∙ ap (λ n. text (made_label M n x)) long)
              ∙ reads-text (made_label M N x) (rules_rest x g bx (omega arith));
          sealed = λ n pos lt e.
              let ne : n ≢ 0 = omega arith in
              put_other (s.worn 0) cs 0 n _ ne
              ∙ get_or_cleared s.worn (keys_of M x) (size s - 1) n fs pos (omega arith) (omega arith) e;
          whole = λ n. zero_frame;
        },
        ap (λ n. record { label = Some (made_label M n x); old = keys_of M x; new = idle M }) long,
      )

  pub keeps-write : (on chg : Bool) (p q : List ℕ) (m : ℕ) (con : ℕ → List ℕ) (s : Store) (k : ℕ) (b : List ℕ) → Bytes b → Holds M N chg p q m con s
      → refusal M (state_of (card_of M N on chg p q m)) ((held (card_of M N on chg p q m).label).keybits) s (write k b) ≡ None → Kept M N on chg p q m con (write k b) (perform M (card_of M N on chg p q m) s (write k b))
  keeps-write false chg p q m con s k b bb i ok = absurd (true≢false (passed (checks M 0 0 s (write k b)) ok).0)
  keeps-write true chg p q m con s k b bb i ok =
      let h = passed (checks M (state_of (standing M N chg p q m)) ((held (standing M N chg p q m).label).keybits) s (write k b)) ok in
      let fs = s.frames in
      let v = seal (keys_for (standing M N chg p q m) k) k b in
      let nz : 0 ≢ k = λ e. eqb-false k 0 h.1.1.0 (sym e) in
      let lt : k < size s = leb-false (size s) k h.1.1.1.0 in
      let same : (n : ℕ) → k ≡ n → get_or (kept_if (s.worn k) fs k v) n [] ≡ seal (keys_of M (under chg p q m n)) n b =
      λ n e. subst (λ j. get_or (kept_if (s.worn k) fs k v) j [] ≡ seal (keys_of M (under chg p q m j)) j b) e
      (put_same (s.worn k) fs k v h.1.1.1.1.0 lt ∙ ap (λ (r : Keys). seal r k b) (under-is M N chg p q m k)) in (
        record {
          long = length-put (s.worn k) fs k _ ∙ i.long;
          two = i.two;
          fresh = i.fresh;
          good_old = i.good_old;
          good_new = i.good_new;
          bytes_old = i.bytes_old;
          bytes_new = i.bytes_new;
          even = i.even;
          below = i.below;
          label = ap reads (put_other (s.worn k) fs k 0 _ nz) ∙ i.label;
          sealed = λ n pos nlt e. elim (cases_eq k n) [
            | inl y ↦ same n y ∙ ap (seal (keys_of M (under chg p q m n)) n) (sym (cond-true (eqb k n) b (con n) (eq-eqb k n y)))
            | inr y ↦ put_other (s.worn k) fs k n _ (λ z. y (sym z)) ∙ i.sealed n pos nlt e
                ∙ ap (seal (keys_of M (under chg p q m n)) n) (sym (cond-false (eqb k n) b (con n) (ne_eqb k n y)))
          ];
          whole = λ n. cond_both (eqb k n) b (con n) Frame (λ _. record { long = eqb-true _ _ (not-false _ h.1.0); bytes = bb }) (λ _. i.whole n);
        },
        refl,
      )

  pub keeps-start : (on chg : Bool) (p q : List ℕ) (m : ℕ) (con : ℕ → List ℕ) (s : Store) (x : List ℕ) → Bytes x → Holds M N chg p q m con s
      → refusal M (state_of (card_of M N on chg p q m)) ((held (card_of M N on chg p q m).label).keybits) s (start x) ≡ None → Kept M N on chg p q m con (start x) (start_on M (card_of M N on chg p q m).label (card_of M N on chg p q m) s x)
  keeps-start false chg p q m con s x bx i ok = absurd (true≢false (passed (checks M 0 0 s (start x)) ok).0)
  keeps-start true true p q m con s x bx i ok = absurd (true≢false (passed (checks M 2 (4 * length p) s (start x)) ok).0)
  keeps-start true false p q m con s x bx i ok =
      let h = passed (checks M 1 (4 * length p) s (start x)) ok in
      let fs = s.frames in
      let lab = text (label_for M N true p x 0) in
      let g : good M x ≡ true = and_from _ _ (and_parts _ _ (not-false _ h.1.0)).0 (not-false _ h.1.1.0) in
      let two = i.two in
      let long = i.long in (
        record {
          long = length-put (s.worn 0) fs 0 _ ∙ i.long;
          two = i.two;
          fresh = i.fresh;
          good_old = i.good_old;
          good_new = λ _. g;
          bytes_old = i.bytes_old;
          bytes_new = λ _. bx;
          even = λ _. let e : 4 * length p ≡ 4 * length x = eqb-true (4 * length p) (4 * length x) (and_parts (paired (length x)) (eqb (4 * length p) (4 * length x)) (not-false _ h.1.0)).1 in omega arith;
          below = λ _. i.two;
          label = ap reads (put_same (s.worn 0) fs 0 lab i.fresh (omega arith)) ∙ reads-text (label_for M N true p x 0) (rules_change p x 0 i.good_old i.bytes_old g bx i.two i.two);
          sealed = λ n pos nlt e.
              let ne : n ≢ 0 = omega arith in
              put_other (s.worn 0) fs 0 n _ ne ∙ i.sealed n pos nlt e
              ∙ ap (λ r. seal (keys_of M r) n (con n)) (sym (cond-false (leb n 0) x p (lt-leb n 0 pos)));
          whole = i.whole;
        },
        refl,
      )

  step_here : (p q : List ℕ) (m : ℕ) (con : ℕ → List ℕ) (s : Store) → Holds M N true p q m con s → s.worn (suc m) ≡ false
      → get_or (resealed (keys_of M p) (keys_of M q) (suc m) s).frames (suc m) [] ≡ seal (keys_of M (cond (leb (suc m) (suc m)) q p)) (suc m) (con (suc m))
  step_here p q m con s i e =
      let fs = s.frames in
      let lt : suc m < N = i.below refl in
      let long = i.long in
      let v = seal (keys_of M q) (suc m) (unseal (keys_of M p) (suc m) (get_or fs (suc m) [])) in
      let was : get_or fs (suc m) [] ≡ seal (keys_of M p) (suc m) (con (suc m)) =
      i.sealed (suc m) (omega arith) lt e
      ∙ ap (λ r. seal (keys_of M r) (suc m) (con (suc m))) (cond-false (leb (suc m) m) q p (lt-leb (suc m) m (omega arith))) in
      put_same (s.worn (suc m)) fs (suc m) v e (omega arith)
      ∙ ap (λ x. seal (keys_of M q) (suc m) (unseal (keys_of M p) (suc m) x)) was
      ∙ ap (seal (keys_of M q) (suc m)) (opens M p i.good_old i.bytes_old L (suc m) (con (suc m)) (i.whole (suc m)))
      ∙ ap (λ r. seal (keys_of M r) (suc m) (con (suc m))) (sym (cond-true (leb (suc m) (suc m)) q p (le-leb (suc m) (suc m) (omega arith))))

  -- the frames of a step, before the label is written
  step-at : (p q : List ℕ) (m : ℕ) (con : ℕ → List ℕ) (s : Store) → Holds M N true p q m con s
      → (n : ℕ) → 0 < n → n < N → s.worn n ≡ false
      → get_or (resealed (keys_of M p) (keys_of M q) (suc m) s).frames n [] ≡ seal (keys_of M (cond (leb n (suc m)) q p)) n (con n)
  step-at p q m con s i n pos nlt e = elim (cases_eq n (suc m)) [
    | inl y ↦ subst⁻¹ (λ j. get_or (resealed (keys_of M p) (keys_of M q) (suc m) s).frames j [] ≡ seal (keys_of M (cond (leb j (suc m)) q p)) j (con j)) y (step_here p q m con s i (ap s.worn (sym y) ∙ e))
    | inr y ↦ put_other (s.worn (suc m)) fs (suc m) n v y ∙ i.sealed n pos nlt e ∙ ap (λ b. seal (keys_of M (cond b q p)) n (con n)) (leb-next n m y)
  ]
    where
      fs : List (List ℕ)
      fs = s.frames

      v : List ℕ
      v = seal (keys_of M q) (suc m) (unseal (keys_of M p) (suc m) (get_or s.frames (suc m) []))

  abbrev pub Over : List ℕ → List ℕ → ℕ → (ℕ → List ℕ) → Store → Bool → Type 0
  Over p q m con s b =
      let l : Fields = label_for M N true p q m in
      Holds M N (cond b false true) (cond b q p) q (suc m) con (relabelled (step_label b l) (resealed (keys_of M p) (keys_of M q) (suc m) s))
      × (after_step b M l (standing M N true p q m) ≡ standing M N (cond b false true) (cond b q p) q (suc m))

  pub over : (p q : List ℕ) (m : ℕ) (con : ℕ → List ℕ) (s : Store) → Holds M N true p q m con s → (b : Bool) → eqb (suc m) (N - 1) ≡ b → Over p q m con s b
  over p q m con s i true e =
      let R = (resealed (keys_of M p) (keys_of M q) (suc m) s).frames in
      let lab = text (ended_label (label_for M N true p q m)) in
      let same : ended_label (label_for M N true p q m) ≡ made_label M N q =
      ap (λ n. record { cipher = M.name; keybits = 4 * n; frames = N; check = check_of (keys_of M q); next = None; moved = 0 }) (sym (i.even refl)) in
      let lR : length R ≡ N = length-put (s.worn (suc m)) s.frames (suc m) _ ∙ i.long in
      let two = i.two in
      let last : suc m ≡ N - 1 = eqb-true (suc m) (N - 1) e in (
        record {
          long = length-put (s.worn 0) R 0 _ ∙ lR;
          two = i.two;
          fresh = i.fresh;
          good_old = i.good_new refl;
          good_new = λ h. absurd (false≢true h);
          bytes_old = i.bytes_new refl;
          bytes_new = λ h. absurd (false≢true h);
          even = λ h. absurd (false≢true h);
          below = λ h. absurd (false≢true h);
          label = ap reads (put_same (s.worn 0) R 0 lab i.fresh (omega arith) ∙ ap (text) same) ∙ reads-text (made_label M N q) (rules_rest q (i.good_new refl) (i.bytes_new refl) i.two);
          sealed = λ n pos nlt u.
              let ne : n ≢ 0 = omega arith in
              put_other (s.worn 0) R 0 n _ ne ∙ step-at p q m con s i n pos nlt u
              ∙ ap (λ r. seal (keys_of M r) n (con n)) (cond-true (leb n (suc m)) q p (le-leb n (suc m) (omega arith)));
          whole = i.whole;
        },
        ap (λ l. record { label = Some l; old = keys_of M q; new = idle M }) same,
      )
  over p q m con s i false e =
      let R = (resealed (keys_of M p) (keys_of M q) (suc m) s).frames in
      let lab = text (label_for M N true p q (suc m)) in
      let lR : length R ≡ N = length-put (s.worn (suc m)) s.frames (suc m) _ ∙ i.long in
      let two = i.two in
      let lt : suc m < N = i.below refl in
      let more : suc m ≢ N - 1 = eqb-false (suc m) (N - 1) e in (
        record {
          long = length-put (s.worn 0) R 0 _ ∙ lR;
          two = i.two;
          fresh = i.fresh;
          good_old = i.good_old;
          good_new = i.good_new;
          bytes_old = i.bytes_old;
          bytes_new = i.bytes_new;
          even = i.even;
          below = λ h. omega arith;
          label = ap reads (put_same (s.worn 0) R 0 lab i.fresh (omega arith)) ∙ reads-text (label_for M N true p q (suc m)) (rules_change p q (suc m) i.good_old i.bytes_old (i.good_new refl) (i.bytes_new refl) i.two (omega arith));
          sealed = λ n pos nlt u.
              let ne : n ≢ 0 = omega arith in
              put_other (s.worn 0) R 0 n _ ne ∙ step-at p q m con s i n pos nlt u;
          whole = i.whole;
        },
        refl,
      )

  pub keeps-step : (on chg : Bool) (p q : List ℕ) (m : ℕ) (con : ℕ → List ℕ) (s : Store) → Holds M N chg p q m con s
      → refusal M (state_of (card_of M N on chg p q m)) ((held (card_of M N on chg p q m).label).keybits) s step ≡ None → Kept M N on chg p q m con step (step_on M (card_of M N on chg p q m).label (card_of M N on chg p q m) s)
  keeps-step false chg p q m con s i ok = absurd (true≢false (passed (checks M 0 0 s step) ok).0)
  keeps-step true false p q m con s i ok = absurd (true≢false (passed (checks M 1 (4 * length p) s step) ok).0)
  keeps-step true true p q m con s i ok = over p q m con s i (eqb (suc m) (N - 1)) refl

  mounted-is : (chg : Bool) (p q : List ℕ) (m : ℕ) (x y : List ℕ) → x ≡ p → y ≡ cond chg q []
      → record { label = Some (label_for M N chg p q m); old = keys_of M x; new = second_keys M (label_for M N chg p q m).next y } ≡ standing M N chg p q m
  mounted-is true p q m x y e f = ap₂ (λ a b. record { label = Some (label_for M N true p q m); old = keys_of M a; new = keys_of M b }) e f
  mounted-is false p q m x y e f = ap (λ a. record { label = Some (label_for M N false p q m); old = keys_of M a; new = idle M }) e

  pub keeps-mount : (on chg : Bool) (p q : List ℕ) (m : ℕ) (con : ℕ → List ℕ) (card : Card) (s : Store) (x y : List ℕ) → Holds M N chg p q m con s
      → x ≡ p → y ≡ cond chg q [] → Kept M N on chg p q m con (mount x y) (perform M card s (mount x y))
  keeps-mount on chg p q m con card s x y i e f =
      let mk : Option Fields → Card = λ o. record { label = Some (held o); old = keys_of M x; new = second_keys M (held o).next y } in
      (i, ap mk i.label ∙ mounted-is chg p q m x y e f)

  -- the seven calls other than making, at the card that the past tells
  pub keeps : (c : Call) (on chg : Bool) (p q : List ℕ) (m : ℕ) (con : ℕ → List ℕ) (s : Store) → Given c → Holds M N chg p q m con s
      → claim_by c p (cond chg q []) (Unit {0}) → refusal M (state_of (card_of M N on chg p q m)) ((held (card_of M N on chg p q m).label).keybits) s c ≡ None
      → Kept M N on chg p q m con c (perform M (card_of M N on chg p q m) s c)
  keeps (make x) on chg p q m con s gv i cl ok = keeps-make on chg p q m con (card_of M N on chg p q m) s x gv i.long ok
  keeps (mount x y) on chg p q m con s gv i cl ok = keeps-mount on chg p q m con (card_of M N on chg p q m) s x y i cl.1 cl.2
  keeps eject on chg p q m con s gv i cl ok = (i, refl)
  keeps (read n b) on chg p q m con s gv i cl ok = (i, refl)
  keeps (write n b) on chg p q m con s gv i cl ok = keeps-write on chg p q m con s n b gv i ok
  keeps (start x) on chg p q m con s gv i cl ok = keeps-start on chg p q m con s x gv i ok
  keeps step on chg p q m con s gv i cl ok = keeps-step on chg p q m con s i ok
  keeps status on chg p q m con s gv i cl ok = (i, refl)
