-- The label of a mounted card stands in frame 0 and tells its state, made here or not.
use Rattle.std.proofs.Common.{◌≡◌, ℕ, suc, ◌-◌, ◌/◌, ◌<◌, ◌≤◌, Bool, true, false, ◌&&◌, eqb, ◌≢◌, List, length, is_some as option_is_some, Some, None, Option, unwrap_or, sym, refl, ap, ◌∙◌, subst, ap₂, true≢false, arith}
use mathlib.Core.Path.{subst⁻¹}
use mathlib.Core.Bool.{false≢true}
use Rattle.std.proofs.lemmas.Slice.Eq.{bytes_eq-Decides}
use Rattle.std.proofs.lemmas.Bool.{ltb-false, eqb-true, eqb-false, not-false, and_parts, and_from, cond-false}
use Rattle.octets.specs.Octets.{Bytes}
use Rattle.label.specs.Text.{Fields, Rules, Four, text}
use Rattle.label.specs.Read.{reads}
use Rattle.sealing.specs.Pair.{paired}
use Rattle.law.specs.Kind.{Kind, Lawful, keys_of, seal, check_of, good}
use Rattle.law.specs.Store.{Store, size, frame_at}
use Rattle.law.specs.Labels.{label_in, labelled, made_label}
use Rattle.law.specs.Calls.{Call, make, mount, eject, read, write, start, step, status, started, stepped, told, Given}
use Rattle.law.specs.Checks.{checks, refusal}
use Rattle.law.specs.Model.{Card, state_of, state_by, held, keys_for, started_label, ended_label, moved_label, is_over, after_step, step_label, cleared_to, put, relabelled, resealed, perform, start_on, step_on, status_of}
use Rattle.law.specs.Law.{Told}
use Rattle.law.proofs.Checks.{passed}
use Rattle.law.proofs.Sealing.{check-four}
use Rattle.label.proofs.Read.{reads-text, reads_rules}
use Rattle.law.proofs.Holds.{none≢some, some_same, rules_rest, put_same, put_other, length-put, length_cleared}

pub record Carries (M : Kind) (N : ℕ) (l : Fields) (s : Store) : Type 0 where
  pub fresh : s.worn 0 ≡ false
  pub named : l.cipher ≡ M.name
  pub frames : l.frames ≡ N
  pub read : reads (frame_at s 0) ≡ Some l

abbrev pub CarriedBy : Kind → ℕ → Option Fields → Store → Type 0
CarriedBy M N None s = Unit {0}
CarriedBy M N (Some l) s = Carries M N l s

abbrev pub Carried : Kind → ℕ → Card → Store → Type 0
Carried M N c s = CarriedBy M N c.label s

is_some : (o : Option Fields) → option_is_some o ≡ true → o ≡ Some (held o)
is_some None e = absurd (false≢true e)
is_some (Some l) e = refl

pub good-long : (M : Kind) (p q : List ℕ) → length q ≡ length p → good M p ≡ true → good M q ≡ true
good-long M p q e g = ap (λ n. paired n && M.takes (n / 2)) e ∙ g

module _ (M : Kind) (L : Lawful M) (N : ℕ) (small : N ≤ 1024) where
  written : (s : Store) (l : Fields) → 0 < size s → s.worn 0 ≡ false → l.cipher ≡ M.name → l.frames ≡ N → Rules l → Carries M N l (relabelled l s)
  written s l h w n e v =
      record { fresh = w; named = n; frames = e; read = ap reads (put_same (s.worn 0) s.frames 0 (text l) w h) ∙ reads-text l v }

  rules_started : (l : Fields) (c : List ℕ) → Rules l → Four c → Rules (started_label l c)
  rules_started l c v f = record {
    named = v.named;
    sized = v.sized;
    counted = v.counted;
    checked = v.checked;
    nexted = λ x e. subst Four (some_same c x e) f;
    within = let two = v.counted.0 in omega arith;
    still = λ e. absurd (none≢some c (sym e));
  }

  rules_stepped : (l : Fields) → Rules l → (o : Option (List ℕ)) → l.next ≡ o → eqb (labelled o) 2 ≡ true → (b : Bool) → is_over l ≡ b → Rules (step_label b l)
  rules_stepped l v None eo e b eb = absurd (false≢true e)
  rules_stepped l v (Some c) eo e true eb = record {
    named = v.named;
    sized = v.sized;
    counted = v.counted;
    checked = subst⁻¹ (λ (o : Option (List ℕ)). Four (unwrap_or o l.check)) eo (v.nexted c eo);
    nexted = λ x e. absurd (none≢some x e);
    within = let two = v.counted.0 in omega arith;
    still = λ e. refl;
  }
  rules_stepped l v (Some c) eo e false eb =
      let x = v.within in
      let y : suc l.moved ≢ l.frames - 1 = eqb-false _ _ eb in
      record {
        named = v.named;
        sized = v.sized;
        counted = v.counted;
        checked = v.checked;
        nexted = v.nexted;
        within = omega arith;
        still = λ e. absurd (none≢some c (sym e ∙ eo));
      }

  start-carried : (o : Option Fields) (bits : ℕ) (c : Card) (s : Store) (y : List ℕ) → Bytes y → size s ≡ N → refusal M (state_by o) bits s (start y) ≡ None → Carried M N c s → CarriedBy M N o s
      → Carried M N (start_on M o c s y).card (start_on M o c s y).store
  start-carried None bits c s y by e ok t u = t
  start-carried (Some l) bits c s y by e ok t u =
      let h = passed (checks M (labelled l.next) bits s (start y)) ok in
      let g : good M y ≡ true = and_from _ _ (and_parts _ _ (not-false _ h.1.0)).0 (not-false _ h.1.1.0) in
      let v = reads_rules _ l u.read in
      let two = v.counted.0 in
      let e' = u.frames in
      written s (started_label l (check_of (keys_of M y))) (omega arith) u.fresh u.named u.frames (rules_started l _ v (check-four M y g by L))

  over-carried : (b : Bool) (l : Fields) (c : Card) (s : Store) → size s ≡ N → is_over l ≡ b → eqb (labelled l.next) 2 ≡ true → Carries M N l s
      → Carried M N (after_step b M l c) (relabelled (step_label b l) (resealed c.old c.new (suc l.moved) s))
  over-carried true l c s e eb st u =
      let R = resealed c.old c.new (suc l.moved) s in
      let v = reads_rules _ l u.read in
      let lR : size R ≡ N = length-put (s.worn (suc l.moved)) s.frames (suc l.moved) _ ∙ e in
      let two = v.counted.0 in
      let e' = u.frames in
      written R (ended_label l) (omega arith) u.fresh u.named u.frames (rules_stepped l v l.next refl st true eb)
  over-carried false l c s e eb st u =
      let R = resealed c.old c.new (suc l.moved) s in
      let v = reads_rules _ l u.read in
      let lR : size R ≡ N = length-put (s.worn (suc l.moved)) s.frames (suc l.moved) _ ∙ e in
      let two = v.counted.0 in
      let e' = u.frames in
      written R (moved_label l) (omega arith) u.fresh u.named u.frames (rules_stepped l v l.next refl st false eb)

  step-carried : (o : Option Fields) (bits : ℕ) (c : Card) (s : Store) → size s ≡ N → refusal M (state_by o) bits s step ≡ None → Carried M N c s → CarriedBy M N o s
      → Carried M N (step_on M o c s).card (step_on M o c s).store
  step-carried None bits c s e ok t u = t
  step-carried (Some l) bits c s e ok t u = over-carried (is_over l) l c s e refl (not-false _ (passed (checks M (labelled l.next) bits s step) ok).0) u

  written-other : (o : Option Fields) (s : Store) (n : ℕ) (v : List ℕ) → n ≢ 0 → CarriedBy M N o s → CarriedBy M N o (put s n v)
  written-other None s n v h t = tt
  written-other (Some l) s n v h t = record { fresh = t.fresh; named = t.named; frames = t.frames; read = ap (reads) (put_other (s.worn n) s.frames n 0 v (λ e. h (sym e))) ∙ t.read }

  pub carried-perform : (k : Card) (s : Store) (c : Call) → Given c → size s ≡ N → refusal M (state_of k) (held k.label).keybits s c ≡ None → Carried M N k s
      → Carried M N (perform M k s c).card (perform M k s c).store
  carried-perform k s (make p) gv e ok t =
      let h = passed (checks M (state_of k) (held k.label).keybits s (make p)) ok in
      let g : good M p ≡ true = and_from _ _ (not-false _ h.1.0) (not-false _ h.1.1.0) in
      let two : 2 ≤ size s = ltb-false (size s) 2 h.1.1.1.0 in
      let cs = cleared_to s.worn (keys_of M p) (size s - 1) s.frames in
      let lc : length cs ≡ size s = length_cleared s.worn (keys_of M p) (size s - 1) s.frames in
      written (record { frames = cs; worn = s.worn }) (made_label M (size s) p) (omega arith) h.1.1.1.1.0 refl e
      (subst⁻¹ (λ n. Rules (made_label M n p)) e (rules_rest M L N small p g gv (subst (λ n. 2 ≤ n) e two)))
  carried-perform k s (mount p q) gv e ok t =
      let h = passed (checks M (state_of k) (held k.label).keybits s (mount p q)) ok in
      let a = and_parts _ _ (not-false _ h.1.1.1.1.0) in
      record {
        fresh = h.1.1.0;
        named = (bytes_eq-Decides (label_in s).cipher M.name).0 a.0;
        frames = eqb-true _ _ a.1 ∙ e;
        read = is_some (reads (frame_at s 0)) (not-false _ h.1.1.1.0);
      }
  carried-perform k s eject gv e ok t = tt
  carried-perform k s (read n b) gv e ok t = t
  carried-perform k s (write n b) gv e ok t =
      let h = passed (checks M (state_of k) (held k.label).keybits s (write n b)) ok in
      written-other k.label s n (seal (keys_for k n) n b) (eqb-false _ _ h.1.1.0) t
  carried-perform k s (start y) gv e ok t = start-carried k.label (held k.label).keybits k s y gv e ok t t
  carried-perform k s step gv e ok t = step-carried k.label (held k.label).keybits k s e ok t t
  carried-perform k s status gv e ok t = t

  -- the label's keybits are the card's
  start-bits : (o : Option Fields) (s : Store) (p : List ℕ) → CarriedBy M N o s
      → refusal M (state_by o) (held o).keybits s (start p) ≡ refusal M (state_by o) (label_in s).keybits s (start p)
  start-bits None s p t = refl
  start-bits (Some l) s p t = ap (λ o. refusal M (labelled l.next) (held o).keybits s (start p)) (sym t.read)

  pub bits-agree : (k : Card) (s : Store) (c : Call) → Carried M N k s → refusal M (state_of k) (held k.label).keybits s c ≡ refusal M (state_of k) (label_in s).keybits s c
  bits-agree k s (make p) t = refl
  bits-agree k s (mount p q) t = refl
  bits-agree k s eject t = refl
  bits-agree k s (read n b) t = refl
  bits-agree k s (write n b) t = refl
  bits-agree k s (start p) t = start-bits k.label s p t
  bits-agree k s step t = refl
  bits-agree k s status t = refl

  start-told : (o : Option Fields) (bits : ℕ) (c : Card) (s : Store) (y : List ℕ) → size s ≡ N → refusal M (state_by o) bits s (start y) ≡ None → CarriedBy M N o s
      → (start_on M o c s y).answer ≡ started (size s - 1)
  start-told None bits c s y e ok t = absurd (true≢false (passed (checks M 0 bits s (start y)) ok).0)
  start-told (Some l) bits c s y e ok t = ap (λ n. started (n - 1)) (t.frames ∙ sym e)

  step-told : (o : Option Fields) (bits : ℕ) (c : Card) (s : Store) → size s ≡ N → refusal M (state_by o) bits s step ≡ None → CarriedBy M N o s
      → Told (state_by o) s step (step_on M o c s).answer
  step-told None bits c s e ok t = absurd (true≢false (passed (checks M 0 bits s step) ok).0)
  step-told (Some l) bits c s e ok t =
      ap₂ (λ i n. stepped (suc i) (s.worn (suc i)) (eqb (suc i) (n - 1))) (ap (λ o. (held o).moved) (sym t.read)) (t.frames ∙ sym e)

  status-told : (o : Option Fields) (s : Store) → CarriedBy M N o s → Told (state_by o) s status (status_of o (size s))
  status-told None s t = refl
  status-told (Some l) s t =
      ap (told (labelled l.next) (size s)) (ap (λ o. (held o).moved) (sym t.read))
      ∙ sym (cond-false (eqb (labelled l.next) 0) (told 0 0 0) (told (labelled l.next) (size s) (label_in s).moved) (on l.next))
    where
      on : (o : Option (List ℕ)) → eqb (labelled o) 0 ≡ false
      on None = refl
      on (Some c) = refl

  pub told_at : (k : Card) (s : Store) (c : Call) → size s ≡ N → refusal M (state_of k) (held k.label).keybits s c ≡ None → Carried M N k s → Told (state_of k) s c (perform M k s c).answer
  told_at k s (make p) e ok t = refl
  told_at k s (mount p q) e ok t = refl
  told_at k s eject e ok t = refl
  told_at k s (read n b) e ok t = (_, refl)
  told_at k s (write n b) e ok t = refl
  told_at k s (start p) e ok t = start-told k.label (held k.label).keybits k s p e ok t
  told_at k s step e ok t = step-told k.label (held k.label).keybits k s e ok t
  told_at k s status e ok t = status-told k.label s t
