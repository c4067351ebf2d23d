-- Each call of a list is fair.
use Rattle.std.proofs.Common.{◌≡◌, ℕ, suc, ◌-◌, ◌*◌, ◌<◌, ◌≤◌, Bool, true, false, cond, not, ◌&&◌, eqb, leb, List, [], ◌∷◌, length, get_or, is_some, Some, None, Option, sym, refl, ap, ◌∙◌, subst, arith}
use mathlib.Core.Path.{subst⁻¹}
use mathlib.Core.Bool.{false≢true}
use Rattle.std.specs.Str.{bytes_eq}
use Rattle.std.proofs.lemmas.Slice.Eq.{bytes_eq-Decides}
use Rattle.std.proofs.lemmas.Bool.{eqb-true, eq-eqb, ne_eqb, lt-leb, not_from_true, not-false, and_parts, and_from, le-ltb, cond_both, cond-true, cond-false, both_ways}
use Rattle.octets.specs.Octets.{Bytes}
use Rattle.refusal.specs.declared.Refusal.{Refusal}
use Rattle.sealing.specs.Pair.{paired}
use Rattle.label.specs.Text.{Fields}
use Rattle.law.specs.Kind.{Kind, Lawful, Keys, keys_of, seal, unseal, check_of, good}
use Rattle.law.specs.Store.{Store, size, Sound}
use Rattle.law.specs.Labels.{label_in, labelled, label_for}
use Rattle.law.specs.Calls.{Call, make, mount, eject, read, write, start, step, status, got, told, accepted, refused_by, Given}
use Rattle.law.specs.Checks.{checks, refusal, second_fits, second_checks}
use Rattle.law.specs.Model.{Card, off, state_of, state_by, held, is_over, after_step, Outcome, perform, decide, act, start_on, step_on, event_of, events}
use Rattle.law.specs.History.{History, content, content_by, steps, steps_by, new_pair, new_pair_by, in_change, in_change_by, pair, pair_by, second, is_on, is_on_by, state, state_after, moved_after, Claimed, claim_by}
use Rattle.law.specs.Law.{Labelled, Told, Gives, ReadsBack, Counted, Each, Fair}
use Rattle.law.specs.Runs.{AllGiven}
use Rattle.law.proofs.Checks.{passed, all_pass}
use Rattle.law.proofs.Sealing.{opens}
use Rattle.law.proofs.Holds.{Holds, Kept, card_of, standing, under, under-is, keeps, keeps-make, over}
use Rattle.law.proofs.Carried.{Carried, CarriedBy, carried-perform, bits-agree, told_at}
use Rattle.law.proofs.Effects.{accepted-perform, refused_by_none, size-perform, worn-perform, state-perform, spare_next, moved-perform}

-- a moment between two calls
pub record Moment : Type 0 where
  pub history : History
  pub card : Card
  pub store : Store

abbrev pub after : Kind → Moment → Call → Moment
after M m c =
    let o : Outcome = act M m.card m.store c in
    record { history = event_of c o ∷ m.history; card = o.card; store = o.store }

same_bytes_refl : (a : List ℕ) → bytes_eq a a ≡ true
same_bytes_refl a = (bytes_eq-Decides a a).1 refl

-- what a moment keeps
-- an unmounted card's engines hold sixteen zero bytes
abbrev pub IdleBy : Kind → Option Fields → Card → Type 0
IdleBy M None c = c ≡ off M
IdleBy M (Some l) c = Unit {0}

pub record Sits (M : Kind) (N : ℕ) (m : Moment) : Type 0 where
  pub long : size m.store ≡ N
  pub told : state_of m.card ≡ state m.history
  pub carried : Carried M N m.card m.store
  pub idles : IdleBy M m.card.label m.card
  pub claim : Claimed N m.history
      → Holds M N (in_change N m.history) (pair N m.history) (new_pair m.history) (steps m.history) (λ n. content n m.history) m.store
      × (m.card ≡ card_of M N (is_on m.history) (in_change N m.history) (pair N m.history) (new_pair m.history) (steps m.history))

module _ (M : Kind) (L : Lawful M) (N : ℕ) (small : N ≤ 1024) where
  -- the claim after the call c with outcome o, the flag b telling whether it was accepted
  abbrev Next : History → Call → Outcome → Bool → Type 0
  Next h c o b =
      cond b (claim_by c (pair N h) (second N h) (Claimed N h)) (Claimed N h)
      → Holds M N (cond b (in_change_by N c (steps h) (in_change N h)) (in_change N h)) (cond b (pair_by N c (steps h) (new_pair h) (pair N h)) (pair N h))
      (cond b (new_pair_by c (new_pair h)) (new_pair h)) (cond b (steps_by c (steps h)) (steps h)) (λ n. cond b (content_by n c (content n h)) (content n h)) o.store
      × (o.card ≡ card_of M N (cond b (is_on_by c (is_on h)) (is_on h)) (cond b (in_change_by N c (steps h) (in_change N h)) (in_change N h))
      (cond b (pair_by N c (steps h) (new_pair h) (pair N h)) (pair N h)) (cond b (new_pair_by c (new_pair h)) (new_pair h)) (cond b (steps_by c (steps h)) (steps h)))

  accept-old : (m : Moment) (c : Call) → Given c → Sits M N m → refusal M (state_of m.card) (held m.card.label).keybits m.store c ≡ None → Claimed N m.history
      → claim_by c (pair N m.history) (second N m.history) (Unit {0}) → Next m.history c (perform M m.card m.store c) true
  accept-old m c gv i ok cl given _ =
      let h = m.history in
      let was = i.claim cl in
      let K : Card → Type 0 = λ k. refusal M (state_of k) (held k.label).keybits m.store c ≡ None
      → Kept M N (is_on h) (in_change N h) (pair N h) (new_pair h) (steps h) (λ n. content n h) c (perform M k m.store c) in
      subst⁻¹ K was.1 (keeps M L N small c (is_on h) (in_change N h) (pair N h) (new_pair h) (steps h) (λ n. content n h) m.store gv was.0 given) ok

  accept : (m : Moment) (c : Call) → Given c → Sits M N m → refusal M (state_of m.card) (held m.card.label).keybits m.store c ≡ None → Next m.history c (perform M m.card m.store c) true
  accept m (make x) gv i ok cl =
      let h = m.history in
      keeps-make M L N small (is_on h) (in_change N h) (pair N h) (new_pair h) (steps h) (λ n. content n h) m.card m.store x gv i.long ok
  accept m (mount x y) gv i ok cl = accept-old m (mount x y) gv i ok cl.0 (tt, cl.1, cl.2) cl
  accept m eject gv i ok cl = accept-old m eject gv i ok cl tt cl
  accept m (read n b) gv i ok cl = accept-old m (read n b) gv i ok cl tt cl
  accept m (write n b) gv i ok cl = accept-old m (write n b) gv i ok cl tt cl
  accept m (start x) gv i ok cl = accept-old m (start x) gv i ok cl tt cl
  accept m step gv i ok cl = accept-old m step gv i ok cl tt cl
  accept m status gv i ok cl = accept-old m status gv i ok cl tt cl

  next : (m : Moment) (c : Call) → Given c → Sits M N m → (r : Option Refusal) → refusal M (state_of m.card) (held m.card.label).keybits m.store c ≡ r
      → let o : Outcome = decide r m.card m.store (perform M m.card m.store c) in Next m.history c o (accepted o.answer)
  next m c gv i None e = subst⁻¹ (Next m.history c (perform M m.card m.store c)) (accepted-perform M m.card m.store c) (accept m c gv i e)
  next m c gv i (Some r) e = i.claim

  size-next : (r : Option Refusal) (k : Card) (s : Store) (c : Call) → size (decide r k s (perform M k s c)).store ≡ size s
  size-next None k s c = size-perform M k s c
  size-next (Some r) k s c = refl

  worn-next : (r : Option Refusal) (k : Card) (s : Store) (c : Call) (n : ℕ) → (decide r k s (perform M k s c)).store.worn n ≡ s.worn n
  worn-next None k s c n = worn-perform M k s c n
  worn-next (Some r) k s c n = refl

  state-next : (r : Option Refusal) (k : Card) (s : Store) (c : Call) (z : ℕ) → state_of k ≡ z
      → state_of (decide r k s (perform M k s c)).card ≡ state_after (decide r k s (perform M k s c)).answer z
  state-next None k s c z e = state-perform M k s c z e
  state-next (Some r) k s c z e = e

  refused-next : (r : Option Refusal) (k : Card) (s : Store) (c : Call) → refused_by (decide r k s (perform M k s c)).answer ≡ r
  refused-next None k s c = refused_by_none (perform M k s c).answer (accepted-perform M k s c)
  refused-next (Some r) k s c = refl

  unchanged-next : (r : Option Refusal) (k : Card) (s : Store) (c : Call) → accepted (decide r k s (perform M k s c)).answer ≡ false
      → (decide r k s (perform M k s c)).store ≡ s
  unchanged-next None k s c e = absurd (both_ways _ e (accepted-perform M k s c))
  unchanged-next (Some r) k s c e = refl

  carried-next : (r : Option Refusal) (k : Card) (s : Store) (c : Call) → Given c → size s ≡ N → refusal M (state_of k) (held k.label).keybits s c ≡ r → Carried M N k s
      → Carried M N (decide r k s (perform M k s c)).card (decide r k s (perform M k s c)).store
  carried-next None k s c gv e ok t = carried-perform M L N small k s c gv e ok t
  carried-next (Some r) k s c gv e ok t = t

  moved-next : (r : Option Refusal) (k : Card) (s : Store) (c : Call) → refusal M (state_of k) (held k.label).keybits s c ≡ r
      → Carried M N (decide r k s (perform M k s c)).card (decide r k s (perform M k s c)).store
      → (label_in (decide r k s (perform M k s c)).store).moved ≡ moved_after (decide r k s (perform M k s c)).answer (label_in s).moved
  moved-next None k s c ok t = moved-perform M N k s c ok t
  moved-next (Some r) k s c ok t = refl

  told-next : (r : Option Refusal) (k : Card) (s : Store) (c : Call) → size s ≡ N → refusal M (state_of k) (held k.label).keybits s c ≡ r → Carried M N k s
      → accepted (decide r k s (perform M k s c)).answer ≡ true → Told (state_of k) s c (decide r k s (perform M k s c)).answer
  told-next None k s c z ok t e = told_at M L N small k s c z ok t
  told-next (Some r) k s c z ok t e = absurd (false≢true e)

  idle-start : (o : Option Fields) (k : Card) (s : Store) (p : List ℕ) → state_by o ≡ 1 → IdleBy M (start_on M o k s p).card.label (start_on M o k s p).card
  idle-start None k s p e = absurd (let z : ◌≡◌ {A = ℕ} 0 1 = e in omega arith)
  idle-start (Some l) k s p e = tt

  idle-over : (b : Bool) (l : Fields) (k : Card) → IdleBy M (after_step b M l k).label (after_step b M l k)
  idle-over true l k = tt
  idle-over false l k = tt

  idle-step : (o : Option Fields) (k : Card) (s : Store) → state_by o ≡ 2 → IdleBy M (step_on M o k s).card.label (step_on M o k s).card
  idle-step None k s e = absurd (let z : ◌≡◌ {A = ℕ} 0 2 = e in omega arith)
  idle-step (Some l) k s e = idle-over (is_over l) l k

  idle-perform : (k : Card) (s : Store) (c : Call) → refusal M (state_of k) (held k.label).keybits s c ≡ None → IdleBy M k.label k
      → IdleBy M (perform M k s c).card.label (perform M k s c).card
  idle-perform k s (make p) ok i = tt
  idle-perform k s (mount p q) ok i = tt
  idle-perform k s eject ok i = refl
  idle-perform k s (read n b) ok i = i
  idle-perform k s (write n b) ok i = i
  idle-perform k s (start p) ok i = idle-start k.label k s p (eqb-true _ _ (not-false _ (passed (checks M (state_of k) (held k.label).keybits s (start p)) ok).0))
  idle-perform k s step ok i = idle-step k.label k s (eqb-true _ _ (not-false _ (passed (checks M (state_of k) (held k.label).keybits s step) ok).0))
  idle-perform k s status ok i = i

  idle-next : (r : Option Refusal) (k : Card) (s : Store) (c : Call) → refusal M (state_of k) (held k.label).keybits s c ≡ r → IdleBy M k.label k
      → IdleBy M (decide r k s (perform M k s c)).card.label (decide r k s (perform M k s c)).card
  idle-next None k s c ok i = idle-perform k s c ok i
  idle-next (Some r) k s c ok i = i

  pub sits_after : (m : Moment) (c : Call) → Given c → Sits M N m → Sits M N (after M m c)
  sits_after m c gv i =
      let r = refusal M (state_of m.card) (held m.card.label).keybits m.store c in
      record {
        long = size-next r m.card m.store c ∙ i.long;
        told = state-next r m.card m.store c (state m.history) i.told;
        carried = carried-next r m.card m.store c gv i.long refl i.carried;
        idles = idle-next r m.card m.store c refl i.idles;
        claim = next m c gv i r refl;
      }

  -- what a mounted card answers
  good-under : (chg : Bool) (p q : List ℕ) (m : ℕ) (con : ℕ → List ℕ) (s : Store) (n : ℕ) → Holds M N chg p q m con s → good M (under chg p q m n) ≡ true
  good-under true p q m con s n i = cond_both (leb n m) q p (λ x. good M x ≡ true) (λ _. i.good_new refl) (λ _. i.good_old)
  good-under false p q m con s n i = i.good_old

  bytes-under : (chg : Bool) (p q : List ℕ) (m : ℕ) (con : ℕ → List ℕ) (s : Store) (n : ℕ) → Holds M N chg p q m con s → Bytes (under chg p q m n)
  bytes-under true p q m con s n i = cond_both (leb n m) q p Bytes (λ _. i.bytes_new refl) (λ _. i.bytes_old)
  bytes-under false p q m con s n i = i.bytes_old

  mounted-on : (chg : Bool) (p q : List ℕ) (m : ℕ) → eqb (state_of (standing M N chg p q m)) 0 ≡ false
  mounted-on true p q m = refl
  mounted-on false p q m = refl

  opens_at : (chg : Bool) (p q : List ℕ) (m : ℕ) (con : ℕ → List ℕ) (s : Store) (n : ℕ) → Holds M N chg p q m con s → Sound s n
      → unseal (keys_of M (under chg p q m n)) n (get_or s.frames n []) ≡ con n
  opens_at chg p q m con s n i ok =
      let ins = ok.inside in
      let long = i.long in
      ap (unseal (keys_of M (under chg p q m n)) n) (i.sealed n ok.data_frame (omega arith) ok.unworn)
      ∙ opens M (under chg p q m n) (good-under chg p q m con s n i) (bytes-under chg p q m con s n i) L n (con n) (i.whole n)

  read_passes : (chg : Bool) (p q : List ℕ) (m : ℕ) (s : Store) (n bits : ℕ) (b : List ℕ) → Sound s n → length b ≡ 128
      → refusal M (state_of (standing M N chg p q m)) bits s (read n b) ≡ None
  read_passes chg p q m s n bits b ok e =
      let k = standing M N chg p q m in
      let pos = ok.data_frame in
      all_pass (checks M (state_of k) bits s (read n b))
      (mounted-on chg p q m, (not_from_true _ (eq-eqb _ _ e), (ne_eqb n 0 (omega arith), (lt-leb (size s) n ok.inside, (ok.unworn, tt)))))

  second_passes : (chg : Bool) (p q : List ℕ) (m : ℕ) → (chg ≡ true → length q ≡ length p) → second_fits (label_for M N chg p q m).next p (cond chg q []) ≡ true
  second_passes true p q m e = eq-eqb _ _ (e refl)
  second_passes false p q m e = refl

  second-checked : (chg : Bool) (p q : List ℕ) (m : ℕ) → second_checks M (label_for M N chg p q m).next (cond chg q []) ≡ true
  second-checked true p q m = same_bytes_refl (check_of (keys_of M q))
  second-checked false p q m = refl

  told-label : (chg : Bool) (p q : List ℕ) (m : ℕ)
      → ((label_for M N chg p q m).cipher ≡ M.name) × ((label_for M N chg p q m).frames ≡ N) × ((label_for M N chg p q m).keybits ≡ 4 * length p) × ((label_for M N chg p q m).check ≡ check_of (keys_of M p))
  told-label true p q m = (refl, refl, refl, refl)
  told-label false p q m = (refl, refl, refl, refl)

  mount_passes : (chg : Bool) (p q : List ℕ) (m : ℕ) (con : ℕ → List ℕ) (s : Store) (bits : ℕ) → Holds M N chg p q m con s → refusal M 0 bits s (mount p (cond chg q [])) ≡ None
  mount_passes chg p q m con s bits i =
      let y = cond chg q [] in
      let l : Fields = label_for M N chg p q m in
      let f = told-label chg p q m in
      let el : label_in s ≡ l = ap held i.label in
      let two = i.two in
      let long = i.long in
      let g = and_parts _ _ i.good_old in
      all_pass (checks M 0 bits s (mount p y)) (
        refl,
        (
          le-ltb (size s) 2 (omega arith),
          (
            i.fresh,
            (
              ap (λ o. not (is_some o)) i.label,
              (
                ap (λ (z : Fields). not (bytes_eq z.cipher M.name && eqb z.frames (size s))) el
                    ∙ not_from_true _ (and_from _ _ (ap (λ z. bytes_eq z M.name) f.0 ∙ same_bytes_refl M.name) (eq-eqb _ _ (f.1 ∙ sym long))),
                (
                  ap (λ (z : Fields). not (paired (length p) && eqb z.keybits (4 * length p) && second_fits z.next p y)) el
                      ∙ not_from_true _ (and_from _ _ (and_from _ _ g.0 (eq-eqb _ _ f.2)) (second_passes chg p q m i.even)),
                  (
                    not_from_true _ g.1,
                    (
                      ap (λ (z : Fields). not (bytes_eq (check_of (keys_of M p)) z.check && second_checks M z.next y)) el
                          ∙ not_from_true _ (and_from _ _ (ap (bytes_eq (check_of (keys_of M p))) f.3 ∙ same_bytes_refl (check_of (keys_of M p))) (second-checked chg p q m)),
                      tt,
                    ),
                  ),
                ),
              ),
            ),
          ),
        ),
      )

  read-answers : (chg : Bool) (p q : List ℕ) (m : ℕ) (con : ℕ → List ℕ) (s : Store) (n : ℕ) (b : List ℕ) → Holds M N chg p q m con s
      → Sound s n → length b ≡ 128 → (act M (standing M N chg p q m) s (read n b)).answer ≡ got (con n)
  read-answers chg p q m con s n b i ok e =
      let k = standing M N chg p q m in
      let pos = ok.data_frame in
      let ins = ok.inside in
      let long = i.long in
      let pass = read_passes chg p q m s n (held k.label).keybits b ok e in
      ap (λ r. (decide r k s (perform M k s (read n b))).answer) pass
      ∙ ap got
      (ap (λ (x : Keys). unseal x n (get_or s.frames n [])) (under-is M N chg p q m n) ∙ opens_at chg p q m con s n i ok)

  step_ends : (p q : List ℕ) (m : ℕ) (con : ℕ → List ℕ) (s : Store) → Holds M N true p q m con s → suc m ≡ N - 1
      → (n : ℕ) → 0 < n → n < N → s.worn n ≡ false → get_or (act M (standing M N true p q m) s step).store.frames n [] ≡ seal (keys_of M q) n (con n)
  step_ends p q m con s i e n pos lt u =
      (over M L N small p q m con s i (eqb (suc m) (N - 1)) refl).0.sealed n pos lt u
      ∙ ap (λ b. seal (keys_of M (under (cond b false true) (cond b q p) q (suc m) n)) n (con n)) (eq-eqb (suc m) (N - 1) e)

  -- the answers, at the card that the history tells
  gives_at : (c : Call) (h : History) (chg : Bool) (s : Store) → Holds M N chg (pair N h) (new_pair h) (steps h) (λ n. content n h) s
      → Gives h s c (act M (standing M N chg (pair N h) (new_pair h) (steps h)) s c).answer
  gives_at (make x) h chg s i = tt
  gives_at (mount x y) h chg s i = tt
  gives_at eject h chg s i = tt
  gives_at (read n b) h chg s i = read-answers chg (pair N h) (new_pair h) (steps h) (λ k. content k h) s n b i
  gives_at (write n b) h chg s i = tt
  gives_at (start x) h chg s i = tt
  gives_at step h chg s i = tt
  gives_at status h chg s i = tt

  counts_at : (c : Call) (h : History) (chg : Bool) (s : Store) → in_change N h ≡ chg
      → Holds M N chg (pair N h) (new_pair h) (steps h) (λ n. content n h) s
      → Counted M N h s (event_of c (act M (standing M N chg (pair N h) (new_pair h) (steps h)) s c)) c
  counts_at (make x) h chg s f i = tt
  counts_at (mount x y) h chg s f i = tt
  counts_at eject h chg s f i = tt
  counts_at (read n b) h chg s f i = tt
  counts_at (write n b) h chg s f i = tt
  counts_at (start x) h chg s f i = tt
  counts_at step h true s f i = λ _.
      let m = steps h in
      record {
        answer = refl;
        over = λ e. (
          cond-true (eqb (suc m) (N - 1)) 1 (state h) (eq-eqb _ _ e),
          λ n ok.
              let ins = ok.inside in
              let same = size-perform M (standing M N true (pair N h) (new_pair h) m) s step in
              let long = i.long in
              step_ends (pair N h) (new_pair h) m (λ k. content k h) s i e n ok.data_frame (omega arith) ok.unworn,
        );
      }
  counts_at step h false s f i = λ t. absurd (false≢true (sym f ∙ t))
  counts_at status h true s f i = ap (λ z. told 2 z (steps h)) i.long ∙ sym (cond-true (in_change N h) (told 2 N (steps h)) (told 1 N 0) f)
  counts_at status h false s f i = ap (λ z. told 1 z 0) i.long ∙ sym (cond-false (in_change N h) (told 2 N (steps h)) (told 1 N 0) f)

  labelled_of : (o : Option Fields) (s : Store) (st : ℕ) → CarriedBy M N o s → state_by o ≡ st → (st ≡ 0 → ⊥) → Labelled M N st s
  labelled_of None s st t e h = absurd (h (sym e))
  labelled_of (Some l) s st t e h =
      let el : label_in s ≡ l = ap held t.read in
      record {
        reads = t.read ∙ ap Some (sym el);
        named = ap (λ (z : Fields). z.cipher) el ∙ t.named;
        counted = ap (λ (z : Fields). z.frames) el ∙ t.frames;
        state = sym e ∙ ap (λ (z : Fields). labelled z.next) (sym el);
      }

  state_of_lem : (on chg : Bool) (p q : List ℕ) (m : ℕ) → state_of (card_of M N on chg p q m) ≡ cond on (cond chg 2 1) 0
  state_of_lem true true p q m = refl
  state_of_lem true false p q m = refl
  state_of_lem false chg p q m = refl

  -- the card of a claimed history, while mounted
  stands_at : (m : Moment) → Sits M N m → Claimed N m.history → is_on m.history ≡ true
      → m.card ≡ standing M N (in_change N m.history) (pair N m.history) (new_pair m.history) (steps m.history)
  stands_at m i cl on =
      let h = m.history in
      (i.claim cl).1 ∙ ap (λ b. card_of M N b (in_change N h) (pair N h) (new_pair h) (steps h)) on

  reads_back_at : (m : Moment) (c : Call) → Given c → Sits M N m → ReadsBack M N m.history m.store (event_of c (act M m.card m.store c))
  reads_back_at m c gv i =
      let j = sits_after m c gv i in
      let m' = after M m c in
      let h = m'.history in
      record {
        gives = λ cl on.
            subst⁻¹ (λ k. Gives m.history m.store c (act M k m.store c).answer) (stands_at m i cl on)
            (gives_at c m.history (in_change N m.history) m.store (i.claim cl).0);
        readable = λ cl on n ok b e. record {
          accepts = ap (λ z. refusal M z (label_in m'.store).keybits m'.store (read n b)) (sym j.told ∙ ap state_of (stands_at m' j cl on))
              ∙ read_passes (in_change N h) (pair N h) (new_pair h) (steps h) m'.store n (label_in m'.store).keybits b ok e;
          gives = opens_at (in_change N h) (pair N h) (new_pair h) (steps h) (λ k. content k h) m'.store n (j.claim cl).0 ok;
        };
        stands = λ cl n ok. (j.claim cl).0.sealed n ok.data_frame (let x = ok.inside in let y = j.long in omega arith) ok.unworn;
        labels = λ cl. (j.claim cl).0.label;
        mountable = λ cl on.
            let at : state_of m'.card ≡ 0 = ap state_of ((j.claim cl).1 ∙ ap (λ b. card_of M N b (in_change N h) (pair N h) (new_pair h) (steps h)) on) in
            ap (λ z. refusal M z (label_in m'.store).keybits m'.store (mount (pair N h) (second N h))) (sym j.told ∙ at)
            ∙ mount_passes (in_change N h) (pair N h) (new_pair h) (steps h) (λ k. content k h) m'.store (label_in m'.store).keybits (j.claim cl).0;
      }

  pub fair : (m : Moment) (c : Call) → Given c → Sits M N m → Fair M N m.history m.store (event_of c (act M m.card m.store c))
  fair m c gv i =
      let r = refusal M (state_of m.card) (held m.card.label).keybits m.store c in
      let j = sits_after m c gv i in
      record {
        refused_exactly = record {
          refuses = refused-next r m.card m.store c ∙ bits-agree M L N small m.card m.store c i.carried
              ∙ ap (λ z. refusal M z (label_in m.store).keybits m.store c) i.told;
          unchanged = unchanged-next r m.card m.store c;
          left = refl;
          count = size-next r m.card m.store c;
          worn = worn-next r m.card m.store c;
          spared = λ n. spare_next M N r m.card m.store c n i.carried;
        };
        label_tells = record {
          labelled = labelled_of (after M m c).card.label (after M m c).store (state (after M m c).history) j.carried j.told;
          moved = moved-next r m.card m.store c refl j.carried;
          answers = λ e. subst (λ z. Told z m.store c (decide r m.card m.store (perform M m.card m.store c)).answer) i.told
              (told-next r m.card m.store c i.long refl i.carried e);
        };
        reads_back = reads_back_at m c gv i;
        change_counted = record {
          state = λ cl. sym i.told ∙ ap state_of (i.claim cl).1 ∙ state_of_lem (is_on m.history) (in_change N m.history) _ _ _;
          counted = λ cl on.
              subst⁻¹ (λ k. Counted M N m.history m.store (event_of c (act M k m.store c)) c) (stands_at m i cl on)
              (counts_at c m.history (in_change N m.history) m.store refl (i.claim cl).0);
        };
      }

  pub course : (m : Moment) (cs : List Call) → AllGiven cs → Sits M N m → Each (Fair M N) m.history m.store (events M m.card m.store cs)
  course m [] gv i = tt
  course m (c ∷ cs) gv i = (fair m c gv.0 i, course (after M m c) cs gv.1 (sits_after m c gv.0 i))

abbrev pub begun : Kind → Store → Moment
begun M s = record { history = []; card = off M; store = s }

pub begins : (M : Kind) (s : Store) → Sits M (size s) (begun M s)
begins M s = record { long = refl; told = refl; carried = tt; idles = refl; claim = λ f. absurd f }
