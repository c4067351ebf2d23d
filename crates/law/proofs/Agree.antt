-- Two kinds of engine that share their cipher answer alike, on stores that tell the same frames.
use Rattle.std.proofs.Common.{◌≡◌, ℕ, zero, suc, ◌-◌, ◌*◌, ◌≤◌, Bool, true, false, cond, not, ◌&&◌, eqb, leb, List, [], ◌∷◌, length, get_or, replicate, Some, None, Option, sym, refl, ap, ◌∙◌, subst, ap₂, inl, inr, arith}
use Rattle.std.specs.Str.{bytes_eq}
use Rattle.std.proofs.lemmas.Bool.{eqb-true, not-false, and_parts, and_from, cases_lt}
use Rattle.octets.specs.Octets.{Bytes}
use Rattle.refusal.specs.declared.Refusal.{Refusal}
use Rattle.sealing.specs.Pair.{data_key, tweak_key}
use Rattle.label.specs.Text.{Fields}
use Rattle.law.specs.Kind.{Kind, Lawful, Shared, Keys, keys_of, idle, seal, unseal, check_of, half_taken, good}
use Rattle.law.specs.Store.{Store, size, frame_at, Sized, Same}
use Rattle.law.specs.Labels.{label_in, made_label}
use Rattle.law.specs.Calls.{Call, make, mount, eject, read, write, start, step, status, got, Given}
use Rattle.law.specs.Checks.{checks, refusal, second_fits, second_checks}
use Rattle.law.specs.Model.{Card, off, state_by, held, keys_by, started_label, is_over, after_step, step_label, second_keys, cleared_to, zeros, put, kept_if, relabelled, resealed, Outcome, perform, decide, act, start_on, step_on, events}
use Rattle.law.specs.Runs.{AllGiven}
use Rattle.law.specs.Law.{Agree}
use Rattle.law.proofs.Checks.{passed, alike_checks}
use Rattle.law.proofs.Sealing.{data_key_lem, tweak_key_lem, zero_block, Like, seal_like, unseal_like}
use Rattle.law.proofs.Carried.{good-long}

-- cards that answer alike
pub record LikeCards (k k' : Card) : Type 0 where
  pub label : k.label ≡ k'.label
  pub old : Like k.old k'.old
  pub new : Like k.new k'.new

pub record Twin (o o' : Outcome) : Type 0 where
  pub answer : o.answer ≡ o'.answer
  pub store : o.store ≡ o'.store
  pub card : LikeCards o.card o'.card

cond_like : (b : Bool) (k q k' q' : Keys) → Like k k' → Like q q' → Like (cond b q k) (cond b q' k')
cond_like true k q k' q' h g = g
cond_like false k q k' q' h g = h

keys_by_lem : (o : Option (List ℕ)) (m n : ℕ) (k q k' q' : Keys) → Like k k' → Like q q' → Like (keys_by o m k q n) (keys_by o m k' q' n)
keys_by_lem None m n k q k' q' h g = h
keys_by_lem (Some c) m n k q k' q' h g = cond_like (leb n m) k q k' q' h g

cleared_like : (w : ℕ → Bool) (k k' : Keys) → Like k k' → (n : ℕ) (fs : List (List ℕ)) → cleared_to w k n fs ≡ cleared_to w k' n fs
cleared_like w k k' h zero fs = refl
cleared_like w k k' h (suc n) fs =
    ap₂ (λ (gs : List (List ℕ)) (f : List ℕ). kept_if (w (suc n)) gs (suc n) f) (cleared_like w k k' h n fs) (seal_like k k' h (suc n) zeros)

resealed_like : (k q k' q' : Keys) → Like k k' → Like q q' → (n : ℕ) (s : Store) → resealed k q n s ≡ resealed k' q' n s
resealed_like k q k' q' h g n s =
    ap (put s n) (ap (seal q n) (unseal_like k k' h n (frame_at s n)) ∙ seal_like q q' g n (unseal k' n (frame_at s n)))

module _ (M M' : Kind) (L : Lawful M) (S : Shared M M') where
  keys_like : (p : List ℕ) → good M p ≡ true → Bytes p → Like (keys_of M p) (keys_of M' p)
  unfolding keys_of
  keys_like p g h = record {
    enciphers = λ b x. S.cipher (data_key p) b (data_key_lem M p g h) x;
    deciphers = λ b x. S.inverse (data_key p) b (data_key_lem M p g h) x;
    tweaks = λ b x. S.cipher (tweak_key p) b (tweak_key_lem M p g h) x;
  }

  zero_pair : (k : ℕ) → Bytes (replicate k 0)
  zero_pair zero i = omega arith
  zero_pair (suc k) zero = omega arith
  zero_pair (suc k) (suc i) = zero_pair k i

  idle_like : Like (idle M) (idle M')
  idle_like = keys_like (replicate 32 0) L.sixteen (zero_pair 32)

  check_like : (p : List ℕ) → good M p ≡ true → Bytes p → check_of (keys_of M p) ≡ check_of (keys_of M' p)
  unfolding keys_of check_of
  check_like p g h =
      let z : List ℕ = replicate 16 0 in
      let d = data_key_lem M p g h in
      let t = tweak_key_lem M p g h in
      ap (λ (b : List ℕ). get_or b 0 0 ∷ get_or b 1 0 ∷ get_or b 2 0 ∷ get_or b 3 0 ∷ [])
      (S.cipher (data_key p) (M.cipher (tweak_key p) z) d (L.blocks (tweak_key p) z t zero_block) ∙ ap (M'.cipher (data_key p)) (S.cipher (tweak_key p) z t zero_block))

  second_like : (o : Option (List ℕ)) (p q : List ℕ) → Bytes q → second_fits o p q ≡ true → good M p ≡ true → second_checks M o q ≡ second_checks M' o q
  second_like None p q b e g = refl
  second_like (Some c) p q b e g = ap (λ x. bytes_eq x c) (check_like q (good-long M p q (eqb-true _ _ e) g) b)

  taken : (p : List ℕ) → not (half_taken M p) ≡ not (half_taken M' p)
  taken p = ap not (S.takes _)

  refusal_like : (st bits : ℕ) (s : Store) (c : Call) → Given c → refusal M st bits s c ≡ refusal M' st bits s c
  refusal_like st bits s (make p) gv =
      alike_checks (checks M st bits s (make p)) (checks M' st bits s (make p))
      (refl, refl, λ _. (refl, refl, λ _. (taken p, refl, λ _. (refl, refl, λ _. (refl, refl, λ _. tt)))))
  refusal_like st bits s (mount p q) gv =
      alike_checks (checks M st bits s (mount p q)) (checks M' st bits s (mount p q)) (
        refl,
        refl,
        λ _. (
          refl,
          refl,
          λ _. (
            refl,
            refl,
            λ _. (
              refl,
              refl,
              λ _. (
                ap (λ n. not (bytes_eq (label_in s).cipher n && eqb (label_in s).frames (size s))) S.name,
                refl,
                λ _. (
                  refl,
                  refl,
                  λ e5. (
                    taken p,
                    refl,
                    λ e6.
                        let a = and_parts _ _ (not-false _ e5) in
                        let g : good M p ≡ true = and_from _ _ (and_parts _ _ a.0).0 (not-false _ e6) in
                        (ap₂ (λ x y. not (bytes_eq x (label_in s).check && y)) (check_like p g gv.0) (second_like (label_in s).next p q gv.1 a.1 g), refl, λ _. tt),
                  ),
                ),
              ),
            ),
          ),
        ),
      )
  refusal_like st bits s eject gv = refl
  refusal_like st bits s (read n b) gv = refl
  refusal_like st bits s (write n b) gv = refl
  refusal_like st bits s (start p) gv =
      alike_checks (checks M st bits s (start p)) (checks M' st bits s (start p)) (refl, refl, λ _. (refl, refl, λ _. (taken p, refl, λ _. tt)))
  refusal_like st bits s step gv = refl
  refusal_like st bits s status gv = refl

  made_like : (N : ℕ) (p : List ℕ) → good M p ≡ true → Bytes p → made_label M N p ≡ made_label M' N p
  made_like N p g b =
      ap₂ (λ (n c : List ℕ). record { cipher = n; keybits = 4 * length p; frames = N; check = c; next = None; moved = 0 }) S.name (check_like p g b)

  second_keys_lem : (o : Option (List ℕ)) (p q : List ℕ) → Bytes q → second_fits o p q ≡ true → good M p ≡ true → Like (second_keys M o q) (second_keys M' o q)
  second_keys_lem None p q b e g = idle_like
  second_keys_lem (Some c) p q b e g = keys_like q (good-long M p q (eqb-true _ _ e) g) b

  -- the same label, and keys that are alike
  abbrev mk : Option Fields → Keys → Keys → Card
  mk o a b = record { label = o; old = a; new = b }

  start_like : (o : Option Fields) (a b a' b' : Keys) (s : Store) (p : List ℕ) → Bytes p → Like a a' → Like b b' → good M p ≡ true
      → Twin (start_on M o (mk o a b) s p) (start_on M' o (mk o a' b') s p)
  start_like None a b a' b' s p bp h g ok = record { answer = refl; store = refl; card = record { label = refl; old = h; new = g } }
  start_like (Some l) a b a' b' s p bp h g ok =
      let e = check_like p ok bp in
      record {
        answer = refl;
        store = ap (λ c. relabelled (started_label l c) s) e;
        card = record { label = ap (λ c. Some (started_label l c)) e; old = h; new = keys_like p ok bp };
      }

  over_like : (v : Bool) (l : Fields) (a b a' b' : Keys) → Like a a' → Like b b' → LikeCards (after_step v M l (mk (Some l) a b)) (after_step v M' l (mk (Some l) a' b'))
  over_like true l a b a' b' h g = record { label = refl; old = g; new = idle_like }
  over_like false l a b a' b' h g = record { label = refl; old = h; new = g }

  step_like : (o : Option Fields) (a b a' b' : Keys) (s : Store) → Like a a' → Like b b' → Twin (step_on M o (mk o a b) s) (step_on M' o (mk o a' b') s)
  step_like None a b a' b' s h g = record { answer = refl; store = refl; card = record { label = refl; old = h; new = g } }
  step_like (Some l) a b a' b' s h g = record {
    answer = refl;
    store = ap (relabelled (step_label (is_over l) l)) (resealed_like a b a' b' h g (suc l.moved) s);
    card = over_like (is_over l) l a b a' b' h g;
  }

  perform_like : (o : Option Fields) (a b a' b' : Keys) (s : Store) (c : Call) → Given c → Like a a' → Like b b'
      → refusal M (state_by o) (held o).keybits s c ≡ None → Twin (perform M (mk o a b) s c) (perform M' (mk o a' b') s c)
  perform_like o a b a' b' s (make p) gv h g ok =
      let r = passed (checks M (state_by o) (held o).keybits s (make p)) ok in
      let t : good M p ≡ true = and_from _ _ (not-false _ r.1.0) (not-false _ r.1.1.0) in
      let e = made_like (size s) p t gv in
      let k = keys_like p t gv in
      record {
        answer = refl;
        store = ap₂ (λ (l : Fields) (fs : List (List ℕ)). relabelled l (record { frames = fs; worn = s.worn })) e
            (cleared_like s.worn (keys_of M p) (keys_of M' p) k (size s - 1) s.frames);
        card = record { label = ap Some e; old = k; new = idle_like };
      }
  perform_like o a b a' b' s (mount p q) gv h g ok =
      let r = passed (checks M (state_by o) (held o).keybits s (mount p q)) ok in
      let x = and_parts _ _ (not-false _ r.1.1.1.1.1.0) in
      let t : good M p ≡ true = and_from _ _ (and_parts _ _ x.0).0 (not-false _ r.1.1.1.1.1.1.0) in
      record {
        answer = refl;
        store = refl;
        card = record { label = refl; old = keys_like p t gv.0; new = second_keys_lem (label_in s).next p q gv.1 x.1 t };
      }
  perform_like o a b a' b' s eject gv h g ok = record { answer = refl; store = refl; card = record { label = refl; old = idle_like; new = idle_like } }
  perform_like o a b a' b' s (read n x) gv h g ok = record {
    answer = ap got (unseal_like _ _ (keys_by_lem (held o).next (held o).moved n a b a' b' h g) n (frame_at s n));
    store = refl;
    card = record { label = refl; old = h; new = g };
  }
  perform_like o a b a' b' s (write n x) gv h g ok = record {
    answer = refl;
    store = ap (put s n) (seal_like _ _ (keys_by_lem (held o).next (held o).moved n a b a' b' h g) n x);
    card = record { label = refl; old = h; new = g };
  }
  perform_like o a b a' b' s (start p) gv h g ok =
      let r = passed (checks M (state_by o) (held o).keybits s (start p)) ok in
      let t : good M p ≡ true = and_from _ _ (and_parts _ _ (not-false _ r.1.0)).0 (not-false _ r.1.1.0) in
      start_like o a b a' b' s p gv h g t
  perform_like o a b a' b' s step gv h g ok = step_like o a b a' b' s h g
  perform_like o a b a' b' s status gv h g ok = record { answer = refl; store = refl; card = record { label = refl; old = h; new = g } }

  decide_like : (o : Option Fields) (a b a' b' : Keys) (s : Store) (c : Call) → Given c → Like a a' → Like b b' → (r : Option Refusal)
      → refusal M (state_by o) (held o).keybits s c ≡ r → Twin (decide r (mk o a b) s (perform M (mk o a b) s c)) (decide r (mk o a' b') s (perform M' (mk o a' b') s c))
  decide_like o a b a' b' s c gv h g None e = perform_like o a b a' b' s c gv h g e
  decide_like o a b a' b' s c gv h g (Some r) e = record { answer = refl; store = refl; card = record { label = refl; old = h; new = g } }

  act_like : (k k' : Card) (s : Store) (c : Call) → Given c → LikeCards k k' → Twin (act M k s c) (act M' k' s c)
  act_like k k' s c gv h =
      let o = k.label in
      let here : Twin (act M k s c) (act M' (mk o k'.old k'.new) s c) =
      subst (λ r. Twin (act M k s c) (decide r (mk o k'.old k'.new) s (perform M' (mk o k'.old k'.new) s c)))
      (refusal_like (state_by o) (held o).keybits s c gv)
      (decide_like o k.old k.new k'.old k'.new s c gv h.old h.new (refusal M (state_by o) (held o).keybits s c) refl) in
      subst (λ x. Twin (act M k s c) (act M' (mk x k'.old k'.new) s c)) h.label here

  same_of : (s t : Store) → s ≡ t → Same s t
  same_of s t e = record { frames = ap (λ (x : Store). x.frames) e; worn = λ n _. ap (λ (x : Store). x.worn n) e }

  pub agrees : (k k' : Card) (s s' : Store) → LikeCards k k' → s ≡ s' → (cs ds : List Call) → AllGiven cs → Agree (events M k s cs) (events M' k' s' ds)
  agrees k k' s s' h e [] ds gv = tt
  agrees k k' s s' h e (c ∷ cs) [] gv = tt
  agrees k k' s s' h e (c ∷ cs) (d ∷ ds) gv = λ same.
      let t : Twin (act M k s c) (act M' k' s' d) =
      subst (λ x. Twin (act M k s c) (act M' k' s' x)) same (subst (λ x. Twin (act M k s c) (act M' k' x c)) e (act_like k k' s c gv.0 h)) in
      (t.answer, same_of _ _ t.store, agrees (act M k s c).card (act M' k' s' d).card _ _ t.card t.store cs ds gv.1)

  pub off_like : LikeCards (off M) (off M')
  off_like = record { label = refl; old = idle_like; new = idle_like }

-- stores that tell the same frames are one store
pub same_store : (s t : Store) → Sized s → Sized t → Same s t → s ≡ t
same_store s t h g e = λ i. record { frames = e.frames i; worn = λ n. worn-at n i }
  where
    worn-at : (n : ℕ) → s.worn n ≡ t.worn n
    worn-at n = elim (cases_lt n (size s)) [
      | inl x ↦ e.worn n x
      | inr x ↦ h.present n x ∙ sym (g.present n (subst (λ k. k ≤ n) (ap length e.frames) x))
    ]
