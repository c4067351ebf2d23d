-- What an accepted call does: its answer accepts, N and the worn frames stay, the answers tell the state, and frames are spared.
use Rattle.std.proofs.Common.{◌≡◌, ℕ, zero, suc, ◌-◌, Bool, true, false, cond, ◌≢◌, ◌⊎◌, List, [], get_or, is_some, Some, None, Option, sym, refl, ap, ◌∙◌, inl, inr}
use mathlib.Core.Bool.{false≢true}
use Rattle.std.proofs.lemmas.Bool.{eqb-false, cases_eq}
use Rattle.refusal.specs.declared.Refusal.{Refusal}
use Rattle.label.specs.Text.{Fields}
use Rattle.label.specs.Read.{reads}
use Rattle.law.specs.Kind.{Kind, Keys, keys_of, seal}
use Rattle.law.specs.Store.{Store, size}
use Rattle.law.specs.Labels.{label_in, labelled}
use Rattle.law.specs.Calls.{Call, make, mount, eject, read, write, start, step, status, Answer, refused, got, stepped, told, accepted, refused_by}
use Rattle.law.specs.Checks.{checks, refusal}
use Rattle.law.specs.Model.{Card, state_of, state_by, held, ended_label, moved_label, is_over, after_step, cleared_to, kept_if, zeros, perform, decide, start_on, step_on, status_of}
use Rattle.law.specs.History.{state_after, moved_after}
use Rattle.law.specs.Law.{Spared}
use Rattle.law.proofs.Checks.{passed}
use Rattle.law.proofs.Holds.{length-put, length_cleared, put_other}
use Rattle.law.proofs.Carried.{Carries, Carried, CarriedBy}

accepted-start : (M : Kind) (o : Option Fields) (k : Card) (s : Store) (p : List ℕ) → accepted (start_on M o k s p).answer ≡ true
accepted-start M None k s p = refl
accepted-start M (Some l) k s p = refl

accepted-step : (M : Kind) (o : Option Fields) (k : Card) (s : Store) → accepted (step_on M o k s).answer ≡ true
accepted-step M None k s = refl
accepted-step M (Some l) k s = refl

accepted-status : (o : Option Fields) (n : ℕ) → accepted (status_of o n) ≡ true
accepted-status None n = refl
accepted-status (Some l) n = refl

pub accepted-perform : (M : Kind) (k : Card) (s : Store) (c : Call) → accepted (perform M k s c).answer ≡ true
accepted-perform M k s (make p) = refl
accepted-perform M k s (mount p q) = refl
accepted-perform M k s eject = refl
accepted-perform M k s (read n b) = refl
accepted-perform M k s (write n b) = refl
accepted-perform M k s (start p) = accepted-start M k.label k s p
accepted-perform M k s step = accepted-step M k.label k s
accepted-perform M k s status = accepted-status k.label (size s)

pub refused_by_none : (a : Answer) → accepted a ≡ true → refused_by a ≡ None
refused_by_none (refused r) e = absurd (false≢true e)
refused_by_none (Answer.made n) e = refl
refused_by_none (Answer.mounted n) e = refl
refused_by_none Answer.ejected e = refl
refused_by_none (got b) e = refl
refused_by_none Answer.kept e = refl
refused_by_none (Answer.started n) e = refl
refused_by_none (stepped n p o) e = refl
refused_by_none (told x n m) e = refl

size-start : (M : Kind) (o : Option Fields) (k : Card) (s : Store) (p : List ℕ) → size (start_on M o k s p).store ≡ size s
size-start M None k s p = refl
size-start M (Some l) k s p = length-put (s.worn 0) s.frames 0 _

size_step : (M : Kind) (o : Option Fields) (k : Card) (s : Store) → size (step_on M o k s).store ≡ size s
size_step M None k s = refl
size_step M (Some l) k s = length-put (s.worn 0) _ 0 _ ∙ length-put (s.worn (suc l.moved)) s.frames (suc l.moved) _

pub size-perform : (M : Kind) (k : Card) (s : Store) (c : Call) → size (perform M k s c).store ≡ size s
size-perform M k s (make p) = length-put (s.worn 0) _ 0 _ ∙ length_cleared s.worn (keys_of M p) (size s - 1) s.frames
size-perform M k s (mount p q) = refl
size-perform M k s eject = refl
size-perform M k s (read n b) = refl
size-perform M k s (write n b) = length-put (s.worn n) s.frames n _
size-perform M k s (start p) = size-start M k.label k s p
size-perform M k s step = size_step M k.label k s
size-perform M k s status = refl

worn-start : (M : Kind) (o : Option Fields) (k : Card) (s : Store) (p : List ℕ) → (start_on M o k s p).store.worn ≡ s.worn
worn-start M None k s p = refl
worn-start M (Some l) k s p = refl

worn-step : (M : Kind) (o : Option Fields) (k : Card) (s : Store) → (step_on M o k s).store.worn ≡ s.worn
worn-step M None k s = refl
worn-step M (Some l) k s = refl

pub worn-perform : (M : Kind) (k : Card) (s : Store) (c : Call) (n : ℕ) → (perform M k s c).store.worn n ≡ s.worn n
worn-perform M k s (make p) i = refl
worn-perform M k s (mount p q) i = refl
worn-perform M k s eject i = refl
worn-perform M k s (read n b) i = refl
worn-perform M k s (write n b) i = refl
worn-perform M k s (start p) i = ap (λ (f : ℕ → Bool). f i) (worn-start M k.label k s p)
worn-perform M k s step i = ap (λ (f : ℕ → Bool). f i) (worn-step M k.label k s)
worn-perform M k s status i = refl

state_advanced : (b : Bool) (M : Kind) (l : Fields) (k : Card) (z : ℕ) → labelled l.next ≡ z → state_of (after_step b M l k) ≡ cond b 1 z
state_advanced true M l k z e = refl
state_advanced false M l k z e = e

state-start : (M : Kind) (o : Option Fields) (k : Card) (s : Store) (p : List ℕ) (z : ℕ) → state_of k ≡ z → state_of (start_on M o k s p).card ≡ state_after (start_on M o k s p).answer z
state-start M None k s p z e = e
state-start M (Some l) k s p z e = refl

state-step : (M : Kind) (o : Option Fields) (k : Card) (s : Store) (z : ℕ) → state_by o ≡ z → state_of k ≡ z → state_of (step_on M o k s).card ≡ state_after (step_on M o k s).answer z
state-step M None k s z f e = e
state-step M (Some l) k s z f e = state_advanced (is_over l) M l k z f

state-status : (o : Option Fields) (n z : ℕ) → state_by o ≡ z → state_by o ≡ state_after (status_of o n) z
state-status None n z e = e
state-status (Some l) n z e = e

pub state-perform : (M : Kind) (k : Card) (s : Store) (c : Call) (z : ℕ) → state_of k ≡ z → state_of (perform M k s c).card ≡ state_after (perform M k s c).answer z
state-perform M k s (make p) z e = refl
state-perform M k s (mount p q) z e = refl
state-perform M k s eject z e = refl
state-perform M k s (read n b) z e = e
state-perform M k s (write n b) z e = e
state-perform M k s (start p) z e = state-start M k.label k s p z e
state-perform M k s step z e = state-step M k.label k s z e e
state-perform M k s status z e = state-status k.label (size s) z e

-- the label after a call says as many frames moved as the answers tell
told_moved : (M : Kind) (N : ℕ) (l : Fields) (s : Store) → Carries M N l s → (label_in s).moved ≡ l.moved
told_moved M N l s t = ap (λ o. (held o).moved) t.read

moved-over : (M : Kind) (N : ℕ) (b : Bool) (l : Fields) (k : Card) (s : Store) → Carried M N (after_step b M l k) s → (label_in s).moved ≡ cond b 0 (suc l.moved)
moved-over M N true l k s t = told_moved M N (ended_label l) s t
moved-over M N false l k s t = told_moved M N (moved_label l) s t

moved-start : (M : Kind) (N : ℕ) (o : Option Fields) (k : Card) (s : Store) (p : List ℕ) → Carried M N (start_on M o k s p).card (start_on M o k s p).store
    → (label_in (start_on M o k s p).store).moved ≡ moved_after (start_on M o k s p).answer (label_in s).moved
moved-start M N None k s p t = refl
moved-start M N (Some l) k s p t = told_moved M N _ _ t

moved-step : (M : Kind) (N : ℕ) (o : Option Fields) (k : Card) (s : Store) → Carried M N (step_on M o k s).card (step_on M o k s).store
    → (label_in (step_on M o k s).store).moved ≡ moved_after (step_on M o k s).answer (label_in s).moved
moved-step M N None k s t = refl
moved-step M N (Some l) k s t = moved-over M N (is_over l) l k _ t

moved-status : (o : Option Fields) (n m : ℕ) → m ≡ moved_after (status_of o n) m
moved-status None n m = refl
moved-status (Some l) n m = refl

pub moved-perform : (M : Kind) (N : ℕ) (k : Card) (s : Store) (c : Call) → refusal M (state_of k) (held k.label).keybits s c ≡ None → Carried M N (perform M k s c).card (perform M k s c).store
    → (label_in (perform M k s c).store).moved ≡ moved_after (perform M k s c).answer (label_in s).moved
moved-perform M N k s (make p) ok t = told_moved M N _ _ t
moved-perform M N k s (mount p q) ok t = refl
moved-perform M N k s eject ok t = refl
moved-perform M N k s (read n b) ok t = refl
moved-perform M N k s (write n b) ok t =
    let h = passed (checks M (state_of k) (held k.label).keybits s (write n b)) ok in
    ap (λ f. (held (reads f)).moved) (put_other (s.worn n) s.frames n 0 _ (λ e. eqb-false _ _ h.1.1.0 (sym e)))
moved-perform M N k s (start p) ok t = moved-start M N k.label k s p t
moved-perform M N k s step ok t = moved-step M N k.label k s t
moved-perform M N k s status ok t = moved-status k.label (size s) (label_in s).moved

-- frames that a call spares
kept-worn : (b : Bool) (fs : List (List ℕ)) (k : ℕ) (v : List ℕ) → b ≡ true → kept_if b fs k v ≡ fs
kept-worn true fs k v e = refl
kept-worn false fs k v e = absurd (false≢true e)

spare_put : (w : ℕ → Bool) (fs : List (List ℕ)) (k n : ℕ) (v : List ℕ) → (w n ≡ true) ⊎ (n ≢ k) → get_or (kept_if (w k) fs k v) n [] ≡ get_or fs n []
spare_put w fs k n v (inr h) = put_other (w k) fs k n v h
spare_put w fs k n v (inl h) = elim (cases_eq n k) [
  | inl y ↦ ap (λ (f : List (List ℕ)). get_or f n []) (kept-worn (w k) fs k v (ap w (sym y) ∙ h))
  | inr y ↦ put_other (w k) fs k n v y
]

spare_clear : (w : ℕ → Bool) (k : Keys) (j n : ℕ) (fs : List (List ℕ)) → w n ≡ true → get_or (cleared_to w k j fs) n [] ≡ get_or fs n []
spare_clear w k zero n fs h = refl
spare_clear w k (suc j) n fs h = spare_put w (cleared_to w k j fs) (suc j) n (seal k (suc j) zeros) (inl h) ∙ spare_clear w k j n fs h

spare_start : (M : Kind) (o : Option Fields) (k : Card) (s : Store) (p : List ℕ) (n : ℕ) → (s.worn n ≡ true) ⊎ (n ≢ 0) → get_or (start_on M o k s p).store.frames n [] ≡ get_or s.frames n []
spare_start M None k s p n h = refl
spare_start M (Some l) k s p n h = spare_put s.worn s.frames 0 n _ h

spare_step : (M : Kind) (o : Option Fields) (k : Card) (s : Store) (m n : ℕ) → ((l : Fields) → o ≡ Some l → l.moved ≡ m) → (s.worn n ≡ true) ⊎ ((n ≢ 0) × (n ≢ suc m))
    → get_or (step_on M o k s).store.frames n [] ≡ get_or s.frames n []
spare_step M None k s m n e h = refl
spare_step M (Some l) k s m n e (inl h) = spare_put s.worn _ 0 n _ (inl h) ∙ spare_put s.worn s.frames (suc l.moved) n _ (inl h)
spare_step M (Some l) k s m n e (inr h) =
    spare_put s.worn _ 0 n _ (inr h.0) ∙ spare_put s.worn s.frames (suc l.moved) n _ (inr (λ y. h.1 (y ∙ ap suc (e l refl))))

pub spare_perform : (M : Kind) (k : Card) (s : Store) (c : Call) (n : ℕ) → ((l : Fields) → k.label ≡ Some l → l.moved ≡ (label_in s).moved)
    → (s.worn n ≡ true) ⊎ Spared (label_in s).moved c n → get_or (perform M k s c).store.frames n [] ≡ get_or s.frames n []
spare_perform M k s (make p) n e (inl h) = spare_put s.worn _ 0 n _ (inl h) ∙ spare_clear s.worn (keys_of M p) (size s - 1) n s.frames h
spare_perform M k s (make p) n e (inr h) = absurd h
spare_perform M k s (mount p q) n e h = refl
spare_perform M k s eject n e h = refl
spare_perform M k s (read i b) n e h = refl
spare_perform M k s (write i b) n e h = spare_put s.worn s.frames i n _ h
spare_perform M k s (start p) n e h = spare_start M k.label k s p n h
spare_perform M k s step n e h = spare_step M k.label k s (label_in s).moved n e h
spare_perform M k s status n e h = refl

moved-agrees : (M : Kind) (N : ℕ) (o : Option Fields) (s : Store) → CarriedBy M N o s → (l : Fields) → o ≡ Some l → l.moved ≡ (label_in s).moved
moved-agrees M N None s t l e = absurd (false≢true (ap is_some e))
moved-agrees M N (Some x) s t l e = ap (λ o. (held o).moved) (sym e ∙ sym t.read)

pub spare_next : (M : Kind) (N : ℕ) (r : Option Refusal) (k : Card) (s : Store) (c : Call) (n : ℕ) → Carried M N k s
    → (s.worn n ≡ true) ⊎ Spared (label_in s).moved c n → get_or (decide r k s (perform M k s c)).store.frames n [] ≡ get_or s.frames n []
spare_next M N None k s c n t h = spare_perform M k s c n (moved-agrees M N k.label s t) h
spare_next M N (Some r) k s c n t h = refl
