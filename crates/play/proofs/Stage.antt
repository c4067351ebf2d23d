-- How far a list of turns has come, and one turn more.
use Rattle.std.proofs.Common.{◌≡◌, ℕ, zero, suc, ◌+◌, ◌<◌, List, [], ◌∷◌, Some, length, take, get_or, refl, sym, ap, ap₂, subst, ◌∙◌, add-one, arith}
use Rattle.std.proofs.Math.ListN.{set}
use Rattle.law.specs.Kind.{Kind, Lawful}
use Rattle.law.specs.Store.{Store, Sized}
use Rattle.law.specs.Calls.{Answer, Given, left_by}
use Rattle.law.specs.Model.{Card, off, act, events, Outcome}
use Rattle.calls.specs.Outcomes.{ComesTo}
use Rattle.calls.specs.Turns.{call_in, answer_in, calls}
use Rattle.calls.specs.declared.Turn.{Turn}
use Rattle.law.proofs.Law.{every}
use Rattle.play.specs.Played.{Ran, BothPlayed}

-- the first i turns, from the card k and the store s to k' and s'
abbrev pub Stage : Kind → Card → Card → Store → Store → List Turn → List Turn → ℕ → Type 0
Stage M k k' s s' xs ys i = Ran M k k' s s' (take i xs) (take i ys)

-- a turn that was given as x and left as t, with the answer a
pub record Took (M : Kind) (k k' : Card) (s s' : Store) (x t : Turn) (a : Answer) : Type 0 where
  pub given : Given (call_in x)
  pub came : ComesTo (act M k s (call_in x)) a k' s'
  pub answer : answer_in t ≡ Some a
  pub left : call_in t ≡ left_by (call_in x) a

stage_suc : (M : Kind) (k k₁ k₂ : Card) (s s₁ s₂ : Store) (xs ys : List Turn) (i : ℕ) (d t : Turn) (a : Answer) → i < length xs → i < length ys
    → Stage M k k₁ s s₁ xs ys i → Took M k₁ k₂ s₁ s₂ (get_or xs i d) t a → Stage M k k₂ s s₂ xs (set ys i t) (suc i)
stage_suc M k k₁ k₂ s s₁ s₂ [] ys i d t a p q st h = absurd (omega arith)
stage_suc M k k₁ k₂ s s₁ s₂ (x ∷ xs) [] i d t a p q st h = absurd (omega arith)
stage_suc M k k₁ k₂ s s₁ s₂ (x ∷ xs) (y ∷ ys) zero d t a p q st h =
    let o : act M k s (call_in x) ≡ act M k₁ s₁ (call_in x) = ap₂ (λ a b. act M a b (call_in x)) st.card st.played.stored in
    let e : a ≡ (act M k s (call_in x)).answer = h.came.answer ∙ sym (ap (λ (z : Outcome). z.answer) o) in
    record {
      played = record {
        seen = (refl, h.answer ∙ ap Some e, sym (h.left ∙ ap (left_by (call_in x)) e), tt);
        stored = ap (λ (z : Outcome). z.store) o ∙ sym h.came.store;
      };
      card = ap (λ (z : Outcome). z.card) o ∙ sym h.came.card;
      bytes = (h.given, tt);
    }
stage_suc M k k₁ k₂ s s₁ s₂ (x ∷ xs) (y ∷ ys) (suc i) d t a p q st h =
    let o : Outcome = act M k s (call_in x) in
    let now : Stage M o.card k₁ o.store s₁ xs ys i =
    record { played = record { seen = st.played.seen.3; stored = st.played.stored }; card = st.card; bytes = st.bytes.1 } in
    let more = stage_suc M o.card k₁ k₂ o.store s₁ s₂ xs ys i d t a (omega arith) (omega arith) now h in
    let was = st.played.seen in
    record {
      played = record { seen = (was.0, was.1, was.2, more.played.seen); stored = more.played.stored };
      card = more.card;
      bytes = (st.bytes.0, more.bytes);
    }

pub stage_next : (M : Kind) (k k₁ k₂ : Card) (s s₁ s₂ : Store) (xs ys : List Turn) (i : ℕ) (d t : Turn) (a : Answer) → i < length xs → i < length ys
    → Stage M k k₁ s s₁ xs ys i → Took M k₁ k₂ s₁ s₂ (get_or xs i d) t a → Stage M k k₂ s s₂ xs (set ys i t) (i + 1)
stage_next M k k₁ k₂ s s₁ s₂ xs ys i d t a p q st h =
    subst (Stage M k k₂ s s₂ xs (set ys i t)) (sym (add-one i)) (stage_suc M k k₁ k₂ s s₁ s₂ xs ys i d t a p q st h)

-- a card that began new
pub begun-new : (M : Kind) (k k' : Card) (s t s' : Store) (xs ys : List Turn) → k ≡ off M → t ≡ s → Ran M k k' t s' xs ys → Ran M (off M) k' s s' xs ys
begun-new M k k' s t s' xs ys e f r = subst (λ a. Ran M a k' s s' xs ys) e (subst (λ b. Ran M k k' b s' xs ys) f r)

-- two of them
pub both-played : (M M' : Kind) → Lawful M → Lawful M' → (k k' : Card) (s s' end end' : Store) → Sized s → Sized s' → (xs ys xs' ys' : List Turn)
    → Ran M (off M) k s end xs ys → Ran M' (off M') k' s' end' xs' ys' → BothPlayed M M' s s' end end' xs ys xs' ys'
both-played M M' L L' k k' s s' end end' z z' xs ys xs' ys' r r' =
    record {
      events = events M (off M) s (calls xs);
      others = events M' (off M') s' (calls xs');
      first = r.played;
      second = r'.played;
      law = every M M' L L' s s' z z' (calls xs) (calls xs') r.bytes r'.bytes;
    }
