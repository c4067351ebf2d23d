-- The law whole: of the events of two lists on two cards that begin new.
use Rattle.std.proofs.Common.{◌≡◌, ℕ, ◌≤◌, List, [], ◌∷◌, ◌++◌, Some, None, Option, ◌∙◌, subst, arith}
use mathlib.Core.Path.{subst⁻¹}
use Rattle.label.specs.Text.{Fields}
use Rattle.law.specs.Kind.{Kind, Lawful, Shared}
use Rattle.law.specs.Store.{Store, size, Sized, Same}
use Rattle.law.specs.Labels.{labelled}
use Rattle.law.specs.Calls.{Call, Given}
use Rattle.law.specs.Model.{Card, off, state_by, events}
use Rattle.law.specs.History.{Event, state}
use Rattle.law.specs.Runs.{AllGiven, Every}
use Rattle.law.specs.Law.{Agree, onto, last_store}
use Rattle.law.proofs.Runs.{Moment, after, begun, begins, Sits, IdleBy, fair, sits_after, course}
use Rattle.law.proofs.Agree.{agrees, off_like, same_store}

head_tail : (e b : Event) (es bs : List Event) → e ∷ es ≡ b ∷ bs → (e ≡ b) × (es ≡ bs)
head_tail e b es bs p = (cc, cc)

nil≢cons : (e : Event) (es : List Event) → [] ≡ e ∷ es → ⊥
nil≢cons e es p = let z : ◌≡◌ {A = ℕ} 0 1 = cc in omega arith

unmounted : (M : Kind) (o : Option Fields) (k : Card) → IdleBy M o k → state_by o ≡ 0 → k ≡ off M
unmounted M None k i e = i
unmounted M (Some l) k i e = absurd (on l.next e)
  where
    on : (o : Option (List ℕ)) → labelled o ≡ 0 → ⊥
    on None e = let z : ◌≡◌ {A = ℕ} 1 0 = e in omega arith
    on (Some c) e = let z : ◌≡◌ {A = ℕ} 2 0 = e in omega arith

module _ (M M' : Kind) (L : Lawful M) (S : Shared M M') (s' : Store) (sized' : Sized s') (ds : List Call) where
  sized-after : (N : ℕ) (small : N ≤ 1024) (m : Moment) (c : Call) → Given c → Sits M N m → Sized m.store → Sized (after M m c).store
  sized-after N small m c gv i z =
      let f = (fair M L N small m c gv i).refused_exactly in
      record {
        few = subst⁻¹ (λ n. n ≤ 1024) f.count z.few;
        present = λ n h. f.worn n ∙ z.present n (subst (λ k. k ≤ n) f.count h);
      }

  handed : (N : ℕ) (small : N ≤ 1024) (m : Moment) (cs : List Call) → AllGiven cs → Sits M N m → Sized m.store → (before rest : List Event)
      → events M m.card m.store cs ≡ before ++ rest → state (onto m.history before) ≡ 0 → Same (last_store m.store before) s'
      → Agree rest (events M' (off M') s' ds)
  handed N small m cs gv i z [] rest e st sm =
      let at : m.card ≡ off M = unmounted M m.card.label m.card i.idles (i.told ∙ st) in
      subst (λ es. Agree es (events M' (off M') s' ds)) e
      (subst⁻¹ (λ k. Agree (events M k m.store cs) (events M' (off M') s' ds)) at
      (agrees M M' L S (off M) (off M') m.store s' (off_like M M' L S) (same_store m.store s' z sized' sm) cs ds gv))
  handed N small m [] gv i z (b ∷ before) rest e st sm = absurd (nil≢cons b (before ++ rest) e)
  handed N small m (c ∷ cs) gv i z (b ∷ before) rest e st sm =
      let p = head_tail _ b _ (before ++ rest) e in
      handed N small (after M m c) cs gv.1 (sits_after M L N small m c gv.0 i) (sized-after N small m c gv.0 i z) before rest p.1
      (subst⁻¹ (λ x. state (onto (x ∷ m.history) before) ≡ 0) p.0 st)
      (subst⁻¹ (λ (x : Event). Same (last_store x.store before) s') p.0 sm)

pub every : Every
every M M' L L' s s' z z' cs ds gv gv' =
    record {
      first = course M L (size s) z.few (begun M s) cs gv (begins M s);
      second = course M' L' (size s') z'.few (begun M' s') ds gv' (begins M' s');
      hosts_agree = λ S sm. agrees M M' L S (off M) (off M') s s' (off_like M M' L S) (same_store s s' z z' sm) cs ds gv;
      handed_over = λ S before rest e st sm. handed M M' L S s' z' ds (size s) z.few (begun M s) cs gv (begins M s) z before rest e st sm;
    }
