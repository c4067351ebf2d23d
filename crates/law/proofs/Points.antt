-- The points of the law, out of the whole.
use Rattle.std.proofs.Common.{ℕ, List, [], ◌∷◌}
use Rattle.law.specs.Kind.{Kind}
use Rattle.law.specs.Store.{Store, size}
use Rattle.law.specs.Model.{off, events}
use Rattle.law.specs.History.{Event, History}
use Rattle.law.specs.Law.{Each, Fair, HostsAgree, HandedOver}
use Rattle.law.specs.Runs.{Of, Between}
use Rattle.law.proofs.Law.{every}

each_map : (P Q : History → Store → Event → Type 0) → ((h : History) (s : Store) (e : Event) → P h s e → Q h s e)
    → (h : History) (s : Store) (es : List Event) → Each P h s es → Each Q h s es
each_map P Q f h s [] t = tt
each_map P Q f h s (e ∷ es) t = (f h s e t.0, each_map P Q f (e ∷ h) e.store es t.1)

pub point : (P : Kind → ℕ → History → Store → Event → Type 0)
    → ((M : Kind) (N : ℕ) (h : History) (s : Store) (e : Event) → Fair M N h s e → P M N h s e) → Of P
point P f M L s z cs gv =
    each_map (Fair M (size s)) (P M (size s)) (f M (size s)) [] s (events M (off M) s cs) (every M M L L s s z z cs cs gv gv).first

pub hosts_agree : Between HostsAgree
hosts_agree M M' L L' s s' z z' cs ds gv gv' = (every M M' L L' s s' z z' cs ds gv gv').hosts_agree

pub handed_over : Between HandedOver
handed_over M M' L L' s s' z z' cs ds gv gv' = (every M M' L L' s s' z z' cs ds gv gv').handed_over
