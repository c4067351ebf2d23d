-- What the keys of a pair of a lawful kind do: opening undoes sealing, and the check value is four bytes.
use Rattle.std.proofs.Common.{◌≡◌, ℕ, zero, suc, ◌-◌, ◌*◌, ◌/◌, true, ◌||◌, eqb, List, [], ◌∷◌, length, get_or, replicate, sym, refl, ap, ◌∙◌, subst, inl, inr, arith, length-drop, length-take}
use Rattle.std.proofs.lemmas.Bool.{eqb-true, and_parts, or_cases}
use Rattle.octets.specs.Octets.{Bytes, Block, Frame}
use Rattle.octets.proofs.Bytes.{take-bytes, drop-bytes}
use Rattle.engine.specs.Kind.{Key}
use Rattle.sealing.specs.Pair.{paired, data_key, tweak_key}
use Rattle.sealing.proofs.Undo.{xts-undone}
use Rattle.sealing.proofs.Same.{xts-same}
use Rattle.label.specs.Text.{Four, KeySize}
use Rattle.law.specs.Kind.{Kind, Lawful, Keys, keys_of, seal, unseal, check_of, good}

-- the sizes of a pair, one by one
pub paired_cases : (P : ℕ → Type 0) → P 32 → P 48 → P 64 → (n : ℕ) → paired n ≡ true → P n
paired_cases P a b c n h = elim (or_cases (eqb n 32) (eqb n 48 || eqb n 64) h) [
  | inl x ↦ subst P (sym (eqb-true n 32 x)) a
  | inr y ↦ elim (or_cases (eqb n 48) (eqb n 64) y) [
    | inl x ↦ subst P (sym (eqb-true n 48 x)) b
    | inr x ↦ subst P (sym (eqb-true n 64 x)) c
  ]
]

pub key-size : (n : ℕ) → paired n ≡ true → KeySize (4 * n)
key-size n h = paired_cases (λ k. KeySize (4 * k)) refl refl refl n h

-- both keys of a pair have half its length
half_data : (p : List ℕ) → length (data_key p) ≡ length p / 2
half_data p = length-take (length p / 2) p ∙ omega arith

half_tweak : (p : List ℕ) → paired (length p) ≡ true → length (tweak_key p) ≡ length p / 2
half_tweak p h =
    length-drop (length p / 2) p ∙ paired_cases (λ n. n - n / 2 ≡ n / 2) refl refl refl (length p) h

pub zero_block : Block (replicate 16 0)
zero_block = record { sixteen = refl; bytes = zeros 16 }
  where
    zeros : (k : ℕ) → Bytes (replicate k 0)
    zeros zero i = omega arith
    zeros (suc k) zero = omega arith
    zeros (suc k) (suc i) = zeros k i

module _ (M : Kind) (p : List ℕ) (g : good M p ≡ true) (b : Bytes p) where
  pub data_key_lem : Key M.takes (data_key p)
  data_key_lem = record { taken = ap M.takes (half_data p) ∙ (and_parts _ _ g).1; bytes = take-bytes (length p / 2) p b }

  pub tweak_key_lem : Key M.takes (tweak_key p)
  tweak_key_lem = record { taken = ap M.takes (half_tweak p (and_parts _ _ g).0) ∙ (and_parts _ _ g).1; bytes = drop-bytes (length p / 2) p b }

  pub opens : Lawful M → (n : ℕ) (f : List ℕ) → Frame f → unseal (keys_of M p) n (seal (keys_of M p) n f) ≡ f
  unfolding keys_of seal unseal
  opens L n f h =
      xts-undone (M.cipher (data_key p)) (M.inverse (data_key p)) (M.cipher (tweak_key p)) n
      (λ x y. L.undone (data_key p) x data_key_lem y) (λ x y. L.blocks (data_key p) x data_key_lem y) (λ x y. L.blocks (tweak_key p) x tweak_key_lem y) f h

  four_of : (x : List ℕ) → Bytes x → Four (get_or x 0 0 ∷ get_or x 1 0 ∷ get_or x 2 0 ∷ get_or x 3 0 ∷ [])
  four_of x h = (refl, at)
    where
      at : Bytes (get_or x 0 0 ∷ get_or x 1 0 ∷ get_or x 2 0 ∷ get_or x 3 0 ∷ [])
      at zero = h 0
      at (suc zero) = h 1
      at (suc (suc zero)) = h 2
      at (suc (suc (suc zero))) = h 3
      at (suc (suc (suc (suc i)))) = omega arith

  pub check-four : Lawful M → Four (check_of (keys_of M p))
  unfolding keys_of check_of
  check-four L =
      four_of (M.cipher (data_key p) (M.cipher (tweak_key p) (replicate 16 0)))
      (L.blocks (data_key p) _ data_key_lem (L.blocks (tweak_key p) _ tweak_key_lem zero_block)).bytes

-- keys that tell the same of blocks
pub record Like (k k' : Keys) : Type 0 where
  pub enciphers : (b : List ℕ) → Block b → k.enciphers b ≡ k'.enciphers b
  pub deciphers : (b : List ℕ) → Block b → k.deciphers b ≡ k'.deciphers b
  pub tweaks : (b : List ℕ) → Block b → k.tweaks b ≡ k'.tweaks b

pub seal_like : (k k' : Keys) → Like k k' → (n : ℕ) (f : List ℕ) → seal k n f ≡ seal k' n f
unfolding seal
seal_like k k' h n f = xts-same k.enciphers k'.enciphers k.tweaks k'.tweaks h.enciphers h.tweaks n f

pub unseal_like : (k k' : Keys) → Like k k' → (n : ℕ) (f : List ℕ) → unseal k n f ≡ unseal k' n f
unfolding unseal
unseal_like k k' h n f = xts-same k.deciphers k'.deciphers k.tweaks k'.tweaks h.deciphers h.tweaks n f
