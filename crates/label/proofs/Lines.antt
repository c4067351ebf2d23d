-- What a frame's lines say of the label that it is the text of.
use Rattle.std.proofs.Common.{◌≡◌, ℕ, ◌<◌, eqb, List, Some, None, codes, is_some, Option, sym, refl, ap, ◌∙◌, subst, ⊎_elim, arith}
use mathlib.Core.Bool.{false≢true}
use Rattle.std.proofs.ByRecursion.{All-from_get_or}
use Rattle.std.proofs.lemmas.Bool.{or_cases, eqb-true}
use Rattle.text_lines.specs.Decimal.{numeral, NumeralOf}
use Rattle.text_lines.specs.Hex.{Bytes, HexOf}
use Rattle.label_lines.specs.Lines.{Values, laid, LinesOf}
use Rattle.label.specs.Text.{Fields, next_value, values, text, KeySize, Four, Rules}
use Rattle.label.specs.Read.{allowed, reads}
use Rattle.label.specs.Told.{bits, fields}
use Rattle.label.specs.declared.label.KeyBits.{KeyBits}
use Rattle.label.specs.declared.label.KeyBits.TheVariants.{K128, K192, K256}
use Rattle.label.proofs.Kept.{small-get_or}
use Rattle.label.proofs.Candidate.{Fitting, sized-values, same-values}
use Rattle.label.proofs.Read.{fitting, reads-fitting, reads_none}

-- four bytes in the words of hexadecimal, and in ours
four_bytes_lem : (b : List ℕ) → Four b → Bytes 4 b
four_bytes_lem b h = record { counted = h.0; small = All-from_get_or (λ x. x < 256) b 0 (λ i l. h.1 i) }

bytes-four : (b : List ℕ) → Bytes 4 b → Four b
bytes-four b h = (h.counted, small-get_or b h.small)

-- what the line `next` says
pub record NextOf (digits : List ℕ) (next : Option (List ℕ)) : Type 0 where
  pub four : (b : List ℕ) → next ≡ Some b → Bytes 4 b
  pub reads : digits ≡ next_value next

pub at-rest : {digits : List ℕ} → digits ≡ codes "--------" → NextOf digits None
at-rest e = record { four = λ b s. absurd (false≢true (ap is_some s)); reads = e }

pub changing : {digits : List ℕ} {b : List ℕ} → HexOf digits 4 b → NextOf digits (Some b)
changing {b = b} h = record { four = λ c s. let same : b ≡ c = cc in subst (Bytes 4) same h.sized; reads = h.reads }

no_value : (digits : List ℕ) → (digits ≡ codes "--------" → ⊥) → ((b : List ℕ) → HexOf digits 4 b → ⊥)
    → (next : Option (List ℕ)) → ((b : List ℕ) → next ≡ Some b → Bytes 4 b) → digits ≡ next_value next → ⊥
no_value digits some none None four e = some e
no_value digits some none (Some b) four e = none b (record { sized = four b refl; reads = e })

size_of : (n : ℕ) → KeySize n → (k : KeyBits) × (bits k ≡ n)
size_of n h =
    ⊎_elim (λ e. (K128, sym (eqb-true n 128 e)))
    (λ e. ⊎_elim (λ f. (K192, sym (eqb-true n 192 f))) (λ f. (K256, sym (eqb-true n 256 f))) (or_cases (eqb n 192) (eqb n 256) e))
    (or_cases (eqb n 128) _ h)

small-bits : (k : KeyBits) → bits k < 1000
small-bits K128 = omega arith
small-bits K192 = omega arith
small-bits K256 = omega arith

pub no_lines : (f : List ℕ) → ((v : Values) → LinesOf f v → ⊥) → None ≡ reads f
unfolding text
no_lines f none = sym (reads_none f (λ l h e. none (values l) (record { sized = sized-values l (fitting l h); reads = sym e })))

module _ {f : List ℕ} {v : Values} (found : LinesOf f v) where
  its-values : (l : Fields) → Rules l → text l ≡ f → v ≡ values l
  unfolding text
  its-values l h e = same-values v (values l) found.sized (sized-values l (fitting l h)) (sym found.reads ∙ sym e)

  unread : ((l : Fields) → Rules l → v ≡ values l → ⊥) → None ≡ reads f
  unread none = sym (reads_none f (λ l h e. none l h (its-values l h e)))

  pub no_keybits : ((k : KeyBits) → v.keybits ≡ numeral 3 (bits k) → ⊥) → None ≡ reads f
  no_keybits none =
      unread (λ l h same.
      let k = size_of l.keybits h.sized in
      none k.0 (ap (λ (w : Values). w.keybits) same ∙ ap (numeral 3) (sym k.1)))

  pub no_frames : ((n : ℕ) → NumeralOf v.frames 4 n → ⊥) → None ≡ reads f
  no_frames none = unread (λ l h same. none l.frames (record { small = omega arith; reads = ap (λ (w : Values). w.frames) same }))

  pub no_moved : ((n : ℕ) → NumeralOf v.moved 4 n → ⊥) → None ≡ reads f
  no_moved none = unread (λ l h same. none l.moved (record { small = omega arith; reads = ap (λ (w : Values). w.moved) same }))

  pub no_check : ((b : List ℕ) → HexOf v.check 4 b → ⊥) → None ≡ reads f
  no_check none =
      unread (λ l h same. none l.check (record { sized = four_bytes_lem l.check h.checked; reads = ap (λ (w : Values). w.check) same }))

  pub no_next : (v.next ≡ codes "--------" → ⊥) → ((b : List ℕ) → HexOf v.next 4 b → ⊥) → None ≡ reads f
  no_next some none =
      unread (λ l h same. no_value v.next some none l.next (λ b s. four_bytes_lem b (h.nexted b s)) (ap (λ (w : Values). w.next) same))

  -- every value was read
  pub all_read : (k : KeyBits) (n m : ℕ) (b : List ℕ) (o : Option (List ℕ))
      → v.keybits ≡ numeral 3 (bits k) → NumeralOf v.frames 4 n → NumeralOf v.moved 4 m → HexOf v.check 4 b → NextOf v.next o
      → allowed (fields v.cipher k n b o m) ≡ reads f
  unfolding text
  all_read k n m b o keybits frames moved check next =
      let l = fields v.cipher k n b o m in
      let fits : Fitting l =
      record {
        cipher = found.sized.cipher;
        keybits = small-bits k;
        frames = omega (arith, frames.small);
        check = bytes-four b check.sized;
        next = λ c s. bytes-four c (next.four c s);
        moved = omega (arith, moved.small);
      } in
      let same : v ≡ values l =
      λ i.
      record {
        cipher = v.cipher;
        keybits = keybits i;
        frames = frames.reads i;
        check = check.reads i;
        next = next.reads i;
        moved = moved.reads i;
      } in
      sym (reads-fitting l fits) ∙ ap reads (sym (found.reads ∙ ap laid same))
