-- What stands at the places of a text's values is what the text says.
use Rattle.std.proofs.Common.{◌≡◌, ℕ, ◌/◌, ◌<◌, false, eqb, List, [], ◌∷◌, length, get_or, Some, None, Option, sym, refl, ap, ◌∙◌, subst, arith}
use Rattle.std.specs.Str.Parse.{digits_value}
use Rattle.std.proofs.ByRecursion.{All-from_get_or}
use Rattle.std.proofs.lemmas.Bool.{cond-false, ne_eqb}
use Rattle.text_lines.specs.Line.{assigned}
use Rattle.text_lines.specs.Hex.{digit, hex, unhex}
use Rattle.text_lines.proofs.OneDecimal.{length-numeral, value-numeral}
use Rattle.text_lines.proofs.OneHex.{digit-is, length-hex, unhex-hex}
use Rattle.label_lines.specs.Lines.{Values, Sized, laid}
use Rattle.label_lines.proofs.Front.{spelled}
use Rattle.label.specs.Text.{Fields, next_value, values, text, Four}
use Rattle.label.specs.Read.{part, next_in, candidate}

-- the places of the values
pub record Placed (v : Values) (f : List ℕ) : Type 0 where
  pub long : length f ≡ 128
  pub cipher : part 7 8 f ≡ v.cipher
  pub keybits : part 24 3 f ≡ v.keybits
  pub frames : part 35 4 f ≡ v.frames
  pub check : part 46 8 f ≡ v.check
  pub next : part 60 8 f ≡ v.next
  pub moved : part 75 4 f ≡ v.moved

-- values that are written out stand at their places by computing
pub placed : (v : Values) → Sized v → Placed v (laid v)
unfolding laid assigned
placed v z =
    subst (λ (w : Values). Placed w (laid w))
    (λ i.
    record {
      cipher = sym (spelled 8 v.cipher z.cipher) i;
      keybits = sym (spelled 3 v.keybits z.keybits) i;
      frames = sym (spelled 4 v.frames z.frames) i;
      check = sym (spelled 8 v.check z.check) i;
      next = sym (spelled 8 v.next z.next) i;
      moved = sym (spelled 4 v.moved z.moved) i;
    })
    (record { long = refl; cipher = refl; keybits = refl; frames = refl; check = refl; next = refl; moved = refl })

-- so lines are lines in one way
pub same-values : (v w : Values) → Sized v → Sized w → laid v ≡ laid w → v ≡ w
same-values v w y z e =
    let a = placed v y in
    let b = placed w z in
    λ i.
    record {
      cipher = (sym a.cipher ∙ ap (part 7 8) e ∙ b.cipher) i;
      keybits = (sym a.keybits ∙ ap (part 24 3) e ∙ b.keybits) i;
      frames = (sym a.frames ∙ ap (part 35 4) e ∙ b.frames) i;
      check = (sym a.check ∙ ap (part 46 8) e ∙ b.check) i;
      next = (sym a.next ∙ ap (part 60 8) e ∙ b.next) i;
      moved = (sym a.moved ∙ ap (part 75 4) e ∙ b.moved) i;
    }

-- fields that fit the widths of their values
pub record Fitting (l : Fields) : Type 0 where
  pub cipher : length l.cipher ≡ 8
  pub keybits : l.keybits < 1000
  pub frames : l.frames < 10000
  pub check : Four l.check
  pub next : (b : List ℕ) → l.next ≡ Some b → Four b
  pub moved : l.moved < 10000

length-next : (next : Option (List ℕ)) → ((b : List ℕ) → next ≡ Some b → Four b) → length (next_value next) ≡ 8
length-next None h = refl
length-next (Some b) h = omega (arith, length-hex b, (h b refl).0)

pub sized-values : (l : Fields) → Fitting l → Sized (values l)
sized-values l z =
    record {
      cipher = z.cipher;
      keybits = length-numeral 3 l.keybits;
      frames = length-numeral 4 l.frames;
      check = omega (arith, length-hex l.check, z.check.0);
      next = length-next l.next z.next;
      moved = length-numeral 4 l.moved;
    }

four-back : (b : List ℕ) → Four b → unhex (hex b) ≡ b
four-back b h = unhex-hex b (All-from_get_or (λ x. x < 256) b 0 (λ i l. h.1 i))

no_dash : (b : List ℕ) → Four b → eqb (get_or (hex b) 0 0) 45 ≡ false
no_dash [] h = absurd (omega (arith, h.0))
no_dash (x ∷ b) h =
    let small = h.1 0 in
    let first = digit-is (x / 16) (omega arith) in
    ne_eqb (digit (x / 16)) 45 (λ e. grind arith)

next-back : (next : Option (List ℕ)) → ((b : List ℕ) → next ≡ Some b → Four b) → next_in (next_value next) ≡ next
next-back None h = refl
next-back (Some b) h =
    let four = h b refl in
    cond-false (eqb (get_or (hex b) 0 0) 45) None (Some (unhex (hex b))) (no_dash b four) ∙ ap Some (four-back b four)

pub candidate-text : (l : Fields) → Fitting l → candidate (text l) ≡ l
unfolding text candidate
candidate-text l z =
    let at = placed (values l) (sized-values l z) in
    let keybits = ap (digits_value 10) at.keybits ∙ value-numeral 3 l.keybits z.keybits in
    let frames = ap (digits_value 10) at.frames ∙ value-numeral 4 l.frames z.frames in
    let check = ap unhex at.check ∙ four-back l.check z.check in
    let next = ap next_in at.next ∙ next-back l.next z.next in
    let moved = ap (digits_value 10) at.moved ∙ value-numeral 4 l.moved z.moved in
    λ i. record { cipher = at.cipher i; keybits = keybits i; frames = frames i; check = check i; next = next i; moved = moved i }
