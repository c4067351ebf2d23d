-- A text is the text of one group, and of one rest.
use Rattle.std.proofs.Common.{◌≡◌, ℕ, cond, eqb, List, codes, sym, refl, ◌∙◌}
use Rattle.text_lines.specs.Line.{line}
use Rattle.text_lines.specs.Hex.{hex, HexLineOf}
use Rattle.text_lines.proofs.OneHex.{same-hex-line}
use Rattle.vector_groups.specs.Text.{key_bytes, key_length, key_line, text, ValidKey, Valid, KeyOf, GroupOf}
use Rattle.vector_groups.specs.declared.group.Key.{Key}
use Rattle.vector_groups.specs.declared.group.Key.TheVariants.{Bits128, Bits192, Bits256}
use Rattle.vector_groups.specs.declared.group.Group.{Group}

-- the key of a length
sized : ℕ → List ℕ → Key
sized n bytes = cond (eqb n 16) (Bits128 bytes) (cond (eqb n 24) (Bits192 bytes) (Bits256 bytes))

sized-is : (key : Key) → sized (key_length key) (key_bytes key) ≡ key
unfolding sized
sized-is (Bits128 bytes) = refl
sized-is (Bits192 bytes) = refl
sized-is (Bits256 bytes) = refl

same_key : (k l : Key) → ValidKey k → ValidKey l → key_bytes k ≡ key_bytes l → k ≡ l
same_key k l p q e =
    let a = sized-is k in
    let b = sized-is l in
    cc (p.counted, q.counted)

pub same-key-line : (k l : Key) (r s : List ℕ) → ValidKey k → ValidKey l → key_line k r ≡ key_line l s → (k ≡ l) × (r ≡ s)
same-key-line k l r s p q e =
    let same = same-hex-line (codes "key") (key_bytes k) (key_bytes l) r s p.small q.small e in
    (same_key k l p q same.0, same.1)

-- what follows the key's line, and then the plain block's, in a text that begins with a group
module _ {input r s : List ℕ} {k : Key} {g : Group} (found : KeyOf input k r) (whole : GroupOf input g s) where
  pub after-key : r ≡ line (codes "plain") (hex g.plain) (line (codes "cipher") (hex g.cipher) s)
  after-key = (same-key-line k g.key r _ found.valid whole.valid.key (sym found.reads ∙ whole.reads)).1

  pub after-plain : {x t : List ℕ} → HexLineOf r (codes "plain") 16 x t → t ≡ line (codes "cipher") (hex g.cipher) s
  after-plain {x} {t} h =
      (same-hex-line (codes "plain") x g.plain t _ h.sized.small whole.valid.plain.small (sym h.reads ∙ after-key)).1

pub same_text : (g h : Group) (r s : List ℕ) → Valid g → Valid h → text g r ≡ text h s → (g ≡ h) × (r ≡ s)
same_text g h r s p q e =
    let keys = same-key-line g.key h.key _ _ p.key q.key e in
    let plains = same-hex-line (codes "plain") g.plain h.plain _ _ p.plain.small q.plain.small keys.1 in
    let ciphers = same-hex-line (codes "cipher") g.cipher h.cipher r s p.cipher.small q.cipher.small plains.1 in
    (λ i. record { key = keys.0 i; plain = plains.0 i; cipher = ciphers.0 i }, ciphers.1)
