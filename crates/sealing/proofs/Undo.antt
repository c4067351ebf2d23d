-- XTS with the inverse undoes XTS.
use Rattle.std.proofs.Common.{◌≡◌, ℕ, zero, suc, ◌*◌, List, [], ◌∷◌, ◌++◌, map, length, take, drop, refl, ap, ◌∙◌, ap₂, arith, length-drop, length-take}
use Rattle.std.proofs.lemmas.List.{take_at, drop_at, take-append-drop, length-map}
use Rattle.octets.specs.Octets.{Bytes, Block, Frame}
use Rattle.octets.proofs.Bytes.{take-bytes, drop-bytes}
use Rattle.sealing.specs.Xts.{unit, doubled, tweaks, masked, blocks, joined, xts}
use Rattle.sealing.proofs.Sixteen.{bytes_block, added_block, added_twice}

-- every one is a block
pub data Blocks : List (List ℕ) → Type 0 where
  none : Blocks []
  more : {b : List ℕ} {bs : List (List ℕ)} → Block b → Blocks bs → Blocks (b ∷ bs)

masked-blocks : (ts bs : List (List ℕ)) → Blocks bs → Blocks (masked ts bs)
masked-blocks [] bs p = p
masked-blocks (t ∷ ts) [] p = none
masked-blocks (t ∷ ts) (b ∷ bs) (more q p) = more (added_block b t) (masked-blocks ts bs p)

map-blocks : (f : List ℕ → List ℕ) → ((b : List ℕ) → Block b → Block (f b)) → (bs : List (List ℕ)) → Blocks bs → Blocks (map f bs)
map-blocks f h [] p = none
map-blocks f h (b ∷ bs) (more q p) = more (h b q) (map-blocks f h bs p)

tweaks-blocks : (n : ℕ) (t : List ℕ) → Block t → Blocks (tweaks n t)
unfolding tweaks
tweaks-blocks zero t p = none
tweaks-blocks (suc n) t p = more p (tweaks-blocks n (doubled t) (bytes_block _))

masked-twice : (ts bs : List (List ℕ)) → Blocks ts → Blocks bs → masked ts (masked ts bs) ≡ bs
masked-twice [] bs q p = refl
masked-twice (t ∷ ts) [] q p = refl
masked-twice (t ∷ ts) (b ∷ bs) (more r q) (more s p) = ap₂ ◌∷◌ (added_twice b t s r) (masked-twice ts bs q p)

map-undone : (f g : List ℕ → List ℕ) → ((b : List ℕ) → Block b → g (f b) ≡ b) → (bs : List (List ℕ)) → Blocks bs → map g (map f bs) ≡ bs
map-undone f g h [] p = refl
map-undone f g h (b ∷ bs) (more q p) = ap₂ ◌∷◌ (h b q) (map-undone f g h bs p)

-- cut and joined
blocks-joined : (n : ℕ) (bs : List (List ℕ)) → length bs ≡ n → Blocks bs → blocks n (joined bs) ≡ bs
unfolding blocks
blocks-joined zero [] e p = refl
blocks-joined zero (b ∷ bs) e p = absurd (omega arith)
blocks-joined (suc n) [] e p = absurd (omega arith)
blocks-joined (suc n) (b ∷ bs) e (more q p) =
    ap₂ ◌∷◌ (take_at b (joined bs) 16 q.sixteen)
    (ap (blocks n) (drop_at b (joined bs) 16 q.sixteen) ∙ blocks-joined n bs (omega arith) p)

joined-blocks : (n : ℕ) (f : List ℕ) → length f ≡ 16 * n → joined (blocks n f) ≡ f
unfolding blocks
joined-blocks zero [] e = refl
joined-blocks zero (x ∷ f) e = absurd (omega arith)
joined-blocks (suc n) f e =
    ap (λ r. take 16 f ++ r) (joined-blocks n (drop 16 f) (length-drop 16 f ∙ omega arith)) ∙ take-append-drop 16 f

blocks-blocks : (n : ℕ) (f : List ℕ) → length f ≡ 16 * n → Bytes f → Blocks (blocks n f)
unfolding blocks
blocks-blocks zero f e h = none
blocks-blocks (suc n) f e h =
    more (record { sixteen = length-take 16 f ∙ omega arith; bytes = take-bytes 16 f h })
    (blocks-blocks n (drop 16 f) (length-drop 16 f ∙ omega arith) (drop-bytes 16 f h))

pub length-blocks : (n : ℕ) (f : List ℕ) → length (blocks n f) ≡ n
unfolding blocks
length-blocks zero f = refl
length-blocks (suc n) f = ap suc (length-blocks n (drop 16 f))

length-masked : (ts bs : List (List ℕ)) → length (masked ts bs) ≡ length bs
length-masked [] bs = refl
length-masked (t ∷ ts) [] = refl
length-masked (t ∷ ts) (b ∷ bs) = ap suc (length-masked ts bs)

module _ (f g e : List ℕ → List ℕ) (n : ℕ)
    (undone : (b : List ℕ) → Block b → g (f b) ≡ b) (sized : (b : List ℕ) → Block b → Block (f b)) (tweak : (b : List ℕ) → Block b → Block (e b)) where
  pub xts-undone : (s : List ℕ) → Frame s → xts g e n (xts f e n s) ≡ s
  xts-undone s p =
      let ts = tweaks 8 (e (unit n)) in
      let bs = blocks 8 s in
      let tp : Blocks ts = tweaks-blocks 8 (e (unit n)) (tweak (unit n) (bytes_block n)) in
      let bp : Blocks bs = blocks-blocks 8 s p.long p.bytes in
      let mp : Blocks (masked ts bs) = masked-blocks ts bs bp in
      let fp : Blocks (map f (masked ts bs)) = map-blocks f sized (masked ts bs) mp in
      let long : length (masked ts (map f (masked ts bs))) ≡ 8 =
      length-masked ts (map f (masked ts bs)) ∙ length-map (masked ts bs) f ∙ length-masked ts bs ∙ length-blocks 8 s in
      ap (λ (zs : List (List ℕ)). joined (masked ts (map g (masked ts zs)))) (blocks-joined 8 (masked ts (map f (masked ts bs))) long (masked-blocks ts (map f (masked ts bs)) fp))
      ∙ ap (λ (zs : List (List ℕ)). joined (masked ts (map g zs))) (masked-twice ts (map f (masked ts bs)) tp fp)
      ∙ ap (λ (zs : List (List ℕ)). joined (masked ts zs)) (map-undone f g undone (masked ts bs) mp)
      ∙ ap joined (masked-twice ts bs tp bp)
      ∙ joined-blocks 8 s p.long
