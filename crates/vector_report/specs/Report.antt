-- What is written for a text of test vectors: a line for each group, up to the first that is malformed.
use Rattle.std.specs.Prelude.{◌≡◌, ℕ, ◌+◌, Bool, true, List, [], ◌∷◌, ◌++◌, length, codes, decimal, ◌≢◌}
use Rattle.camellia.specs.Cipher.{E, D}
use Rattle.camellia.specs.Laws.{takes}
use Rattle.vector_groups.specs.declared.group.Group.{Group}
use Rattle.vector_groups.specs.Text.{key_bytes, GroupOf}
use Rattle.vector_report.specs.declared.verdict.Verdict.{Verdict}
use Rattle.vector_report.specs.declared.verdict.Agreement.{Agreement}
use Rattle.vector_report.specs.declared.verdict.Agreement.TheVariants.{Same, Differs}

-- both ways of a cipher agree with the group
pub record Agrees (takes : ℕ → Bool) (cipher inverse : List ℕ → List ℕ → List ℕ) (g : Group) : Type 0 where
  pub taken : takes (length (key_bytes g.key)) ≡ true
  pub forth : cipher (key_bytes g.key) g.plain ≡ g.cipher
  pub back : inverse (key_bytes g.key) g.cipher ≡ g.plain

abbrev pub Judges : (ℕ → Bool) → (List ℕ → List ℕ → List ℕ) → (List ℕ → List ℕ → List ℕ) → Group → Agreement → Type 0
Judges takes cipher inverse g Same = Agrees takes cipher inverse g
Judges takes cipher inverse g Differs = Agrees takes cipher inverse g → ⊥

-- every path is judged by Camellia
pub record Judged (g : Group) (v : Verdict) : Type 0 where
  pub byte : Judges takes E D g v.byte
  pub word : Judges takes E D g v.word
  pub long : Judges takes E D g v.long

abbrev pub shown : Agreement → List ℕ
shown Same = codes "same"
shown Differs = codes "differs"

abbrev pub judged_line : ℕ → Verdict → List ℕ
judged_line n v =
    codes "group=" ++ (decimal n ++ (codes " byte=" ++ (shown v.byte ++ (codes " word=" ++ (shown v.word
    ++ (codes " long=" ++ (shown v.long ++ (10 ∷ []))))))))

abbrev pub malformed_line : ℕ → List ℕ
malformed_line n = codes "group=" ++ (decimal n ++ (codes " malformed" ++ (10 ∷ [])))

-- from group n on, the input is reported by these lines
pub data Reports : ℕ → List ℕ → List ℕ → Type 0 where
  ended : {n : ℕ} → Reports n [] []
  judged : {n : ℕ} {input rest out : List ℕ} {g : Group} (v : Verdict)
      → GroupOf input g rest → Judged g v → Reports (n + 1) rest out → Reports n input (judged_line n v ++ out)
  malformed : {n : ℕ} {input : List ℕ}
      → (input ≢ []) → ((g : Group) (rest : List ℕ) → GroupOf input g rest → ⊥) → Reports n input (malformed_line n)
