-- A line of text: a name, '=' (61), a value and the end of the line (10), and after it the rest of the text.
use Rattle.std.specs.Prelude.{◌≡◌, ℕ, List, ◌∷◌, ◌++◌, length}

-- what follows the name
unfoldable pub assigned : List ℕ → List ℕ → List ℕ
assigned value rest = 61 ∷ (value ++ (10 ∷ rest))

abbrev pub line : List ℕ → List ℕ → List ℕ → List ℕ
line name value rest = name ++ assigned value rest

-- the input begins with a line of this name, whose value has this width
pub record LineOf (input name : List ℕ) (width : ℕ) (value rest : List ℕ) : Type 0 where
  pub wide : length value ≡ width
  pub reads : input ≡ line name value rest
