-- The grammar of character constants, and of the items of a PRINT list (X3.9-1978, 4.8 and 12.8).
use Rattle.std.specs.Prelude.{◌≡◌, ◌≢◌, ℕ, nat_eq, if◌then◌else◌, List, [], ◌∷◌, ◌++◌}
use Rattle.hep_source.specs.declared.statement.PrintItem.{PrintItem}
use Rattle.hep_source.specs.declared.statement.PrintItem.TheVariants.{Expression, Characters}
use Rattle.hep_expression.specs.declared.characters.Context.{Context}
use Rattle.hep_expression.specs.Characters.{apostrophe}
use Rattle.hep_expression.specs.Expression.{ReadsExpression}

-- the characters of a character constant (X3.9-1978, 4.8) as they are written: an apostrophe is written
-- twice
abbrev pub quoted : List ℕ → List ℕ
quoted [] = []
quoted (c ∷ s) = if nat_eq c apostrophe then apostrophe ∷ apostrophe ∷ quoted s else c ∷ quoted s

-- The text s begins with this character constant, one or more characters between apostrophes, and r follows.
abbrev pub ReadsCharacters : List ℕ → List ℕ → List ℕ → Type 0
ReadsCharacters t s r = (t ≢ []) × (s ≡ apostrophe ∷ (quoted t ++ apostrophe ∷ r))

-- an item of a PRINT list (12.8)
module _ (k : Context) where
  abbrev pub ReadsItem : PrintItem → List ℕ → List ℕ → Type 0
  ReadsItem (Expression t) s r = ReadsExpression k t s r
  ReadsItem (Characters t) s r = ReadsCharacters t s r
