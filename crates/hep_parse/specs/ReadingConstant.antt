-- The readers of character constants and of the items of a PRINT list, as functions on lists (docs/ARCHITECTURE.md, "Forms").
use Rattle.std.specs.Prelude.{ℕ, zero, suc, nat_eq, if◌then◌else◌, List, [], ◌∷◌, length, Option, Some, None}
use Rattle.hep_source.specs.declared.statement.PrintItem.{PrintItem}
use Rattle.hep_source.specs.declared.statement.PrintItem.TheVariants.{Expression, Characters}
use Rattle.hep_expression.specs.declared.characters.Context.{Context}
use Rattle.hep_expression.specs.Characters.{apostrophe}
use Rattle.hep_expression.specs.Reading.{Reader, ◌>>=◌, if_some, after}
use Rattle.hep_expression.specs.ReadingExpression.{expression_at}
use Rattle.hep_parse.specs.ReadingLists.{with_part}

-- the next character of a character constant, and what follows it; none where the constant ends
abbrev pub character_at : Reader ℕ
character_at [] = None
character_at (c ∷ s) = if nat_eq c apostrophe then (after apostrophe s >>= λ r. Some (apostrophe, r)) else Some (c, s)

-- the characters of a constant up to its closing apostrophe, and what follows that; the number bounds how many
-- are read
unfoldable pub characters : ℕ → Reader (List ℕ)
characters zero s = None
characters (suc n) s = if_some (character_at s) (λ x. with_part x.0 (characters n x.1)) (after apostrophe s >>= λ r. Some ([], r))

abbrev pub some_characters : List ℕ × List ℕ → Option (List ℕ × List ℕ)
some_characters x = elim x.0 [ [] ↦ None | c ∷ t ↦ Some x ]

-- a character constant, read after its opening apostrophe
unfoldable pub constant_after : Reader (List ℕ)
constant_after s = characters (length s) s >>= some_characters

-- an item of a PRINT list
unfoldable pub item_at : Context → Reader PrintItem
item_at k s =
    if_some (after apostrophe s) (λ m. constant_after m >>= λ x. Some (Characters x.0, x.1))
    (expression_at k s >>= λ x. Some (Expression x.0, x.1))
