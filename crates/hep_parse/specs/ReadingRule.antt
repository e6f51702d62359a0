-- The search for the rule of a statement, as functions on lists (docs/ARCHITECTURE.md, "Forms").
use Rattle.std.specs.Prelude.{ℕ, Bool, false, codes, List, Option, Some, None}
use Rattle.hep_expression.specs.Reading.{◌>>=◌, after_text}
use Rattle.hep_parse.specs.Rules.{after_closing}

-- the text after the closing parenthesis, by the number of parentheses open after a character; none where it closes the last one
abbrev pub nested_after : Option (ℕ × Bool) → List ℕ → Option (List ℕ)
nested_after None r = Some r
nested_after (Some x) r = after_closing x.0 x.1 r

-- what follows the closing parenthesis of `IF(`
abbrev pub after_if : List ℕ → Option (List ℕ)
after_if s = after_text (codes "IF(") s >>= after_closing 0 false
