-- The readers of expressions in a list and of targets, as functions on lists. A target is assigned, purged or given a value
-- by DATA.
use Rattle.std.specs.Prelude.{Some}
use Rattle.hep_source.specs.Tree.{Tree}
use Rattle.hep_source.specs.declared.declaration.Target.{Target}
use Rattle.hep_expression.specs.declared.characters.Context.{Context}
use Rattle.hep_expression.specs.Reading.{Reader, ◌>>=◌, occurrence_at}
use Rattle.hep_expression.specs.ReadingExpression.{expression_at}
use Rattle.hep_parse.specs.ReadingLists.{optional}

abbrev pub expression_part : Context → Reader Tree
expression_part k s = expression_at k s

-- a name alone, or with subscripts
unfoldable pub target_at : Context → Reader Target
target_at k s = occurrence_at k s >>= λ x. optional (expression_part k) x.1 >>= λ y. Some (record { occurrence = x.0; subscripts = y.0 }, y.1)
