-- The grammar of targets: a name alone, or with subscripts (X3.9-1978, 5.3), in an assignment (section 10), in DATA (section 9), and in
-- PURGE (docs/LANGUAGE.md, 5).
use Rattle.std.specs.Prelude.{ℕ, List}
use Rattle.hep_source.specs.declared.declaration.Target.{Target}
use Rattle.hep_expression.specs.declared.characters.Context.{Context}
use Rattle.hep_expression.specs.Characters.{ReadsOccurrence}
use Rattle.hep_expression.specs.Expression.{ReadsExpression}
use Rattle.hep_parse.specs.Lists.{AreOptional}

-- The text s begins with this target, and r follows.
abbrev pub ReadsTarget : Context → Target → List ℕ → List ℕ → Type 0
ReadsTarget k x s r = (m : List ℕ) × ReadsOccurrence k x.occurrence s m × AreOptional (ReadsExpression k) x.subscripts m r
