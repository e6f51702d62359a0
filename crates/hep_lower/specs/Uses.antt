-- The operation on the values of a list, by the meaning of its name, and the actual arguments that are referred to.
use Rattle.std.specs.Prelude.{ℕ, List, ◌∷◌, Option, Some, None}
use Rattle.hep_machine.specs.Words.{Tree, Trees, occurrence, with_list, no_trees, Name, Value, Meaning, element, pure, state, external}
use Rattle.hep_code.specs.declared.instruction.Evaluation.{Evaluation}
use Rattle.hep_code.specs.declared.instruction.Evaluation.TheVariants.{Load, Apply, Test}
use Rattle.hep_code.specs.declared.instruction.Instruction.{Instruction}
use Rattle.hep_code.specs.declared.instruction.Instruction.TheVariants.{Step}
use Rattle.hep_code.specs.declared.instruction.Operation.TheVariants.{Refer}
use Rattle.hep_code.specs.Words.{asked, count, NameTable, passes}
use Rattle.hep_lower.specs.StateFunctionSubscripts.{subscripts_asked}

-- the subscripts of an actual argument that is referred to, by the value of its name; a variable or an array has none
abbrev pub subscripts_of_name : Option Value → Option Trees
subscripts_of_name None = Some no_trees
subscripts_of_name (Some v) = None

abbrev pub subscripts_of_listed : Meaning → Trees → Option Trees
subscripts_of_listed element ts = Some ts
subscripts_of_listed _ ts = None

module _ (names : NameTable) where
  -- ---- a name with a list

  -- none for a function of the program
  abbrev pub evaluation_listed : Meaning → Name → Trees → Option Evaluation
  evaluation_listed element x ts = Some (Load (names.variables x) (count ts))
  evaluation_listed (pure f) x ts = Some (Apply f (count ts))
  evaluation_listed (state f) x ts = Some (Test f (names.variables (asked names ts).0) (asked names ts).1)
  evaluation_listed external x ts = None

  -- the expressions of the values: the subscripts of the argument of FULL, EMPTY, VALUE, SETE or WAITF, otherwise the
  -- list
  abbrev pub operands_listed : Meaning → Trees → Trees
  operands_listed (state f) ts = subscripts_asked names ts
  operands_listed _ ts = ts

  -- after the actual arguments of a reference of a function: 15.9.3
  abbrev pub reference_code : ℕ → Name → Trees → List Instruction
  reference_code line x ts = Step line (Refer (names.functions x) (count ts)) ∷ passes names ts

  -- ---- the subscripts of an actual argument that is referred to; nothing for one that is evaluated

  abbrev pub subscripts_referred : Tree → Option Trees
  subscripts_referred (occurrence p) = subscripts_of_name (names.constants p.name)
  subscripts_referred (with_list p ts) = subscripts_of_listed (names.meanings p.name) ts
  subscripts_referred _ = None
