-- The variables and units that instructions name: docs/MACHINE.md, "Steps".
use Rattle.std.specs.Prelude.{List, [], ◌∷◌}
use Rattle.hep_code.specs.declared.instruction.Argument.{Argument}
use Rattle.hep_code.specs.declared.instruction.Argument.TheVariants.{Evaluated, Referred}
use Rattle.hep_code.specs.declared.instruction.Evaluation.{Evaluation}
use Rattle.hep_code.specs.declared.instruction.Evaluation.TheVariants.{Load, Test}
use Rattle.hep_code.specs.declared.instruction.Instruction.{Instruction}
use Rattle.hep_code.specs.declared.instruction.Instruction.TheVariants.{Step, Pass}
use Rattle.hep_code.specs.declared.instruction.Operation.{Operation}
use Rattle.hep_code.specs.declared.instruction.Operation.TheVariants.{Evaluate, Store, EnterLoop, EndLoop, Answer}
use Rattle.hep_code.specs.declared.variable.Variable.{Variable}

-- ---- variables

abbrev pub variables_in_evaluation : Evaluation → List Variable
variables_in_evaluation (Load x n) = x ∷ []
variables_in_evaluation (Test f x n) = x ∷ []
variables_in_evaluation _ = []

abbrev pub variables_in_operation : Operation → List Variable
variables_in_operation (Evaluate e) = variables_in_evaluation e
variables_in_operation (Store x n next) = x ∷ []
variables_in_operation (EnterLoop x cells inside behind) = x ∷ []
variables_in_operation (EndLoop x cells inside behind) = x ∷ []
variables_in_operation (Answer x) = x ∷ []
variables_in_operation _ = []

abbrev pub variables_in_argument : Argument → List Variable
variables_in_argument Evaluated = []
variables_in_argument (Referred x n) = x ∷ []

-- the variables of an instruction
abbrev pub variables_in : Instruction → List Variable
variables_in (Step line o) = variables_in_operation o
variables_in (Pass a) = variables_in_argument a
variables_in _ = []
