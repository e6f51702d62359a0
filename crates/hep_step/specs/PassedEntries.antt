-- What the entries after a CALL, CREATE or PURGE pass, one by one: X3.9-1978, 15.9.2 and 15.9.3.
use Rattle.std.specs.Prelude.{List, [], ◌∷◌, take, drop, Option, Some, None}
use Rattle.hep_machine.specs.Words.{Value}
use Rattle.hep_code.specs.declared.instruction.Argument.TheVariants.{Evaluated, Referred}
use Rattle.hep_code.specs.declared.instruction.Instruction.{Instruction}
use Rattle.hep_code.specs.declared.instruction.Instruction.TheVariants.{Pass}
use Rattle.hep_code.specs.Words.{PassedArgument, by_value, by_reference}
use Rattle.hep_step.specs.declared.passed_argument.PassedArgument as code
use Rattle.hep_step.specs.declared.passed_argument.PassedArgument.TheVariants as variants

-- what is passed, without its pointer
abbrev pub passed_view : code.PassedArgument → PassedArgument
passed_view (variants.ByValue v) = by_value v
passed_view (variants.ByReference x subscripts) = by_reference x subscripts.now

-- what an entry passes, and the operands after its own
abbrev pub passed_ahead : Instruction → List Value → Option (PassedArgument × List Value)
passed_ahead (Pass Evaluated) (v ∷ vs) = Some (by_value v, vs)
passed_ahead (Pass (Referred x m)) vs = Some (by_reference x (take m vs), drop m vs)
passed_ahead _ vs = None

-- what all entries pass, as far as each passes anything
abbrev pub passed_in : List Instruction → List Value → List PassedArgument
passed_in [] vs = []
passed_in (Pass Evaluated ∷ entries) (v ∷ vs) = by_value v ∷ passed_in entries vs
passed_in (Pass (Referred x m) ∷ entries) vs = by_reference x (take m vs) ∷ passed_in entries (drop m vs)
passed_in _ vs = []
