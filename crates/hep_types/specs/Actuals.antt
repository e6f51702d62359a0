-- The class of an actual argument, as contracts see it.
use Rattle.hep_conditions.specs.Arguments as arguments
use Rattle.hep_types.specs.declared.actuals.ActualClass.{ActualClass}
use Rattle.hep_types.specs.declared.actuals.ActualClass.TheVariants.{Value, Variable, WholeArray, UnknownList}

abbrev pub class : ActualClass → arguments.ActualClass
class (Value t) = arguments.value t
class (Variable a e t) = arguments.variable a e t
class (WholeArray a t) = arguments.whole_array a t
class UnknownList = arguments.unknown_list
