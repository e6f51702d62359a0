-- The meaning of a name with a list, as contracts see it.
use Rattle.hep_machine.specs.Functions as functions
use Rattle.hep_names.specs.declared.functions.Meaning.{Meaning}
use Rattle.hep_names.specs.declared.functions.Meaning.TheVariants.{Element, Pure, State, External}

abbrev pub meaning : Meaning → functions.Meaning
meaning Element = functions.element
meaning (Pure f) = functions.pure f
meaning (State f) = functions.state f
meaning External = functions.external
