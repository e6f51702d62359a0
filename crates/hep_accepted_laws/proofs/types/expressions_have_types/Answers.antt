use Rattle.hep_accepted_laws.proofs.StatementForms.{expressions_have_types, operands_have_types}
use Rattle.hep_accepted_laws.proofs.types.expressions_have_types.Goals as goal

pub returns : goal.returns
returns c = record { value = expressions_have_types; operands = operands_have_types }
