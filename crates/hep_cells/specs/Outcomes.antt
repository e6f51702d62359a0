-- The outcomes of the source machine that outcomes here mean: docs/MACHINE.md, "Storage" and "Steps".
use Rattle.hep_machine.specs.Access as access
use Rattle.hep_cells.specs.declared.outcome.AccessOutcome.{AccessOutcome}
use Rattle.hep_cells.specs.declared.outcome.AccessOutcome.TheVariants.{Gives, Makes, Waits, Undefined}

-- the outcome of the machine that this one means
abbrev pub outcome_meant : AccessOutcome → access.Outcome
outcome_meant (Gives value) = access.gives value
outcome_meant (Makes value slot) = access.makes value slot
outcome_meant (Waits full) = access.waits full
outcome_meant Undefined = access.undefined
