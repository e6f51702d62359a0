-- All that the entries after an operation pass, and its results.
use Rattle.std.specs.Prelude.{ℕ, List, Result}
use Rattle.hep_machine.specs.declared.event.Kind.{Kind}
use Rattle.hep_machine.specs.declared.slot.Slot.{Slot}
use Rattle.hep_code.specs.Words.{PassedArgument, passed_from}
use Rattle.hep_image.specs.declared.array.Array.{Array}
use Rattle.hep_image.specs.Addressing.{cells_in}
use Rattle.hep_step.specs.declared.argument_list.ArgumentList.{ArgumentList}
use Rattle.hep_step.specs.ArgumentPassing.{made_by}
use Rattle.hep_step.specs.ReadyToPass.{ArePassable}

-- one by one
abbrev pub all_passed : ArgumentList → List PassedArgument
all_passed all = passed_from all.count all.entries.now all.operands.now

-- each of them can be passed
abbrev pub AreAllPassable : ArgumentList → Type 0
AreAllPassable all = ArePassable all.arena.now all.arrays.now all.frame (all_passed all)

-- the results from left to right, or the first fault
abbrev pub made_of_all : {T : Type 0} → ((ℕ → Slot) → ℕ → List Array → PassedArgument → Result T Kind) → ArgumentList → Result (List T) Kind
made_of_all made_for all = made_by (made_for (cells_in all.arena.now.contents) all.frame.first all.arrays.now) (all_passed all)
