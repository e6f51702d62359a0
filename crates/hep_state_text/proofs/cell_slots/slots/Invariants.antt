use Rattle.std.proofs.Common.{◌≡◌}
use Rattle.hep_machine.specs.Words.{Units, Layout, Location, State}
use Rattle.hep_state_text.specs.States.{slots_at}
use Rattle.hep_state_text.specs.StoredVariables.{AreKeptFrom}
use Rattle.hep_state_text.proofs.cell_slots.slots.Given as goal

abbrev pub invariant-loop-index : goal.invariant-loop-index
invariant-loop-index l =
    (program : Units) (s : State) (layout : Layout) (start : Location) → AreKeptFrom program s layout start l.count l.first l.frames.arena
    → l.slots.items ≡ slots_at s.store start l.index
