-- The view of an arena.
use Rattle.std.specs.Prelude.{List}
use Rattle.hep_machine.specs.declared.slot.Slot.{Slot}
use Rattle.hep_arena.specs.Holes.{Hole}

-- the slots of all cells, and the holes in rising order
pub record Space : Type 0 where
  pub contents : List Slot
  pub holes : List Hole
