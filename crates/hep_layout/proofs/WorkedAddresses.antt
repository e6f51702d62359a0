-- Worked addresses: where the storage units of two activations and of COMMON are, and what the other cells of frames hold.
use Rattle.std.specs.Prelude.{◌≡◌, ℕ, pos, false, true, nat_eq, if◌then◌else◌, [], ◌∷◌, Some, None, refl}
use Rattle.hep_machine.specs.Words.{End, unset_cell, Layout, frame_of, doing, local, common, State}
use Rattle.hep_arena.specs.Gaps.{gaps}
use Rattle.hep_layout.specs.Words.{address, frame_address, is_descriptor, number, descriptor_slots, argument, bounds, iteration, variable, FrameNode, Nodes, children_out, is_stacked, with_end, with_ended, without_node}
use Rattle.hep_layout.proofs.Worked.{letter, program}

-- activation 1 of the main program has called S(J(2),3) of the worked rows: A stands for J from its second element on, and N for
-- the value of an expression
abbrev called : State
called =
    record {
      processes =
          (record { activation = 2; statement = 4; work = doing [] End; loops = record { statement = 3; count = pos 2; increment = pos 1 } ∷ [] } ∷ record { activation = 1; statement = 1; work = doing [] End; loops = [] } ∷ [])
          ∷ [];
      activations =
          record { unit = 0; parent = None; dummies = [] }
          ∷ record { unit = 1; parent = Some 1; dummies = record { start = common None 2; rest = 3; shape = record { lower = pos 1; upper = Some (pos 3) } ∷ [] } ∷ record { start = local 2 (letter 78) 1; rest = 1; shape = [] } ∷ [] }
          ∷ [];
      store = λ at. unset_cell;
      records = [];
      faults = [];
      halted = false;
    }

-- COMMON has 5 cells, the frames 1 and 13, and 1 cell is free between them
abbrev placed : Layout
placed = record { activation = 1; first = 5; cells = 1 } ∷ record { activation = 2; first = 7; cells = 13 } ∷ []

sizes : (frame_of program called 1 ≡ 1) × (frame_of program called 2 ≡ 13) × (gaps 24 5 placed ≡ (6, 1) ∷ (20, 4) ∷ [])
sizes = (refl, refl, refl)

-- J(2), and /Z/
in_common : (address program called placed (common None 2) ≡ Some 1) × (address program called placed (common (Some (letter 90)) 1) ≡ Some 4) × (address program called placed (common None 5) ≡ None)
in_common = (refl, refl, refl)

-- B(3), I and N
in_frame : (address program called placed (local 2 (letter 66) 3) ≡ Some 14) × (address program called placed (local 2 (letter 73) 1) ≡ Some 15) × (address program called placed (local 2 (letter 78) 1) ≡ Some 10)
in_frame = (refl, refl, refl)

-- A stands for what is in COMMON and has no storage unit of its own; the others aren't there
nowhere : (address program called placed (local 2 (letter 65) 1) ≡ None) × (address program called placed (local 2 (letter 66) 4) ≡ None) × (address program called placed (local 3 (letter 66) 1) ≡ None)
nowhere = (refl, refl, refl)

-- the cells of A, and of the DO
of_parts : (frame_address program called placed 2 (argument (letter 65), 0) ≡ Some 8) × (frame_address program called placed 2 (iteration 3, 1) ≡ Some 17)
of_parts = (refl, refl)

-- ---- what the cells hold that keep no storage unit

-- where A begins and how many there are; and of N, which stands for an expression, that there is no such thing
of_dummies : (descriptor_slots program called placed 2 (argument (letter 65), 0) ≡ Some (number (pos 1))) × (descriptor_slots program called placed 2 (argument (letter 65), 1) ≡ Some (number (pos 3))) × (descriptor_slots program called placed 2 (argument (letter 78), 1) ≡ Some unset_cell)
of_dummies = (refl, refl, refl)

-- the bounds of A, and the DO with two iterations left
of_others : (descriptor_slots program called placed 2 (bounds (letter 65), 1) ≡ Some (number (pos 3))) × (descriptor_slots program called placed 2 (iteration 3, 0) ≡ Some (number (pos 2))) × (descriptor_slots program called placed 2 (iteration 3, 1) ≡ Some (number (pos 1)))
of_others = (refl, refl, refl)

-- the value of N is a storage unit, and so is B(1)
of_units : (is_descriptor program called 2 (argument (letter 65), 0) ≡ true) × (is_descriptor program called 2 (argument (letter 78), 0) ≡ false) × (is_descriptor program called 2 (variable (letter 66), 0) ≡ false)
of_units = (refl, refl, refl)

-- ---- the tree

abbrev main_node : ℕ → FrameNode
main_node children = record { activation = 1; unit = 0; first = 5; cells = 1; parent = None; children = children; finished = false }

abbrev called_node : FrameNode
called_node = record { activation = 2; unit = 1; first = 7; cells = 13; parent = Some 0; children = 0; finished = false }

abbrev two_nodes : Nodes
two_nodes k = if nat_eq k 0 then Some (main_node 1) else (if nat_eq k 1 then Some called_node else None)

one_child : (children_out called (is_stacked called) 1 ≡ 1) × (children_out called (is_stacked called) 2 ≡ 0)
one_child = (refl, refl)

-- the subroutine has returned, and its frame is given back
returned : (without_node (with_ended two_nodes 1) 1 (with_end called_node) 0 ≡ Some (main_node 0)) × (without_node (with_ended two_nodes 1) 1 (with_end called_node) 1 ≡ None)
returned = (refl, refl)
