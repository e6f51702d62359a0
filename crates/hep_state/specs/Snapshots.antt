-- The state that a core keeps, without its places in memory: docs/ARCHITECTURE.md, "Forms".
use Rattle.std.specs.Prelude.{ℕ, Bool, List}
use Rattle.hep_machine.specs.declared.event.Fault.{Fault}
use Rattle.hep_machine.specs.declared.record.Item.{Item}
use Rattle.hep_arena.specs.Space.{Space}
use Rattle.hep_blocked.specs.Numbers.{AreRising}
use Rattle.hep_layout.specs.Words.{Nodes}
use Rattle.hep_proc.specs.Nodes.{nodes_of}
use Rattle.hep_proc.specs.Stacks.{Stack}
use Rattle.hep_state.specs.ProcessNumbers.{numbers_of, stacks_of}
use Rattle.hep_state.specs.declared.core_state.CoreState.{CoreState}

pub record Snapshot : Type 0 where
  pub arena : Space
  pub nodes : Nodes
  -- by number, counted from 1
  pub processes : List Stack
  pub activations : ℕ
  pub records : List (List Item)
  pub faults : List Fault
  pub halted : Bool

-- the numbers of the kept processes rise, and the greatest is that of the last process made at most
abbrev pub AreNumbered : CoreState → Type 0
AreNumbered m = AreRising 1 m.made (numbers_of m.processes.items)

abbrev pub snapshot_of : CoreState → Snapshot
snapshot_of m =
    record {
      arena = m.frames.arena;
      nodes = nodes_of m.frames.nodes;
      processes = stacks_of m.processes.items m.made;
      activations = m.activations;
      records = m.records.items;
      faults = m.faults.items;
      halted = m.halted;
    }
