-- Machines that keep the same states: docs/MACHINE.md, "Layout".
use Rattle.std.specs.Prelude.{◌≡◌, ◌<◌, ℕ, length, map, Some, slice_get}
use Rattle.std.specs.Option.{option_map}
use Rattle.hep_arena.specs.Holes.{IsOut}
use Rattle.hep_arena.specs.Space.{Space}
use Rattle.hep_layout.specs.Words.{FrameNode, Nodes}
use Rattle.hep_proc.specs.declared.process.Local.{Local}
use Rattle.hep_proc.specs.Stacks.{Stack}
use Rattle.hep_state.specs.Snapshots.{Snapshot}

-- ---- other keys

-- a level whose node is under another key
abbrev pub level_renamed : (ℕ → ℕ) → Local → Local
level_renamed rename l = record l { key = rename l.key }

-- the stack of a process with such levels
abbrev pub stack_renamed : (ℕ → ℕ) → Stack → Stack
stack_renamed rename k = record { levels = map (level_renamed rename) k.levels; operands = k.operands; pending = k.pending }

-- a node whose parent is under another key
abbrev pub node_renamed : (ℕ → ℕ) → FrameNode → FrameNode
node_renamed rename n = record n { parent = option_map rename n.parent }

-- the nodes are under other keys, and there are no more
pub record AreRenamed (rename : ℕ → ℕ) (old new : Nodes) : Type 0 where
  pub kept : (key : ℕ) (n : FrameNode) → old key ≡ Some n → new (rename key) ≡ Some (node_renamed rename n)
  pub no_more : (key : ℕ) (m : FrameNode) → new key ≡ Some m
      → (was : ℕ) × (n : FrameNode) × (old was ≡ Some n) × (rename was ≡ key)

-- ---- machines

-- the arena has the same holes, and the same in each cell that is in no hole
pub record IsSameOutside (old new : Space) : Type 0 where
  pub size : length new.contents ≡ length old.contents
  pub holes : new.holes ≡ old.holes
  pub cells : (c : ℕ) → c < length old.contents → IsOut c old.holes → slice_get new.contents c ≡ slice_get old.contents c

-- two machines are alike: they differ in the cells that are in holes and in the keys of nodes alone
pub record AreAlike (old new : Snapshot) : Type 0 where
  pub arena : IsSameOutside old.arena new.arena
  pub rename : ℕ → ℕ
  pub nodes : AreRenamed rename old.nodes new.nodes
  pub processes : new.processes ≡ map (stack_renamed rename) old.processes
  pub rest : new ≡ record old { arena = new.arena; nodes = new.nodes; processes = new.processes }
