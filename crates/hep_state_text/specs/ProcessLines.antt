-- The places of processes, read from a machine: docs/RUNS.md, "What everything holds".
use Rattle.std.specs.Prelude.{ℕ, List, [], ◌∷◌, ◌++◌, codes, drop}
use Rattle.std.specs.Fmt.{decimal}
use Rattle.hep_machine.specs.Words.{Units, unit_at, unit_name}
use Rattle.hep_code.specs.Words.{line_ahead}
use Rattle.hep_layout.specs.Words.{Nodes}
use Rattle.hep_step.specs.Simulation.{unit_code}
use Rattle.hep_proc.specs.declared.process.Local.{Local}
use Rattle.hep_state.specs.Words.{node_under}
use Rattle.hep_state_text.specs.Lines as lines
use Rattle.hep_state_text.specs.Lines.{LevelText}

-- the line on which the statement of a level begins, by the code of its unit
abbrev pub line_seen : Units → Local → ℕ
line_seen program l = line_ahead (drop l.index (unit_code program l.unit))

module _ (program : Units) (nodes : Nodes) where
  -- the place where a level goes on
  abbrev pub place_seen : Local → List ℕ
  place_seen l = lines.place_text (unit_name (unit_at program l.unit)) (line_seen program l) (node_under nodes l.key).activation

  -- the front of the first line of a process that is at a level
  abbrev pub top_seen : ℕ → Local → List ℕ
  top_seen p l = codes "PROCESS " ++ decimal p ++ codes " " ++ place_seen l

-- with this function for the lines of the source
module _ (program : Units) (nodes : Nodes) (shown : ℕ → List ℕ) where
  abbrev pub level_seen : Local → LevelText
  level_seen l = lines.level_text shown (unit_name (unit_at program l.unit)) (line_seen program l) (node_under nodes l.key).activation

  -- the lines of the levels below the top one
  abbrev pub backs_seen : List Local → List ℕ
  backs_seen [] = []
  backs_seen (l ∷ ls) = lines.back_text (level_seen l) ++ backs_seen ls

  -- the lines of a process, with words for what it waits for, or none
  abbrev pub stack_seen : ℕ → List ℕ → List Local → List ℕ
  stack_seen p waiting [] = []
  stack_seen p waiting (l ∷ ls) = lines.process_text p (level_seen l) waiting ++ backs_seen ls
