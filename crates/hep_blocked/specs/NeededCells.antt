-- A process whose next step needs a cell of the arena to be full or to be empty: docs/MACHINE.md, "Which process
-- comes next".
use Rattle.std.specs.Prelude.{◌≡◌, ℕ, Bool, List, Some}
use Rattle.hep_machine.specs.Words.{Units, Layout, is_held, layout_of, run, Wanted}
use Rattle.hep_layout.specs.Words.{address}
use Rattle.hep_blocked.specs.Needs.{need_of}

-- after these turns p needs the storage unit in a cell to be full, or to be empty
pub record NeedsCell (program : Units) (cells : ℕ) (choices : List ℕ) (p cell : ℕ) (full : Bool) : Type 0 where
  pub wanted : Wanted
  pub needed : need_of program p (run program choices) ≡ Some wanted
  pub state : wanted.full ≡ full
  pub kept : (layout : Layout) → layout_of program cells is_held choices ≡ Some layout → address program (run program choices) layout wanted.at ≡ Some cell
