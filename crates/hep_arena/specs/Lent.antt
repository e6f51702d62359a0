-- The state of an arena after a loan of a block's slots ends.
use Rattle.std.specs.Prelude.{ℕ, List, length}
use Rattle.std.specs.Borrow.{Lends, MutBor, Fml, Array}
use Rattle.hep_machine.specs.declared.slot.Slot.{Slot}
use Rattle.hep_arena.specs.contracts.cell.Cell.{the_row as cell_row}
use Rattle.hep_arena.specs.Lending.{with_run}
use Rattle.hep_arena.specs.Space.{Space}
use Rattle.hep_arena.specs.contracts.arena.Arena.{the_row}

abbrev pub with_block : Space → ℕ → ℕ → List Slot → Space
with_block space at n slots = record space { contents = with_run space.contents at n slots }

-- When the loan ends, the n slots from an index on are those of the loan, and nothing else changes.
abbrev pub LendsBlock : MutBor Space → ℕ → ℕ → MutBor (List Slot) → Fml
LendsBlock space at n loan = Lends the_row (Array cell_row 0) space loan (with_block space.now at n)

-- When the loan ends, all slots are those of the loan, and nothing else changes.
abbrev pub LendsAll : MutBor Space → MutBor (List Slot) → Fml
LendsAll space loan = LendsBlock space 0 (length space.now.contents) loan
