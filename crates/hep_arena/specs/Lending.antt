-- The state of a region after a loan of its slots ends.
use Rattle.std.specs.Prelude.{ℕ, List, ◌++◌, length, take, drop}
use Rattle.std.specs.Borrow.{Lends, MutBor, Fml, Array}
use Rattle.hep_machine.specs.declared.slot.Slot.{Slot}
use Rattle.hep_arena.specs.contracts.cell.Cell.{the_row as cell_row}
use Rattle.hep_arena.specs.declared.region.Region.{Region}
use Rattle.hep_arena.specs.contracts.region.Region.{the_row}

-- xs, whose first slots are replaced by those of ys, and no longer than before
abbrev pub covered : List Slot → List Slot → List Slot
covered xs ys = take (length xs) ys ++ drop (length ys) xs

-- xs, whose n slots from an index on are replaced by ys
abbrev pub with_run : List Slot → ℕ → ℕ → List Slot → List Slot
with_run xs at n ys = take at xs ++ covered (take n (drop at xs)) ys ++ drop n (drop at xs)

abbrev pub with_slots : Region → List Slot → Region
with_slots r slots = record r { slots = slots }

abbrev pub with_slots_run : Region → ℕ → ℕ → List Slot → Region
with_slots_run r at n run = record r { slots = with_run r.slots at n run }

-- When the loan ends, all slots of the region are those of the loan.
abbrev pub LendsAll : MutBor Region → MutBor (List Slot) → Fml
LendsAll region loan = Lends the_row (Array cell_row 0) region loan (with_slots region.now)

-- When the loan ends, the n slots from an index on are those of the loan.
abbrev pub LendsRun : MutBor Region → ℕ → ℕ → MutBor (List Slot) → Fml
LendsRun region at n loan = Lends the_row (Array cell_row 0) region loan (with_slots_run region.now at n)
