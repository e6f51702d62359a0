use Rattle.std.proofs.Common.{◌≡◌, ℕ, length, Some, slice_get}
use Rattle.hep_commit.specs.OwnCells as spec
use Rattle.hep_commit.specs.declared.own_cells.OwnCells.{OwnCells}
use Rattle.hep_commit.proofs.own_cells.own_cells_of.Given as goal

abbrev pub invariant-loop-unit : goal.invariant-loop-unit
invariant-loop-unit l =
    record {
      each : (u : ℕ) (table : OwnCells) → slice_get l.tables.items u ≡ Some table → table.cells.items ≡ spec.own_cells_of l.image u;
      count : length l.tables.items ≡ l.unit;
    }
