-- The tables of a unit, in the terms of the definitions of the code.
use Rattle.std.specs.Prelude.{ℕ, suc, ◌-◌, List, slice_get}
use Rattle.std.specs.Option.{option_map, unwrap_or}
use Rattle.hep_machine.specs.Words.{Statement, Units, line_at, terminal_of, unit_called, function_name, function_unit}
use Rattle.hep_code.specs.Words.{Table, Target, at, end_of, onward, outward, inward, aside, labelled, AddressedUnit}
use Rattle.hep_lower.specs.declared.name_lookup.NameLookup.{NameLookup}
use Rattle.hep_code.specs.declared.placement.Placement.{Placement}
use Rattle.hep_lower.specs.Names.{names_in, number_called}
use Rattle.hep_lower.specs.declared.tables.Starts.{Starts}
use Rattle.hep_lower.specs.declared.tables.Tables.{Tables}
use Rattle.hep_code.specs.Placements.{variable_in, cells_in}

-- ---- indexes, by the first index of each statement, and of the END after them

abbrev pub start_in : Starts → ℕ → ℕ
start_in starts k = unwrap_or (slice_get starts.statements.items k) starts.end

unfoldable pub index_in : Starts → Target → ℕ
index_in starts (at k) = start_in starts k
index_in starts (end_of d) = start_in starts (suc d) - 1

abbrev pub table_in : Tables → Table
table_in t =
    record {
      names = names_in t.names;
      subroutines = number_called t.names.program.now;
      result = option_map (variable_in t.names.places.now) (function_name t.control.now);
      labels = λ l. index_in t.starts (labelled t.control.now l);
      flows = λ k.
          record {
            next = index_in t.starts (onward t.control.now k);
            inside = index_in t.starts (inward t.control.now k);
            behind = index_in t.starts (outward t.control.now k);
            otherwise = index_in t.starts (aside t.control.now k);
            cells = cells_in t.names.places.now k;
            end_line = line_at t.control.now (terminal_of t.control.now k);
          };
    }

-- ---- what a unit's code depends on, by its statements, its places and its program

abbrev pub addressed_by : List Statement → Placement → Units → AddressedUnit
addressed_by unit places program =
    record {
      unit = unit;
      variables = variable_in places;
      cells = cells_in places;
      subroutines = unit_called program;
      functions = function_unit program;
    }

abbrev pub addressed_in : NameLookup → AddressedUnit
addressed_in names = addressed_by names.symbols.now names.places.now names.program.now
