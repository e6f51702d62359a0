-- The names of a unit, by its tables.
use Rattle.std.specs.Prelude.{ℕ, nat_le, if◌then◌else◌}
use Rattle.hep_machine.specs.Words.{Name, Units, constant_value, listed_meaning, unit_called, function_unit}
use Rattle.hep_code.specs.Words.{NameTable}
use Rattle.hep_code.specs.Placements.{variable_in}
use Rattle.hep_lower.specs.declared.name_lookup.NameLookup.{NameLookup}

-- ---- numbers of 32 bits

abbrev pub greatest : ℕ
greatest = 4294967295

-- a number, or the greatest one where it is greater
abbrev pub narrowed : ℕ → ℕ
narrowed n = if nat_le n greatest then n else greatest

unfoldable pub number_called : Units → Name → ℕ
number_called program x = narrowed (unit_called program x)

unfoldable pub number_referred : Units → Name → ℕ
number_referred program x = narrowed (function_unit program x)

-- ---- names

unfoldable pub names_in : NameLookup → NameTable
names_in n =
    record {
      constants = constant_value n.symbols.now;
      meanings = listed_meaning n.symbols.now;
      variables = variable_in n.places.now;
      functions = number_referred n.program.now;
    }
