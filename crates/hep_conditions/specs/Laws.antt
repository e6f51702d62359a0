-- The properties in the laws of the conditions: docs/LANGUAGE.md, 10.
use Rattle.std.specs.Prelude.{◌≡◌, []}
use Rattle.hep_machine.specs.Words.{Name, Constants, value_among}
use Rattle.hep_conditions.specs.Constants.{Parameters}

-- The constants of the conditions are these, and none is open: each name has the same value in both, or none in both.
abbrev pub Keeps : Parameters → Constants → Type 0
Keeps ps constants = (ps.doubtful ≡ []) × ((x : Name) → value_among ps.known x ≡ value_among constants x)
