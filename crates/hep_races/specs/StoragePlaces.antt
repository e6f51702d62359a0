-- The places of the storage units of a program: docs/MACHINE.md, "Storage" and "Activations and processes".
use Rattle.std.specs.Prelude.{◌≡◌, ◌≤◌, Bool, true, false, ◌&&◌, nat_eq, length}
use Rattle.hep_machine.specs.Words.{Location, State, Units, blocks_of, common, is_among, is_array, is_block_among, local, names_of}
use Rattle.hep_machine.specs.Words.{unit_at, unit_of}
use Rattle.hep_views.specs.declared.place.Place.{Place}

-- a storage unit in a state, also one whose frame is gone: of a variable of an activation that was made, or of a common block
abbrev pub IsThere : Units → State → Location → Type 0
IsThere program s (local a x i) =
    (1 ≤ a) × (a ≤ length s.activations) × (is_among x (names_of (unit_at program (unit_of s a))) ≡ true)
    × (is_array (unit_at program (unit_of s a)) x ≡ false → i ≡ 1) × (1 ≤ i)
IsThere program s (common b i) = is_block_among b (blocks_of program) ≡ true

abbrev pub same_place : Place → Place → Bool
same_place v w = nat_eq v.owner w.owner && (nat_eq v.name w.name && nat_eq v.element w.element)
