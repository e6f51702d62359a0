-- The values of a group that are left: X3.9-1978, 9.1.
use Rattle.std.specs.Prelude.{◌≡◌, ℕ, List, ◌∷◌, None}
use Rattle.hep_machine.specs.Words.{DataValue, Value, value_among, Repeated, item_at, Values as Meanings}
use Rattle.hep_places.specs.declared.group_values.GroupValues.{GroupValues}
use Rattle.hep_places.specs.InitialValues.{all_values}

abbrev pub repeated : Value × ℕ → Repeated Value
repeated v = record { item = v.0; count = v.1 }

-- a value as often as it is still repeated, and those after it
abbrev pub left_by : Meanings → Value → ℕ → List DataValue → List (Repeated Value)
left_by meanings v n vs = repeated (v, n) ∷ all_values meanings vs

abbrev pub left : GroupValues → List (Repeated Value)
left s = left_by (value_among s.constants.now) s.next s.count s.behind.now

abbrev pub AreSame : List (Repeated Value) → List (Repeated Value) → Type 0
AreSame vs ws = (i : ℕ) → item_at vs i ≡ item_at ws i

abbrev pub AreNone : List (Repeated Value) → Type 0
AreNone vs = (i : ℕ) → item_at vs i ≡ None
