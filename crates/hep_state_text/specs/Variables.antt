-- Variables, as their lines need them: docs/RUNS.md, "What everything holds".
use Rattle.std.specs.Prelude.{◌≡◌, ℕ, suc, Bool, true, if◌then◌else◌, is_none, List, [], ◌∷◌, Option, Some, None}
use Rattle.std.specs.Option.{unwrap_or}
use Rattle.hep_machine.specs.Words.{Name, Statement, are_dimensions, constant_shape, no_shape, spelling}
use Rattle.hep_machine.specs.declared.slot.Slot.{Slot}
use Rattle.hep_image.specs.Addressing.{cells_in}
use Rattle.hep_state_text.specs.Contents.{variable_text}
use Rattle.hep_state_text.specs.declared.variable.DisplayedVariable.{DisplayedVariable}

-- a variable of a unit that is no dummy argument
pub record IsOwn (unit : List Statement) (x : Name) (v : DisplayedVariable) : Type 0 where
  pub name : v.name ≡ spelling x
  pub asynchronous : v.asynchronous ≡ x.asynchronous
  pub shape : v.bounds.items ≡ unwrap_or (constant_shape unit x) no_shape
  pub dimensions : are_dimensions v.bounds.items ≡ true

-- one that is a scalar
pub record IsScalar (x : Name) (v : DisplayedVariable) : Type 0 where
  pub name : v.name ≡ spelling x
  pub asynchronous : v.asynchronous ≡ x.asynchronous
  pub scalar : v.bounds.items ≡ []

-- ---- dummy arguments

-- the value of an expression that a dummy argument is associated with, by its two cells; none where the second cell
-- has a value
abbrev pub value_seen : List Slot → ℕ → Option Slot
value_seen contents at = if is_none (cells_in contents (suc at)).value then Some (cells_in contents at) else None

-- its lines
abbrev pub value_line : List ℕ → Bool → Option Slot → List ℕ
value_line name asynchronous None = []
value_line name asynchronous (Some slot) = variable_text name asynchronous [] (slot ∷ [])
