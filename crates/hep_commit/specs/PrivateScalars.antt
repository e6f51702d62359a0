-- Private scalars, and where they are stored: X3.9-1978, 15.9.3 and 15.9.3.6.
use Rattle.std.specs.Prelude.{◌≡◌, ℕ, ◌&&◌, Bool, false, List}
use Rattle.hep_machine.specs.Words.{Name, Statement, Units, unit_at, unit_of, is_local, Location, local, common, State, dummy_at, activation_of}
use Rattle.hep_image.specs.Private.{is_private}

-- a plain local scalar that is nowhere in its unit an actual argument by itself
abbrev pub is_private_scalar : List Statement → Name → Bool
is_private_scalar unit x = is_private unit x && is_local unit x

-- a location that is one of an activation
abbrev pub is_private_at : Units → State → Location → Bool
is_private_at program s (local a x i) = is_private_scalar (unit_at program (unit_of s a)) x
is_private_at program s (common b i) = false

-- no dummy argument is associated with a private scalar
abbrev pub AreUnshared : Units → State → Type 0
AreUnshared program s = (a k : ℕ) → is_private_at program s (dummy_at (activation_of s a).dummies k).start ≡ false
