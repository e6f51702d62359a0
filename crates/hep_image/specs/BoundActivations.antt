-- What the dummy arguments of an activation are associated with: X3.9-1978, 5.5 and 15.9.3, and docs/MACHINE.md,
-- "Binding".
use Rattle.std.specs.Prelude.{◌≡◌, ◌≢◌, ℕ, ◌≤◌, true, false, List, [], length, Some, None, slice_get}
use Rattle.hep_machine.specs.Words.{Name, Statement, index_among, Units, dummies_of, unit_at, adjustable_dimensions, constant_shape, is_array, Action, Next, calling, creating, does, evaluating, function_unit, next_of, referring, wants, Layout, dummy_at, activation_of, living, unit_of, run, Bounds, elements, fits, is_shape, most_elements, Dummy, Level, Process, State, local, unit_called, is_owned}
use Rattle.hep_layout.specs.Words.{RunsFrom}

-- a dummy argument of activation a of a unit is associated with storage units, or with an expression, whose value is
-- a variable of its own
pub record IsBoundTo (unit : List Statement) (a : ℕ) (x : Name) (d : Dummy) : Type 0 where
  pub value : is_owned a d.start ≡ true → (d.start ≡ local a x 1) × (d.rest ≡ 1)
  pub scalar : is_array unit x ≡ false → d.shape ≡ []
  pub constant : is_array unit x ≡ true → adjustable_dimensions unit x ≡ 0 → constant_shape unit x ≡ Some d.shape
  pub adjustable : is_array unit x ≡ true → adjustable_dimensions unit x ≢ 0 → (length d.shape ≡ adjustable_dimensions unit x) × (is_shape d.shape ≡ true)
  pub some : 1 ≤ d.rest
  pub few : d.rest ≤ most_elements
  pub fitting : fits d.shape d.rest ≡ true

-- an activation has each dummy argument of its unit, associated with something
abbrev pub IsBound : Units → State → ℕ → Type 0
IsBound program s a =
    (x : Name) (k : ℕ) → index_among x (dummies_of (unit_at program (unit_of s a))) ≡ Some k → (d : Dummy) × (slice_get (activation_of s a).dummies k ≡ Some d) × IsBoundTo (unit_at program (unit_of s a)) a x d

-- the storage that a dummy argument of an activation is associated with, if it is no expression, is in consecutive
-- cells
abbrev pub AreKept : Units → State → Layout → ℕ → Type 0
AreKept program s layout a =
    (k : ℕ) → is_owned a (dummy_at (activation_of s a).dummies k).start ≡ false → (base : ℕ) × RunsFrom program s layout (dummy_at (activation_of s a).dummies k).start (dummy_at (activation_of s a).dummies k).rest base

-- ---- programs in which they are: docs/MACHINE.md, "The program"

-- each array that is no dummy argument has a number of elements: 5.1.1 and 5.2.3
abbrev pub AreClosed : Units → Type 0
AreClosed program =
    (u : ℕ) (unit : List Statement) (x : Name) → slice_get program u ≡ Some unit → is_array unit x ≡ true → index_among x (dummies_of unit) ≡ None → (bs : Bounds) × (constant_shape unit x ≡ Some bs) × (n : ℕ) × (elements bs ≡ Some n)

-- a CALL or CREATE, and a reference of a function, has as many actual arguments as there are dummy arguments: 15.9.3
abbrev pub Agrees : Units → Action → Type 0
Agrees program (calling x actuals) = length actuals ≡ length (dummies_of (unit_at program (unit_called program x)))
Agrees program (creating x actuals) = length actuals ≡ length (dummies_of (unit_at program (unit_called program x)))
Agrees program _ = Unit {0}

abbrev pub NextAgrees : Units → Next → Type 0
NextAgrees program (wants (evaluating r)) = Unit {0}
NextAgrees program (wants (referring x actuals)) = length actuals ≡ length (dummies_of (unit_at program (function_unit program x)))
NextAgrees program (does a) = Agrees program a

-- this holds at each place that a run reaches
abbrev pub CallsAgree : Units → Type 0
CallsAgree program =
    (processes : List ℕ) (p : ℕ) (top : Level × Process) → living (run program processes) p ≡ Some top → NextAgrees program (next_of (unit_at program (unit_of (run program processes) top.0.activation)) top.0.work)
