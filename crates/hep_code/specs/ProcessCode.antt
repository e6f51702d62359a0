-- A process in the code of its program's units: docs/MACHINE.md, "Activations and processes".
use Rattle.std.specs.Prelude.{◌≡◌, ℕ, ◌≤◌, List, [], ◌∷◌, ◌++◌, length, Option, Some, None}
use Rattle.hep_machine.specs.Words.{Name, Statement, Value, Units, function_name, function_unit, plug_work, unit_at, executable_from, unit_of, Level, Process, State, unit_called}
use Rattle.hep_code.specs.declared.variable.Variable.{Variable}
use Rattle.hep_code.specs.Targets.{at}
use Rattle.hep_code.specs.StatementCode.{AddressedUnit, index_of, table_of}
use Rattle.hep_code.specs.CodePosition.{Counts, HoldsLoops, IsAt, Stands}

-- the places of variables and of the cells of DOs, by the number of the unit
pub record Addresses : Type 0 where
  pub variables : ℕ → Name → Variable
  pub cells : ℕ → ℕ → ℕ

-- unit u of a program
abbrev pub addressed_unit : Units → Addresses → ℕ → AddressedUnit
addressed_unit program addresses u =
    record {
      unit = unit_at program u;
      variables = addresses.variables u;
      cells = addresses.cells u;
      subroutines = unit_called program;
      functions = function_unit program;
    }

-- the first instruction of a unit's first executable statement: X3.9-1978, 3.6 and 15.6.2.1
abbrev pub entry_index : AddressedUnit → ℕ
entry_index addressed = index_of addressed (at (executable_from addressed.unit 0))

-- a level in the code: the activation, its unit, its index in the unit's code, its operands, and the counts of its
-- DOs
pub record CodeLevel : Type 0 where
  pub activation : ℕ
  pub unit : ℕ
  pub index : ℕ
  pub operands : List Value
  pub counts : Counts

-- what a level below the top waits for, by the result of the unit above it: the end of a subroutine, after whose CALL
-- it goes on; or the value of a function, in the place of its reference
abbrev pub Awaits : Option Name → AddressedUnit → Level → List Value → ℕ → Type 0
Awaits None addressed level operands index = (index ≡ ((table_of addressed).flows level.statement).next) × (operands ≡ [])
Awaits (Some x) addressed level operands index =
    (v : Value) → Stands addressed level.statement (plug_work addressed.unit level.work v) (operands ++ v ∷ []) index

module _ (program : Units) (addresses : Addresses) (s : State) where
  -- the activation of a level, which was made, and its unit
  pub record IsOf (f : CodeLevel) (level : Level) : Type 0 where
    pub activation : level.activation ≡ f.activation
    pub made : (1 ≤ f.activation) × (f.activation ≤ length s.activations)
    pub unit : unit_of s f.activation ≡ f.unit

  -- one below the top waits for the end of the unit above it
  pub record IsBelow (above : ℕ) (f : CodeLevel) (level : Level) : Type 0 where
    pub is_of : IsOf f level
    pub awaits : Awaits (function_name (unit_at program above)) (addressed_unit program addresses f.unit) level f.operands f.index
    pub loops : HoldsLoops (unit_at program f.unit) f.counts level.loops

  pub record IsTop (f : CodeLevel) (level : Level) : Type 0 where
    pub is_of : IsOf f level
    pub at : IsAt (addressed_unit program addresses f.unit) level f.operands f.counts f.index

  -- those below a level of this unit
  abbrev pub AreBelow : ℕ → List CodeLevel → Process → Type 0
  AreBelow above [] [] = Unit {0}
  AreBelow above (f ∷ fs) (level ∷ levels) = IsBelow above f level × AreBelow f.unit fs levels
  AreBelow above _ _ = ⊥

  -- those of a process, the top first
  abbrev pub AreLevels : List CodeLevel → Process → Type 0
  AreLevels [] [] = Unit {0}
  AreLevels (f ∷ fs) (level ∷ levels) = IsTop f level × AreBelow f.unit fs levels
  AreLevels _ _ = ⊥

-- the counts of DOs, none of which was entered
abbrev pub NoLoops : List Statement → Counts → Type 0
NoLoops unit counts = HoldsLoops unit counts []

-- the level of a new activation, at the first executable statement of its unit
abbrev pub entered : Units → Addresses → ℕ → ℕ → Counts → CodeLevel
entered program addresses a u counts =
    record { activation = a; unit = u; index = entry_index (addressed_unit program addresses u); operands = []; counts = counts }

-- the level of a caller, which goes on after its CALL
abbrev pub calling : Units → Addresses → CodeLevel → Level → CodeLevel
calling program addresses f level =
    record f { index = ((table_of (addressed_unit program addresses f.unit)).flows level.statement).next; operands = [] }
