-- One step of a process: docs/MACHINE.md, "Steps".
use Rattle.std.specs.Prelude.{ℕ, zero, suc, ◌+◌, ℤ, pos, negsuc, ◌+ℤ◌, ◌-ℤ◌, int_div, int_lt, Bool, true, false, not, ◌&&◌, if◌then◌else◌, List, [], ◌∷◌, ◌++◌, length, Option, Some, None, is_some, Result, Ok, Err}
use Rattle.std.specs.Option.{unwrap_or}
use Rattle.hep_machine.specs.declared.event.Kind.{Kind}
use Rattle.hep_machine.specs.declared.event.Kind.TheVariants.{Undefined, Step}
use Rattle.hep_machine.specs.declared.event.Fault.{Fault}
use Rattle.hep_source.specs.declared.function.StateFunction.{StateFunction}
use Rattle.hep_source.specs.declared.function.StateFunction.TheVariants.{IsFull, IsEmpty, ValueOf, SetEmpty, WaitFull}
use Rattle.hep_source.specs.declared.name.Name.{Name}
use Rattle.hep_source.specs.declared.statement.Form.TheVariants.{End}
use Rattle.hep_source.specs.declared.statement.Statement.{Statement}
use Rattle.hep_source.specs.declared.value.Value.{Value}
use Rattle.hep_source.specs.declared.value.Value.TheVariants.{Int, Truth}
use Rattle.hep_machine.specs.Access as access
use Rattle.hep_machine.specs.Access.{Outcome, is_full, is_empty, reading_asynchronous, setting_empty, waiting_full, writing, writing_asynchronous}
use Rattle.hep_machine.specs.Arithmetic.{integer_of, logical_of, integer_or_overflow, signed_value, negated_value, combined_value, function_value}
use Rattle.hep_machine.specs.Binding.{Binding, binding_for}
use Rattle.hep_machine.specs.Control.{level_after_statement, level_at_label, level_at_choice, label_chosen, label_by_sign, level_in_block, level_after_condition, level_in_range, level_after_loop, variable_of, level_at_statement}
use Rattle.hep_machine.specs.Declarations.{is_array, is_nonempty}
use Rattle.hep_machine.specs.Evaluation.{Redex, RedexOrReference, evaluating, referring, reading, signing, negating, combining, applying, testing, Reference, Actual, Action, assigning, jumping, choosing, branching, testing_condition, entering_block, entering_loop, ending_loop, calling, creating, purging, printing, continuing, leaving, resuming, stopping, Next, wants, does, next_of, plug_work}
use Rattle.hep_machine.specs.Locations.{Scope, storage_of, location_of_name}
use Rattle.hep_machine.specs.Shapes.{natural}
use Rattle.hep_machine.specs.State.{Cell, Level, Loop, Process, State, doing, Location, Store}
use Rattle.hep_machine.specs.Storage.{with_value, with_cell, with_empty, emptied_from}
use Rattle.hep_source.specs.Units.{Units, unit_at, line_at, executable_from, subroutine_called, function_called, function_name}
use Rattle.hep_source.specs.Defaults.{no_unit}
use Rattle.hep_machine.specs.Processes.{living, unit_of, activation_of, with_process, loop_at, with_loop}

-- ---- a redex: "Steps"

-- the storage unit that an access waits for, and whether it waits until the unit is full or until it is empty
pub record Wanted : Type 0 where
  pub at : Location
  pub full : Bool

-- the result of a redex: a value and the store after it, or what it waits for, or its fault
pub data Answer : Type 0 where
  gives : (v : Value) (store : Store) → Answer
  waits : (w : Wanted) → Answer
  fails : (k : Kind) → Answer

abbrev pub by_result : Result Value Kind → Store → Answer
by_result (Ok v) store = gives v store
by_result (Err k) store = fails k

-- the result of an access to a storage unit, by its outcome for the cell
abbrev pub answer_at : Store → Location → Outcome → Answer
answer_at store at (access.gives v) = gives v store
answer_at store at (access.makes v cell) = gives v (with_cell store at cell)
answer_at store at (access.waits full) = waits (record { at = at; full = full })
answer_at store at access.undefined = fails Undefined

abbrev pub answer_of_read : Bool → Store → Location → Answer
answer_of_read false store at = answer_at store at (access.reading (store at))
answer_of_read true store at = answer_at store at (reading_asynchronous (store at))

abbrev pub answer_of_read_at : Bool → Store → Result Location Kind → Answer
answer_of_read_at asynchronous store (Err k) = fails k
answer_of_read_at asynchronous store (Ok at) = answer_of_read asynchronous store at

abbrev pub answer_of_test : StateFunction → Store → Location → Answer
answer_of_test IsFull store at = gives (Truth (is_full (store at))) store
answer_of_test IsEmpty store at = gives (Truth (is_empty (store at))) store
answer_of_test ValueOf store at = answer_at store at (access.reading (store at))
answer_of_test SetEmpty store at = answer_at store at (setting_empty (store at))
answer_of_test WaitFull store at = answer_at store at (waiting_full (store at))

abbrev pub answer_of_test_at : StateFunction → Store → Result Location Kind → Answer
answer_of_test_at f store (Err k) = fails k
answer_of_test_at f store (Ok at) = answer_of_test f store at

abbrev pub answer_of : Scope → Store → Redex → Answer
answer_of scope store (reading r) = answer_of_read_at r.0.asynchronous store (location_of_name scope r.0 r.1)
answer_of scope store (signing s v) = by_result (signed_value s v) store
answer_of scope store (negating v) = by_result (negated_value v) store
answer_of scope store (combining o v w) = by_result (combined_value o v w) store
answer_of scope store (applying f vs) = by_result (function_value f vs) store
answer_of scope store (testing f r) = answer_of_test_at f store (location_of_name scope r.0 r.1)

-- ---- the result of a turn: "Steps"

pub data StepResult : Type 0 where
  stepped : (s : State) → StepResult
  waiting : (w : Wanted) → StepResult
  absent : StepResult

-- a living process in a state: its top level, and the levels below
pub record Top : Type 0 where
  pub state : State
  pub process : ℕ
  pub level : Level
  pub below : Process

abbrev pub unit_on_top : Units → Top → List Statement
unit_on_top program t = unit_at program (unit_of t.state t.level.activation)

abbrev pub scope_of : Units → State → ℕ → Scope
scope_of program s a =
    record { unit = unit_at program (unit_of s a); number = a; dummies = (activation_of s a).dummies }

-- the state with this level on top of the process
abbrev pub state_with_level : Top → Level → State
state_with_level t level = with_process t.state t.process (level ∷ t.below)

abbrev pub state_with_store : Top → Store → Level → State
state_with_store t store level = record (state_with_level t level) { store = store }

-- ---- faults: "Steps"

abbrev pub fault_of : Units → Top → Kind → Fault
fault_of program t k =
    record {
      process = t.process;
      unit = unit_of t.state t.level.activation;
      line = line_at (unit_on_top program t) t.level.statement;
      kind = k;
    }

-- the result of a fault: it is recorded, and its process ends
abbrev pub result_after_fault : Units → Top → Kind → StepResult
result_after_fault program t k =
    stepped (with_process (record t.state { faults = t.state.faults ++ fault_of program t k ∷ [] }) t.process [])

abbrev pub result_after_answer : Units → Top → Answer → StepResult
result_after_answer program t (gives v store) =
    stepped (state_with_store t store (record t.level { work = plug_work (unit_on_top program t) t.level.work v }))
result_after_answer program t (waits w) = waiting w
result_after_answer program t (fails k) = result_after_fault program t k

-- ---- assignment (X3.9-1978, 10.1 and 10.2) and PURGE

abbrev pub written : Bool → Value → Cell → Outcome
written false v cell = writing v cell
written true v cell = writing_asynchronous v cell

-- the result of an assignment: after the value is stored the process continues at this level
abbrev pub result_after_write : Units → Top → Level → Answer → StepResult
result_after_write program t level (gives v store) = stepped (state_with_store t store level)
result_after_write program t level (waits w) = waiting w
result_after_write program t level (fails k) = result_after_fault program t k

abbrev pub result_after_store : Units → Bool → Top → Location → Value → Level → StepResult
result_after_store program asynchronous t at v level =
    result_after_write program t level (answer_at t.state.store at (written asynchronous v (t.state.store at)))

abbrev pub result_after_assignment : Units → Top → Bool → Result Location Kind → Value → StepResult
result_after_assignment program t asynchronous (Err k) v = result_after_fault program t k
result_after_assignment program t asynchronous (Ok at) v =
    result_after_store program asynchronous t at v (level_after_statement (unit_on_top program t) t.level)

-- the store after PURGE of a scalar or an element, by its location or the fault of its subscripts
abbrev pub store_after_purge_at : Store → Result Location Kind → Result Store Kind
store_after_purge_at store (Err k) = Err k
store_after_purge_at store (Ok at) = Ok (with_empty store at)

abbrev pub store_after_purge_of : Scope → Reference → Store → Result Store Kind
store_after_purge_of scope r store =
    if is_array scope.unit r.0 && not (is_nonempty r.1)
    then Ok (emptied_from (storage_of scope r.0).rest (storage_of scope r.0).start store)
    else store_after_purge_at store (location_of_name scope r.0 r.1)

abbrev pub store_after_both : Result Store Kind → (Store → Result Store Kind) → Result Store Kind
store_after_both (Err k) more = Err k
store_after_both (Ok store) more = more store

abbrev pub store_after_purge : Scope → List Reference → Store → Result Store Kind
store_after_purge scope [] store = Ok store
store_after_purge scope (r ∷ rs) store = store_after_both (store_after_purge_of scope r store) (store_after_purge scope rs)

-- the result of a PURGE; a fault changes no storage unit
abbrev pub result_after_purge : Units → Top → Result Store Kind → StepResult
result_after_purge program t (Err k) = result_after_fault program t k
result_after_purge program t (Ok store) = stepped (state_with_store t store (level_after_statement (unit_on_top program t) t.level))

-- ---- DO: X3.9-1978, 11.10.3 to 11.10.7

-- the iteration count, by the initial value, the terminal value and the increment: 0 where the quotient is negative
abbrev pub iterations : ℤ → ℤ → ℤ → Result ℤ Kind
iterations m n (pos zero) = Err Step
iterations m n (pos (suc k)) = integer_or_overflow (pos (natural (int_div ((n -ℤ m) +ℤ pos (suc k)) (pos (suc k)))))
iterations m n (negsuc k) = integer_or_overflow (pos (natural (int_div ((n -ℤ m) +ℤ negsuc k) (negsuc k))))

-- the level in the range where iterations are left, and else after the DO
abbrev pub level_after_count : List Statement → Level → ℕ → ℤ → Level
level_after_count unit level d count = if int_lt (pos 0) count then level_in_range unit level d else level_after_loop unit level d

-- the state after a DO at index d sets its variable and its iteration count
abbrev pub state_after_count : Units → Top → ℕ → Location → ℤ → ℤ → ℤ → State
state_after_count program t d at value count increment =
    state_with_store t (with_value t.state.store at (Some (Int value))) (
    level_after_count (unit_on_top program t) (record t.level { loops = with_loop t.level.loops (record { statement = d; count = count; increment = increment }) }) d count)

abbrev pub result_after_do : Units → Top → Result Location Kind → ℤ → ℤ → Result ℤ Kind → StepResult
result_after_do program t at m increment (Err k) = result_after_fault program t k
result_after_do program t (Err k) m increment (Ok count) = result_after_fault program t k
result_after_do program t (Ok at) m increment (Ok count) = stepped (state_after_count program t t.level.statement at m count increment)

abbrev pub result_after_increment : Units → Top → Loop → Location → Result ℤ Kind → StepResult
result_after_increment program t l at (Err k) = result_after_fault program t k
result_after_increment program t l at (Ok z) = stepped (state_after_count program t l.statement at z (l.count -ℤ pos 1) l.increment)

-- the result of the end of an iteration: the increment is added to the variable, and the count falls by 1
abbrev pub result_after_loop_variable : Units → Top → Loop → Location → Option Value → StepResult
result_after_loop_variable program t l at None = result_after_fault program t Undefined
result_after_loop_variable program t l at (Some v) = result_after_increment program t l at (integer_or_overflow (integer_of v +ℤ l.increment))

abbrev pub result_after_loop_end : Units → Top → Loop → Result Location Kind → StepResult
result_after_loop_end program t l (Err k) = result_after_fault program t k
result_after_loop_end program t l (Ok at) = result_after_loop_variable program t l at (t.state.store at).value

-- ---- CALL, CREATE and RETURN: 15.6.2 and 15.8

-- the level of a new activation, at the first executable statement of its unit
abbrev pub entry_level : List Statement → ℕ → Level
entry_level unit a =
    level_at_statement unit (record { activation = a; statement = 0; work = doing [] End; loops = [] }) (executable_from unit 0)

abbrev pub next_activation : State → ℕ
next_activation s = length s.activations + 1

-- the state with one more activation, of unit u, whose parent is the top activation
abbrev pub with_activation : Top → ℕ → Binding → State
with_activation t u b =
    record t.state {
      activations = t.state.activations ++ record { unit = u; parent = Some t.level.activation; dummies = b.dummies } ∷ [];
      store = b.store;
    }

abbrev pub result_after_call : Units → Top → ℕ → Result Binding Kind → StepResult
result_after_call program t u (Err k) = result_after_fault program t k
result_after_call program t u (Ok b) =
    stepped (with_process (with_activation t u b) t.process (entry_level (unit_at program u) (next_activation t.state) ∷ (t.level ∷ t.below)))

abbrev pub with_new_process : State → Process → State
with_new_process s q = record s { processes = s.processes ++ q ∷ [] }

-- the result of CREATE; the new process has the next number
abbrev pub result_after_create : Units → Top → ℕ → Result Binding Kind → StepResult
result_after_create program t u (Err k) = result_after_fault program t k
result_after_create program t u (Ok b) =
    stepped (with_new_process (with_process (with_activation t u b) t.process (level_after_statement (unit_on_top program t) t.level ∷ t.below)) (
    entry_level (unit_at program u) (next_activation t.state) ∷ []))

abbrev pub unit_called : Units → Name → ℕ
unit_called program x = unwrap_or (subroutine_called program x) no_unit

abbrev pub binding_of : Units → Top → ℕ → List Actual → Result Binding Kind
binding_of program t u actuals =
    binding_for (scope_of program t.state t.level.activation) t.state.store (unit_at program u) (next_activation t.state) actuals

-- the stack after an activation ended: its caller continues after its CALL
abbrev pub stack_after_return : Units → State → Process → Process
stack_after_return program s [] = []
stack_after_return program s (level ∷ levels) = level_after_statement (unit_at program (unit_of s level.activation)) level ∷ levels

-- ---- functions: 15.5

abbrev pub function_unit : Units → Name → ℕ
function_unit program x = unwrap_or (function_called program x) no_unit

-- the result for a needed value: a redex is evaluated, or the activation of a function begins
abbrev pub result_after_sought : Units → Top → RedexOrReference → StepResult
result_after_sought program t (evaluating r) =
    result_after_answer program t (answer_of (scope_of program t.state t.level.activation) t.state.store r)
result_after_sought program t (referring x actuals) =
    result_after_call program t (function_unit program x) (binding_of program t (function_unit program x) actuals)

-- the stack after a function ended: its value replaces its reference in the level below
abbrev pub stack_after_value : Units → State → Value → Process → Process
stack_after_value program s v [] = []
stack_after_value program s v (level ∷ levels) =
    record level { work = plug_work (unit_at program (unit_of s level.activation)) level.work v } ∷ levels

abbrev pub result_after_value : Units → Top → Option Value → StepResult
result_after_value program t None = result_after_fault program t Undefined
result_after_value program t (Some v) = stepped (with_process t.state t.process (stack_after_value program t.state v t.below))

abbrev pub result_after_result : Units → Top → Result Location Kind → StepResult
result_after_result program t (Err k) = result_after_fault program t k
result_after_result program t (Ok at) = result_after_value program t (t.state.store at).value

-- the result of the end of an activation; that of a function gives the value of the variable with its name
abbrev pub result_after_leaving : Units → Top → Option Name → StepResult
result_after_leaving program t None = stepped (with_process t.state t.process (stack_after_return program t.state t.below))
result_after_leaving program t (Some x) =
    result_after_result program t (location_of_name (scope_of program t.state t.level.activation) x [])

-- ---- RESUME: docs/LANGUAGE.md, 9

-- the state after RESUME: an activation with a caller becomes the next process, and the caller continues after its CALL
abbrev pub state_resumed : Units → Top → Process → State
state_resumed program t [] = state_with_level t (level_after_statement (unit_on_top program t) t.level)
state_resumed program t (caller ∷ callers) =
    with_new_process (with_process t.state t.process (stack_after_return program t.state (caller ∷ callers))) (
    level_after_statement (unit_on_top program t) t.level ∷ [])

-- ---- actions: "Steps"

abbrev pub result_after_action : Units → Top → Action → StepResult
result_after_action program t (assigning r v) =
    result_after_assignment program t r.0.asynchronous (location_of_name (scope_of program t.state t.level.activation) r.0 r.1) v
result_after_action program t (jumping l) = stepped (state_with_level t (level_at_label (unit_on_top program t) t.level l))
result_after_action program t (choosing labels v) =
    stepped (state_with_level t (level_at_choice (unit_on_top program t) t.level (label_chosen labels (integer_of v))))
result_after_action program t (branching labels v) =
    stepped (state_with_level t (level_at_label (unit_on_top program t) t.level (label_by_sign labels (integer_of v))))
result_after_action program t (testing_condition v) = stepped (state_with_level t (level_after_condition (unit_on_top program t) t.level (logical_of v)))
result_after_action program t (entering_block v) = stepped (state_with_level t (level_in_block (unit_on_top program t) t.level (logical_of v)))
result_after_action program t (entering_loop x m n k) =
    result_after_do program t (location_of_name (scope_of program t.state t.level.activation) x []) (integer_of m) (integer_of k) (
    iterations (integer_of m) (integer_of n) (integer_of k))
result_after_action program t (ending_loop d) =
    result_after_loop_end program t (loop_at t.level.loops d) (
    location_of_name (scope_of program t.state t.level.activation) (variable_of (unit_on_top program t) d) [])
result_after_action program t (calling x actuals) =
    result_after_call program t (unit_called program x) (binding_of program t (unit_called program x) actuals)
result_after_action program t (creating x actuals) =
    result_after_create program t (unit_called program x) (binding_of program t (unit_called program x) actuals)
result_after_action program t (purging targets) =
    result_after_purge program t (store_after_purge (scope_of program t.state t.level.activation) targets t.state.store)
result_after_action program t (printing items) =
    stepped (record (state_with_level t (level_after_statement (unit_on_top program t) t.level)) { records = t.state.records ++ items ∷ [] })
result_after_action program t continuing = stepped (state_with_level t (level_after_statement (unit_on_top program t) t.level))
result_after_action program t leaving = result_after_leaving program t (function_name (unit_on_top program t))
result_after_action program t resuming = stepped (state_resumed program t t.below)
result_after_action program t stopping = stepped (record t.state { halted = true })

abbrev pub result_after_next : Units → Top → Next → StepResult
result_after_next program t (wants r) = result_after_sought program t r
result_after_next program t (does a) = result_after_action program t a

abbrev pub step_result_of_top : Units → State → ℕ → Option (Level × Process) → StepResult
step_result_of_top program s p None = absent
step_result_of_top program s p (Some top) =
    result_after_next program (record { state = s; process = p; level = top.0; below = top.1 }) (
    next_of (unit_at program (unit_of s top.0.activation)) top.0.work)

-- the result of a turn of process p; `absent` where p isn't alive
unfoldable pub step_result_of : Units → ℕ → State → StepResult
step_result_of program p s = step_result_of_top program s p (living s p)

abbrev pub state_made : StepResult → Option State
state_made (stepped s) = Some s
state_made (waiting w) = None
state_made absent = None

-- the state after a step of process p; none where the machine is halted, p isn't alive, or p waits
abbrev pub step : Units → ℕ → State → Option State
step program p s = if s.halted then None else state_made (step_result_of program p s)

abbrev pub wanted_of : StepResult → Option Wanted
wanted_of (stepped s) = None
wanted_of (waiting w) = Some w
wanted_of absent = None

-- what the next step of process p waits for; none where p isn't alive or doesn't wait
abbrev pub wanted_by : Units → ℕ → State → Option Wanted
wanted_by program p s = wanted_of (step_result_of program p s)

-- whether p is alive and its next step waits for a storage unit
abbrev pub is_waiting : Units → State → ℕ → Bool
is_waiting program s p = is_some (wanted_by program p s)
