-- The reply of an operation that gives a value or stores one, by a core's machine: docs/MACHINE.md, "Steps".
use Rattle.std.specs.Prelude.{◌≡◌, ℕ, ◌-◌, List, drop, length, Option, Some, None, Result, Ok, Err}
use Rattle.hep_code.specs.declared.instruction.Operation.{Operation}
use Rattle.hep_code.specs.declared.instruction.Operation.TheVariants.{Evaluate, Store}
use Rattle.hep_code.specs.declared.variable.Variable.{Variable}
use Rattle.hep_code.specs.Words.{Addressing, Reply, accessed, arity, first_operand, reply_of, reply_to_store, result}
use Rattle.hep_image.specs.Addressing.{cells_in}
use Rattle.hep_machine.specs.declared.event.Kind.{Kind}
use Rattle.hep_machine.specs.declared.slot.Slot.{Slot}
use Rattle.hep_machine.specs.Evaluation.{reading}
use Rattle.hep_machine.specs.Words.{Location, Next, Reference, Units, Value, assigning, does, evaluating, testing, wants}
use Rattle.hep_proc.specs.declared.process.Local.{Local}
use Rattle.hep_state.specs.Words.{Snapshot, node_under}
use Rattle.hep_step.specs.Effects.{subscripts_in}
use Rattle.hep_step.specs.Simulation.{found_in}
use Rattle.hep_event.specs.declared.next_operation.NextOperation.{NextOperation}

-- with these operands; the last ones are those of an evaluation
abbrev pub replied : (ℕ → Slot) → (Variable → List Value → Result ℕ Kind) → Operation → List Value → Option Reply
replied cells address (Evaluate e) vs = Some (reply_of cells address e (drop (length vs - arity e) vs))
replied cells address (Store x n next) vs = Some (reply_to_store cells address x (first_operand vs) (subscripts_in vs))
replied cells address _ vs = None

-- the addresses of an activation's variables, at a level
abbrev pub found_at : Units → Snapshot → Local → Variable → List Value → Result ℕ Kind
found_at program m l = found_in program l.unit m.arena.contents (node_under m.nodes l.key).first

abbrev pub replied_at : Units → Snapshot → Local → NextOperation → Option Reply
replied_at program m l c = replied (cells_in m.arena.contents) (found_at program m l) c.operation c.operands.items

-- ---- what is accessed

-- what comes next accesses this variable or element
abbrev pub IsAccessed : Next → Reference → Type 0
IsAccessed (wants (evaluating (reading r))) x = x ≡ r
IsAccessed (wants (evaluating (testing f r))) x = x ≡ r
IsAccessed (does (assigning r v)) x = x ≡ r
IsAccessed _ x = ⊥

-- a reply is by the cell of a location, or is the fault for which there is none
abbrev pub IsOfLocation : Addressing → Reply → Result Location Kind → Type 0
IsOfLocation addressing (accessed cell outcome) (Ok at) = addressing at ≡ Some cell
IsOfLocation addressing (result (Err k)) (Err l) = k ≡ l
IsOfLocation addressing _ _ = ⊥
