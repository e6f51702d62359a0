-- What comes next of a statement accesses no variable of a name, where the operation ahead isn't watched.
use Rattle.std.proofs.Common.{◌≡◌, ◌≢◌, ℕ, ◌+◌, Bool, true, false, true≢false, ◌||◌, List, [], ◌∷◌, ◌++◌, drop, Some, slice_get, refl, sym, ap, subst}
use Rattle.std.specs.List.{list_any}
use Rattle.std.specs.Str.{bytes_eq}
use Rattle.hep_accepted_laws.specs.Instructions.{variables_in_operation}
use Rattle.hep_accepted_laws.specs.PlacedCode.{ArePlaced}
use Rattle.hep_code.proofs.ControlFlow.{drop_one_more, pushed}
use Rattle.hep_code.specs.declared.instruction.Instruction.{Instruction}
use Rattle.hep_code.specs.declared.instruction.Instruction.TheVariants.{Push, Step}
use Rattle.hep_code.specs.declared.instruction.Operation.{Operation}
use Rattle.hep_code.specs.declared.variable.Variable.{Variable}
use Rattle.hep_code.specs.declared.variable.Variable.TheVariants.{Absent}
use Rattle.hep_code.specs.Words.{AddressedUnit, Stands, code_of, IsAction, IsNext}
use Rattle.hep_image.specs.Places.{variable_of}
use Rattle.hep_machine.specs.Evaluation.{reading}
use Rattle.hep_machine.specs.Words.{Action, Name, Next, Redex, Reference, Statement, Top, Units, Value, Work, spelling, unit_of, unit_on_top, wants, does, evaluating, referring, testing, assigning, entering_loop, ending_loop, purging, variable_of as loop_variable}
use Rattle.hep_step.specs.Simulation.{unit_addressed, unit_arrays}
use Rattle.hep_event.specs.AccessedNames.{has_name, references_of}
use Rattle.hep_event.specs.VariableBreakpoints.{IsWatchedAhead, IsWatchedBy, IsWatchedVariable, is_dummy}
use Rattle.hep_event.proofs.OwnNames.{declared-otherwise, no-dummy}

neither : (a b : Bool) → false ≡ (a || b) → (a ≡ false) × (b ≡ false)
neither true b e = absurd (true≢false (sym e))
neither false b e = (refl, sym e)

-- ---- values that stand ahead

-- an operation that isn't watched stands ahead of a statement behind some values
pub record HasUnwatched (program : Units) (u : ℕ) (name : List ℕ) (addressed : AddressedUnit) (k : ℕ) (work : Work) : Type 0 where
  pub operands : List Value
  pub index : ℕ
  pub stands : Stands addressed k work operands index
  pub line : ℕ
  pub operation : Operation
  pub behind : List Instruction
  pub ahead : drop index (code_of addressed) ≡ Step line operation ∷ behind
  pub unwatched : IsWatchedBy program u name operation false

module _ (program : Units) (u : ℕ) (name : List ℕ) (addressed : AddressedUnit) (k : ℕ) (work : Work) where
  pub settled : (rest : List Instruction) (operands : List Value) (index : ℕ) → Stands addressed k work operands index → drop index (code_of addressed) ≡ rest → IsWatchedAhead program u name rest false
      → HasUnwatched program u name addressed k work
  settled (Push v ∷ is) operands index stands e unwatched =
      settled is (operands ++ v ∷ []) (index + 1) (pushed addressed k work operands index stands v is e) (drop_one_more (code_of addressed) index (Push v) is e) unwatched
  settled (Step line o ∷ is) operands index stands e unwatched =
      record { operands = operands; index = index; stands = stands; line = line; operation = o; behind = is; ahead = e; unwatched = unwatched }
  settled [] operands index stands e unwatched = absurd (true≢false (sym unwatched))
  settled (_ ∷ is) operands index stands e unwatched = absurd (true≢false (sym unwatched))

-- ---- what comes next

module _ (program : Units) (t : Top) (name : List ℕ) where
  abbrev u : ℕ
  u = unit_of t.state t.level.activation

  abbrev unit : List Statement
  unit = unit_on_top program t

  abbrev variables : Name → Variable
  variables = variable_of program unit

  -- a variable that isn't watched has another name
  other-name : (x : Reference) → variables x.0 ≢ Absent → IsWatchedVariable program u name (variables x.0) false → has_name program t name x ≡ false
  other-name x placed unwatched =
      let own = neither (is_dummy (unit_arrays program u) (variables x.0)) (bytes_eq name (spelling x.0)) (unwatched x.0 (refl, placed)) in
      let declared = declared-otherwise name _ x.0 x.1 own.1 (no-dummy program u x.0 own.0) in
      λ i. own.1 i || declared i

  module _ (operands : List Value) (index : ℕ) (o : Operation) (behind : List Instruction) (placed : ArePlaced (variables_in_operation o)) (unwatched : IsWatchedBy program u name o false) where
    abbrev IsAt : Next → Type 0
    IsAt n = IsNext (unit_addressed program u) t.level.statement t.level.work operands index n o behind

    abbrev Acts : Action → Type 0
    Acts a = IsAction (unit_addressed program u) t.level.statement t.level.work operands index a o behind

    -- an operation that names this variable and accesses it
    accessed : (p : Operation) (x : Reference) → o ≡ p → slice_get (variables_in_operation p) 0 ≡ Some (variables x.0) → (IsWatchedBy program u name p false → IsWatchedVariable program u name (variables x.0) false)
        → list_any (has_name program t name) (x ∷ []) ≡ false
    accessed p x is first watched =
        ap (λ b. b || false) (other-name x (subst (λ q. ArePlaced (variables_in_operation q)) is placed 0 (variables x.0) first) (watched (subst (λ q. IsWatchedBy program u name q false) is unwatched)))

    silent-redex : (r : Redex) → IsAt (wants (evaluating r)) → list_any (has_name program t name) (references_of program t (wants (evaluating r))) ≡ false
    silent-redex (reading r) is = accessed _ r is.operation refl (λ h. h)
    silent-redex (testing f r) is = accessed _ r is.operation refl (λ h. h)
    silent-redex _ is = refl

    silent-action : (a : Action) → Acts a → list_any (has_name program t name) (references_of program t (does a)) ≡ false
    silent-action (assigning r v) is = accessed _ r is.operation refl (λ h. h)
    silent-action (entering_loop x m n k) is = accessed _ (x, []) is.operation refl (λ h. h)
    silent-action (ending_loop d) is = accessed _ (loop_variable unit d, []) is.operation refl (λ h. h)
    silent-action (purging targets) is = absurd (true≢false (sym (subst (λ q. IsWatchedBy program u name q false) is.operation unwatched)))
    silent-action _ is = refl

    pub silent : (n : Next) → IsAt n → list_any (has_name program t name) (references_of program t n) ≡ false
    silent (wants (evaluating r)) is = silent-redex r is
    silent (wants (referring x actuals)) is = refl
    silent (does a) is = silent-action a is
