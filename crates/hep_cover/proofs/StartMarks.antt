-- What steps begin, by where in the code they begin.
use Rattle.std.proofs.Common.{◌≡◌, ℕ, zero, suc, ◌+◌, ◌<◌, false, List, [], ◌∷◌, drop, length, Some, None, refl, sym, ap, ◌∙◌, arith, nat_eq, if◌then◌else◌}
use Rattle.std.proofs.lemmas.Bool.Decides.{nat_tests}
use Rattle.hep_cover.proofs.StatementCode.{left-ahead, values-passed}
use Rattle.hep_cover.specs.RemainingOperations.{operations_ahead}
use Rattle.hep_cover.specs.StatementStarts.{at_line, begun, begun_by, begun_with}
use Rattle.hep_cover.specs.OperationCounts.{in_operands, in_statement, in_tree, left_of}
use Rattle.hep_code.specs.declared.instruction.Instruction.{Instruction}
use Rattle.hep_code.specs.Words.{Stands, line_ahead}
use Rattle.hep_machine.specs.Words.{Form, Statement, Tree, Work, doing, ending, line_at, unit_at, unit_of}
use Rattle.hep_step.specs.SilentSteps.{IsSettledTo}
use Rattle.hep_state.proofs.SilentTurns.{standing-before, unit-is}
use Rattle.hep_state.specs.Words.{IsTurning, TurnOf, state_before}
use Rattle.hep_step.specs.PerformedSteps.{Snapshot}
use Rattle.hep_step.specs.Simulation.{unit_addressed, unit_code}
use Rattle.hep_views.proofs.StateViews.{line-after, line-is}
use Rattle.hep_cover.specs.StartMarks.{begun_ahead, mark, mark_at, marks}

-- ---- what a table has

pub mark-there : (operations : List ℕ) (code : List Instruction) (i : ℕ) → mark_at (marks operations code) i ≡ mark operations (drop i code)
mark-there operations [] zero = refl
mark-there operations [] (suc i) = refl
mark-there operations (x ∷ code) zero = refl
mark-there operations (x ∷ code) (suc i) = mark-there operations code i

-- with one more entry
pub marks-next : (operations : List ℕ) (code : List Instruction) (i : ℕ) → i < length code
    → marks operations (drop i code) ≡ mark operations (drop i code) ∷ marks operations (drop (suc i) code)
marks-next operations [] i less = absurd (omega (arith, less))
marks-next operations (x ∷ code) zero less = refl
marks-next operations (x ∷ code) (suc i) less = marks-next operations code i (omega (arith, less))

-- ---- values that stand in front

pub mark-settled : (operations : List ℕ) (code : List Instruction) (s t : Snapshot) → IsSettledTo code s t
    → mark operations (drop t.index code) ≡ mark operations (drop s.index code)
mark-settled operations code s t is =
    let line : line_ahead (drop t.index code) ≡ line_ahead (drop s.index code) =
    sym (line-after t.operands (drop t.index code)) ∙ ap line_ahead is.same ∙ line-after s.operands (drop s.index code) in
    let ahead : operations_ahead (drop t.index code) ≡ operations_ahead (drop s.index code) =
    sym (values-passed t.operands (drop t.index code)) ∙ ap operations_ahead is.same ∙ values-passed s.operands (drop s.index code) in
    λ i. begun_ahead operations (line i) (ahead i)

-- ---- a statement has one operation at least

some-operation : (unit : List Statement) (ts : List Tree) (f : Form) → (n : ℕ) × (in_statement unit ts f ≡ suc n)
some-operation unit [] f = (in_operands unit f, omega arith)
some-operation unit (t ∷ ts) f = (in_tree unit t + in_statement unit ts f, omega arith)

begun-doing : (operations : List ℕ) (line n k : ℕ) → n ≡ suc k
    → begun_ahead operations line n ≡ (if nat_eq (at_line operations line) n then Some line else None)
begun-doing operations line n k e =
    let some : nat_eq n 0 ≡ false = grind (arith, nat_tests, e) in
    ap (λ b. if b then None else (if nat_eq (at_line operations line) n then Some line else None)) some

begun-work : (operations : List ℕ) (line : ℕ) (unit : List Statement) (work : Work)
    → begun_ahead operations line (left_of unit work) ≡ begun_by operations line unit work
begun-work operations line unit (doing ts f) = let some = some-operation unit ts f in begun-doing operations line (in_statement unit ts f) some.0 some.1
begun-work operations line unit (ending d) = refl

-- ---- the top activation of a process whose turn it is

pub begun-is : (t : TurnOf) (turns : IsTurning t) (operations : List ℕ)
    → mark operations (drop t.level.index (unit_code t.program t.level.unit)) ≡ begun t.program operations t.process (state_before t)
begun-is t turns operations =
    let s = state_before t in
    let top = t.top.0 in
    let stands : Stands (unit_addressed t.program t.level.unit) top.statement top.work t.operands t.level.index =
    (standing-before turns).0.stands in
    let u : t.level.unit ≡ unit_of s top.activation = sym (unit-is turns) in
    let at : line_ahead (drop t.level.index (unit_code t.program t.level.unit)) ≡ line_at (unit_at t.program (unit_of s top.activation)) top.statement =
    line-is (unit_addressed t.program t.level.unit) top.statement top.work t.operands t.level.index stands
    ∙ ap (λ v. line_at (unit_at t.program v) top.statement) u in
    let left : operations_ahead (drop t.level.index (unit_code t.program t.level.unit)) ≡ left_of (unit_at t.program (unit_of s top.activation)) top.work =
    left-ahead (unit_addressed t.program t.level.unit) top.statement top.work t.operands t.level.index stands
    ∙ ap (λ v. left_of (unit_at t.program v) top.work) u in
    (λ i. begun_ahead operations (at i) (left i))
    ∙ begun-work operations (line_at (unit_at t.program (unit_of s top.activation)) top.statement)
    (unit_at t.program (unit_of s top.activation)) top.work
    ∙ ap (begun_with t.program operations s) (sym turns.lives)
