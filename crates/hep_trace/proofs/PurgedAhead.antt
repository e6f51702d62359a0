-- The entries of a PURGE that comes next of a process are its targets.
use Rattle.std.proofs.Common.{◌≡◌, ◌≢◌, ℕ, suc, ◌+◌, ◌<◌, true, List, ◌∷◌, ◌++◌, drop, length, map, take, Some, refl, sym, ap, ◌∙◌, subst, is_some, slice_get}
use Rattle.std.specs.List.{flat_map}
use Rattle.std.specs.Option.{option_map}
use Rattle.std.proofs.Math.Seq.{take-append_seam, drop-append_seam}
use Rattle.std.proofs.lemmas.Option.{slice_get-map}
use Rattle.hep_accepted_laws.specs.Instructions.{variables_in}
use Rattle.hep_accepted_laws.specs.PlacedCode.{ArePlaced, code_in}
use Rattle.hep_code.specs.declared.instruction.Instruction.{Instruction}
use Rattle.hep_code.specs.declared.instruction.Instruction.TheVariants.{Pass, Step}
use Rattle.hep_code.specs.declared.variable.Variable.TheVariants.{Absent}
use Rattle.hep_code.specs.StatementCode.{referred_argument}
use Rattle.hep_conditions.specs.Words.{IsAccepted}
use Rattle.hep_image.specs.Places.{variable_of}
use Rattle.hep_machine.specs.Words.{Level, Process, Reference, State, Statement, Units, does, main_among, next_of, purging, run, unit_at, unit_of}
use Rattle.hep_step.proofs.RunningActivations.{coming}
use Rattle.hep_step.proofs.RunningActivations as running
use Rattle.hep_state.specs.Words.{HasLevels, IsTopRunning, IsTurning, TurnOf, snapshot_of}
use Rattle.hep_state.proofs.TopActivations.{dropped-behind}
use Rattle.hep_event.proofs.Answered as answered
use Rattle.hep_event.proofs.TopPositions.{settled-there, settled-turn, turn, unit-inside}
use Rattle.hep_source.proofs.Tests.{at-front}
use Rattle.hep_event.proofs.FoundVariables.{levels-of, same-top}
use Rattle.hep_trace.specs.declared.reference.LiveProcess.{LiveProcess}
use Rattle.hep_trace.specs.References.{IsAhead}
use Rattle.hep_code.specs.declared.instruction.Argument.{Argument}
use Rattle.hep_code.specs.declared.instruction.Argument.TheVariants.{Referred}
use Rattle.hep_code.specs.declared.variable.Variable.{Variable}

module _ (cells : ℕ) (choices : List ℕ) (ahead : LiveProcess) (top : Level × Process) (h : IsAhead cells choices ahead top) (targets : List Reference) where
  abbrev program : Units
  program = ahead.image.now

  abbrev s : State
  s = run program choices

  abbrev unit : List Statement
  unit = unit_at program (unit_of s top.0.activation)

  -- the entries are those of the targets, the operands their subscripts, and each one's variable has storage units
  pub record AreTargets : Type 0 where
    pub operands : ahead.coming.now.operands.items ≡ flat_map (λ (r : Reference). r.1) targets
    pub more : List Instruction
    pub entries : ahead.coming.now.behind.now ≡ map (λ r. Pass (referred_argument (variable_of program unit) r)) targets ++ more
    pub placed : (i : ℕ) (r : Reference) → slice_get targets i ≡ Some r → variable_of program unit r.0 ≢ Absent

  pub targets-are : IsAccepted program → is_some (main_among program) ≡ true
      → ((t : TurnOf) → IsAccepted t.program → is_some (main_among t.program) ≡ true → (turning : IsTurning t) → IsTopRunning t turning)
      → ((program : Units) (u i : ℕ) (x : Instruction) → IsAccepted program → u < length program → slice_get (code_in program u) i ≡ Some x → ArePlaced (variables_in x))
      → next_of unit top.0.work ≡ does (purging targets) → AreTargets
  targets-are accepted main runs_so placed_so next =
      let m = ahead.machine.now in
      let lives = h.lives in
      let levels : HasLevels (snapshot_of m) ahead.process = levels-of lives in
      let k = h.coming levels in
      let c = ahead.coming.now in
      let t = turn m lives.after lives.running levels in
      let same : t.0 ≡ top = same-top lives levels in
      let runs = runs_so (settled-turn m lives.after lives.running levels c k) accepted main (settled-there m lives.after lives.running levels c k) in
      let r = answered.r m lives.after lives.running levels c k runs in
      let there = subst (λ (z : Level × Process). next_of (unit_at program (unit_of s z.0.activation)) z.0.work ≡ does (purging targets)) (sym same) next in
      let is = subst (λ n. running.Comes r n c.operation c.behind.now) there (answered.comes m lives.after lives.running levels c k runs) in
      let units : unit_of s t.0.0.activation ≡ unit_of s top.0.activation = ap (λ (z : Level × Process). unit_of s z.0.activation) same in
      let entries = is.entries ∙ ap (λ u. map (λ x. Pass (referred_argument (variable_of program (unit_at program u)) x)) targets ++ is.more) units in
      record {
        operands = is.operands_are;
        more = is.more;
        entries = entries;
        placed = λ i x e.
            let entry : Instruction = Pass (referred_argument (variable_of program unit) x) in
            let behind : slice_get c.behind.now i ≡ Some entry = ap (λ xs. slice_get xs i) entries
            ∙ at-front (map (λ y. Pass (referred_argument (variable_of program unit) y)) targets) is.more i entry (slice_get-map (λ y. Pass (referred_argument (variable_of program unit) y)) targets i ∙ ap (option_map (λ y. Pass (referred_argument (variable_of program unit) y))) e) in
            let code = dropped-behind (code_in program levels.level.unit) k.index i (Step c.line c.operation) c.behind.now entry k.ahead behind in
            placed_so program levels.level.unit (suc (k.index + i)) entry accepted (unit-inside m lives.after levels) code 0 (variable_of program unit x.0) refl;
      }

-- what is left of the operands once those of one target are taken
pub taken : (r : Reference) (rest : List Reference) → take (length r.1) (flat_map (λ (q : Reference). q.1) (r ∷ rest)) ≡ r.1
taken r rest = take-append_seam r.1 (flat_map (λ (q : Reference). q.1) rest)

pub left : (r : Reference) (rest : List Reference) → drop (length r.1) (flat_map (λ (q : Reference). q.1) (r ∷ rest)) ≡ flat_map (λ (q : Reference). q.1) rest
left r rest = drop-append_seam r.1 (flat_map (λ (q : Reference). q.1) rest)

-- an instruction passes one argument, and so one variable and one number of subscripts
pub passed : (entry : Instruction) (a : Argument) (v w : Variable) (m n : ℕ) → entry ≡ Pass a → a ≡ Referred v m → entry ≡ Pass (Referred w n) → (w ≡ v) × (m ≡ n)
passed entry a v w m n e f g =
    let variable : w ≡ v = cc in
    let count : m ≡ n = cc in
    (variable, count)
