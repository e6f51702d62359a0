-- Turns that begin where nothing is observed need, make, change and access nothing.
use Rattle.std.proofs.Common.{◌≡◌, ◌≢◌, ℕ, zero, suc, ◌+◌, Bool, true, false, true≢false, ◌&&◌, List, [], ◌∷◌, ◌++◌, Option, Some, None, drop, length}
use Rattle.std.proofs.Common.{not, if◌then◌else◌, replicate, slice_get, refl, sym, ap, ◌∙◌, subst, arith}
use Rattle.std.specs.Option.{unwrap_or}
use Rattle.std.proofs.lemmas.Bool.{le-ltb}
use Rattle.std.specs.List.{list_any}
use Rattle.hep_accesses.specs.Accesses.{accesses_of_next, need_of_next}
use Rattle.hep_accesses.specs.Exchanges.{top_with}
use Rattle.hep_accesses.specs.RunEvents.{event_of, event_of_top}
use Rattle.hep_advance.specs.BreakpointRows.{IsUnwatched, PassesFrom, is_watched, row_in, watched_at}
use Rattle.hep_advance.specs.declared.breakpoints.Breakpoints.{Breakpoints}
use Rattle.hep_code.proofs.ControlFlow.{drop_one_more, next_is_ahead, pushed}
use Rattle.hep_code.specs.declared.instruction.Instruction.{Instruction}
use Rattle.hep_code.specs.declared.instruction.Instruction.TheVariants.{Push, Step}
use Rattle.hep_code.specs.declared.instruction.Operation.{Operation}
use Rattle.hep_code.specs.NextInCode.{IsAction, IsNext}
use Rattle.hep_code.specs.Words.{AddressedUnit, Stands, code_of, ending_of, table_of}
use Rattle.hep_code.specs.declared.variable.Variable.{Variable}
use Rattle.hep_machine.specs.Evaluation.{reading}
use Rattle.hep_machine.specs.Words.{Action, Level, Location, Next, Process, Redex, State, Top, Units, Value, Work, assigning, calling}
use Rattle.hep_machine.specs.Words.{creating, does, ending_loop, entering_loop, evaluating, leaving, next_of, purging, referring, run_from}
use Rattle.hep_machine.specs.Words.{same_location, state_after_turn, step, testing, unit_at, unit_of, wants}
use Rattle.hep_step.specs.Simulation.{unit_addressed, unit_code}
use Rattle.hep_races.proofs.ChangedUnits.{changed-units}
use Rattle.hep_races.specs.ObservedRuns.{IsQuiet}
use Rattle.hep_races.specs.StepChanges.{changes_of_next, has_failed}
use Rattle.hep_races.specs.WatchedCode.{AreWatchesFor, is_observed, is_observed_ahead}

-- ---- indexes that aren't watched

module _ (program : Units) (watches : List Breakpoints) (are : AreWatchesFor program watches) (u index : ℕ) where
  -- in a row
  unwatched-in : (w : Breakpoints) → slice_get watches u ≡ Some w → (o : Option Bool) → slice_get w.watched.items index ≡ o
      → unwrap_or o true ≡ false → false ≡ is_observed_ahead (drop index (unit_code program u))
  unwatched-in w is None at none = absurd (true≢false none)
  unwatched-in w is (Some b) at none = sym none ∙ (are.each u w is).each index b at

  -- the operation from an index that isn't watched isn't observed
  unwatched-ahead : is_watched watches u index ≡ false → false ≡ is_observed_ahead (drop index (unit_code program u))
  unwatched-ahead = by (slice_get watches u) refl
    where
      by : (o : Option Breakpoints) → slice_get watches u ≡ o → watched_at (row_in o) index ≡ false
          → false ≡ is_observed_ahead (drop index (unit_code program u))
      by None is none = absurd (true≢false none)
      by (Some w) is none = unwatched-in w is (slice_get w.watched.items index) refl none

-- ---- the operation ahead

-- one that isn't observed is ahead of a statement, after some values
record HasQuiet (addressed : AddressedUnit) (k : ℕ) (work : Work) : Type 0 where
  pub operands : List Value
  pub index : ℕ
  pub stands : Stands addressed k work operands index
  pub line : ℕ
  pub operation : Operation
  pub behind : List Instruction
  pub ahead : drop index (code_of addressed) ≡ Step line operation ∷ behind
  pub quiet : false ≡ is_observed operation

module _ (addressed : AddressedUnit) (k : ℕ) (work : Work) where
  settled : (rest : List Instruction) (operands : List Value) (index : ℕ) → Stands addressed k work operands index
      → drop index (code_of addressed) ≡ rest → false ≡ is_observed_ahead rest → HasQuiet addressed k work
  settled (Push v ∷ is) operands index stands e quiet =
      settled is (operands ++ v ∷ []) (index + 1) (pushed addressed k work operands index stands v is e)
      (drop_one_more (code_of addressed) index (Push v) is e) quiet
  settled (Step line o ∷ is) operands index stands e quiet =
      record { operands = operands; index = index; stands = stands; line = line; operation = o; behind = is; ahead = e; quiet = quiet }
  settled [] operands index stands e quiet = absurd (true≢false (sym quiet))
  settled (_ ∷ is) operands index stands e quiet = absurd (true≢false (sym quiet))

-- ---- what comes next accesses and needs nothing

module _ (program : Units) (t : Top) (operands : List Value) (index : ℕ) (o : Operation) (behind : List Instruction)
    (quiet : false ≡ is_observed o) where
  abbrev IsAt : Next → Type 0
  IsAt n = IsNext (unit_addressed program (unit_of t.state t.level.activation)) t.level.statement t.level.work operands index n o behind

  abbrev Acts : Action → Type 0
  Acts a = IsAction (unit_addressed program (unit_of t.state t.level.activation)) t.level.statement t.level.work operands index a o behind

  record AreNone (n : Next) : Type 0 where
    pub accesses : accesses_of_next program t n ≡ []
    pub needs : need_of_next program t n ≡ None
    pub changes : changes_of_next program t n ≡ []

  nothing : {n : Next} → accesses_of_next program t n ≡ [] → need_of_next program t n ≡ None → changes_of_next program t n ≡ [] → AreNone n
  nothing a b c = record { accesses = a; needs = b; changes = c }

  -- an operation that is observed isn't ahead
  no : {A : Type 0} → (p : Operation) → o ≡ p → is_observed p ≡ true → A
  no p is observed = absurd (true≢false (sym observed ∙ sym (ap is_observed is) ∙ sym quiet))

  ends : (r : Option Variable) → is_observed (ending_of r) ≡ true
  ends None = refl
  ends (Some x) = refl

  quiet-redex : (r : Redex) → IsAt (wants (evaluating r)) → AreNone (wants (evaluating r))
  quiet-redex (reading r) is = no _ is.operation refl
  quiet-redex (testing f r) is = no _ is.operation refl
  quiet-redex _ is = nothing refl refl refl

  quiet-action : (a : Action) → Acts a → AreNone (does a)
  quiet-action (assigning r v) is = no _ is.operation refl
  quiet-action (entering_loop x m n k) is = no _ is.operation refl
  quiet-action (ending_loop d) is = no _ is.operation refl
  quiet-action (calling x actuals) is = no _ is.operation refl
  quiet-action (creating x actuals) is = no _ is.operation refl
  quiet-action (purging targets) is = no _ is.operation refl
  quiet-action leaving is = no _ is.operation (ends (table_of (unit_addressed program (unit_of t.state t.level.activation))).result)
  quiet-action _ is = nothing refl refl refl

  quiet-next : (n : Next) → IsAt n → AreNone n
  quiet-next (wants (evaluating r)) is = quiet-redex r is
  quiet-next (wants (referring x actuals)) is = no _ is.operation refl
  quiet-next (does a) is = quiet-action a is

-- ---- turns

module _ (program : Units) (watches : List Breakpoints) where
  and-no : (b : Bool) → (b && false) ≡ false
  and-no true = refl
  and-no false = refl

  -- a step from an index that isn't watched, which makes no process, is quiet
  pub quiet-turn : AreWatchesFor program watches → (p : ℕ) (s : State) → IsUnwatched program watches p s → step program p s ≢ None
      → length (state_after_turn program p s).processes ≡ length s.processes → IsQuiet (event_of program p s (state_after_turn program p s))
  quiet-turn are p s un stepped same =
      let t = state_after_turn program p s in
      let top = un.top in
      let u = unit_of s top.0.activation in
      let addressed = unit_addressed program u in
      let ahead = settled addressed top.0.statement top.0.work (drop un.index (unit_code program u)) un.operands un.index un.stands refl (
      unwatched-ahead program watches are u un.index un.unwatched) in
      let next = (next_is_ahead addressed top.0.statement top.0.work ahead.operands ahead.index ahead.stands ahead.line ahead.operation
      ahead.behind ahead.ahead).1 in
      let none = quiet-next program (top_with program s p top) ahead.operands ahead.index ahead.operation ahead.behind ahead.quiet (
      next_of (unit_at program u) top.0.work) next in
      subst (λ (o : Option (Level × Process)). IsQuiet (event_of_top program p s t o)) (sym un.lives) (
      record {
        needs = none.needs;
        makes = ap (λ b. if b then Some (suc (length s.processes)) else None) (
            le-ltb (length s.processes) (length t.processes) (omega (arith, same)));
        changes = λ at.
            changed-units program p s t top un.lives (leads (step program p s) refl) at
            ∙ ap (λ (ls : List Location). not (has_failed s t) && list_any (same_location at) ls) none.changes
            ∙ and-no (not (has_failed s t));
        accesses = none.accesses;
      })
    where
      leads : (o : Option State) → step program p s ≡ o → o ≡ Some (unwrap_or o s)
      leads None e = absurd (stepped e)
      leads (Some t) e = refl

  -- the first turns of several that begin where nothing is watched, and the last one
  pub passes-first : (p n : ℕ) (s : State) → PassesFrom program watches p s (suc n) → PassesFrom program watches p s n
  passes-first p zero s h = tt
  passes-first p (suc n) s h = (h.0, passes-first p n (state_after_turn program p s) h.1)

  pub passes-last : (p n : ℕ) (s : State) → PassesFrom program watches p s (suc n)
      → IsUnwatched program watches p (run_from program s (replicate n p))
  unfolding run_from
  passes-last p zero s h = h.0
  passes-last p (suc n) s h = passes-last p n (state_after_turn program p s) h.1
