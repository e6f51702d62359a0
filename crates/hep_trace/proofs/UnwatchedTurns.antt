-- Turns that have no line by where they begin.
use Rattle.std.proofs.Common.{◌≡◌, ℕ, zero, suc, Bool, true, false, true≢false, if◌then◌else◌, List, [], ◌++◌, Option, Some, None, replicate, refl, sym, ap, ◌∙◌, subst, arith}
use Rattle.hep_conditions.specs.Words.{IsAccepted}
use Rattle.hep_core.specs.SilentChoices.{AreChoices}
use Rattle.hep_core.specs.CoreValues.{CoreValue}
use Rattle.hep_core.proofs.SilentChoices.{unmoved}
use Rattle.hep_why.specs.Progress.{AreMade, IsStanding, begun}
use Rattle.hep_replay.proofs.ReplayTurns.{some_steps, steps_moved}
use Rattle.hep_machine.specs.declared.event.Entry.{Entry}
use Rattle.hep_machine.specs.Words.{Level, Process, Progress, State, Units, living, progress_after_step, state_after_turn, unit_of}
use Rattle.hep_advance.specs.declared.breakpoints.Breakpoints.{Breakpoints}
use Rattle.hep_advance.specs.BreakpointRows.{IsUnwatched, PassesFrom, is_watched}
use Rattle.hep_event.specs.Traces.{LineSelection, is_accessed, is_shown, line_by, line_text, trace_from, turn_text}
use Rattle.hep_event.specs.VariableBreakpoints.{AreWatchesOf}
use Rattle.hep_trace.specs.LineMakers.{AreWatchesFor}

-- the law of turns from where nothing is watched
abbrev pub AccessNothing : Type 0
AccessNothing =
    (program : Units) (name : List ℕ) (watches : List Breakpoints) (p : ℕ) (s : State) (top : Level × Process) → IsAccepted program
    → AreWatchesOf program name watches → IsUnwatched program watches p s → living s p ≡ Some top
    → is_accessed program (Some name) (record { state = s; process = p; level = top.0; below = top.1 }) ≡ false

-- where none are told each index is watched
all-watched : (u index : ℕ) → is_watched [] u index ≡ true
all-watched zero zero = refl
all-watched zero (suc i) = refl
all-watched (suc u) zero = refl
all-watched (suc u) (suc i) = refl

module _ (law : AccessNothing) (program : Units) (accepted : IsAccepted program) (watches : List Breakpoints) (p : ℕ) where
  no-line : (cell : Option (List ℕ)) → AreWatchesFor program cell watches → (number : ℕ) (old new : Progress) (o : Option (Level × Process)) → living old.state p ≡ o
      → IsUnwatched program watches p old.state → line_by program cell number p old new o ≡ []
  no-line cell are number old new None lives is = refl
  no-line None are number old new (Some top) lives is =
      let u = unit_of old.state is.top.0.activation in
      absurd (true≢false (sym (ap (λ ws. is_watched ws u is.index) are ∙ all-watched u is.index) ∙ is.unwatched))
  no-line (Some name) are number old new (Some top) lives is =
      ap (λ b. if b then turn_text program number old new (record { state = old.state; process = p; level = top.0; below = top.1 }) else []) (law program name watches p old.state top accepted are is lives)

  pub silent-line : (cell : Option (List ℕ)) → AreWatchesFor program cell watches → (number : ℕ) (old new : Progress) → IsUnwatched program watches p old.state → line_text program cell number p old new ≡ []
  silent-line cell are number old new is = no-line cell are number old new (living old.state p) refl is

  abbrev once : Entry
  once = record { process = p; steps = 1 }

  nothing : (b : Bool) (line : List ℕ) → line ≡ [] → (if b then line ++ [] else []) ≡ []
  nothing true line none = ap (λ l. l ++ []) none
  nothing false line none = refl

  -- so many of them
  pub trace-silent : (shown : LineSelection) → AreWatchesFor program shown.cell watches → (n number : ℕ) (x : Progress) → PassesFrom program watches p x.state n → trace_from program shown number x (replicate n once) ≡ []
  unfolding trace_from
  trace-silent shown are zero number x passes = refl
  trace-silent shown are (suc n) number x passes =
      let y : Progress = progress_after_step program x p (state_after_turn program p x.state) in
      ap (λ l. l ++ trace_from program shown (suc number) y (replicate n once)) (
      nothing (is_shown shown number p) (line_text program shown.cell number p x y) (silent-line shown.cell are number x y passes.0))
      ∙ trace-silent shown are n (suc number) y passes.1

-- choices of one process are entries of one step each
pub choices-made : (p : ℕ) (old : CoreValue) (n : ℕ) (new : CoreValue) → IsStanding old → AreChoices p old n new → AreMade (record { process = p; steps = 1 }) old n new
choices-made p old zero new standing made = subst (AreMade (record { process = p; steps = 1 }) old 0) (unmoved p old 0 new refl made) (begun old)
choices-made p old (suc n) new standing made = some_steps old new p (suc n) standing (steps_moved p old (suc n) new standing (omega arith) made)
