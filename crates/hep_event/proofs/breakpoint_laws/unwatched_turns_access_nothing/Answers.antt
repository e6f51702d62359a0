use Rattle.std.proofs.Common.{◌≡◌, ◌<◌, ℕ, Bool, true, false, true≢false, List, Option, Some, None, drop, length, slice_get, refl, sym, ap, ◌∙◌, subst, arith}
use Rattle.std.specs.Option.{unwrap_or}
use Rattle.std.proofs.lemmas.Option.{same_Some, slice_get_within}
use Rattle.hep_code.proofs.ControlFlow.{next_is_ahead}
use Rattle.hep_code.specs.Words.{Stands}
use Rattle.hep_machine.specs.Words.{Level, Process, Top, next_of, unit_at, unit_of}
use Rattle.hep_advance.specs.BreakpointRows.{is_watched, row_in, watched_at}
use Rattle.hep_advance.specs.declared.breakpoints.Breakpoints.{Breakpoints}
use Rattle.hep_step.specs.Simulation.{unit_addressed, unit_code}
use Rattle.hep_event.proofs.UnwatchedSteps.{settled, silent}
use Rattle.hep_event.proofs.breakpoint_laws.unwatched_turns_access_nothing.Goals as goal
use Rattle.hep_source.proofs.Tests.{dropped-first}

-- a watch tells of each index that isn't watched
told-in : (row : List Bool) (index : ℕ) → watched_at row index ≡ false → slice_get row index ≡ Some false
told-in row index none = by (slice_get row index) refl where
  by : (o : Option Bool) → slice_get row index ≡ o → o ≡ Some false
  by None e = absurd (true≢false (sym (ap (λ o. unwrap_or o true) e) ∙ none))
  by (Some b) e = ap (λ b. Some b) (sym (ap (λ o. unwrap_or o true) e) ∙ none)

told : (watches : List Breakpoints) (u index : ℕ) → is_watched watches u index ≡ false → (w : Breakpoints) × (slice_get watches u ≡ Some w) × (slice_get w.watched.items index ≡ Some false)
told watches u index none = by (slice_get watches u) refl where
  by : (o : Option Breakpoints) → slice_get watches u ≡ o → (w : Breakpoints) × (slice_get watches u ≡ Some w) × (slice_get w.watched.items index ≡ Some false)
  by None e = absurd (true≢false (ap (λ o. watched_at (row_in o) index) (sym e) ∙ none))
  by (Some w) e = (w, e, told-in w.watched.items index (ap (λ o. watched_at (row_in o) index) (sym e) ∙ none))

pub returns : goal.returns
returns c program name watches p s top accepted are is lives =
    let same : is.top ≡ top = same_Some is.top top (sym is.lives ∙ lives) in
    let u = unit_of s top.0.activation in
    let t : Top = record { state = s; process = p; level = top.0; below = top.1 } in
    let stands = subst (λ (z : Level × Process). Stands (unit_addressed program (unit_of s z.0.activation)) z.0.statement z.0.work is.operands is.index) same is.stands in
    let at = told watches u is.index (subst (λ (z : Level × Process). is_watched watches (unit_of s z.0.activation) is.index ≡ false) same is.unwatched) in
    let inside : u < length program = let within = slice_get_within watches u at.0 at.1 in omega (arith, within, are.count) in
    let ahead = settled program u name (unit_addressed program u) top.0.statement top.0.work (drop is.index (unit_code program u)) is.operands is.index stands refl ((are.each u at.0 at.1).each is.index false at.2) in
    let next = (next_is_ahead (unit_addressed program u) top.0.statement top.0.work ahead.operands ahead.index ahead.stands ahead.line ahead.operation ahead.behind ahead.ahead).1 in
    let placed = c.variables_of_the_code_are_placed.ensures.operations program u ahead.index ahead.line ahead.operation accepted inside (dropped-first (unit_code program u) ahead.index _ ahead.behind ahead.ahead) in
    silent program t name ahead.operands ahead.index ahead.operation ahead.behind placed ahead.unwatched (next_of (unit_at program u) top.0.work) next
