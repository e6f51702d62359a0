-- What an observer of turns knows after one turn more, or after several.
use Rattle.std.proofs.Common.{◌≡◌, ◌≢◌, ◌⊎◌, inl, inr, ◌+◌, ◌^◌, ◌≤◌, ℕ, suc, Bool, true, false, if◌then◌else◌, List, []}
use Rattle.std.proofs.Common.{◌∷◌, ◌++◌, append_assoc, length, length-append, replicate, take, zero, Option, Some, None, refl, sym, ap, ◌∙◌, subst, arith}
use Rattle.std.proofs.lemmas.Bool.{both_ways, le-leb, leb-false, leb-true, lt-leb}
use Rattle.std.proofs.lemmas.List.{length-map, length-replicate, length_push}
use Rattle.std.specs.Global.{Vec}
use Rattle.std.specs.Option.{unwrap_or}
use Rattle.hep_accesses.specs.RunEvents.{Event, event_of, events_from, with_event}
use Rattle.hep_accesses.specs.Accesses.{Site}
use Rattle.hep_advance.proofs.RunsToBreakpoint.{state-on, turns-are}
use Rattle.hep_advance.specs.BreakpointRows.{IsUnwatched, PassesFrom}
use Rattle.hep_advance.specs.RunsToBreakpoints.{PassesTurns}
use Rattle.hep_advance.specs.declared.breakpoints.Breakpoints.{Breakpoints}
use Rattle.hep_advance.specs.SilentRuns as gone
use Rattle.hep_advance.specs.SilentRuns.{HasGone, MakesMoves}
use Rattle.hep_event.specs.Sites.{LivesAfter}
use Rattle.hep_event.specs.Variables.{AreVariablesOf}
use Rattle.hep_fold.proofs.Folding.{seen-none, seen-row-next}
use Rattle.hep_fold.proofs.MachineTurns.{lives-ahead, running-ahead, who-steps-lives}
use Rattle.hep_fold.proofs.TurnRows.{processes-append, row-processes}
use Rattle.hep_fold.specs.Observers.{IsUnderWay, Replay, row_turns}
use Rattle.hep_fold.specs.declared.turn_row.TurnRow.{TurnRow}
use Rattle.hep_fold.specs.Turns.{processes, seen_along, turns_in_row}
use Rattle.hep_layout.proofs.HeldFrames.{run-last}
use Rattle.hep_machine.specs.Laws.{IsSameOrOneMore}
use Rattle.hep_machine.specs.Words.{Level, Location, Process, State, Units, living, run, run_from, state_after_turn, step}
use Rattle.hep_accesses.specs.Events.{Event as AnEvent}
use Rattle.hep_source.proofs.Tests.{some_of}
use Rattle.hep_state.specs.declared.core_state.CoreState.{CoreState}
use Rattle.hep_state.specs.Words.{IsMachineAfter}
use Rattle.hep_trace.specs.References.{top_after}
use Rattle.hep_races.proofs.LaterStates.{IsKeptThere, kept-later}
use Rattle.hep_races.proofs.NotedSteps.{noted-last, noted-later, noted-none, noted-quiet}
use Rattle.hep_races.proofs.QuietTurns.{passes-first, passes-last, quiet-turn}
use Rattle.hep_races.proofs.RenamedSteps.{IsNumberedStep, step-renamed}
use Rattle.hep_races.specs.NamesInBounds.{AreBoundsOf}
use Rattle.hep_races.specs.Detectors.{IsDetectorOf, NumberedEvents}
use Rattle.hep_races.specs.ObservedRuns.{AreNoted, AreObserved, Events, RunSteps, is_alone, none, with_step}
use Rattle.hep_races.specs.Renamings.{IsRenamedEvent, Renaming}
use Rattle.hep_races.specs.RunNames.{run_names}
use Rattle.hep_races.specs.StepEvents.{AreNamesOf, IsObserved}
use Rattle.hep_races.specs.StoragePlaces.{IsThere}
use Rattle.hep_races.specs.WatchedCode.{AreWatchesFor}
use Rattle.hep_races.specs.declared.race_observer.RaceObserver.{RaceObserver}
use Rattle.hep_races.specs.declared.step_access.AccessSite.{AccessSite}
use Rattle.hep_races.specs.declared.step_event.ObservedStep.{ObservedStep}
use Rattle.hep_races.specs.declared.storage_unit.StorageUnit.{StorageUnit}

-- ---- before a turn

-- the process whose turn is ahead lives
pub ahead-lives : (program : Units) (replay : Replay) (made : List ℕ) (entry p : ℕ) (left : List (ℕ × ℕ)) (m : CoreState)
    → IsUnderWay program replay made ((entry, p) ∷ left) m → (top : Level × Process) × LivesAfter program replay.cells made m p top
ahead-lives program replay made entry p left m h =
    let found = lives-ahead program replay made entry p left m h in
    (found.0, record { after = h.after; running = running-ahead program replay made entry p left m h; lives = found.1 })

-- ---- after it

-- who had a step lived
pub had-top : (program : Units) (p : ℕ) (s : State) → step program p s ≢ None → (top : Level × Process) × (living s p ≡ Some top)
had-top program p s stepped = some_of (living s p) (who-steps-lives program p s stepped)

module _ (program : Units) (rise : (p : ℕ) (s : State) → IsSameOrOneMore s.activations (state_after_turn program p s).activations)
    (replay : Replay) (made : List ℕ) (p : ℕ) (left : List (ℕ × ℕ)) (m : CoreState)
    (way : IsUnderWay program replay (made ++ p ∷ []) left m) where
  abbrev s : State
  s = run program made

  abbrev last : State
  last = run program (processes replay.turns)

  pub kept : (at : Location) → IsThere program s at → IsKeptThere program s last at
  kept at h =
      subst (λ (ps : List ℕ). IsKeptThere program s (run program ps) at)
      (sym (way.turns ∙ append_assoc made (p ∷ []) (processes left))) (kept-later program rise made (p ∷ processes left) at h)

  -- the events with that of the turn
  pub told : (old new : RaceObserver) (x : RunSteps) (k : AreObserved program replay made old x) (more : List AccessSite)
      → new.sites ≡ old.sites ++ more → new.variables ≡ old.variables → new.names ≡ old.names → new.bounds ≡ old.bounds
      → (top : Level × Process) (b : ObservedStep) (e : AnEvent StorageUnit ℕ)
      → IsObserved program (top_after program made p top) (run program (made ++ p ∷ [])) b
      → new.watches ≡ old.watches → IsNumberedStep program s last new.sites kept b e
      → IsDetectorOf (x.alone + length x.events + 1) (k.noted ++ (x.alone + length x.events, e) ∷ []) new.detector
      → is_alone (run program (made ++ p ∷ [])) ≡ false → AreObserved program replay (made ++ p ∷ []) new (with_step program p s x)
  told old new x k more grown variables names bounds top b e observed watches numbered detected several =
      let d : Event = event_of program p s (state_after_turn program p s) in
      let own : IsRenamedEvent (run_names program last new.sites) d e =
      subst (λ (u : State). IsRenamedEvent (run_names program last new.sites) (event_of program p s u) e) (run-last program made p) (
      step-renamed program s last new.sites kept p top (run program (made ++ p ∷ [])) b e observed numbered) in
      let before : AreNoted (run_names program last new.sites) x.alone x.events k.noted =
      subst (λ (xs : List AccessSite). AreNoted (run_names program last xs) x.alone x.events k.noted) (sym grown) (
      noted-later program last old.sites more x.alone x.events k.noted k.same) in
      let longer : x.alone + length x.events + 1 ≡ x.alone + length (x.events ++ d ∷ []) =
      omega (arith, length_push x.events d) in
      subst (λ (c : Bool). AreObserved program replay (made ++ p ∷ []) new (
      if c then record x { alone = x.alone + 1 } else record x { events = x.events ++ d ∷ [] })) (
      sym (ap is_alone (sym (run-last program made p)) ∙ several)) (
      record {
        variables = subst (AreVariablesOf program) (sym variables) k.variables;
        names = subst (AreNamesOf program) (sym names) k.names;
        bounds = subst (AreBoundsOf program) (sym bounds) k.bounds;
        watches = subst (λ (v : Vec Breakpoints). AreWatchesFor program v.items) (sym watches) k.watches;
        noted = k.noted ++ (x.alone + length x.events, e) ∷ [];
        detected = subst (λ n. IsDetectorOf n (k.noted ++ (x.alone + length x.events, e) ∷ []) new.detector) longer detected;
        same = noted-last (run_names program last new.sites) x.alone (x.alone + length x.events) d e own x.events k.noted refl before;
        counted = omega (arith, detected.steps, k.detected.steps, k.counted, length_push made p);
        first = λ alone. absurd (both_ways (is_alone (run program (made ++ p ∷ []))) several alone);
      })

-- ---- steps of one process alone

-- they are few enough to be counted
pub few-made : (program : Units) (replay : Replay) (made : List ℕ) (left : List (ℕ × ℕ)) (m : CoreState)
    → IsUnderWay program replay made left m → length made + length (processes left) ≤ 2 ^ 40
few-made program replay made left m way =
    omega (
      arith,
      way.few,
      ap length way.turns,
      length-map replay.turns (λ (t : ℕ × ℕ). t.1),
      length-append made (processes left),
    )

-- with those of a row
pub few-row : (program : Units) (replay : Replay) (made : List ℕ) (row : TurnRow) (left : List (ℕ × ℕ)) (m : CoreState)
    → IsUnderWay program replay made (row_turns row ++ left) m → length made + row.count ≤ 2 ^ 40
few-row program replay made row left m way =
    omega (
      arith,
      few-made program replay made (row_turns row ++ left) m way,
      ap length (processes-append (row_turns row) left),
      length-append (processes (row_turns row)) (processes left),
      ap length (row-processes row.apart row.count row.entry row.process),
      length-replicate row.count row.process,
    )

-- the detector passes over n steps
abbrev PassesOver : ℕ → RaceObserver → RaceObserver → Type 0
PassesOver n old new = (k : ℕ) (es : NumberedEvents) → IsDetectorOf k es old.detector → IsDetectorOf (k + n) es new.detector

module _ (program : Units) where
  -- n more of them are passed over
  pub passed : (replay : Replay) (made after : List ℕ) (n : ℕ) (old new : RaceObserver) (x : RunSteps)
      → AreObserved program replay made old x → is_alone (run program made) ≡ true → length after ≡ length made + n
      → new.sites ≡ old.sites → new.variables ≡ old.variables → new.names ≡ old.names → new.bounds ≡ old.bounds
      → new.watches ≡ old.watches → PassesOver n old new
      → AreObserved program replay after new (record x { alone = x.alone + n })
  passed replay made after n old new x k alone longer sites variables names bounds watches pass =
      let nothing : x.events ≡ [] = k.first alone in
      let last = run program (processes replay.turns) in
      let own : k.noted ≡ [] = noted-none (run_names program last old.sites) x.alone k.noted (
      subst (λ (es : Events). AreNoted (run_names program last old.sites) x.alone es k.noted) nothing k.same) in
      let counts : x.alone + length x.events + n ≡ x.alone + n + length x.events = omega arith in
      let observed = pass (x.alone + length x.events) k.noted k.detected in
      record {
        variables = subst (AreVariablesOf program) (sym variables) k.variables;
        names = subst (AreNamesOf program) (sym names) k.names;
        bounds = subst (AreBoundsOf program) (sym bounds) k.bounds;
        watches = subst (λ (v : Vec Breakpoints). AreWatchesFor program v.items) (sym watches) k.watches;
        noted = k.noted;
        detected = subst (λ m. IsDetectorOf m k.noted new.detector) counts observed;
        same = subst (λ (es : Events). AreNoted (run_names program last new.sites) (x.alone + n) es k.noted) (sym nothing) (
            subst (AreNoted (run_names program last new.sites) (x.alone + n) []) (sym own) (none (x.alone + n)));
        counted = omega (arith, observed.steps, k.detected.steps, k.counted, longer);
        first = λ e. nothing;
      }

  -- one step
  pub told-alone : (rise : (p : ℕ) (s : State) → (length (state_after_turn program p s).processes ≡ length s.processes)
      ⊎ (length (state_after_turn program p s).processes ≡ length s.processes + 1))
      → (replay : Replay) (made : List ℕ) (p : ℕ) (old new : RaceObserver) (x : RunSteps) → AreObserved program replay made old x
      → is_alone (run program (made ++ p ∷ [])) ≡ true
      → new.sites ≡ old.sites → new.variables ≡ old.variables → new.names ≡ old.names → new.bounds ≡ old.bounds
      → new.watches ≡ old.watches → PassesOver 1 old new
      → AreObserved program replay (made ++ p ∷ []) new (with_step program p (run program made) x)
  told-alone rise replay made p old new x k alone sites variables names bounds watches pass =
      let s = run program made in
      let t = state_after_turn program p s in
      let after : is_alone t ≡ true = ap is_alone (sym (run-last program made p)) ∙ alone in
      let before : is_alone s ≡ true = le-leb (length s.processes) 1 (fewer (leb-true (length t.processes) 1 after) (rise p s)) in
      subst (λ (c : Bool). AreObserved program replay (made ++ p ∷ []) new (
      if c then record x { alone = x.alone + 1 } else record x { events = x.events ++ event_of program p s t ∷ [] })) (sym after) (
      passed replay made (made ++ p ∷ []) 1 old new x k before (length_push made p) sites variables names bounds watches pass)
    where
      fewer : length (state_after_turn program p (run program made)).processes ≤ 1
          → (length (state_after_turn program p (run program made)).processes ≡ length (run program made).processes)
          ⊎ (length (state_after_turn program p (run program made)).processes ≡ length (run program made).processes + 1)
          → length (run program made).processes ≤ 1
      fewer few (inl same) = omega (arith, few, same)
      fewer few (inr more) = omega (arith, few, more)

  -- turns that only move the process
  gone-alone : (cells p : ℕ) (choices : List ℕ) (n : ℕ) (after : List ℕ) → HasGone program cells p choices n after
      → length (run program after).processes ≡ length (run program choices).processes
  gone-alone cells p _ _ _ (gone.none choices) = refl
  gone-alone cells p _ _ _ (gone.more choices n after going is) = is.made ∙ gone-alone cells p choices n after going

  gone-seen : (cells p : ℕ) (choices : List ℕ) (n : ℕ) (after : List ℕ) → HasGone program cells p choices n after
      → length (run program choices).processes ≤ 1 → (apart : Bool) (entry : ℕ) (x : RunSteps)
      → seen_along program (λ entry. with_step program) (run program choices) (turns_in_row apart entry p n) x
      ≡ record x { alone = x.alone + n }
  gone-seen cells p _ _ _ (gone.none choices) few apart entry x =
      let none : x.alone ≡ x.alone + 0 = omega arith in
      seen-none program (λ entry. with_step program) (run program choices) x ∙ (λ i. record x { alone = none i })
  gone-seen cells p _ _ _ (gone.more choices n after going is) few apart entry x =
      let see : ℕ → ℕ → State → RunSteps → RunSteps = λ entry. with_step program in
      let y : RunSteps = record x { alone = x.alone + n } in
      let alone : is_alone (state_after_turn program p (run program after)) ≡ true =
      ap is_alone (sym (run-last program after p))
      ∙ le-leb (length (run program (after ++ p ∷ [])).processes) 1 (
      omega (arith, few, is.made, gone-alone cells p choices n after going)) in
      let counted : x.alone + n + 1 ≡ x.alone + suc n = omega arith in
      let last : Event = event_of program p (run program after) (state_after_turn program p (run program after)) in
      seen-row-next program see (run program choices) apart entry p n x
      ∙ ap (with_step program p (run_from program (run program choices) (replicate n p))) (
      gone-seen cells p choices n after going few apart entry x)
      ∙ ap (λ (s : State). with_step program p s y) (sym (state-on program cells p choices n after going))
      ∙ ap (λ (c : Bool). if c then record y { alone = y.alone + 1 } else record y { events = y.events ++ last ∷ [] }) alone
      ∙ (λ i. record x { alone = counted i })

  pub gone-on : (replay : Replay) (made : List ℕ) (p n : ℕ) (m now : CoreState) → IsMachineAfter program replay.cells made m
      → MakesMoves program p m n now → is_alone (run program made) ≡ true
      → (old new : RaceObserver) (x : RunSteps) → AreObserved program replay made old x
      → new.sites ≡ old.sites → new.variables ≡ old.variables → new.names ≡ old.names → new.bounds ≡ old.bounds
      → new.watches ≡ old.watches → PassesOver n old new → (apart : Bool) (entry : ℕ)
      → AreObserved program replay (made ++ replicate n p) new (
      seen_along program (λ entry. with_step program) (run program made) (turns_in_row apart entry p n) x)
  gone-on replay made p n m now after moves alone old new x k sites variables names bounds watches pass apart entry =
      let there = moves replay.cells made after in
      subst (AreObserved program replay (made ++ replicate n p) new) (
      sym (
      gone-seen replay.cells p made n there.0 there.1 (leb-true (length (run program made).processes) 1 alone) apart entry x)) (
      passed replay made (made ++ replicate n p) n old new x k alone (
      length-append made (replicate n p) ∙ ap (λ i. length made + i) (length-replicate n p)) sites variables names bounds watches pass)

-- ---- turns that begin where nothing is observed

module _ (program : Units) (watches : List Breakpoints) (are : AreWatchesFor program watches) (r : Renaming Location StorageUnit Site ℕ) where
  -- n quiet steps more, of which none is noted
  record HavePassed (n : ℕ) (x y : RunSteps) (fs : NumberedEvents) : Type 0 where
    pub alone : y.alone ≡ x.alone
    pub longer : length y.events ≡ length x.events + n
    pub same : AreNoted r y.alone y.events fs

  quiet-seen : (cells p : ℕ) (choices : List ℕ) (n : ℕ) (after : List ℕ) → HasGone program cells p choices n after
      → PassesFrom program watches p (run program choices) n → is_alone (run program choices) ≡ false → (apart : Bool) (entry : ℕ)
      (x : RunSteps) (fs : NumberedEvents) → AreNoted r x.alone x.events fs
      → HavePassed n x (seen_along program (λ entry. with_step program) (run program choices) (turns_in_row apart entry p n) x) fs
  quiet-seen cells p _ _ _ (gone.none choices) passes several apart entry x fs h =
      let plus : length x.events ≡ length x.events + 0 = omega arith in
      subst (λ y. HavePassed 0 x y fs) (sym (seen-none program (λ entry. with_step program) (run program choices) x)) (
      record { alone = refl; longer = plus; same = h })
  quiet-seen cells p _ _ _ (gone.more choices n after going is) passes several apart entry x fs h =
      let see : ℕ → ℕ → State → RunSteps → RunSteps = λ entry. with_step program in
      let s = run program choices in
      let y = seen_along program see s (turns_in_row apart entry p n) x in
      let before : HavePassed n x y fs =
      quiet-seen cells p choices n after going (passes-first program watches p n s passes) several apart entry x fs h in
      let state : run program after ≡ run_from program s (replicate n p) = state-on program cells p choices n after going in
      let next = state_after_turn program p (run program after) in
      let e : Event = event_of program p (run program after) next in
      let made : length next.processes ≡ length (run program after).processes =
      ap (λ (u : State). length u.processes) (sym (run-last program after p)) ∙ is.made in
      let still : is_alone next ≡ false =
      lt-leb (length next.processes) 1 (
      omega (arith, made, gone-alone program cells p choices n after going, leb-false (length s.processes) 1 several)) in
      let unwatched : IsUnwatched program watches p (run program after) =
      subst (IsUnwatched program watches p) (sym state) (passes-last program watches p n s passes) in
      let quiet = quiet-turn program watches are p (run program after) unwatched is.stepped made in
      let longer : length (y.events ++ e ∷ []) ≡ length x.events + suc n = omega (arith, before.longer, length_push y.events e) in
      subst (λ z. HavePassed (suc n) x z fs) (
      sym (
      seen-row-next program see s apart entry p n x
      ∙ ap (λ (u : State). with_step program p u y) (sym state)
      ∙ ap (λ (c : Bool). if c then record y { alone = y.alone + 1 } else record y { events = y.events ++ e ∷ [] }) still)) (
      record { alone = before.alone; longer = longer; same = noted-quiet r y.alone e quiet y.events fs before.same })

module _ (program : Units) where
  pub passed-on : (replay : Replay) (made : List ℕ) (p n : ℕ) (m now : CoreState) → IsMachineAfter program replay.cells made m
      → (old new : RaceObserver) (x : RunSteps) (k : AreObserved program replay made old x)
      → MakesMoves program p m n now → PassesTurns program old.watches.items p m n → is_alone (run program made) ≡ false
      → new.sites ≡ old.sites → new.variables ≡ old.variables → new.names ≡ old.names → new.bounds ≡ old.bounds
      → new.watches ≡ old.watches → PassesOver n old new → (apart : Bool) (entry : ℕ)
      → AreObserved program replay (made ++ replicate n p) new (
      seen_along program (λ entry. with_step program) (run program made) (turns_in_row apart entry p n) x)
  passed-on replay made p n m now after old new x k moves passes several sites variables names bounds watches pass apart entry =
      let last = run program (processes replay.turns) in
      let y = seen_along program (λ entry. with_step program) (run program made) (turns_in_row apart entry p n) x in
      let there = moves replay.cells made after in
      let seen : HavePassed program old.watches.items k.watches (run_names program last old.sites) n x y k.noted =
      quiet-seen program old.watches.items k.watches (run_names program last old.sites) replay.cells p made n there.0 there.1 (
      passes replay.cells made after) several apart entry x k.noted k.same in
      let counts : x.alone + length x.events + n ≡ y.alone + length y.events = omega (arith, seen.alone, seen.longer) in
      let observed = pass (x.alone + length x.events) k.noted k.detected in
      let many : length (run program (made ++ replicate n p)).processes ≡ length (run program made).processes =
      ap (λ (ps : List ℕ). length (run program ps).processes) (sym (turns-are program replay.cells p made n there.0 there.1))
      ∙ gone-alone program replay.cells p made n there.0 there.1 in
      let still : is_alone (run program (made ++ replicate n p)) ≡ false =
      lt-leb (length (run program (made ++ replicate n p)).processes) 1 (
      omega (arith, many, leb-false (length (run program made).processes) 1 several)) in
      record {
        variables = subst (AreVariablesOf program) (sym variables) k.variables;
        names = subst (AreNamesOf program) (sym names) k.names;
        bounds = subst (AreBoundsOf program) (sym bounds) k.bounds;
        watches = subst (λ (v : Vec Breakpoints). AreWatchesFor program v.items) (sym watches) k.watches;
        noted = k.noted;
        detected = subst (λ i. IsDetectorOf i k.noted new.detector) counts observed;
        same = subst (λ (xs : List AccessSite). AreNoted (run_names program last xs) y.alone y.events k.noted) (sym sites) seen.same;
        counted = omega (
          arith,
          observed.steps,
          k.detected.steps,
          k.counted,
          length-append made (replicate n p),
          length-replicate n p,
        );
        first = λ alone. absurd (both_ways (is_alone (run program (made ++ replicate n p))) still alone);
      }

-- ---- all turns

module _ (program : Units) where
  -- the next step and those after it
  pub first-step : (p : ℕ) (s : State) (ps : List ℕ) (o : Option State) → o ≢ None
      → event_of program p s (unwrap_or o s) ∷ events_from program (unwrap_or o s) ps
      ≡ with_event program p s (λ t. events_from program t ps) o
  first-step p s ps (Some t) some = refl
  first-step p s ps None some = absurd (some refl)

-- the first elements of a list, as many as these are
pub take-own : {A : Type 0} (n : ℕ) (xs : List A) → take (length (take n xs)) xs ≡ take n xs
take-own zero [] = refl
take-own zero (x ∷ xs) = refl
take-own (suc n) [] = refl
take-own (suc n) (x ∷ xs) = ap (λ ys. x ∷ ys) (take-own n xs)
