-- Steps that were counted, and the turns that they are.
use Rattle.std.proofs.Common.{◌≡◌, ℕ, suc, ◌+◌, Bool, List, [], ◌∷◌, drop, Option, refl, sym, ap, ◌∙◌, subst, arith}
use Rattle.hep_code.specs.declared.instruction.Instruction.{Instruction}
use Rattle.hep_image.specs.declared.array.Array.{Array}
use Rattle.hep_machine.specs.Words.{State, Units, run, state_after_turn}
use Rattle.hep_cover.specs.StatementStarts.{begun}
use Rattle.hep_step.specs.SilentSteps as moves
use Rattle.hep_step.specs.SilentSteps.{Goes}
use Rattle.hep_step.specs.PerformedSteps.{Snapshot}
use Rattle.hep_step.specs.Simulation.{unit_arrays, unit_code}
use Rattle.hep_state.specs.Words.{IsTurning, TurnOf, top_frame}
use Rattle.hep_state.specs.declared.core_state.CoreState.{CoreState}
use Rattle.hep_advance.specs.SilentRuns.{MakesMoves}
use Rattle.hep_advance.proofs.KeptTurns.{HasLaws, come-so, here, turn_at}
use Rattle.hep_advance.proofs.RunsToBreakpoint.{state-on}
use Rattle.hep_fold.specs.Turns.{number_after, seen_along, turns_in_row}
use Rattle.hep_fold.proofs.Folding.{seen-none, seen-one, seen-row, seen-row-next}
use Rattle.hep_cover.specs.Counts.{counted, counted_after, counts_after}
use Rattle.hep_cover.specs.StartMarks.{mark}
use Rattle.hep_cover.specs.CountedRuns.{CountsTurns, Tallies, stays, settles, steps}
use Rattle.hep_cover.proofs.StartMarks.{begun-is, mark-settled}

-- ---- steps of an activation

module _ (operations : List ℕ) (code : List Instruction) (arrays : List Array) (first : ℕ) where
  abbrev Tally : Snapshot → List (Option ℕ) → ℕ → Snapshot → List (Option ℕ) → Type 0
  Tally = Tallies operations code arrays first

  -- without their counts
  pub uncounted : (s : Snapshot) (counts : List (Option ℕ)) (n : ℕ) (t : Snapshot) (now : List (Option ℕ)) → Tally s counts n t now
      → Goes code arrays first s n t
  uncounted s counts _ _ _ (stays _ _) = moves.stays s
  uncounted s counts _ _ _ (settles _ _ n t now u goes is) = moves.settles s n t u (uncounted s counts n t now goes) is
  uncounted s counts _ _ _ (steps _ _ n t now u goes is) = moves.steps s n t u (uncounted s counts n t now goes) is

  module _ (s : Snapshot) (counts : List (Option ℕ)) (k : ℕ) (m : Snapshot) (now : List (Option ℕ)) (so_far : Tally s counts k m now) where
    -- where no step was made more
    none-more : (n : ℕ) (t : Snapshot) → Goes code arrays first m n t → n ≡ 0
        → Tally s counts k t now × (mark operations (drop t.index code) ≡ mark operations (drop m.index code))
    none-more _ _ (moves.stays _) e = (so_far, refl)
    none-more _ _ (moves.settles _ n t u goes is) e =
        let before = none-more n t goes e in (settles s counts k t now u before.0 is, mark-settled operations code t u is ∙ before.1)
    none-more _ _ (moves.steps _ n t u goes is) e = absurd (omega (arith, e))

    -- where one was made
    pub one-more : (n : ℕ) (t : Snapshot) → Goes code arrays first m n t → n ≡ 1
        → Tally s counts (suc k) t (counted (mark operations (drop m.index code)) now)
    one-more _ _ (moves.stays _) e = absurd (omega (arith, e))
    one-more _ _ (moves.settles _ n t u goes is) e =
        settles s counts (suc k) t (counted (mark operations (drop m.index code)) now) u (one-more n t goes e) is
    one-more _ _ (moves.steps _ n t u goes is) e =
        let before = none-more n t goes (omega (arith, e)) in
        subst (λ x. Tally s counts (suc k) u (counted x now)) before.1 (steps s counts k t now u before.0 is)

    pub still : (n : ℕ) (t : Snapshot) → Goes code arrays first m n t → n ≡ 0 → Tally s counts k t now
    still n t goes e = (none-more n t goes e).0

-- ---- turns of a process

-- what was counted of a process on its way is what its turns begin
module _ (t : TurnOf) (operations : List ℕ) (known : HasLaws t) (turns : IsTurning t) (apart : Bool) (entry : ℕ) where
  abbrev Tallied : List (Option ℕ) → ℕ → Snapshot → List (Option ℕ) → Type 0
  Tallied counts n u now =
      Tallies operations (unit_code t.program t.level.unit) (unit_arrays t.program t.level.unit) (top_frame t).first (here t) counts n u now

  pub tallied-so : (counts : List (Option ℕ)) (n : ℕ) (u : Snapshot) (now : List (Option ℕ)) → Tallied counts n u now
      → now ≡ seen_along t.program (counted_after t.program operations) (run t.program t.choices) (turns_in_row apart entry t.process n) counts
  tallied-so counts _ _ _ (stays _ _) = sym (seen-none t.program (counted_after t.program operations) (run t.program t.choices) counts)
  tallied-so counts _ _ _ (settles _ _ n s now u tallied is) = tallied-so counts n s now tallied
  tallied-so counts _ _ _ (steps _ _ n s now u tallied is) =
      let p = t.process in
      let code = unit_code t.program t.level.unit in
      let come = come-so t known turns n s (
      uncounted operations code (unit_arrays t.program t.level.unit) (top_frame t).first (here t) counts n s now tallied) in
      let line : mark operations (drop s.index code) ≡ begun t.program operations p (run t.program come.after) =
      begun-is (turn_at t come.after come.top s) come.turns operations in
      let state = state-on t.program t.cells p t.choices n come.after come.gone in
      (λ i. counted ((line ∙ ap (begun t.program operations p) state) i) (tallied-so counts n s now tallied i))
      ∙ sym (seen-row-next t.program (counted_after t.program operations) (run t.program t.choices) apart entry p n counts)

-- ---- turns one after the other

module _ (program : Units) (operations : List ℕ) where
  -- what one of them begins
  pub counted-one : (s : State) (entry p : ℕ) (counts now : List (Option ℕ)) (line : Option ℕ)
      → line ≡ begun program operations p s → now ≡ counted line counts
      → now ≡ seen_along program (counted_after program operations) s ((entry, p) ∷ []) counts
  counted-one s entry p counts now line line_is now_is =
      now_is ∙ ap (λ l. counted l counts) line_is ∙ sym (seen-one program (counted_after program operations) s entry p counts)

  module _ (p : ℕ) where
    pub counts-none : (m : CoreState) (counts : List (Option ℕ)) → CountsTurns program operations p m counts 0 counts
    counts-none m counts cells choices h apart entry = sym (seen-none program (counted_after program operations) (run program choices) counts)

    -- turns in a row, and more of them
    pub counts-more : (old mid : CoreState) (n m : ℕ) (before between now : List (Option ℕ)) → MakesMoves program p old n mid
        → CountsTurns program operations p old before n between → CountsTurns program operations p mid between m now
        → CountsTurns program operations p old before (n + m) now
    counts-more old mid n m before between now gone first then cells choices h apart entry =
        let a = gone cells choices h in
        let state = state-on program cells p choices n a.0 a.1 in
        let see = counted_after program operations in
        then cells a.0 a.2 apart (number_after apart entry n)
        ∙ (λ i. seen_along program see (state i) (turns_in_row apart (number_after apart entry n) p m) (first cells choices h apart entry i))
        ∙ sym (seen-row program see (run program choices) apart entry p n m before)

  -- ---- what an observer knows

  -- the numbers of operations stay
  pub operations-kept : (s : State) (ts : List (ℕ × ℕ)) (known : List ℕ × List (Option ℕ))
      → (seen_along program (counts_after program) s ts known).0 ≡ known.0
  unfolding seen_along
  operations-kept s [] known = refl
  operations-kept s (t ∷ ts) known = operations-kept (state_after_turn program t.1 s) ts (counts_after program t.0 t.1 s known)

  -- the counts are those by these numbers
  pub counts-along : (s : State) (ts : List (ℕ × ℕ)) (counts : List (Option ℕ))
      → (seen_along program (counts_after program) s ts (operations, counts)).1
      ≡ seen_along program (counted_after program operations) s ts counts
  unfolding seen_along
  counts-along s [] counts = refl
  counts-along s (t ∷ ts) counts = counts-along (state_after_turn program t.1 s) ts (counted_after program operations t.0 t.1 s counts)
