-- What a commit of a segment with steps answers, from the machine on in which constants ahead are operands.
use Rattle.std.proofs.Common.{◌≡◌, ◌⊎◌, inl, inr, ℕ, suc, ◌<◌, Bool, true, false, List, length, Ok, Err, Some, refl, sym, ap, ◌∙◌, subst, arith, replicate}
use Rattle.hep_machine.specs.Words.{AreSteps, is_waiting, schedule_of}
use Rattle.hep_private.specs.declared.record.Record.{Record}
use Rattle.hep_commit.specs.Segments.{IsMadeFrom, SegmentValue, Start, is_next_private}
use Rattle.hep_state.specs.declared.core_state.CoreState.{CoreState}
use Rattle.hep_state.specs.Words.{HasLevels, HasNoGap, Snapshot}
use Rattle.hep_commit.specs.SegmentStarts.{start_in}
use Rattle.hep_commit.specs.Application.{HasTakenIn, IsNextPrivateIn}
use Rattle.hep_commit.proofs.AfterSegments.{levels-taken, private-taken}
use Rattle.hep_commit.proofs.AppliedSegments.{AreTurnsIn}
use Rattle.hep_core.specs.Commits.{HasSteps, IsCommitted, IsGood, IsGoodAt, IsLeftOut, IsMadeBehind, IsOutBy, are_private, core_after_return, state_along}
use Rattle.hep_core.specs.Invariant.{core_value, placed_value}
use Rattle.hep_core.specs.ProcessPlaces.{PlacedCore, with_core}
use Rattle.hep_core.specs.CoreValues.{CoreValue, core_after_choice, state_of}
use Rattle.hep_core.specs.declared.core_fault.CommitFault.TheVariants as committing
use Rattle.hep_core.specs.declared.run_core.Core.TheInside.{Inside}
use Rattle.hep_core.specs.declared.stop.ChoiceStop.TheVariants.{StepLimit}
use Rattle.hep_core.specs.declared.stop.Turn.{Turn}
use Rattle.hep_core.proofs.AfterPrivate.{taken-by}
use Rattle.hep_core.proofs.Committing.{DependOnReads, IsSettledIn, next-of, where-now}
use Rattle.hep_state.proofs.ReturnTurns.{IsRunningAlways}

module _ (i : Inside) (s : SegmentValue) (out : IsOutBy (core_value i) s) (m : CoreState) (is : IsSettledIn i s.id.process m) (tops : IsRunningAlways i.image) (law : DependOnReads) (made : IsMadeFrom i.image (start_in is.turn.living) s) (n : ℕ)
    (many : length s.records ≡ suc n) where
  abbrev here : Start
  here = start_in is.turn.living

  abbrev back : CoreValue
  back = core_after_return (core_value i) s.id.process

  pub good-at : IsGoodAt (placed_value i) s here
  good-at = (out, where-now i s.id.process m is tops, next-of i s.id.process m is tops law s refl made)

  pub answer-good : IsGood (placed_value i) s
  answer-good = (here, good-at)

  -- the history is full
  pub answer-full : (new : PlacedCore) → length i.history.items ≡ i.limit → new ≡ with_core (placed_value i) (record (core_value i) { stop = Some StepLimit }) → IsCommitted (placed_value i) s (Err (committing.Stopped StepLimit)) new
  answer-full new full same = inr (inl (answer-good, full, refl, same))

  module _ (lt : length i.history.items < i.limit) where
    -- memory was refused
    pub answer-refused : (new : PlacedCore) → new ≡ placed_value i → IsCommitted (placed_value i) s (Err committing.NoMemory) new
    answer-refused new same = (answer-good, lt, (λ none gap. let long = ap (λ (rs : List Record). length rs) none in absurd (omega (arith, long, many))), same)

    answer-taken : (turn : Turn) (new : PlacedCore) → turn.blocked ≡ false → IsMadeBehind back here s turn new.core ⊎ IsLeftOut back here s turn new.core → IsCommitted (placed_value i) s (Ok turn) new
    answer-taken turn new free by = (here, good-at, taken-by s.records back here s turn new.core (omega (arith, many)) lt free by)

    -- the next step was left out
    pub answer-left : (new : PlacedCore) → AreSteps back.program (state_of back) (replicate (suc n) s.id.process) → new.core ≡ core_after_choice back s.id.process (suc n) (state_along back s.id.process (suc n))
        → (are_private i.image here (suc (suc n)) ≡ true) ⊎ (is_waiting new.core.program (state_of new.core) s.id.process ≡ true) ⊎ HasNoGap new.core.program new.core.cells (schedule_of new.core.history) s.id.process
        → IsCommitted (placed_value i) s (Ok (record { steps = suc n; blocked = false })) new
    answer-left new steps same why =
        answer-taken (record { steps = suc n; blocked = false }) new refl (inr (
        subst (λ j. (suc n ≡ j) × HasSteps back s.id.process j new.core
        × ((are_private i.image here (suc j) ≡ true) ⊎ (is_waiting new.core.program (state_of new.core) s.id.process ≡ true) ⊎ HasNoGap new.core.program new.core.cells (schedule_of new.core.history) s.id.process)) (sym many) (
          refl,
          (steps, same),
          why,
        )))

    -- it was made
    pub answer-made : (new : PlacedCore) → are_private i.image here (suc (suc n)) ≡ false → AreSteps back.program (state_of back) (replicate (suc (suc n)) s.id.process)
        → new.core ≡ core_after_choice back s.id.process (suc (suc n)) (state_along back s.id.process (suc (suc n))) → IsCommitted (placed_value i) s (Ok (record { steps = suc (suc n); blocked = false })) new
    answer-made new other steps same =
        answer-taken (record { steps = suc (suc n); blocked = false }) new refl (inl (
        subst (λ j. (suc (suc n) ≡ suc j) × (are_private i.image here (suc j) ≡ false) × HasSteps back s.id.process (suc j) new.core) (sym many) (refl, other, (steps, same))))

  -- whether the step behind those of the segment is private
  pub whether-private : AreTurnsIn i.image → (after : CoreState) → HasTakenIn s m after → (b : Bool) → IsNextPrivateIn b i.image s.id.process after → b ≡ are_private i.image here (suc (suc n))
  whether-private laws after taken b next =
      subst (λ (z : Snapshot). (levels : HasLevels z s.id.process) → b ≡ is_next_private i.image (start_in levels)) (taken is.turn.living) next (levels-taken is.turn.living s)
      ∙ (private-taken laws is.after.few is.after.after is.turn.running is.turn.living s made
      ∙ ap (λ j. are_private i.image here (suc j)) many)
