-- A turn in place: so many turns of one process, each of which only moves it, as one entry of a core.
use Rattle.std.proofs.Common.{◌≡◌, ◌⊎◌, ℕ, zero, suc, ◌+◌, ◌≤◌, true, false, List, [], ◌∷◌, ◌++◌, length, length-append, inl, inr, refl, sym, ap, ◌∙◌, subst, arith, replicate}
use Rattle.hep_machine.proofs.Others.{activations_after}
use Rattle.hep_machine.specs.declared.event.Entry.{Entry}
use Rattle.hep_machine.specs.Words.{IsSameOrOneMore, State, Units, run_from, schedule_of, state_after, state_after_turn}
use Rattle.hep_commit.specs.Going.{HasGone}
use Rattle.hep_commit.specs.Segments.{IsMadeFrom, SegmentValue, Start, most_records}
use Rattle.hep_commit.specs.SegmentStarts.{start_in}
use Rattle.hep_commit.specs.TurnsInPlace.{IsMadeOfRecords, are_private}
use Rattle.hep_commit.proofs.AfterSegments.{same-start}
use Rattle.hep_state.specs.declared.core_state.CoreState.{CoreState}
use Rattle.hep_state.specs.Words.{HasLevels, IsMachineAfter, Snapshot, snapshot_of}
use Rattle.hep_core.specs.Commits.{HasSteps, IsLeftOut, IsMadeBehind, IsMovedBehind, core_after_return}
use Rattle.hep_core.specs.Invariant.{core_value}
use Rattle.hep_core.specs.CoreValues.{CoreValue}
use Rattle.hep_core.specs.declared.run_core.Core.TheInside.{Inside}
use Rattle.hep_core.specs.declared.stop.Turn.{Turn}
use Rattle.hep_core.proofs.Committing.{DependOnReads, IsSettledIn, next-of}
use Rattle.hep_core.proofs.Histories.{schedule-several, state-several}
use Rattle.hep_core.proofs.GoodTickets.{activations-are}
use Rattle.hep_state.proofs.ReturnTurns.{IsRunningAlways}
use Rattle.hep_commit.proofs.AdvanceRunsToBreakpoint.{turns-are}

-- ---- activations

pub as-many-still : {A : Type 0} (xs ys : List A) → IsSameOrOneMore xs ys → length xs ≤ length ys
as-many-still xs ys (inl same) = omega (arith, ap length same)
as-many-still xs ys (inr more) = omega (arith, ap length more.1, length-append xs (more.0 ∷ []))

-- those that were made are kept
activations-rise : (program : Units) (p n : ℕ) (s : State) → length s.activations ≤ length (run_from program s (replicate n p)).activations
unfolding run_from
activations-rise program p zero s =
    let same : length (run_from program s (replicate zero p)).activations ≡ length s.activations = refl in
    omega (arith, same)
activations-rise program p (suc n) s =
    let t = state_after_turn program p s in
    let same : length (run_from program s (replicate (suc n) p)).activations ≡ length (run_from program t (replicate n p)).activations = refl in
    omega (arith, same, as-many-still s.activations t.activations (activations_after program p s), activations-rise program p n t)

module _ (program : Units) (cells p n : ℕ) (h : List Entry) (before after : CoreState) (was : IsMachineAfter program cells (schedule_of h) before) (turns : List ℕ) (gone : HasGone program cells p (schedule_of h) n turns)
    (is : IsMachineAfter program cells turns after) where
  abbrev es : List Entry
  es = h ++ record { process = p; steps = n } ∷ []

  -- the turns are those of an entry
  pub turns-noted : turns ≡ schedule_of es
  turns-noted = turns-are program cells p (schedule_of h) n turns gone ∙ sym (schedule-several h p n)

  pub activations-same : after.activations ≤ before.activations → after.activations ≡ before.activations
  activations-same few =
      let there = subst (λ ps. IsMachineAfter program cells ps after) turns-noted is in
      let now = activations-are program cells es (snapshot_of after) there.after in
      let then = activations-are program cells h (snapshot_of before) was.after in
      let rise = activations-rise program p n (state_after program h) in
      let state = ap (λ (s : State). length s.activations) (state-several program h p n) in
      omega (arith, few, now, then, rise, state)

-- ---- where it begins

-- by another name of the process
start-there : {m : Snapshot} {p q : ℕ} → p ≡ q → (e : HasLevels m p) (f : HasLevels m q) → start_in e ≡ start_in f
start-there {m} own e f = subst (λ r. (g : HasLevels m r) → start_in e ≡ start_in g) own (λ g. same-start e g) f

-- ---- what it is

module _ (i : Inside) (p : ℕ) (m : CoreState) (is : IsSettledIn i p m) (tops : IsRunningAlways i.image) (law : DependOnReads) (s : SegmentValue) (own : s.id.process ≡ p) (n : ℕ) (new : CoreValue) where
  abbrev here : Start
  here = start_in is.turn.living

  abbrev turn : Turn
  turn = record { steps = n; blocked = false }

  abbrev back : CoreValue
  back = core_after_return (core_value i) s.id.process

  -- the steps of the segment with the next one; or without it, where they are as many as a segment may have
  abbrev IsTotal : Start → Type 0
  IsTotal at =
      ((n ≡ suc (length s.records)) × (are_private i.image at (suc (length s.records)) ≡ false))
      ⊎ ((n ≡ length s.records) × (length s.records ≡ most_records) × (are_private i.image at (suc (length s.records)) ≡ true))

  pub moved-behind : IsMadeOfRecords i.image m n s → HasSteps (core_after_return (core_value i) p) p n new → IsMovedBehind (core_value i) here s n new
  moved-behind made steps =
      let start = start-there own made.can.turn.living is.turn.living in
      let from = subst (λ (at : Start). IsMadeFrom i.image at s) start made.can.made in
      let total = subst IsTotal start made.total in
      (next-of i p m is tops law s own from, made.some, full-by total, by-total total)
    where
      there : HasSteps back s.id.process n new
      there = subst (λ q. HasSteps (core_after_return (core_value i) q) q n new) (sym own) steps

      full-by : IsTotal here → n ≡ length s.records → n ≡ most_records
      full-by (inl (many, other)) same = absurd (omega (arith, many, same))
      full-by (inr (many, most, private)) same = many ∙ most

      by-total : IsTotal here → IsMadeBehind back here s turn new ⊎ IsLeftOut back here s turn new
      by-total (inl (many, other)) = inl (many, other, subst (λ k. HasSteps back s.id.process k new) many there)
      by-total (inr (many, most, private)) = inr (many, subst (λ k. HasSteps back s.id.process k new) many there, inl private)
