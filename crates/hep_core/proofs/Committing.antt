-- What is asked of the machine of a core at a commit, and what it answers.
use Rattle.std.proofs.Common.{◌≡◌, ◌≢◌, ◌≤◌, ◌↔◌, IsTrue, ℕ, Bool, true, false, true≢false, List, Some, None, is_some, refl, sym, ap, ◌∙◌, subst}
use Rattle.std.proofs.lemmas.Option.{same_Some}
use Rattle.hep_machine.specs.declared.event.Entry.{Entry}
use Rattle.hep_machine.specs.Words.{State, Units, living, main_among, numbered, run, schedule_of, state_after, unit_at}
use Rattle.hep_commit.proofs.BindingCalls.{set-numbered}
use Rattle.hep_code.specs.Words.{IsPastPushes}
use Rattle.hep_image.specs.Image.{most_cells}
use Rattle.hep_image.specs.Private.{private_cells}
use Rattle.hep_private.specs.OwnState.{OwnState, Values}
use Rattle.hep_private.specs.declared.record.Record.{Record}
use Rattle.hep_private.specs.StepRecords.{recorded}
use Rattle.hep_commit.specs.PrivateTurns.{HaveGone, own_of}
use Rattle.hep_proc.specs.Stacks.{stack_with}
use Rattle.hep_commit.specs.Segments.{IsKept, IsMadeFrom, IsMadeOf, SegmentValue, Start}
use Rattle.hep_step.specs.Simulation.{unit_code}
use Rattle.hep_state.specs.declared.core_state.CoreState.{CoreState}
use Rattle.hep_state.specs.Words.{HasLevels, HasSettledTop, IsItsTurn, IsMachineAfter, IsSameButTop, IsTopRunning, IsTurning, LeavesOthers, Snapshot, TurnOf, snapshot_of}
use Rattle.hep_state.proofs.OtherProcesses.{beside-top}
use Rattle.hep_commit.specs.SegmentStarts.{start_in}
use Rattle.hep_commit.specs.Application.{IsMadeIn}
use Rattle.hep_commit.proofs.StandingProcesses.{its-turn, turns}
use Rattle.hep_commit.proofs.AppliedSegments.{AreTurnsIn}
use Rattle.hep_views.proofs.WaitingPlaces.{living-top}
use Rattle.hep_core.specs.Commits.{IsNextOf, IsWhetherNext}
use Rattle.hep_core.specs.Invariant.{CoreInvariant, core_value, placed_value}
use Rattle.hep_core.specs.ProcessPlaces.{IsHere, IsWhere, places_of}
use Rattle.hep_core.specs.CoreValues.{HasNoStop}
use Rattle.hep_core.specs.declared.run_core.Core.TheInside.{Inside}
use Rattle.hep_core.proofs.Histories.{state-is}
use Rattle.hep_core.proofs.GoodTickets.{halted-is}
use Rattle.hep_core.proofs.SettledMachines.{here-at, place-at, place_in, places-same, start-once}
use Rattle.hep_source.proofs.Tests.{some-if_not}
use Rattle.hep_state.proofs.ReturnTurns.{IsRunningAlways}

-- a process that lives has levels
pub levels-of : (program : Units) (cells : ℕ) (history : List Entry) (m : CoreState) (p : ℕ) → IsMachineAfter program cells (schedule_of history) m → living (state_after program history) p ≢ None → HasLevels (snapshot_of m) p
levels-of program cells history m p after lives =
    let there : is_some (living (run program (schedule_of history)) p) ≡ true = ap (λ (s : State). is_some (living s p)) (sym (state-is program history)) ∙ some-if_not (living (state_after program history) p) lives in
    (living-top program cells (schedule_of history) m after p there).is_top.levels

module _ (i : Inside) (k : CoreInvariant i) (p : ℕ) where
  -- it is the turn of a process of a core at no stop
  pub turn-of : HasNoStop (core_value i) → (levels : HasLevels (snapshot_of i.machine) p) → IsItsTurn i.image p i.machine
  turn-of going levels =
      record {
        after = (i.cells, schedule_of i.history.items, k.after);
        running = halted-is i.image i.cells i.history.items (snapshot_of i.machine) k.after.after ∙ going.1;
        living = levels;
      }

-- ---- what laws say of a program

pub tops-of : (program : Units) (Accepted : Units → Type 0) → ((t : TurnOf) → Accepted t.program → is_some (main_among t.program) ≡ true → (turning : IsTurning t) → IsTopRunning t turning) → Accepted program
    → is_some (main_among program) ≡ true → IsRunningAlways program
tops-of program Accepted law accepted main t is turning = law t (subst Accepted (sym is) accepted) (ap (λ (us : Units). is_some (main_among us)) is ∙ main) turning

-- private steps are turns
pub turns-of : (program : Units) (Accepted : Units → Type 0)
    → ((t : TurnOf) (n : ℕ) (records : List Record) (end : OwnState) → Accepted t.program → is_some (main_among t.program) ≡ true → t.cells ≤ most_cells → IsTurning t
    → recorded (private_cells (unit_at t.program t.level.unit)) (unit_code t.program t.level.unit) n (own_of t) ≡ Some (records, end) → HaveGone t n records end)
    → Accepted program → is_some (main_among program) ≡ true → AreTurnsIn program
turns-of program Accepted law accepted main t n records end is few turning made =
    law t n records end (subst Accepted (sym is) accepted) (ap (λ (us : Units). is_some (main_among us)) is ∙ main) few turning made

-- segments depend on what their steps read
pub record DependOnReads : Type 0 where
  pub kept : (program : Units) (start : Start) (s : SegmentValue) → IsMadeFrom program start s → IsKept start s
  pub made : (program : Units) (values : Values) (start : Start) (s : SegmentValue) → IsMadeOf program values s → IsKept start s → IsMadeFrom program start s

-- ---- the machine, once the values ahead of a process are operands

pub record IsSettledIn (i : Inside) (p : ℕ) (m : CoreState) : Type 0 where
  pub after : IsMachineAfter i.image i.cells (schedule_of i.history.items) m
  pub made : m.made ≡ i.machine.made
  pub turn : IsItsTurn i.image p m
  pub past : IsPastPushes (unit_code i.image turn.living.level.unit) turn.living.level.index
  pub places : places_of i.image (snapshot_of m) ≡ places_of i.image (snapshot_of i.machine)
  pub others : LeavesOthers p (snapshot_of i.machine) (snapshot_of m)

-- by the levels that it had
levels-now : (program : Units) {p : ℕ} {old new : Snapshot} → HasSettledTop program p old new → HasLevels old p → HasLevels new p
levels-now program {p} {old} {new} top before =
    let came = top before in
    let were = stack_with before.level before.below before.operands before.pending in
    let are = stack_with (record before.level { index = came.1 }) before.below came.0 before.pending in
    record {
      level = record before.level { index = came.1 };
      below = before.below;
      operands = came.0;
      pending = before.pending;
      kept = ap (λ (m : Snapshot). numbered m.processes p) came.2 ∙ set-numbered old.processes p were are before.kept;
    }

but-top : (program : Units) {p : ℕ} {old new : Snapshot} → HasSettledTop program p old new → IsSameButTop program p old new
but-top program top levels = let s = top levels in (s.0, s.1, s.2, s.3)

pub settled-in : (i : Inside) → CoreInvariant i → HasNoStop (core_value i) → (p : ℕ) → HasLevels (snapshot_of i.machine) p → (m : CoreState) → IsMachineAfter i.image i.cells (schedule_of i.history.items) m
    → HasSettledTop i.image p (snapshot_of i.machine) (snapshot_of m) → m.made ≡ i.machine.made → IsSettledIn i p m
unfolding levels-now
settled-in i k going p before m after top made =
    record {
      after = after;
      made = made;
      turn = record {
        after = (i.cells, schedule_of i.history.items, after);
        running = halted-is i.image i.cells i.history.items (snapshot_of m) after.after ∙ going.1;
        living = levels-now i.image top before;
      };
      past = (top before).4.past;
      places = places-same i.image p (snapshot_of i.machine) (snapshot_of m) before (but-top i.image top);
      others = beside-top p i.image (snapshot_of i.machine) (snapshot_of m) before (but-top i.image top);
    }

module _ (i : Inside) (p : ℕ) (m : CoreState) (is : IsSettledIn i p m) (tops : IsRunningAlways i.image) where
  -- where it is
  abbrev pub start-now : Start
  start-now = start_in is.turn.living

  pub where-now : IsWhere (placed_value i) p start-now
  where-now = (
    place_in i.image is.turn.living,
    ap (λ ps. numbered ps p) (sym is.places) ∙ place-at i.image is.turn.living,
    here-at is.turn (tops (its-turn is.turn) refl (turns is.turn)) is.past,
  )

  -- it is nowhere else
  pub nowhere-else : (start : Start) → IsWhere (placed_value i) p start → start ≡ start-now
  nowhere-else start at =
      let place = same_Some at.0 where-now.0 (same_Some (Some at.0) (Some where-now.0) (sym at.1 ∙ where-now.1)) in
      start-once start start-now (subst (λ x. IsHere i.image x start) place at.2) where-now.2

  -- whether a segment's steps come next there
  module _ (law : DependOnReads) (s : SegmentValue) (own : s.id.process ≡ p) where
    pub next-of : IsMadeFrom i.image start-now s → IsNextOf (core_value i) s start-now
    next-of made = (law.kept i.image start-now s made, (start-now.values, made.1))

    pub made-of : IsNextOf (core_value i) s start-now → IsMadeFrom i.image start-now s
    made-of next = law.made i.image next.1.0 start-now s next.1.1 next.0

    pub made-in : (b : Bool) → IsMadeIn b i.image m s → IsTrue b ↔ IsMadeFrom i.image start-now s
    made-in b made = subst (λ q. (levels : HasLevels (snapshot_of m) q) → IsTrue b ↔ IsMadeFrom i.image (start_in levels) s) own made is.turn.living

    pub whether-next : (b : Bool) → IsMadeIn b i.image m s → IsWhetherNext b (placed_value i) s
    whether-next true made =
        subst (λ q. (start : Start) × IsWhere (placed_value i) q start × IsNextOf (core_value i) s start) (sym own) (start-now, where-now, next-of ((made-in true made).0 refl))
    whether-next false made =
        subst (λ q. (start : Start) → IsWhere (placed_value i) q start → IsNextOf (core_value i) s start → ⊥) (sym own) (
        λ start at next. true≢false (sym ((made-in false made).1 (made-of (subst (IsNextOf (core_value i) s) (nowhere-else start at) next)))))
