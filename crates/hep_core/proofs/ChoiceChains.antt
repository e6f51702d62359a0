-- Turns in one, one after the other, whose private steps were made in one run: after each of them the next one can be made.
use Rattle.std.proofs.Common.{◌≡◌, ◌≢◌, ℕ, zero, suc, ◌+◌, ◌*◌, ◌<◌, ◌≤◌, true, false, not, if◌then◌else◌, List, [], ◌∷◌, ◌++◌, length, length-append, Option, Some, None, is_some, inl, inr, refl, sym, ap, ◌∙◌, subst, arith, replicate, append_assoc}
use Rattle.std.specs.List.{filter}
use Rattle.std.proofs.lemmas.List.{append-nil}
use Rattle.hep_source.proofs.Tests.{some-there}
use Rattle.hep_machine.specs.declared.event.Entry.{Entry}
use Rattle.hep_machine.specs.Histories.{most_steps}
use Rattle.hep_machine.specs.Words.{AreSteps, State, Units, is_held, last_process, layout_of, living, next_of_ready, progress_after, ready_in, run, run_from, schedule_of, state_after, view_of}
use Rattle.hep_image.specs.Image.{most_cells}
use Rattle.hep_cells.specs.declared.want.Want.{Want}
use Rattle.hep_proc.specs.Stacks.{stack_with}
use Rattle.hep_blocked.specs.RosterUpdates.{AreListed}
use Rattle.hep_blocked.proofs.Members.{ready-rise, rising-same}
use Rattle.hep_state.specs.Words.{HasLevels, IsAfter, Snapshot}
use Rattle.hep_commit.specs.Going.{HasGone, none, more}
use Rattle.hep_commit.specs.SegmentStarts.{snapshot_taken, start_in}
use Rattle.hep_commit.specs.Segments.{IsMadeFrom, SegmentValue, Start, most_records, segment_value}
use Rattle.hep_commit.specs.TicketId.{TicketId}
use Rattle.hep_commit.specs.TurnsInPlace.{are_private}
use Rattle.hep_commit.proofs.BindingCalls.{set-numbered}
use Rattle.hep_commit.proofs.Parts.{IsAhead, IsParted, ahead-at, next-start, private-fewer, recorded_at, start_ahead, start_behind}
use Rattle.hep_commit.proofs.Runs.{steps-are}
use Rattle.hep_commit.proofs.AppliedSegments as taken
use Rattle.hep_commit.proofs.AppliedSegments.{AreTurnsIn}
use Rattle.hep_core.specs.Commits.{AreTurnsAtOnce, HasMovedBehind, HasSteps, IsMovedBehind, IsTurnAtOnce, core_after_return, most_tickets}
use Rattle.hep_core.specs.SilentChoices.{entries_along}
use Rattle.hep_core.specs.ProcessPlaces.{ArePlaces, IsWhere, PlacedCore, places_of, with_core}
use Rattle.hep_core.specs.Tickets.{is_out}
use Rattle.hep_core.specs.CoreValues.{CoreValue, free_of, stop_after}
use Rattle.hep_core.specs.declared.stop.ChoiceStop.TheVariants.{Halted}
use Rattle.hep_core.proofs.TurnsAtOnce.{behind-at-once, segment-is}
use Rattle.hep_core.proofs.Committing.{DependOnReads}
use Rattle.hep_core.proofs.SilentChoices.{Far, HasCome, come-so, last-more}
use Rattle.hep_core.proofs.Histories.{legal-several, progress-joined, schedule-joined, schedule-several, state-is, state-joined, state-several}
use Rattle.hep_core.proofs.GoodTickets.{activations-are, halted-is}
use Rattle.hep_core.proofs.ProcessesOut.{without-home}
use Rattle.hep_core.proofs.SettledMachines.{place-at, place_in}
use Rattle.hep_commit.proofs.Lists.{GoAlong}

-- ---- turns of one process

module _ (program : Units) (cells p : ℕ) where
  -- the process lives on
  gone-going : (choices : List ℕ) (n : ℕ) (after : List ℕ) → 0 < n → HasGone program cells p choices n after → ((run program after).halted ≡ false) × (living (run program after) p ≢ None)
  gone-going _ _ _ some (none choices) = absurd (omega (arith, some))
  gone-going _ _ _ some (more choices n after gone is) = (is.going, is.lives)

  gone-processes : (choices : List ℕ) (n : ℕ) (after : List ℕ) → HasGone program cells p choices n after → length (run program after).processes ≡ length (run program choices).processes
  gone-processes _ _ _ (none choices) = refl
  gone-processes _ _ _ (more choices n after gone is) = is.made ∙ gone-processes choices n after gone

-- ---- so many turns of as many steps each

module _ (law : GoAlong) (program : Units) (cells limit p : ℕ) (waiting : ℕ → Option Want) (ready : List ℕ) (out : List TicketId) (home : is_out p out ≡ false) (less : ℕ) (few : suc less ≤ most_steps) where
  abbrev size : ℕ
  size = suc less

  abbrev entry : Entry
  entry = record { process = p; steps = size }

  abbrev IsFar : List Entry → Type 0
  IsFar es = Far law program cells limit p waiting ready out home es

  -- they can be made behind these entries, from a start
  pub record CanRun (es : List Entry) (n : ℕ) : Type 0 where
    pub far : IsFar es
    pub going : (state_after program es).halted ≡ false
    pub lives : living (state_after program es) p ≢ None
    pub last : last_process es ≡ p
    pub next : next_of_ready p (filter (λ q. not (is_out q out)) (ready_in (progress_after program es))) ≡ Some p
    pub room : length es + n ≤ limit
    pub machine : Snapshot
    pub there : IsAfter program cells (schedule_of es) machine
    pub levels : HasLevels machine p
    pub are : are_private program (start_in levels) (suc (n * size)) ≡ true

  -- the core then, of which so many tickets were given
  abbrev pub core_at : List Entry → ℕ → CoreValue
  core_at es g =
      record {
        program = program;
        cells = cells;
        limit = limit;
        history = es;
        stop = None;
        view = view_of program is_held (state_after program es);
        out = out;
        given = g;
      }

  -- and where its processes are in a machine
  abbrev pub placed_at : List Entry → ℕ → Snapshot → PlacedCore
  placed_at es g m = record { core = core_at es g; places = places_of program m }

  -- a turn in one of as many private steps as it has steps
  abbrev pub IsFull : PlacedCore → PlacedCore → ℕ → Type 0
  IsFull old new k = (turn : IsTurnAtOnce old p k new) × (length turn.segment.records ≡ k)

  module _ (laws : AreTurnsIn program) (small : cells ≤ most_cells) (es : List Entry) (n : ℕ) (can : CanRun es (suc n)) where
    product : suc n * size ≡ size + n * size
    product = omega arith

    -- ---- its private steps

    abbrev start : Start
    start = start_in can.levels

    parted : IsParted program start size (suc (n * size))
    parted =
        let count : suc (suc n * size) ≡ size + suc (n * size) = omega (arith, product) in
        next-start program start size (suc (n * size)) (subst (λ k. are_private program start k ≡ true) count can.are)

    -- the segment of the first ones, of a ticket that begins at a start where the same steps come next
    abbrev segment_at : TicketId → Start → SegmentValue
    segment_at id at = segment_value id at.unit at.index at.operands parted.records parted.mid.index parted.mid.operands

    abbrev made_at : (id : TicketId) (at : Start) → recorded_at program at size ≡ recorded_at program start size → IsMadeFrom program at (segment_at id at)
    made_at id at same = (
      record { unit = refl; index = refl; operands = refl },
      record { end = parted.mid; made = ap (recorded_at program at) parted.many ∙ (same ∙ parted.made); index = refl; operands = refl },
    )

    abbrev first : SegmentValue
    first = segment_at (record { number = 0; process = p }) start

    abbrev first_made : IsMadeFrom program start first
    first_made = made_at first.id start refl

    running : can.machine.halted ≡ false
    running = halted-is program cells es can.machine can.there ∙ can.going

    -- ---- what follows them

    abbrev es' : List Entry
    es' = es ++ entry ∷ []

    abbrev turns_then : List ℕ
    turns_then = schedule_of es ++ replicate size p

    turns : schedule_of es' ≡ turns_then
    turns = schedule-several es p size

    gone : HasGone program cells p (schedule_of es) size turns_then
    gone = subst (λ k. HasGone program cells p (schedule_of es) k (schedule_of es ++ replicate k p)) parted.many (taken.gone laws small can.there running can.levels first first_made).gone

    -- the machine
    abbrev machine_then : Snapshot
    machine_then = snapshot_taken can.levels first

    there-then : IsAfter program cells (schedule_of es') machine_then
    there-then =
        subst (λ ps. IsAfter program cells ps machine_then) (ap (λ k. schedule_of es ++ replicate k p) parted.many ∙ sym turns) (
        taken.kept laws small can.there running can.levels first first_made)

    -- where the process is in it
    abbrev levels_then : HasLevels machine_then p
    levels_then =
        let l = can.levels in
        let moved = record l.level { index = first.end_index } in
        let before = stack_with l.level l.below l.operands l.pending in
        record {
          level = moved;
          below = l.below;
          operands = first.end_operands;
          pending = l.pending;
          kept = set-numbered can.machine.processes p before (stack_with moved l.below first.end_operands l.pending) l.kept;
        }

    are-then : are_private program (start_in levels_then) (suc (n * size)) ≡ true
    are-then =
        let values = (taken.gone laws small can.there running can.levels first first_made).values in
        (λ j. are_private program (record (start_behind start parted.mid) { values = λ c. values c j }) (suc (n * size))) ∙ parted.rest

    state-then : state_after program es' ≡ run program turns_then
    state-then = state-is program es' ∙ ap (run program) turns

    state-now : state_after program es' ≡ run_from program (state_after program es) (replicate size p)
    state-now = state-several program es p size

    steps : AreSteps program (state_after program es) (replicate size p)
    steps = subst (λ (s : State). AreSteps program s (replicate size p)) (sym (state-is program es)) (steps-are program cells p (schedule_of es) size turns_then gone)

    longer : length es' ≡ length es + 1
    longer = length-append es (entry ∷ [])

    -- as many were made
    processes-same : length (state_after program es').processes ≡ length (state_after program es).processes
    processes-same =
        ap (λ (s : State). length s.processes) state-then
        ∙ (gone-processes program cells p (schedule_of es) size turns_then gone
        ∙ ap (λ (s : State). length s.processes) (sym (state-is program es)))

    activations-same : length (state_after program es').activations ≡ length (state_after program es).activations
    activations-same = sym (activations-are program cells es' machine_then there-then) ∙ activations-are program cells es can.machine can.there

    come : HasCome law program cells limit p waiting ready out home es can.far size turns_then
    come = come-so law program cells limit p waiting ready out home es can.far size turns_then gone

    laid : layout_of program cells is_held (schedule_of es') ≡ Some come.far.layout
    laid = ap (layout_of program cells is_held) (schedule-joined es p size) ∙ come.far.laid

    far-then : IsFar es'
    far-then =
        record {
          layout = come.far.layout;
          laid = laid;
          listed =
              subst (λ x. AreListed program cells (schedule_of es') x waiting ready) (sym (progress-joined program es p less)) (
              subst (λ ps. AreListed program cells ps (progress_after program (entries_along es p size)) waiting ready) (sym (schedule-joined es p size)) come.far.listed);
          few = record {
            activations = omega (arith, activations-same, longer, can.far.few.activations);
            processes = omega (arith, processes-same, longer, can.far.few.processes);
          };
          legal = λ le. legal-several program cells limit es p less (can.far.legal (omega (arith, le, longer))) (omega (arith, le, longer)) (some-there (layout_of program cells is_held (schedule_of es')) come.far.layout laid) few steps;
          living = λ q away. subst (λ (s : State). living s q ≢ None) (sym (state-joined program es p size)) (come.far.living q away);
        }

    ready-same : ready_in (progress_after program es') ≡ ready_in (progress_after program es)
    ready-same =
        rising-same 1 (length (progress_after program es').state.processes) (length (progress_after program es).state.processes) (ready_in (progress_after program es')) (ready_in (progress_after program es))
        (ready-rise (progress_after program es')) (ready-rise (progress_after program es)) (λ q. sym (far-then.listed.are_ready q) ∙ can.far.listed.are_ready q)

    going-then : ((run program turns_then).halted ≡ false) × (living (run program turns_then) p ≢ None)
    going-then = gone-going program cells p (schedule_of es) size turns_then (omega arith) gone

    going-now : (state_after program es').halted ≡ false
    going-now = ap (λ (s : State). s.halted) state-then ∙ going-then.0

    -- the next ones can be made
    pub next-run : CanRun es' n
    next-run =
        record {
          far = far-then;
          going = going-now;
          lives = subst (λ (s : State). living s p ≢ None) (sym state-then) going-then.1;
          last = last-more es entry;
          next = ap (λ qs. next_of_ready p (filter (λ q. not (is_out q out)) qs)) ready-same ∙ can.next;
          room = omega (arith, longer, can.room);
          machine = machine_then;
          there = there-then;
          levels = levels_then;
          are = are-then;
        }

    -- ---- the first one

    module _ (reads : DependOnReads) (most : size ≡ most_records) (g : ℕ) (left : g < most_tickets) (new : PlacedCore) (is : new.core ≡ core_at es' (g + 1)) (placed : ArePlaces new) where
      abbrev old : PlacedCore
      old = placed_at es g can.machine

      abbrev mid : PlacedCore
      mid = record new { core = core_at es' g }

      -- where the process is
      begins : IsAhead program start
      begins = ahead-at program start (suc n * size) can.are

      abbrev at_start : Start
      at_start = start_ahead program start

      where-at : IsWhere old p at_start
      where-at = (place_in program can.levels, place-at program can.levels, record { unit = refl; left = begins.left; values = refl; past = begins.past; inside = begins.inside })

      has-steps : HasSteps (core_after_return old.core p) p size mid.core
      has-steps = (
        steps,
        λ j. record mid.core { stop = stop j; view = view_of program is_held (state-now j); out = sym (without-home p out home) j },
      )
        where
          stop : None ≡ stop_after (run_from program (state_after program es) (replicate size p))
          stop = sym (ap (λ b. if b then Some Halted else None) (ap (λ (s : State). s.halted) (sym state-now) ∙ going-now))

      moved-with : (id : TicketId) → id.process ≡ p → (s : SegmentValue) × (s.id ≡ id) × IsMovedBehind old.core at_start s size mid.core
      moved-with id own =
          let s = segment_at id at_start in
          let made = made_at id at_start (begins.same less) in
          let private = ap is_some (begins.same (suc n * size)) ∙ can.are in (
            s,
            refl,
            (
              (reads.kept program at_start s made, (at_start.values, made.1)),
              omega (arith, parted.many),
              λ long. most,
              inr (
                sym parted.many,
                subst (λ k. HasSteps (core_after_return old.core id.process) id.process k mid.core) (sym parted.many) (subst (λ q. HasSteps (core_after_return old.core q) q size mid.core) (sym own) has-steps),
                inl (private-fewer program at_start (suc (length parted.records)) (suc (suc n * size)) (omega (arith, parted.many, product)) private),
              ),
            ),
          )

      pub turn-so : IsFull old new size
      unfolding moved-with
      turn-so =
          let same : new ≡ with_core mid (record mid.core { given = mid.core.given + 1 }) = (λ j. record new { core = is j }) in
          let next = ap (λ q. next_of_ready q (free_of old.core)) can.last ∙ can.next in
          let room : length es < limit = omega (arith, can.room) in
          let moved : HasMovedBehind old p size mid = (at_start, where-at, moved-with) in (
            behind-at-once old mid new p (refl, can.going) can.lives home left next same placed size room moved,
            ap (λ (s : SegmentValue). length s.records) (segment-is old mid new p (refl, can.going) can.lives home left next same placed size room moved) ∙ parted.many,
          )

  -- ---- all of them

  module _ (laws : AreTurnsIn program) (small : cells ≤ most_cells) where
    -- after the last one
    pub run-through : (es : List Entry) (n : ℕ) → CanRun es n → CanRun (es ++ replicate n entry) 0
    run-through es zero can = subst (λ fs. CanRun fs 0) (sym (append-nil es)) can
    run-through es (suc n) can =
        subst (λ fs. CanRun fs 0) (append_assoc es (entry ∷ []) (replicate n entry)) (run-through (es ++ entry ∷ []) n (next-run laws small es n can))

    -- from the first one to the last, which leads to a core whose places are those in some machine
    pub turns-made : DependOnReads → size ≡ most_records → (es : List Entry) (n : ℕ) (can : CanRun es n) → 0 < n → (g : ℕ) → g + n ≤ most_tickets
        → (new : PlacedCore) → new.core ≡ core_at (es ++ replicate n entry) (g + n) → ArePlaces new → AreTurnsAtOnce p n (placed_at es g can.machine) new
    turns-made reads most es zero can some g left new is placed = absurd (omega (arith, some))
    turns-made reads most es (suc zero) can some g left new is placed =
        let turn = subst (IsFull (placed_at es g can.machine) new) most (turn-so laws small es 0 can reads most g (omega (arith, left)) new is placed) in
        (new, turn.0, turn.1, refl)
    turns-made reads most es (suc (suc n)) can some g left new is placed =
        let next = next-run laws small es (suc n) can in
        let mid = placed_at (es ++ entry ∷ []) (g + 1) next.machine in
        let count : g + suc (suc n) ≡ (g + 1) + suc n = omega arith in
        let entries = sym (append_assoc es (entry ∷ []) (replicate (suc n) entry)) in
        let there : ArePlaces mid = record { machine = next.machine; after = next.there; places = refl } in
        let turn = subst (IsFull (placed_at es g can.machine) mid) most (turn-so laws small es (suc n) can reads most g (omega (arith, left)) mid refl there) in (
          mid,
          turn.0,
          turn.1,
          turns-made reads most (es ++ entry ∷ []) (suc n) next (omega arith) (g + 1) (omega (arith, left)) new (is ∙ (λ j. core_at (entries j) (count j))) placed,
        )
