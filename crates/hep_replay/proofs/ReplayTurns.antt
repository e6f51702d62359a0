-- Turns of a core, and entries made again, one after the other.
use Rattle.std.proofs.Common.{◌≡◌, ◌≢◌, ℕ, zero, suc, ◌+◌, ◌-◌, ◌<◌, ◌≤◌, Bool, true, false, true≢false, List, [], ◌∷◌, ◌++◌, Some, None, Ok, Err, length, length-append, replicate, refl, sym, ap, ◌∙◌, subst, arith, append_assoc, append-nil, add-one, inl, inr, Result, take, IsSome, if◌then◌else◌, is_some, slice_get}
use Rattle.std.proofs.Math.Bool.{beq}
use Rattle.std.proofs.lemmas.List.{length-replicate, length-take-le, replicate-append-replicate, take_more}
use Rattle.std.proofs.lemmas.Option.{cond_some, get_or_from_slice_get, same_Some, slice_get_within}
use Rattle.std.specs.Option.{unwrap_or}
use Rattle.hep_machine.specs.declared.event.Entry.{Entry}
use Rattle.hep_machine.specs.Words.{is_held, layout_of, opening, living, run, run_from, state_after_turn, AreSteps, schedule_of, state_after, State, absent, step_result_of, step_result_of_top, state_made, step, wanted_of, is_waiting, Units, view_of}
use Rattle.hep_core.specs.StateWords.{HasNoGap}
use Rattle.hep_core.proofs.StateRuns.{laid-before}
use Rattle.hep_core.specs.declared.core_fault.ChooseFault.TheVariants as refused
use Rattle.hep_core.specs.declared.stop.ChoiceStop.{ChoiceStop}
use Rattle.hep_core.specs.declared.stop.ChoiceStop.TheVariants.{Halted}
use Rattle.hep_core.specs.declared.stop.Turn.{Turn as CoreTurn}
use Rattle.hep_core.specs.CoreValues.{CoreValue, state_of, core_after_choice, stop_after, HasNoStop, IsTurn, IsChoice}
use Rattle.hep_core.specs.SilentChoices.{AreChoices}
use Rattle.hep_core.specs.SilentChoices as going
use Rattle.hep_core.proofs.SilentChoices.{choices-began}
use Rattle.hep_replay.specs.Progress.{AreMade, again, begun, EntryMade, HasTurn, IsCutShort, IsStanding, RunMade, SomeMade, SomeStepsMade, StepsMade, TurnMade, longer, turn_entry}
use Rattle.hep_replay.specs.Replays.{HaveGaps, most_entries, standing, ArePossible, IsPossible, IsThere, replayed, single_entries, single_steps}
use Rattle.hep_blocked.proofs.LivingProcesses.{waits-idle}
use Rattle.hep_machine.proofs.Replays.{run_after}
use Rattle.std.proofs.lemmas.Bool.{cases_lt}
use Rattle.hep_replay.specs.declared.replay_fault.ReplayFault.{ReplayFault}
use Rattle.hep_replay.proofs.Readings.{lines_more}

-- ---- what a process does next

-- a halted machine makes no step
pub halted_stays : (program : Units) (p : ℕ) (s : State) → s.halted ≡ true → step program p s ≡ None
halted_stays program p s h = ap (λ (b : Bool). if b then None else state_made (step_result_of program p s)) h

nothing_made : (b : Bool) → (if b then None else state_made absent) ≡ None
nothing_made true = refl
nothing_made false = refl

-- what doesn't live makes no step, and doesn't wait
pub dead_stays : (program : Units) (p : ℕ) (s : State) → living s p ≡ None → (step program p s ≡ None) × (is_waiting program s p ≡ false)
unfolding step_result_of
dead_stays program p s dead = (
  ap (λ o. if s.halted then None else state_made (step_result_of_top program s p o)) dead ∙ nothing_made s.halted,
  ap (λ o. is_some (wanted_of (step_result_of_top program s p o))) dead,
)

-- ---- states after longer histories

pub schedule_of-append : (es fs : List Entry) → schedule_of (es ++ fs) ≡ schedule_of es ++ schedule_of fs
unfolding schedule_of
schedule_of-append [] fs = refl
schedule_of-append (e ∷ es) fs = ap (λ ps. replicate e.steps e.process ++ ps) (schedule_of-append es fs) ∙ sym (append_assoc (replicate e.steps e.process) (schedule_of es) (schedule_of fs))

pub state_after_statement : (program : Units) (es fs : List Entry) → state_after program (es ++ fs) ≡ run_from program (state_after program es) (schedule_of fs)
unfolding state_after run
state_after_statement program es fs = ap (run_from program (opening program)) (schedule_of-append es fs) ∙ run_after program (opening program) (schedule_of es) (schedule_of fs)

-- the state after a turn that was made
state_stepped : (program : Units) (es : List Entry) (p : ℕ) (s : State) → step program p (state_after program es) ≡ Some s → state_after program (es ++ turn_entry p false ∷ []) ≡ s
unfolding run_from schedule_of
state_stepped program es p s e = state_after_statement program es (turn_entry p false ∷ []) ∙ ap (λ o. unwrap_or o (state_after program es)) e

state_waited : (program : Units) (es : List Entry) (p : ℕ) → state_after program (es ++ turn_entry p true ∷ []) ≡ state_after program es
unfolding run_from schedule_of
state_waited program es p = state_after_statement program es (turn_entry p true ∷ [])

-- ---- gaps

-- where a turn makes a frame that has no gap, not each frame has one after it
no_gaps : (program : Units) (cells : ℕ) (es : List Entry) (p : ℕ) → HasNoGap program cells (schedule_of es) p → HaveGaps program cells (es ++ turn_entry p false ∷ []) → ⊥
unfolding schedule_of
no_gaps program cells es p gap gaps =
    let some = subst (λ ps. IsSome (layout_of program cells is_held ps)) (schedule_of-append es (turn_entry p false ∷ [])) gaps in
    true≢false (sym some ∙ ap is_some gap.full)

-- what made a step for which there is no gap isn't waiting
no_gap_waits : (program : Units) (cells : ℕ) (es : List Entry) (p : ℕ) → HasNoGap program cells (schedule_of es) p → is_waiting program (state_after program es) p ≡ true → ⊥
unfolding state_after
no_gap_waits program cells es p gap waits = gap.stepped (waits-idle program p (run program (schedule_of es)) waits)

no_gap_turns : (program : Units) (cells : ℕ) (es : List Entry) (p : ℕ) (waits : Bool) → HasNoGap program cells (schedule_of es) p → HasTurn program (state_after program es) p waits
    → HaveGaps program cells (es ++ turn_entry p waits ∷ []) → ⊥
no_gap_turns program cells es p true gap has gaps = no_gap_waits program cells es p gap has.1
no_gap_turns program cells es p false gap has gaps = no_gaps program cells es p gap gaps

-- the frames of the entries in front are among those of all
pub gaps_before : (program : Units) (cells : ℕ) (es fs : List Entry) → HaveGaps program cells (es ++ fs) → HaveGaps program cells es
gaps_before program cells es fs gaps =
    laid-before program cells (schedule_of es) (schedule_of fs) (subst (λ ps. IsSome (layout_of program cells is_held ps)) (schedule_of-append es fs) gaps)

-- ---- one choice

-- a core with this history and state
with_state : Units → ℕ → ℕ → List Entry → State → CoreValue
with_state program cells limit history s = record { program = program; cells = cells; limit = limit; history = history; stop = stop_after s; view = view_of program is_held s; out = []; given = 0 }

-- a choice that was made leaves the core with one entry more
grown_is : (old : CoreValue) (p n : ℕ) (s : State) → IsStanding old → state_after old.program (old.history ++ record { process = p; steps = n } ∷ []) ≡ s → core_after_choice old p n s ≡ longer old (record { process = p; steps = n } ∷ [])
unfolding with_state
grown_is old p n s h same =
    let history : List Entry = old.history ++ record { process = p; steps = n } ∷ [] in
    ap (λ (c : CoreValue). record (with_state old.program old.cells c.limit history s) { out = c.out; given = c.given }) h
    ∙ ap (λ (t : State). with_state old.program old.cells most_entries history t) (sym same)

limit_is : (old : CoreValue) → IsStanding old → old.limit ≡ most_entries
limit_is old h = ap (λ c. c.limit) h

turned : (old new : CoreValue) (p n : ℕ) (blocked waits : Bool) → IsStanding old → HasNoStop old → length old.history < old.limit → IsTurn old p n blocked new → TurnMade old p waits (Ok (beq blocked waits)) new
turned old new p zero true true h going room t =
    (omega (arith, limit_is old h), (going.1, t.0), t.1 ∙ grown_is old p 0 (state_of old) h (state_waited old.program old.history p))
turned old new p zero true false h going room t = λ within has gaps. has (waits-idle old.program p (state_of old) t.0)
turned old new p (suc zero) false true h going room t = λ within has gaps. cc (t.1, waits-idle old.program p (state_of old) has.1)
turned old new p (suc zero) false false h going room t = (
  omega (arith, limit_is old h),
  (λ none. cc (t.1, none)),
  t.2 ∙ grown_is old p 1 t.0 h (state_stepped old.program old.history p t.0 t.1),
)
turned old new p zero false waits h going room t = absurd t
turned old new p (suc zero) true waits h going room t = absurd t
turned old new p (suc (suc n)) blocked waits h going room t = absurd t

pub turn_made : (old new : CoreValue) (p : ℕ) (waits : Bool) (t : CoreTurn) → IsStanding old → IsChoice old p (Ok t) new → TurnMade old p waits (Ok (beq t.blocked waits)) new
turn_made old new p waits t h c = turned old new p t.steps t.blocked waits h c.0 c.2 c.3

no_turn : (program : Units) (s : State) (p : ℕ) (waits : Bool) → living s p ≡ None → HasTurn program s p waits → ⊥
no_turn program s p true dead has = absurd (cc (has.1, (dead_stays program p s dead).1))
no_turn program s p false dead has = has (dead_stays program p s dead).0

pub nobody_turns : (old new : CoreValue) (p : ℕ) (waits : Bool) → IsChoice old p (Err refused.NoSuchProcess) new → TurnMade old p waits (Ok false) new
nobody_turns old new p waits c = λ room has gaps. no_turn old.program (state_of old) p waits c.1 has

is_halted : (s : State) (stop : ChoiceStop) → stop_after s ≡ Some stop → s.halted ≡ true
is_halted s stop e = (cond_some s.halted Halted stop e).0

halted_turn : (program : Units) (s : State) (p : ℕ) (waits : Bool) → s.halted ≡ true → HasTurn program s p waits → ⊥
halted_turn program s p true halted has = absurd (cc (halted, has.0))
halted_turn program s p false halted has = has (halted_stays program p s halted)

pub stopped_turns : (old new : CoreValue) (p : ℕ) (waits : Bool) (stop : ChoiceStop) → IsStanding old → IsChoice old p (Err (refused.Stopped stop)) new → TurnMade old p waits (Ok false) new
stopped_turns old new p waits stop h (inl c) = λ room has gaps.
    halted_turn old.program (state_of old) p waits (is_halted (state_of old) stop (sym (ap (λ k. k.stop) h) ∙ c.0)) has
stopped_turns old new p waits stop h (inr (inl c)) = λ room has gaps. omega (arith, limit_is old h, c.1)
stopped_turns old new p waits stop h (inr (inr c)) = λ room has gaps. no_gap_turns old.program old.cells old.history p waits c.2 has gaps

-- ---- many turns

pub standing_longer : (old mid : CoreValue) (more : List Entry) → mid ≡ longer old more → IsStanding mid
standing_longer old mid more e = subst IsStanding (sym e) refl

-- an entry of one step
abbrev pub one : ℕ → Entry
one p = record { process = p; steps = 1 }

pub expand_ones : (p n : ℕ) → schedule_of (replicate n (one p)) ≡ replicate n p
unfolding schedule_of
expand_ones p zero = refl
expand_ones p (suc n) = ap (λ ps. p ∷ ps) (expand_ones p n)

state_ones : (program : Units) (es : List Entry) (p n : ℕ) → state_after program (es ++ replicate n (one p)) ≡ run_from program (state_after program es) (replicate n p)
state_ones program es p n = state_after_statement program es (replicate n (one p)) ∙ ap (run_from program (state_after program es)) (expand_ones p n)

steps_last : (program : Units) (s : State) (p i : ℕ) → AreSteps program s (replicate i p) → step program p (run_from program s (replicate i p)) ≢ None → AreSteps program s (replicate (suc i) p)
unfolding run_from
steps_last program s p zero h more = (more, tt)
steps_last program s p (suc i) h more = (h.0, steps_last program (state_after_turn program p s) p i h.1 more)

steps_at : (program : Units) (s : State) (p i n : ℕ) → i < n → AreSteps program s (replicate n p) → step program p (run_from program s (replicate i p)) ≢ None
unfolding run_from
steps_at program s p i zero lt h = absurd (omega arith)
steps_at program s p zero (suc n) lt h = h.0
steps_at program s p (suc i) (suc n) lt h = steps_at program (state_after_turn program p s) p i n (omega arith) h.1

one_last : (x : Entry) (i : ℕ) → replicate i x ++ x ∷ [] ≡ replicate (i + 1) x
one_last x i = replicate-append-replicate i 1 x

-- the loop over steps goes on
pub steps_more : (old mid new : CoreValue) (p i : ℕ) → AreSteps old.program (state_of old) (replicate i p) → mid ≡ longer old (replicate i (one p)) → TurnMade mid p false (Ok true) new
    → (length old.history + (i + 1) ≤ most_entries) × AreSteps old.program (state_of old) (replicate (i + 1) p) × (new ≡ longer old (replicate (i + 1) (one p)))
steps_more old mid new p i steps made t =
    let u = subst (λ (m : CoreValue). TurnMade m p false (Ok true) new) made t in
    let there : step old.program p (run_from old.program (state_of old) (replicate i p)) ≢ None =
    subst (λ (s : State). step old.program p s ≢ None) (state_ones old.program old.history p i) u.1 in
    let history : (old.history ++ replicate i (one p)) ++ one p ∷ [] ≡ old.history ++ replicate (i + 1) (one p) =
    append_assoc old.history (replicate i (one p)) (one p ∷ []) ∙ ap (λ (es : List Entry). old.history ++ es) (one_last (one p) i) in (
      omega (arith, u.0, length-append old.history (replicate i (one p)), length-replicate i (one p)),
      rw add-one (steps_last old.program (state_of old) p i steps there),
      u.2 ∙ ap (λ (es : List Entry). standing old.program old.cells es) history,
    )

-- the entries of n steps are those of i of them, the next one, and the rest
ones_apart : (es : List Entry) (x : Entry) (i n : ℕ) → i < n → es ++ replicate n x ≡ ((es ++ replicate i x) ++ x ∷ []) ++ replicate (n - (i + 1)) x
ones_apart es x i n lt =
    let count : n ≡ (i + 1) + (n - (i + 1)) = omega (arith, lt) in
    ap (λ k. es ++ replicate k x) count
    ∙ ap (λ xs. es ++ xs) (sym (replicate-append-replicate (i + 1) (n - (i + 1)) x))
    ∙ sym (append_assoc es (replicate (i + 1) x) (replicate (n - (i + 1)) x))
    ∙ ap (λ xs. (es ++ xs) ++ replicate (n - (i + 1)) x) (sym (one_last x i))
    ∙ ap (λ xs. xs ++ replicate (n - (i + 1)) x) (sym (append_assoc es (replicate i x) (x ∷ [])))

-- a step that isn't there, or makes a frame that has no gap, ends it
pub steps_end : (old mid new : CoreValue) (p i n : ℕ) → i < n → mid ≡ longer old (replicate i (one p)) → TurnMade mid p false (Ok false) new
    → length old.history + n ≤ most_entries → AreSteps old.program (state_of old) (replicate n p)
    → HaveGaps old.program old.cells (old.history ++ replicate n (one p)) → ⊥
steps_end old mid new p i n lt made t room steps gaps =
    let u = subst (λ (m : CoreValue). TurnMade m p false (Ok false) new) made t in
    u (omega (arith, length-append old.history (replicate i (one p)), length-replicate i (one p)))
    (subst (λ (s : State). step old.program p s ≢ None) (sym (state_ones old.program old.history p i)) (steps_at old.program (state_of old) p i n lt steps))
    (gaps_before old.program old.cells ((old.history ++ replicate i (one p)) ++ one p ∷ []) (replicate (n - (i + 1)) (one p)) (
    subst (HaveGaps old.program old.cells) (ones_apart old.history (one p) i n lt) gaps))

-- ---- choices in a row

standing_same : (old new : CoreValue) → IsStanding old → new ≡ longer old [] → old ≡ new
standing_same old new h made = h ∙ (ap (λ (es : List Entry). standing old.program old.cells es) (sym (append-nil old.history)) ∙ sym made)

choices_within : (p : ℕ) (old : CoreValue) (n : ℕ) (new : CoreValue) → IsStanding old → 1 ≤ n → AreChoices p old n new → length old.history ≤ most_entries
choices_within p old n new h some made = omega (arith, (choices-began p old n new some made).1, limit_is old h)

ones_made : (p : ℕ) (old : CoreValue) (n : ℕ) (new : CoreValue) → IsStanding old → length old.history ≤ most_entries → AreChoices p old n new → StepsMade old p n (Ok true) new
ones_made p old _ _ h room (going.begun core) = (omega (arith, room), tt, h ∙ ap (λ (es : List Entry). standing old.program old.cells es) (sym (append-nil old.history)))
ones_made p old _ _ h room (going.again _ n core new before is) =
    let so_far = ones_made p old n core h room before in
    let turn = turn_made core new p false (record { steps = 1; blocked = false }) (standing_longer old core (replicate n (one p)) so_far.2) is.chosen in
    let more = steps_more old core new p n so_far.1 so_far.2 turn in
    let count : n + 1 ≡ suc n = omega arith in
    subst (λ k. StepsMade old p k (Ok true) new) count more

-- that only moved
pub steps_moved : (p : ℕ) (old : CoreValue) (n : ℕ) (new : CoreValue) → IsStanding old → 1 ≤ n → AreChoices p old n new → SomeStepsMade old p (Ok n) new
steps_moved p old zero new h some made = absurd (omega (arith, some))
steps_moved p old (suc n) new h some made = ones_made p old (suc n) new h (choices_within p old (suc n) new h some made) made

-- or one, which may have found its process waiting
pub steps_turned : (p : ℕ) (old new : CoreValue) (t : CoreTurn) (blocked : Bool) (n : ℕ) → n ≡ 1 → IsStanding old → t.blocked ≡ blocked → IsChoice old p (Ok t) new → blocked ≡ false → SomeStepsMade old p (Ok n) new
steps_turned p old new t blocked n one_made h same chosen stepped =
    let made = turn_made old new p false t h chosen in
    let is : beq t.blocked false ≡ true = ap (λ b. beq b false) (same ∙ stepped) in
    let turn = subst (λ b. TurnMade old p false (Ok b) new) is made in
    subst (λ k. SomeStepsMade old p (Ok k) new) (sym one_made) (steps_more old old new p 0 tt (h ∙ ap (λ (es : List Entry). standing old.program old.cells es) (sym (append-nil old.history))) turn)

-- ---- one entry

pub entry_waited : (old new : CoreValue) (p n : ℕ) (r : Result Bool ReplayFault) → n ≡ 0 → TurnMade old p true r new → EntryMade old (record { process = p; steps = n }) r new
entry_waited old new p (suc n) r z t = absurd (omega arith)
entry_waited old new p zero (Ok true) z t = (omega (arith, t.0), t.1, t.2)
entry_waited old new p zero (Ok false) z t = λ room there gaps. t (omega arith) there gaps
entry_waited old new p zero (Err fault) z t = t

pub entry_stepped : (old new : CoreValue) (p n : ℕ) (r : Result Bool ReplayFault) → n ≢ 0 → StepsMade old p n r new → EntryMade old (record { process = p; steps = n }) r new
entry_stepped old new p zero r z t = absurd (z refl)
entry_stepped old new p (suc n) (Ok true) z t = (omega (arith, t.0, length-replicate (suc n) (let x : Entry = record { process = p; steps = 1 } in x)), t.1, t.2)
entry_stepped old new p (suc n) (Ok false) z t = λ room there gaps. t (omega (arith, room, length-replicate (suc n) (let x : Entry = record { process = p; steps = 1 } in x))) there gaps
entry_stepped old new p (suc n) (Err fault) z t = t

-- ---- the same turns

expand_single : (p n : ℕ) → schedule_of (single_steps p n) ≡ replicate n p
unfolding schedule_of
expand_single p zero = refl
expand_single p (suc n) = expand_ones p (suc n)

pub expand_singles : (es : List Entry) → schedule_of (single_entries es) ≡ schedule_of es
unfolding schedule_of
expand_singles [] = refl
expand_singles (e ∷ es) =
    schedule_of-append (single_steps e.process e.steps) (single_entries es)
    ∙ ap (λ ps. ps ++ schedule_of (single_entries es)) (expand_single e.process e.steps)
    ∙ ap (λ ps. replicate e.steps e.process ++ ps) (expand_singles es)

pub state_singles : (program : Units) (es : List Entry) → state_after program (single_entries es) ≡ state_after program es
unfolding state_after run
state_singles program es = ap (run_from program (opening program)) (expand_singles es)

-- with one entry more
singles_more : (es : List Entry) (e : Entry) → single_entries (es ++ e ∷ []) ≡ single_entries es ++ single_steps e.process e.steps
singles_more es e = lines_more (λ (x : Entry). single_steps x.process x.steps) es e

turns_more : (es : List Entry) (e : Entry) → schedule_of (single_entries es ++ single_steps e.process e.steps) ≡ schedule_of (es ++ e ∷ [])
turns_more es e = ap schedule_of (sym (singles_more es e)) ∙ expand_singles (es ++ e ∷ [])

-- the same turns make the same frames
same_gaps : (program : Units) (cells : ℕ) (es fs : List Entry) → schedule_of es ≡ schedule_of fs → HaveGaps program cells es → HaveGaps program cells fs
same_gaps program cells es fs same gaps = subst (λ ps. IsSome (layout_of program cells is_held ps)) same gaps

-- ---- entries in order

-- the entries so far, with one more
pub entry_next : (program : Units) (cells : ℕ) (entries : List Entry) (i : ℕ) (e : Entry) (new : CoreValue) → slice_get entries i ≡ Some e
    → EntryMade (replayed program cells (take i entries)) e (Ok true) new → HaveGaps new.program new.cells new.history
    → (new ≡ replayed program cells (take (i + 1) entries)) × (length (single_entries (take (i + 1) entries)) ≤ most_entries) × IsPossible program cells (take i entries) e
entry_next program cells entries i e new at made gaps =
    let within : i < length entries = slice_get_within entries i e at in
    let front : take (i + 1) entries ≡ take i entries ++ e ∷ [] =
    take_more entries i e within ∙ ap (λ (x : Entry). take i entries ++ x ∷ []) (get_or_from_slice_get entries i e e at) in
    let singles : single_entries (take (i + 1) entries) ≡ single_entries (take i entries) ++ single_steps e.process e.steps =
    ap (λ (es : List Entry). single_entries es) front ∙ singles_more (take i entries) e in (
      made.2 ∙ ap (λ (es : List Entry). standing program cells es) (sym singles),
      omega (arith, made.0, ap (λ (es : List Entry). length es) singles, length-append (single_entries (take i entries)) (single_steps e.process e.steps)),
      (
        made.0,
        subst (λ s. IsThere program s e.process e.steps) (state_singles program (take i entries)) made.1,
        same_gaps program cells (single_entries (take i entries) ++ single_steps e.process e.steps) (take i entries ++ e ∷ []) (turns_more (take i entries) e) (
            subst (λ (x : CoreValue). HaveGaps x.program x.cells x.history) made.2 gaps),
      ),
    )

-- the entry that isn't made isn't possible
pub entry_refused : (program : Units) (cells : ℕ) (entries : List Entry) (i : ℕ) (e : Entry) (new : CoreValue)
    → EntryMade (replayed program cells (take i entries)) e (Ok false) new → IsPossible program cells (take i entries) e → ⊥
entry_refused program cells entries i e new made possible =
    made possible.0
    (subst (λ s. IsThere program s e.process e.steps) (sym (state_singles program (take i entries))) possible.1)
    (same_gaps program cells (take i entries ++ e ∷ []) (single_entries (take i entries) ++ single_steps e.process e.steps) (sym (turns_more (take i entries) e)) possible.2)

pub possible_more : (program : Units) (cells : ℕ) (entries : List Entry) (i : ℕ) (e : Entry) → slice_get entries i ≡ Some e → ArePossible program cells entries i → IsPossible program cells (take i entries) e → ArePossible program cells entries (i + 1)
possible_more program cells entries i e at so_far here j f lt found = elim (cases_lt j i) [ inl below ↦ so_far j f below found | inr above ↦ last above ]
  where
    last : i ≤ j → IsPossible program cells (take j entries) f
    last above =
        let same : j ≡ i = omega arith in
        let is : e ≡ f = same_Some e f (sym at ∙ ap (slice_get entries) (sym same) ∙ found) in
        subst (λ (k : ℕ). IsPossible program cells (take k entries) f) (sym same) (subst (λ (x : Entry). IsPossible program cells (take i entries) x) is here)

-- ---- entries of one step in a row

steps_front : (program : Units) (s : State) (p n : ℕ) → AreSteps program s (replicate (suc n) p) → AreSteps program s (replicate n p)
steps_front program s p zero h = tt
steps_front program s p (suc n) h = (h.0, steps_front program (state_after_turn program p s) p n h.1)

-- the last one of so many steps
last_step : (old mid new : CoreValue) (p n : ℕ) → mid ≡ longer old (replicate n (one p)) → StepsMade old p (suc n) (Ok true) new → EntryMade mid (one p) (Ok true) new
last_step old mid new p n is made =
    subst (λ (m : CoreValue). EntryMade m (one p) (Ok true) new) (sym is) (
      omega (arith, made.0, length-append old.history (replicate n (one p)), length-replicate n (one p)),
      (subst (λ (s : State). step old.program p s ≢ None) (sym (state_ones old.program old.history p n)) (steps_at old.program (state_of old) p n (suc n) (omega arith) made.1), tt),
      made.2 ∙ ap (λ (es : List Entry). standing old.program old.cells es) (all n),
    )
  where
    all : (n : ℕ) → old.history ++ replicate (suc n) (one p) ≡ (old.history ++ replicate n (one p)) ++ one p ∷ []
    all n =
        let more : suc n ≡ n + 1 = omega arith in
        ap (λ k. old.history ++ replicate k (one p)) more ∙ (ap (λ (es : List Entry). old.history ++ es) (sym (one_last (one p) n)) ∙ sym (append_assoc old.history (replicate n (one p)) (one p ∷ [])))

-- so many entries from one on were made, and those before it
pub record HaveReplayed (program : Units) (cells : ℕ) (entries : List Entry) (k : ℕ) (core : CoreValue) : Type 0 where
  pub made : core ≡ replayed program cells (take k entries)
  pub within : length (single_entries (take k entries)) ≤ most_entries
  pub possible : ArePossible program cells entries k

pub one_replayed : (program : Units) (cells : ℕ) (entries : List Entry) (i : ℕ) (e : Entry) (old new : CoreValue) → slice_get entries i ≡ Some e → HaveReplayed program cells entries i old
    → EntryMade old e (Ok true) new → HaveGaps new.program new.cells new.history → HaveReplayed program cells entries (i + 1) new
one_replayed program cells entries i e old new at so_far made gaps =
    let next = entry_next program cells entries i e new at (subst (λ (x : CoreValue). EntryMade x e (Ok true) new) so_far.made made) gaps in
    record { made = next.0; within = next.1; possible = possible_more program cells entries i e at so_far.possible next.2 }

-- ---- an entry that is made again and again

pub steps_again : (old new : CoreValue) (p n : ℕ) → IsStanding old → StepsMade old p n (Ok true) new → AreMade (one p) old n new
steps_again old new p zero h made = subst (λ (x : CoreValue). AreMade (one p) old 0 x) (standing_same old new h made.2) (begun old)
steps_again old new p (suc n) h made =
    let mid = longer old (replicate n (one p)) in
    again old n mid new (steps_again old mid p n h (omega (arith, made.0), steps_front old.program (state_of old) p n made.1, refl)) (last_step old mid new p n refl made)

pub once : (e : Entry) (old new : CoreValue) → EntryMade old e (Ok true) new → AreMade e old 1 new
once e old new made = again old 0 old new (begun old) made

pub joined : (e : Entry) (old : CoreValue) (n m : ℕ) (mid new : CoreValue) → AreMade e old n mid → AreMade e mid m new → AreMade e old (n + m) new
joined e old n _ mid _ before (begun _) =
    let none : n ≡ n + 0 = omega arith in
    subst (λ k. AreMade e old k mid) none before
joined e old n _ mid _ before (again _ m core new more last) =
    let count : suc (n + m) ≡ n + suc m = omega arith in
    subst (λ k. AreMade e old k new) count (again old (n + m) core new (joined e old n m mid core before more) last)

pub some_steps : (old new : CoreValue) (p n : ℕ) → IsStanding old → SomeStepsMade old p (Ok n) new → SomeMade old (one p) (Ok n) new
some_steps old new p zero h none = λ room there gaps. none (omega (arith, room)) there.0 gaps
some_steps old new p (suc n) h made = steps_again old new p (suc n) h made

-- the core stays what its history makes it, which has room
pub still_standing : (e : Entry) (old : CoreValue) (n : ℕ) (new : CoreValue) → AreMade e old n new → IsStanding old → length old.history ≤ most_entries → IsStanding new × (length new.history ≤ most_entries)
still_standing e old _ _ (begun _) h room = (h, room)
still_standing e old _ _ (again _ n core new before last) h room = (
  standing_longer core new (single_steps e.process e.steps) last.2,
  omega (arith, last.0, ap (λ (x : CoreValue). length x.history) last.2, length-append core.history (single_steps e.process e.steps)),
)

-- the frames in front of the last one had their gaps
gaps_in_front : (e : Entry) (core new : CoreValue) → EntryMade core e (Ok true) new → HaveGaps new.program new.cells new.history → HaveGaps core.program core.cells core.history
gaps_in_front e core new made gaps =
    gaps_before core.program core.cells core.history (single_steps e.process e.steps) (subst (λ (x : CoreValue). HaveGaps x.program x.cells x.history) made.2 gaps)

pub run_replayed : (program : Units) (cells : ℕ) (entries : List Entry) (i : ℕ) (e : Entry) (old : CoreValue) (n : ℕ) (new : CoreValue) → ((k : ℕ) → k < n → slice_get entries (i + k) ≡ Some e)
    → HaveReplayed program cells entries i old → AreMade e old n new → HaveGaps new.program new.cells new.history → HaveReplayed program cells entries (i + n) new
run_replayed program cells entries i e old _ _ alike so_far (begun _) gaps =
    let none : i ≡ i + 0 = omega arith in
    subst (λ k. HaveReplayed program cells entries k old) none so_far
run_replayed program cells entries i e old _ _ alike so_far (again _ n core new before last) gaps =
    let front = run_replayed program cells entries i e old n core (λ k lt. alike k (omega (arith, lt))) so_far before (gaps_in_front e core new last gaps) in
    let count : (i + n) + 1 ≡ i + suc n = omega arith in
    subst (λ k. HaveReplayed program cells entries k new) count (one_replayed program cells entries (i + n) e core new (alike n (omega arith)) front last gaps)

-- the entry at which a run was cut short isn't possible
pub run_refused : (program : Units) (cells : ℕ) (entries : List Entry) (i : ℕ) (e : Entry) (core new : CoreValue) → HaveReplayed program cells entries i core → EntryMade core e (Ok false) new
    → IsPossible program cells (take i entries) e → ⊥
run_refused program cells entries i e core new so_far refused = entry_refused program cells entries i e new (subst (λ (x : CoreValue). EntryMade x e (Ok false) new) so_far.made refused)

-- what came of a run
pub run_whole : (old : CoreValue) (e : Entry) (count made : ℕ) (new : CoreValue) → RunMade old e count (Ok made) new → count ≤ made → (made ≡ count) × AreMade e old made new
run_whole old e count made new (inl all) past = all
run_whole old e count made new (inr cut) past = absurd (omega (arith, cut.fewer, past))

pub run_cut : (old : CoreValue) (e : Entry) (count made : ℕ) (new : CoreValue) → RunMade old e count (Ok made) new → made < count → IsCutShort old e count made new
run_cut old e count made new (inl all) less = absurd (omega (arith, all.0, less))
run_cut old e count made new (inr cut) less = cut

-- each entry leaves one at least, so there are no more than a history has room for
singles_some : (p n : ℕ) → 1 ≤ length (single_steps p n)
singles_some p zero = omega arith
singles_some p (suc n) = omega (arith, length-replicate (suc n) (one p))

singles_many : (es : List Entry) → length es ≤ length (single_entries es)
singles_many [] = omega arith
singles_many (e ∷ es) = omega (arith, singles_many es, singles_some e.process e.steps, length-append (single_steps e.process e.steps) (single_entries es))

pub replayed_few : (program : Units) (cells : ℕ) (entries : List Entry) (k : ℕ) (core : CoreValue) → HaveReplayed program cells entries k core → k ≤ length entries → k ≤ most_entries
replayed_few program cells entries k core so_far within = omega (arith, so_far.within, singles_many (take k entries), length-take-le k entries within)
