-- Where a run is over no process has a step, and each ending is that of a run that is over.
use Rattle.std.proofs.Common.{◌≡◌, ◌≢◌, ◌⊎◌, inl, inr, ℕ, zero, suc, Bool, true, false, true≢false, ◌&&◌, ◌||◌, not, List, [], ◌∷◌}
use Rattle.std.proofs.Common.{◌++◌, map, length, Option, Some, None, IsSome, is_some, nat_eq, refl, sym, ap, ◌∙◌, subst, arith, replicate}
use Rattle.std.proofs.lemmas.Bool.{cases_eq, eq-eqb, ne_eqb}
use Rattle.hep_machine.specs.declared.event.Entry.{Entry}
use Rattle.hep_machine.specs.Words.{AreEntries, AreSteps, IsEntry, IsLegal, Level, Process, Progress, State, Units, is_held}
use Rattle.hep_machine.specs.Words.{is_number_among, is_waiting, layout_of, living, living_from, opening, progress_after}
use Rattle.hep_machine.specs.Words.{progress_after_entry, progress_after_step, progress_after_steps, progress_from, ready_in, run, run_from}
use Rattle.hep_machine.specs.Words.{schedule_of, state_after, state_after_turn, step, without}
use Rattle.hep_machine.proofs.Others.{dead_idle}
use Rattle.hep_machine.proofs.Replays.{legal_steps}
use Rattle.hep_blocked.proofs.LivingProcesses.{waits-idle}
use Rattle.hep_core.proofs.Histories.{progress-state}
use Rattle.hep_blocked.proofs.Members.{among-filter, among-living, among-ready, among-without, none-among}
use Rattle.hep_replay.proofs.ReplayTurns.{halted_stays}
use Rattle.hep_explore.specs.Endings.{Ending, IsEndingWithin, IsTerminal, ending_of}
use Rattle.hep_explore.proofs.Turns.{by_halted}
use Rattle.hep_explore.specs.Finished.{IsFinished, IsSerial, IsSerialFrom}
use Rattle.hep_explore.proofs.Stacks.{idle_waits}

-- the first one is true where the conjunction is
and_first : (a b : Bool) → (a && b) ≡ true → a ≡ true
and_first true b e = refl
and_first false b e = e

-- ---- the processes that are listed wait

-- the state after an entry is that of its steps
steps_state : (program : Units) (x : Progress) (p n : ℕ)
    → (progress_after_steps program x p n).state ≡ run_from program x.state (replicate n p)
unfolding run_from
steps_state program x p zero = refl
steps_state program x p (suc n) = steps_state program (progress_after_step program x p (state_after_turn program p x.state)) p n

-- an entry leads to the state after its steps
entry_state : (program : Units) (x : Progress) (e : Entry) (n : ℕ)
    → (progress_after_entry program x e n).state ≡ run_from program x.state (replicate n e.process)
unfolding run_from
entry_state program x e zero = refl
entry_state program x e (suc n) = steps_state program x e.process (suc n)

-- each one does, in the state of the listing
abbrev pub ListedWait : Units → Progress → Type 0
ListedWait program x = (q : ℕ) → is_number_among q x.listed ≡ true → is_waiting program x.state q ≡ true

module _ (program : Units) where
  -- so they do after a step, after steps, after an entry that found a process waiting, and after each legal entry
  step_wait : (x : Progress) (p : ℕ) (s : State) → ListedWait program (progress_after_step program x p s)
  step_wait x p s q among =
      let ps : List ℕ = without p x.listed in
      and_first (is_waiting program s q) (is_number_among q ps) (sym (among-filter (is_waiting program s) q ps) ∙ among)

  steps_wait : (n : ℕ) (x : Progress) (p : ℕ) → ListedWait program x → ListedWait program (progress_after_steps program x p n)
  steps_wait zero x p h = h
  steps_wait (suc n) x p h =
      let t : State = state_after_turn program p x.state in
      steps_wait n (progress_after_step program x p t) p (step_wait x p t)

  found_wait : (x : Progress) (e : Entry) → ListedWait program x → is_waiting program x.state e.process ≡ true
      → ListedWait program (progress_after_entry program x e 0)
  found_wait x e h waits q among = elim (cases_eq q e.process) [
    | inl same ↦ ap (is_waiting program x.state) same ∙ waits
    | inr other ↦
        let others : List ℕ = without e.process x.listed in
        let there : is_number_among q others ≡ true = sym (ap (λ b. b || is_number_among q others) (ne_eqb q e.process other)) ∙ among in
        h q (sym (among-without e.process q x.listed (λ same. other (sym same))) ∙ there)
  ]

  entry_wait : (x : Progress) (e : Entry) → ListedWait program x → IsEntry program x.state e
      → ListedWait program (progress_after_entry program x e e.steps)
  entry_wait x e h is = by_steps e.steps refl where
    waits : e.steps ≡ 0 → IsEntry program x.state e → is_waiting program x.state e.process ≡ true
    waits none (inl found) = found.1
    waits none (inr made) = let some = made.0 in absurd (omega arith)

    by_steps : (n : ℕ) → e.steps ≡ n → ListedWait program (progress_after_entry program x e n)
    by_steps zero none = found_wait x e h (waits none is)
    by_steps (suc n) some = steps_wait (suc n) x e.process h

  entries_wait : (es : List Entry) (x : Progress) → ListedWait program x → AreEntries program x.state es
      → ListedWait program (progress_from program x es)
  unfolding progress_from
  entries_wait [] x h are = h
  entries_wait (e ∷ es) x h are =
      entries_wait es (progress_after_entry program x e e.steps) (entry_wait x e h are.0) (
      subst (λ s. AreEntries program s es) (sym (entry_state program x e e.steps)) are.1)

  -- ---- no process has a step where none is ready

  -- in the state of the listing
  idle_of : (x : Progress) → ListedWait program x → ready_in x ≡ [] → IsTerminal program x.state
  idle_of x wait none q = by_living (living x.state q) refl where
    listed : is_some (living x.state q) ≡ true → (b : Bool) → is_number_among q x.listed ≡ b
        → (not b && is_some (living x.state q)) ≡ false → b ≡ true
    listed lives true e unready = refl
    listed lives false e unready = absurd (true≢false (sym lives ∙ unready))

    by_living : (top : Option (Level × Process)) → living x.state q ≡ top → step program q x.state ≡ None
    by_living None dead = dead_idle program q x.state dead
    by_living (Some top) lives =
        let unready = sym (among-ready x q) ∙ ap (is_number_among q) none in
        waits-idle program q x.state (wait q (listed (ap is_some lives) (is_number_among q x.listed) refl unready))

  -- after a legal history
  pub legal_wait : (cells limit : ℕ) (history : List Entry) → IsLegal program cells limit history
      → ListedWait program (progress_after program history)
  legal_wait cells limit history legal =
      entries_wait history (record { state = opening program; listed = [] }) (λ w among. absurd cc) legal.entries

  -- after a legal history that is over
  pub idle_after : (cells limit : ℕ) (history : List Entry) → IsLegal program cells limit history → IsFinished program history
      → IsTerminal program (state_after program history)
  idle_after cells limit history legal (inl halted) q = halted_stays program q (state_after program history) halted
  idle_after cells limit history legal (inr none) q =
      subst (IsTerminal program) (progress-state program history) (
      idle_of (progress_after program history) (legal_wait cells limit history legal) none) q

  -- the program may end as the history does
  pub finished_ends : (cells limit : ℕ) (history : List Entry) → IsLegal program cells limit history → IsFinished program history
      → IsEndingWithin program cells (ending_of program (state_after program history))
  unfolding state_after
  finished_ends cells limit history legal over =
      (schedule_of history, legal_steps program cells limit history legal, legal.room, idle_after cells limit history legal over, refl)

-- ---- a history of single steps, after which each process that lives was found waiting

-- an entry of one step, and one that found its process waiting
one : ℕ → Entry
one p = record { process = p; steps = 1 }

found : ℕ → Entry
found p = record { process = p; steps = 0 }

-- the turns of such entries
schedule_found : (ws : List ℕ) → schedule_of (map found ws) ≡ []
unfolding schedule_of found
schedule_found [] = refl
schedule_found (w ∷ ws) = schedule_found ws

-- the turns of all entries are the choices
schedule_serial : (ps ws : List ℕ) → schedule_of (map one ps ++ map found ws) ≡ ps
unfolding schedule_of one
schedule_serial [] ws = schedule_found ws
schedule_serial (p ∷ ps) ws = ap (λ qs. p ∷ qs) (schedule_serial ps ws)

-- none of them comes after a STOP
serial_found : (program : Units) (ws : List ℕ) (s : State) → (ws ≡ []) ⊎ (s.halted ≡ false) → IsSerialFrom program s (map found ws)
unfolding run_from found
serial_found program [] s going = tt
serial_found program (w ∷ ws) s (inl none) = absurd cc
serial_found program (w ∷ ws) s (inr going) = (going, omega arith, serial_found program ws s (inr going))

-- nor do those of the choices
serial_one : (program : Units) (ps ws : List ℕ) (s : State) → AreSteps program s ps → (ws ≡ []) ⊎ ((run_from program s ps).halted ≡ false)
    → IsSerialFrom program s (map one ps ++ map found ws)
unfolding run_from one
serial_one program [] ws s made going = serial_found program ws s going
serial_one program (p ∷ ps) ws s made going =
    (going_now (by_halted s), omega arith, serial_one program ps ws (state_after_turn program p s) made.1 going)
  where
    going_now : (s.halted ≡ true) ⊎ (s.halted ≡ false) → s.halted ≡ false
    going_now (inl halted) = absurd (made.0 (halted_stays program p s halted))
    going_now (inr now) = now

module _ (program : Units) where
  -- each of these waits
  abbrev AllWait : State → List ℕ → Type 0
  AllWait s ws = (w : ℕ) → is_number_among w ws ≡ true → is_waiting program s w ≡ true

  -- what is among the others is among all
  behind : (w : ℕ) (ws : List ℕ) (q : ℕ) → is_number_among q ws ≡ true → is_number_among q (w ∷ ws) ≡ true
  behind w ws q among = ap (λ b. nat_eq q w || b) among ∙ by_head (nat_eq q w) where
    by_head : (b : Bool) → (b || true) ≡ true
    by_head true = refl
    by_head false = refl

  -- such entries are legal where their processes wait
  entries_found : (ws : List ℕ) (s : State) → AllWait s ws → AreEntries program s (map found ws)
  unfolding run_from found
  entries_found [] s wait = tt
  entries_found (w ∷ ws) s wait = (
    inl (refl, wait w (ap (λ b. b || is_number_among w ws) (eq-eqb w w refl))),
    entries_found ws s (λ q among. wait q (behind w ws q among)),
  )

  entries_serial : (ps ws : List ℕ) (s : State) → AreSteps program s ps → AllWait (run_from program s ps) ws
      → AreEntries program s (map one ps ++ map found ws)
  unfolding run_from one
  entries_serial [] ws s made wait = entries_found ws s wait
  entries_serial (p ∷ ps) ws s made wait =
      (inr (omega arith, omega arith, (made.0, tt)), entries_serial ps ws (state_after_turn program p s) made.1 wait)

  -- each process that is found waiting is listed
  listed_found : (ws : List ℕ) (x : Progress) (q : ℕ) → (is_number_among q ws ≡ true) ⊎ (is_number_among q x.listed ≡ true)
      → is_number_among q (progress_from program x (map found ws)).listed ≡ true
  unfolding progress_from found
  listed_found [] x q (inl among) = absurd cc
  listed_found [] x q (inr listed) = listed
  listed_found (w ∷ ws) x q h = listed_found ws (progress_after_entry program x (found w) 0) q (by_head (cases_eq q w) h) where
    by_head : (q ≡ w) ⊎ (q ≢ w) → (is_number_among q (w ∷ ws) ≡ true) ⊎ (is_number_among q x.listed ≡ true)
        → (is_number_among q ws ≡ true) ⊎ (is_number_among q (w ∷ without w x.listed) ≡ true)
    by_head (inl same) h = inr (ap (λ b. b || is_number_among q (without w x.listed)) (eq-eqb q w same))
    by_head (inr other) (inl among) = inl (sym (ap (λ b. b || is_number_among q ws) (ne_eqb q w other)) ∙ among)
    by_head (inr other) (inr listed) =
        inr (
        ap (λ b. b || is_number_among q (without w x.listed)) (ne_eqb q w other)
        ∙ among-without w q x.listed (λ same. other (sym same)) ∙ listed)

  listed_serial : (ps ws : List ℕ) (x : Progress) (q : ℕ) → is_number_among q ws ≡ true
      → is_number_among q (progress_from program x (map one ps ++ map found ws)).listed ≡ true
  unfolding progress_from one
  listed_serial [] ws x q among = listed_found ws x q (inl among)
  listed_serial (p ∷ ps) ws x q among = listed_serial ps ws (progress_after_entry program x (one p) 1) q among

  module _ (cells : ℕ) (choices : List ℕ) (made : AreSteps program (opening program) choices)
      (room : IsSome (layout_of program cells is_held choices))
      (terminal : IsTerminal program (run program choices)) where
    abbrev history_with : List ℕ → List Entry
    history_with ws = map one choices ++ map found ws

    -- it is legal with entries of processes that wait
    legal_with : (ws : List ℕ) → AllWait (run program choices) ws → IsLegal program cells (length (history_with ws)) (history_with ws)
    unfolding run
    legal_with ws wait =
        record {
          within = omega arith;
          room = subst (λ ps. IsSome (layout_of program cells is_held ps)) (sym (schedule_serial choices ws)) room;
          entries = entries_serial choices ws (opening program) made wait;
        }

    -- its state is that of the choices
    state_with : (ws : List ℕ) → run program choices ≡ state_after program (history_with ws)
    unfolding state_after
    state_with ws = ap (run program) (sym (schedule_serial choices ws))

    -- the processes that live
    alive : List ℕ
    alive = living_from 1 (run program choices).processes

    -- they wait, and are listed, so that none is ready
    alive_wait : (run program choices).halted ≡ false → AllWait (run program choices) alive
    unfolding alive
    alive_wait going w among =
        idle_waits program w (run program choices) going (sym (among-living (run program choices) w) ∙ among) (terminal w)

    none_ready : ready_in (progress_after program (history_with alive)) ≡ []
    unfolding alive
    none_ready = none-among (ready_in x) unready where
      x : Progress
      x = progress_after program (history_with alive)

      there : x.state ≡ run program choices
      there = progress-state program (history_with alive) ∙ sym (state_with alive)

      unready : (q : ℕ) → is_number_among q (ready_in x) ≡ false
      unready q = among-ready x q ∙ by_living (is_some (living x.state q)) refl where
        by_living : (b : Bool) → is_some (living x.state q) ≡ b → (not (is_number_among q x.listed) && b) ≡ false
        by_living false dead = by_not (not (is_number_among q x.listed)) where
          by_not : (b : Bool) → (b && false) ≡ false
          by_not true = refl
          by_not false = refl
        by_living true lives =
            let among : is_number_among q alive ≡ true =
            among-living (run program choices) q ∙ sym (ap (λ (s : State). is_some (living s q)) there) ∙ lives
            in
            ap (λ b. not b && true) (listed_serial choices alive (record { state = opening program; listed = [] }) q among)

    -- the run of these choices, to its end
    record Run : Type 0 where
      history : List Entry
      legal : IsLegal program cells (length history) history
      serial : IsSerial program history
      over : IsFinished program history
      same : run program choices ≡ state_after program history

    whole : Run
    unfolding run
    whole = elim (by_halted (run program choices)) [
      | inl halted ↦
          record {
            history = history_with [];
            legal = legal_with [] (λ w among. absurd cc);
            serial = serial_one program choices [] (opening program) made (inl refl);
            over = inl (ap (λ (s : State). s.halted) (sym (state_with [])) ∙ halted);
            same = state_with [];
          }
      | inr going ↦
          record {
            history = history_with alive;
            legal = legal_with alive (alive_wait going);
            serial = serial_one program choices alive (opening program) made (inr going);
            over = inr none_ready;
            same = state_with alive;
          }
    ]

  -- each ending is that of such a history
  pub has_history : (cells : ℕ) (e : Ending) → IsEndingWithin program cells e → (history : List Entry)
      × IsLegal program cells (length history) history × IsSerial program history × IsFinished program history
      × (e ≡ ending_of program (state_after program history))
  has_history cells e (choices, made, room, terminal, is) =
      let all = whole cells choices made room terminal in
      (all.history, all.legal, all.serial, all.over, is ∙ ap (ending_of program) all.same)
