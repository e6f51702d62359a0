-- A set of states is closed where a table says, for each state and each of its processes, to which state the step leads.
use Rattle.std.proofs.Common.{◌≡◌, ◌⊎◌, ◌↔◌, inl, inr, ℕ, zero, suc, ◌+◌, List, [], ◌∷◌}
use Rattle.std.proofs.Common.{◌++◌, map, Option, Some, None, option_and_then, refl, sym, ap, ◌∙◌, subst, arith, slice_get}
use Rattle.std.proofs.lemmas.Option.{none-some, same_Some, slice_get-get_or, slice_get-map, slice_get_within, unwrap_or-slice_get}
use Rattle.std.proofs.lemmas.List.Elements.{Contains-append_cases, Contains-append_left, Contains-append_right}
use Rattle.std.specs.List.{Contains}
use Rattle.std.specs.Option.{option_map, unwrap_or}
use Rattle.hep_machine.specs.Words.{Process, State, Units, opening, run, step, top_of}
use Rattle.hep_machine.proofs.Others.{dead_idle}
use Rattle.hep_explore.specs.Closed.{AreReachable, IsClosed}
use Rattle.hep_explore.specs.Endings.{Ending, IsEnding, IsReachable, IsTerminal, ending_of}
use Rattle.hep_explore.proofs.Closed.{among_ends, ends_among}

-- ---- lists

-- what is in a list has an index, and what has an index is in it
got : {A : Type 0} (xs : List A) (x : A) → Contains xs x → (k : ℕ) × (slice_get xs k ≡ Some x)
got xs x (k, less, is) = (k, slice_get-get_or xs k x less ∙ ap Some is)

-- what has an index in a list is in it
has : {A : Type 0} (xs : List A) (x : A) (k : ℕ) → slice_get xs k ≡ Some x → Contains xs x
has xs x k e = (k, slice_get_within xs k x e, sym (unwrap_or-slice_get xs k x) ∙ ap (λ o. unwrap_or o x) e)

-- ---- steps

-- the steps of these processes, of which the first one has this number
steps_from : Units → State → ℕ → List Process → List (Option State)
steps_from program s p [] = []
steps_from program s p (q ∷ qs) = step program p s ∷ steps_from program s (suc p) qs

-- of all processes that were made
unfoldable pub steps_of_state : Units → State → List (Option State)
unfolding steps_from
steps_of_state program s = steps_from program s 1 s.processes

module _ (program : Units) (s : State) where
  -- the step of a process is where its stack is
  step_at : (k i : ℕ) (qs : List Process) (q : Process) → slice_get qs i ≡ Some q
      → slice_get (steps_from program s k qs) i ≡ Some (step program (k + i) s)
  unfolding steps_from
  step_at k i [] q e = absurd (none-some q e)
  step_at k zero (r ∷ qs) q e = ap (λ n. Some (step program n s)) (let same : k ≡ k + 0 = omega arith in same)
  step_at k (suc i) (r ∷ qs) q e =
      step_at (suc k) i qs q e ∙ ap (λ n. Some (step program n s)) (let same : suc k + i ≡ k + suc i = omega arith in same)

  -- a step that is there is one of them
  step_found : (p : ℕ) (t : State) → step program p s ≡ Some t → (i : ℕ) × (slice_get (steps_of_state program s) i ≡ Some (Some t))
  unfolding steps_of_state
  step_found zero t e = absurd (none-some t (sym (dead_idle program 0 s refl) ∙ e))
  step_found (suc i) t e = by_process (slice_get s.processes i) refl where
    by_process : (o : Option Process) → slice_get s.processes i ≡ o
        → (i : ℕ) × (slice_get (steps_from program s 1 s.processes) i ≡ Some (Some t))
    by_process None none = absurd (none-some t (sym (dead_idle program (suc i) s (ap top_of none)) ∙ e))
    by_process (Some q) there =
        let same : 1 + i ≡ suc i = omega arith in
        (i, step_at 1 i s.processes q there ∙ ap (λ n. Some (step program n s)) same ∙ ap Some e)

-- ---- tables

-- a row has, for each process, the index of the state to which its step leads, and none where it has no step
abbrev pub Table : Type 0
Table = List (List (Option ℕ))

-- the states of a row
unfoldable pub states_by : List State → List (Option ℕ) → List (Option State)
states_by states row = map (λ o. option_and_then (slice_get states) o) row

module _ (program : Units) (states : List State) (table : Table) (are : map (steps_of_state program) states
    ≡ map (states_by states) table) where
  -- no step leaves the states
  goes_on : (s t : State) (p : ℕ) → Contains states s → step program p s ≡ Some t → Contains states t
  unfolding states_by
  goes_on s t p among e = by_row (slice_get table at.0) refl where
    at : (k : ℕ) × (slice_get states k ≡ Some s)
    at = got states s among

    found : (i : ℕ) × (slice_get (steps_of_state program s) i ≡ Some (Some t))
    found = step_found program s p t e

    rows : option_map (states_by states) (slice_get table at.0) ≡ Some (steps_of_state program s)
    rows =
        sym (slice_get-map (states_by states) table at.0)
        ∙ ap (λ xs. slice_get xs at.0) (sym are)
        ∙ slice_get-map (steps_of_state program) states at.0
        ∙ ap (option_map (steps_of_state program)) at.1

    by_index : (row : List (Option ℕ)) → slice_get row found.0 ≡ slice_get row found.0 → states_by states row ≡ steps_of_state program s
        → Contains states t
    by_index row same is = by_entry (slice_get row found.0) entry where
      entry : option_map (λ o. option_and_then (slice_get states) o) (slice_get row found.0) ≡ Some (Some t)
      entry =
          sym (slice_get-map (λ o. option_and_then (slice_get states) o) row found.0) ∙ ap (λ xs. slice_get xs found.0) is ∙ found.1

      by_entry : (o : Option (Option ℕ)) → option_map (λ o. option_and_then (slice_get states) o) o ≡ Some (Some t) → Contains states t
      by_entry None none = absurd (none-some (Some t) none)
      by_entry (Some None) none = absurd (none-some t (same_Some None (Some t) none))
      by_entry (Some (Some j)) there = has states t j (same_Some (slice_get states j) (Some t) there)

    by_row : (o : Option (List (Option ℕ))) → slice_get table at.0 ≡ o → Contains states t
    by_row None none = absurd (none-some (steps_of_state program s) (ap (option_map (states_by states)) (sym none) ∙ rows))
    by_row (Some row) there =
        by_index row refl (
        same_Some (states_by states row) (steps_of_state program s) (ap (option_map (states_by states)) (sym there) ∙ rows))

  -- they are closed, where the opening is the first one
  pub closed_by : slice_get states 0 ≡ Some (opening program) → IsClosed program states
  closed_by first = record { begins = has states (opening program) 0 first; goes_on = goes_on }

-- ---- endings

-- how a state ends, if none of these is a step
ending_unless : Units → State → List (Option State) → List Ending
ending_unless program s [] = ending_of program s ∷ []
ending_unless program s (None ∷ os) = ending_unless program s os
ending_unless program s (Some t ∷ os) = []

-- how these states end, those that are terminal
unfoldable pub endings_in : Units → List State → List Ending
unfolding steps_of_state ending_unless
endings_in program [] = []
endings_in program (s ∷ ss) = ending_unless program s (steps_of_state program s) ++ endings_in program ss

module _ (program : Units) where
  -- a terminal state has its ending
  terminal_ends : (s : State) (k : ℕ) (qs : List Process) → IsTerminal program s
      → ending_unless program s (steps_from program s k qs) ≡ ending_of program s ∷ []
  unfolding ending_unless steps_from
  terminal_ends s k [] terminal = refl
  terminal_ends s k (q ∷ qs) terminal =
      ap (λ o. ending_unless program s (o ∷ steps_from program s (suc k) qs)) (terminal k) ∙ terminal_ends s (suc k) qs terminal

  -- among those of its steps
  among_first : (s : State) → IsTerminal program s → Contains (ending_unless program s (steps_of_state program s)) (ending_of program s)
  unfolding steps_of_state
  among_first s terminal =
      subst (λ es. Contains es (ending_of program s)) (sym (terminal_ends s 1 s.processes terminal)) (0, omega arith, refl)

  -- and among those of all states
  ends_in : (ss : List State) (s : State) (k : ℕ) → slice_get ss k ≡ Some s → IsTerminal program s
      → Contains (endings_in program ss) (ending_of program s)
  unfolding endings_in
  ends_in [] s k e terminal = absurd (none-some s e)
  ends_in (x ∷ ss) s zero e terminal =
      Contains-append_left (ending_unless program x (steps_of_state program x)) (endings_in program ss) (ending_of program s) (
      subst (λ y. Contains (ending_unless program y (steps_of_state program y)) (ending_of program s)) (sym (same_Some x s e)) (
      among_first s terminal))
  ends_in (x ∷ ss) s (suc k) e terminal =
      Contains-append_right (ending_unless program x (steps_of_state program x)) (endings_in program ss) (ending_of program s) (
      ends_in ss s k e terminal)

  -- none of these is a step
  NoStep : List (Option State) → Type 0
  NoStep os = (i : ℕ) (t : State) → slice_get os i ≡ Some (Some t) → ⊥

  -- what a state gives is its ending, and then none of these is a step
  ended_by : (s : State) (os : List (Option State)) (e : Ending) → Contains (ending_unless program s os) e
      → NoStep os × (e ≡ ending_of program s)
  unfolding ending_unless NoStep
  ended_by s [] e (zero, less, is) = (λ i t here. none-some (Some t) here, sym is)
  ended_by s [] e (suc k, less, is) = absurd (omega arith)
  ended_by s (None ∷ os) e among = by_rest (ended_by s os e among) where
    by_rest : NoStep os × (e ≡ ending_of program s) → NoStep (None ∷ os) × (e ≡ ending_of program s)
    by_rest (none, is) = (by_index, is) where
      by_index : (i : ℕ) (t : State) → slice_get (None ∷ os) i ≡ Some (Some t) → ⊥
      by_index zero t here = none-some t (same_Some None (Some t) here)
      by_index (suc i) t here = none i t here
  ended_by s (Some t ∷ os) e (k, less, is) = absurd (omega arith)

  -- it is terminal then
  terminal_by : (s : State) → NoStep (steps_of_state program s) → IsTerminal program s
  unfolding NoStep
  terminal_by s none p = by_step (step program p s) refl where
    by_step : (o : Option State) → step program p s ≡ o → step program p s ≡ None
    by_step None e = e
    by_step (Some t) e = let found = step_found program s p t e in absurd (none found.0 t found.1)

  -- what the states give is the ending of one that is terminal
  in_ends : (ss : List State) (e : Ending) → Contains (endings_in program ss) e
      → (k : ℕ) × (s : State) × (slice_get ss k ≡ Some s) × IsTerminal program s × (e ≡ ending_of program s)
  unfolding endings_in
  in_ends [] e (k, less, is) = absurd (omega arith)
  in_ends (x ∷ ss) e among =
      by_part (Contains-append_cases (ending_unless program x (steps_of_state program x)) (endings_in program ss) e among) (in_ends ss e)
    where
      by_part : Contains (ending_unless program x (steps_of_state program x)) e ⊎ Contains (endings_in program ss) e
          → (Contains (endings_in program ss) e
          → (k : ℕ) × (s : State) × (slice_get ss k ≡ Some s) × IsTerminal program s × (e ≡ ending_of program s))
          → (k : ℕ) × (s : State) × (slice_get (x ∷ ss) k ≡ Some s) × IsTerminal program s × (e ≡ ending_of program s)
      by_part (inl here) rest = let ends = ended_by x (steps_of_state program x) e here in (0, x, refl, terminal_by x ends.0, ends.1)
      by_part (inr there) rest = let found = rest there in (suc found.0, found.1, found.2, found.3, found.4)

  -- these are all endings of the program, where the states are closed and reachable
  pub endings_by : (states : List State) → IsClosed program states → AreReachable program states → (e : Ending)
      → IsEnding program e ↔ Contains (endings_in program states) e
  endings_by states closed reachable e = (to, from) where
    to : IsEnding program e → Contains (endings_in program states) e
    to ending =
        let end = ends_among program states closed e ending in
        let at = got states end.0 end.1 in
        subst (Contains (endings_in program states)) (sym end.3) (ends_in states end.0 at.0 at.1 end.2)

    from : Contains (endings_in program states) e → IsEnding program e
    from among =
        let end = in_ends states e among in
        among_ends program states reachable e (end.1, has states end.1 end.0 end.2, end.3, end.4)

  -- states to which choices lead are reachable
  pub reachable_by : (choices : List (List ℕ)) → AreReachable program (map (run program) choices)
  reachable_by choices s among = by_choices (slice_get choices at.0) (sym (slice_get-map (run program) choices at.0) ∙ at.1) where
    at : (k : ℕ) × (slice_get (map (run program) choices) k ≡ Some s)
    at = got (map (run program) choices) s among

    by_choices : (o : Option (List ℕ)) → option_map (run program) o ≡ Some s → IsReachable program s
    by_choices None e = absurd (none-some s e)
    by_choices (Some c) e = (c, same_Some (run program c) s e)
