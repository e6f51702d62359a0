-- The path to a state: the steps by which it and the states before it were found.
use Rattle.std.proofs.Common.{◌≡◌, inl, inr, ℕ, zero, suc, ◌+◌, ◌<◌, ◌≤◌, List, [], ◌∷◌, ◌++◌, Some, refl, sym, ap, ◌∙◌, subst, arith}
use Rattle.std.proofs.Common.{get_or, length, replicate, reverse, slice_get}
use Rattle.std.proofs.lemmas.List.{append-nil, append_assoc, length-append, reverse-append}
use Rattle.std.proofs.lemmas.Option.{same_Some, slice_get-get_or, slice_get_within}
use Rattle.hep_machine.specs.Words.{AreSteps, State, Units, opening, run, run_from, step}
use Rattle.hep_machine.proofs.Others.{activations_after, processes_after}
use Rattle.hep_machine.proofs.Replays.{steps_before}
use Rattle.hep_advance.proofs.RunsToBreakpoint.{one-behind, run-on}
use Rattle.hep_state.specs.declared.core_state.CoreState.{CoreState}
use Rattle.hep_state.specs.Words.{IsMachineAfter}
use Rattle.hep_state.proofs.ProcessNumbers.{length-stacks}
use Rattle.hep_state.proofs.Runs.{few, few-processes}
use Rattle.hep_explore.specs.Pure.{is_pure}
use Rattle.hep_explore.specs.Searching.{AreAlikeByKeys, IsFullPath, IsFullStep, IsKept, IsNumbered, IsOrigin, IsPathTo, IsSearch, Known}
use Rattle.hep_explore.specs.Searching.{LeadOn, Leads, pure_turns, turns_of}
use Rattle.hep_explore.specs.declared.search.Origin.{Origin}
use Rattle.hep_explore.proofs.Independence.{independent_made}
use Rattle.hep_explore.proofs.PlacedAlong.{pure_counts}
use Rattle.hep_explore.proofs.SearchedStates.{kept_machine}

-- ---- the turns of an origin

-- a list of one number is the same in the other order
same_reversed : (n p : ℕ) → reverse (replicate n p) ≡ replicate n p
same_reversed zero p = refl
same_reversed (suc n) p =
    ap reverse (sym (one-behind n p))
    ∙ reverse-append (replicate n p) (p ∷ [])
    ∙ ap (λ ps. p ∷ ps) (same_reversed n p)

-- how many activations and processes there are after a turn
turn_counts : (program : Units) (before : List ℕ) (p : ℕ)
    → (length (run program (before ++ p ∷ [])).activations ≤ length (run program before).activations + 1)
    × (length (run program (before ++ p ∷ [])).processes ≤ length (run program before).processes + 1)
unfolding run_from
turn_counts program before p =
    subst (λ (t : State). (length t.activations ≤ length (run program before).activations + 1)
    × (length t.processes ≤ length (run program before).processes + 1)) (sym (run-on program before (p ∷ []))) (
      elim (activations_after program p (run program before)) [
        | inl same ↦ omega (arith, ap length same)
        | inr more ↦ omega (arith, ap length more.1, length-append (run program before).activations (more.0 ∷ []))
      ],
      elim (processes_after program p (run program before)) [
        | inl same ↦ omega (arith, same)
        | inr more ↦ omega (arith, more)
      ],
    )

module _ (program : Units) (before : List ℕ) (o : Origin) (IsSo : List ℕ → Type 0) (led : Leads program before o IsSo) where
  -- they all make steps
  pub turns_made : AreSteps program (run program before) (turns_of o)
  unfolding run_from
  turns_made = (
    led.stepped,
    subst (λ t. AreSteps program t (pure_turns o)) (run-on program before (o.process ∷ [])) (
        independent_made program (is_pure program) (pure_turns o) (run program (before ++ o.process ∷ [])) led.are_pure),
  )

  pub turns_so : IsSo (before ++ turns_of o)
  turns_so = subst IsSo (append_assoc before (o.process ∷ []) (pure_turns o)) led.holds

  -- and make one activation and one process at most
  pub turns_counts : (length (run program (before ++ turns_of o)).activations ≤ length (run program before).activations + 1)
      × (length (run program (before ++ turns_of o)).processes ≤ length (run program before).processes + 1)
  turns_counts =
      let first = turn_counts program before o.process in
      let pure = pure_counts program (pure_turns o) (run program (before ++ o.process ∷ [])) led.are_pure in
      let there = run-on program (before ++ o.process ∷ []) (pure_turns o) in
      subst (λ cs. (length (run program cs).activations ≤ length (run program before).activations + 1)
      × (length (run program cs).processes ≤ length (run program before).processes + 1)) (
      append_assoc before (o.process ∷ []) (pure_turns o)) (
      subst (λ (t : State). (length t.activations ≤ length (run program before).activations + 1)
      × (length t.processes ≤ length (run program before).processes + 1)) (sym there) (
        omega (arith, ap length pure.0, first.0),
        omega (arith, pure.1, first.1),
      ))

module _ (program : Units) (s : Known) where
  -- no steps lead to the same state
  pub none_lead : (cells : ℕ) (key : List ℕ) → LeadOn program cells key key []
  none_lead cells key =
      record {
        made = λ before kept. tt;
        kept = λ before kept. subst (λ cs. IsKept program cells cs key) (sym (append-nil before)) kept;
      }

  -- the turns of an origin, and then others
  pub origin_leads : (i : ℕ) (o : Origin) (to : List ℕ) (steps : List ℕ) → (origin : IsOrigin program s i o)
      → LeadOn program s.cells origin.to to steps → LeadOn program s.cells origin.from to (turns_of o ++ steps)
  origin_leads i o to steps origin lead =
      let IsTo : List ℕ → Type 0 = λ cs. IsKept program s.cells cs origin.to in
      record {
        made = λ before kept.
            let led = origin.leads before kept in
            steps_before program (run program before) (turns_of o) steps (turns_made program before o IsTo led) (
            subst (λ t. AreSteps program t steps) (run-on program before (turns_of o)) (
            lead.made (before ++ turns_of o) (turns_so program before o IsTo led)));
        kept = λ before kept.
            let led = origin.leads before kept in
            subst (λ cs. IsKept program s.cells cs to) (append_assoc before (turns_of o) steps) (
            lead.kept (before ++ turns_of o) (turns_so program before o IsTo led));
      }

  -- turns that are kept in the other order
  pub reversed_more : (steps : List ℕ) (o : Origin) → reverse (steps ++ turns_of o) ≡ turns_of o ++ reverse steps
  reversed_more steps o =
      reverse-append steps (turns_of o) ∙ ap (λ ps. ps ++ reverse steps) (same_reversed (suc o.pure) o.process)

  -- steps that lead from the opening are a path
  pub path_of : (search : IsSearch program s) (i : ℕ) (key steps : List ℕ) → slice_get s.states i ≡ Some key
      → LeadOn program s.cells search.opening key steps → IsPathTo program s i steps
  unfolding run run_from
  path_of search i key steps is lead =
      record { key = key; numbered = is; made = lead.made [] search.begins; kept = lead.kept [] search.begins }

  -- ---- each state has its path

  -- the turns of an origin after a path
  further : (search : IsSearch program s) (i : ℕ) (o : Origin) (choices : List ℕ) → (origin : IsOrigin program s i o)
      → (path : IsPathTo program s o.from choices)
      → Leads program choices o (λ cs. IsKept program s.cells cs origin.to)
  further search i o choices origin path =
      let same : path.key ≡ origin.from = same_Some path.key origin.from (sym path.numbered ∙ origin.from_is) in
      origin.leads choices (subst (IsKept program s.cells choices) same path.kept)

  further_path : (i : ℕ) (o : Origin) (choices : List ℕ) → (origin : IsOrigin program s i o) → IsPathTo program s o.from choices
      → Leads program choices o (λ cs. IsKept program s.cells cs origin.to) → IsPathTo program s i (choices ++ turns_of o)
  unfolding run
  further_path i o choices origin path led =
      let IsTo : List ℕ → Type 0 = λ cs. IsKept program s.cells cs origin.to in
      record {
        key = origin.to;
        numbered = origin.to_is;
        made = steps_before program (opening program) choices (turns_of o) path.made (turns_made program choices o IsTo led);
        kept = turns_so program choices o IsTo led;
      }

  -- a path, after which there are no more activations and processes than there are states up to it
  pub has_path : IsSearch program s → (n i : ℕ) → i ≤ n → i < length s.states
      → (choices : List ℕ) × IsPathTo program s i choices × (length (run program choices).activations ≤ 1 + i)
      × (length (run program choices).processes ≤ 1 + i)
  unfolding run run_from
  has_path search n zero le less = (
    [],
    record { key = search.opening; numbered = search.opening_is; made = tt; kept = search.begins },
    few program [],
    few-processes program [],
  )
  has_path search zero (suc i) le less = absurd (omega arith)
  has_path search (suc n) (suc i) le less =
      let here : suc i < length s.origins = let e = search.origins in omega arith in
      let none : Origin = record { from = 0; process = 0; pure = 0 } in
      let o = get_or s.origins (suc i) none in
      let origin = search.origin (suc i) o (omega arith) (slice_get-get_or s.origins (suc i) none here) in
      let earlier = origin.earlier in
      let before = has_path search n o.from (omega arith) (omega arith) in
      let led = further search (suc i) o before.0 origin before.1 in
      let counts = turns_counts program before.0 o (λ cs. IsKept program s.cells cs origin.to) led in (
        before.0 ++ turns_of o,
        further_path (suc i) o before.0 origin before.1 led,
        omega (arith, earlier, before.2, counts.0),
        omega (arith, earlier, before.3, counts.1),
      )

  -- the step that finds no gap, after a path to its state
  pub full_after : (o : Origin) (choices all : List ℕ) → IsFullStep program s o → IsPathTo program s o.from choices
      → all ≡ choices ++ o.process ∷ [] → IsFullPath program s.cells all
  full_after o choices all step path parts =
      let same : path.key ≡ step.from = same_Some path.key step.from (sym path.numbered ∙ step.from_is) in
      record {
        before = choices;
        last = o.process;
        parts = parts;
        made = path.made;
        full = step.full choices (subst (IsKept program s.cells choices) same path.kept);
      }

-- all of its choices make steps
pub full_steps : (program : Units) (cells : ℕ) (choices : List ℕ) → IsFullPath program cells choices
    → AreSteps program (opening program) choices
unfolding run
full_steps program cells choices path =
    subst (AreSteps program (opening program)) (sym path.parts) (
    steps_before program (opening program) path.before (path.last ∷ []) path.made (path.full.stepped, tt))

-- a machine has no more activations and processes than those after other turns that lead to it
pub machine_counts : (program : Units) (cells : ℕ) (choices : List ℕ) (m : CoreState) → IsMachineAfter program cells choices m
    → (m.activations ≡ length (run program choices).activations) × (m.made ≡ length (run program choices).processes)
machine_counts program cells choices m after = (
  after.after.shows.activations,
  sym (length-stacks m.processes.items 1 m.made) ∙ after.after.shows.processes,
)

-- a machine after a turn has one activation and one process more at most
pub counts_after : (program : Units) (cells : ℕ) (before : List ℕ) (p : ℕ) (m new : CoreState) → IsMachineAfter program cells before m
    → IsMachineAfter program cells (before ++ p ∷ []) new → (new.activations ≤ m.activations + 1) × (new.made ≤ m.made + 1)
counts_after program cells before p m new after later =
    let old = machine_counts program cells before m after in
    let counts = machine_counts program cells (before ++ p ∷ []) new later in
    let turn = turn_counts program before p in
    (omega (arith, old.0, counts.0, turn.0), omega (arith, old.1, counts.1, turn.1))

-- a machine has no more activations and processes than there are states up to its own
pub counted_soon : (program : Units) → AreAlikeByKeys program → (s : Known) → IsSearch program s → (i : ℕ) (m : CoreState)
    → IsNumbered program s i m → (m.activations ≤ 1 + i) × (m.made ≤ 1 + i)
counted_soon program alike s search i m numbered =
    let less = slice_get_within s.states i numbered.key numbered.numbered in
    let path = has_path program s search i i (omega arith) less in
    let same : path.1.key ≡ numbered.key = same_Some path.1.key numbered.key (sym path.1.numbered ∙ numbered.numbered) in
    let after =
    kept_machine program alike s.cells m numbered.key numbered.choices numbered.is_key numbered.after path.0 (
    subst (IsKept program s.cells path.0) same path.1.kept)
    in
    let counts = machine_counts program s.cells path.0 m after in
    (omega (arith, counts.0, path.2), omega (arith, counts.1, path.3))
