-- Which processes live: those that wait do, and have no step; and what a step changes in it.
use Rattle.std.proofs.Common.{◌≡◌, ◌⊎◌, inl, inr, ℕ, zero, suc, ◌+◌, ◌<◌, ◌≤◌, ◌&&◌, ◌||◌, Bool, true, false, true≢false, List, [], ◌∷◌, ◌++◌, length, Option, Some, None, refl, sym, ap, ◌∙◌, arith, ◌≢◌, if◌then◌else◌, is_some, not, nat_eq, nat_lt, length-append, length-set}
use Rattle.std.proofs.Math.Bool.{and-false, and-true, or-false}
use Rattle.std.proofs.lemmas.Bool.{cases_eq, cases_lt, le-ltb, lt-ltb, ne_eqb, eq-eqb}
use Rattle.std.proofs.lemmas.Option.{slice_get_past}
use Rattle.hep_machine.specs.Words.{Units, activations_on, living, numbered, top_of, with_numbered, Level, Process, State, StepResult, absent, stepped, waiting, Top, is_waiting, state_made, step, step_result_of, step_result_of_top, wanted_of}
use Rattle.hep_machine.proofs.Changes.{Change, HasStack, calls, creates, faults, leaves, moves, resumes, step_changes, stops, top_in}
use Rattle.hep_machine.proofs.Others.{others_stay, processes_after, last-numbered}

-- ---- processes that wait

pub waits-live : (program : Units) (p : ℕ) (s : State) → is_waiting program s p ≡ true → is_some (living s p) ≡ true
unfolding step_result_of
waits-live program p s = by_top (living s p) where
  by_top : (o : Option (Level × Process)) → is_some (wanted_of (step_result_of_top program s p o)) ≡ true → is_some o ≡ true
  by_top None waits = waits
  by_top (Some top) waits = refl

pub waits-idle : (program : Units) (p : ℕ) (s : State) → is_waiting program s p ≡ true → step program p s ≡ None
waits-idle program p s = by_result s.halted (step_result_of program p s) where
  by_result : (halted : Bool) (result : StepResult) → is_some (wanted_of result) ≡ true
      → (if halted then None else state_made result) ≡ None
  by_result true result waits = refl
  by_result false (stepped t) waits = absurd (true≢false (sym waits))
  by_result false (waiting w) waits = refl
  by_result false absent waits = refl

-- it isn't the one that makes a step
pub waits-apart : (program : Units) (p q : ℕ) (s : State) → is_waiting program s q ≡ true → step program p s ≢ None → p ≢ q
waits-apart program p q s waits there same = there (ap (λ n. step program n s) same ∙ waits-idle program q s waits)

-- ---- numbers

-- a process that lives has a number that was given
pub living-within : (s : State) (p : ℕ) → is_some (living s p) ≡ true → p ≤ length s.processes
living-within s zero lives = omega arith
living-within s (suc i) lives = elim (cases_lt i (length s.processes)) [
  | inl less ↦ omega arith
  | inr past ↦ absurd (true≢false (sym lives ∙ ap (λ o. is_some (top_of o)) (slice_get_past s.processes i past)))
]

dead-past : (s : State) (p : ℕ) → length s.processes < p → is_some (living s p) ≡ false
dead-past s zero past = absurd (omega arith)
dead-past s (suc i) past = ap (λ o. is_some (top_of o)) (slice_get_past s.processes i (omega arith))

-- ---- a new process

stack-lives : (q : Process) (a : ℕ) → activations_on q ≡ a ∷ [] → is_some (top_of (Some q)) ≡ true
stack-lives [] a e = absurd cc
stack-lives (level ∷ levels) a e = refl

change-lives : (t : Top) (s : State) → Change t s → length s.processes ≡ length t.state.processes + 1
    → is_some (living s (length s.processes)) ≡ true
change-lives t s change more = by_change change where
  stacked : (q : Process) → HasStack t s q → is_some (living s (length s.processes)) ≡ true
  stacked q e =
      let same : length s.processes ≡ length t.state.processes = ap length e ∙ simp length-set in
      absurd (omega (arith, same, more))

  added : (q r : Process) (a : ℕ) → activations_on r ≡ a ∷ [] → s.processes ≡ with_numbered t.state.processes t.process q ++ r ∷ [] → is_some (living s (length s.processes)) ≡ true
  added q r a b e =
      let set : List Process = with_numbered t.state.processes t.process q in
      let long : length s.processes ≡ suc (length set) = ap length e ∙ (length-append set (r ∷ []) ∙ omega arith) in
      (λ i. is_some (top_of (numbered (e i) (long i))))
      ∙ (ap (λ o. is_some (top_of o)) (last-numbered set r) ∙ stack-lives r a b)

  by_change : Change t s → is_some (living s (length s.processes)) ≡ true
  by_change (moves q a e k) = stacked q e
  by_change (leaves q a e k) = stacked q e
  by_change (faults e k) = stacked [] e
  by_change (calls q x a e k) = stacked q e
  by_change (creates q r x a b e k) = added q r (length t.state.activations + 1) b e
  by_change (resumes q r a b e k) = added q r t.level.activation b e
  by_change (stops e k) = absurd (omega (arith, more, ap length e))

-- ---- a step

module _ (program : Units) (p : ℕ) (s t : State) (made : step program p s ≡ Some t) where
  stepper-lives : is_some (living s p) ≡ true
  stepper-lives = let stepped = step_changes program p s t made in ap is_some stepped.lives

  new-lives : length t.processes ≡ length s.processes + 1 → is_some (living t (length t.processes)) ≡ true
  new-lives = let stepped = step_changes program p s t made in change-lives (top_in s p stepped.top) t stepped.change

  count-after : (length t.processes ≡ length s.processes) ⊎ (length t.processes ≡ length s.processes + 1)
  count-after = rw made at (processes_after program p s)

  -- a process is the new one
  abbrev pub is_new : ℕ → Bool
  is_new q = nat_lt (length s.processes) (length t.processes) && nat_eq q (length t.processes)

  -- it isn't, where its number was given before
  pub old-is : (q : ℕ) → q ≤ length s.processes → is_new q ≡ false
  old-is q le = elim (cases_lt (length s.processes) (length t.processes)) [
    | inl less ↦ rw (ne_eqb q (length t.processes) (λ same. omega arith)) (and-false _)
    | inr past ↦ rw (le-ltb (length s.processes) (length t.processes) past) refl
  ]

  -- just those live after the step that lived before it, but for p where it has ended, and the new process
  abbrev pub lives_on : ℕ → Bool
  lives_on q = (is_some (living s q) && (not (nat_eq p q) || is_some (living t p))) || is_new q

  other-lives : (q : ℕ) → p ≢ q → q ≤ length s.processes → is_some (living t q) ≡ lives_on q
  other-lives q other le =
      ap (λ o. is_some (top_of o)) (others_stay program p q s t made other le)
      ∙ sym (rw (ne_eqb p q other, old-is q le) (or-false _ ∙ and-true _))

  new-alone : (q : ℕ) → length s.processes < q → is_some (living t q) ≡ is_new q
  new-alone q past = elim count-after [
    | inl same ↦
        let none = le-ltb (length s.processes) (length t.processes) (omega (arith, same)) in
        dead-past t q (omega (arith, same)) ∙ sym (rw none refl)
    | inr more ↦ elim (cases_eq q (length t.processes)) [
      | inl same ↦
          let made_one = lt-ltb (length s.processes) (length t.processes) (omega (arith, more)) in
          ap (λ n. is_some (living t n)) same ∙ (new-lives more ∙ sym (rw (made_one, eq-eqb q (length t.processes) same) refl))
      | inr apart ↦ dead-past t q (omega (arith, more)) ∙ sym (rw (ne_eqb q (length t.processes) apart) (and-false _))
    ]
  ]

  pub lives-after : (q : ℕ) → is_some (living t q) ≡ lives_on q
  lives-after q = elim (cases_eq p q) [
    | inl same ↦
        let lived : is_some (living s q) ≡ true = ap (λ n. is_some (living s n)) (sym same) ∙ stepper-lives in
        let le : q ≤ length s.processes = living-within s q lived in
        ap (λ n. is_some (living t n)) (sym same) ∙ sym (rw (eq-eqb p q same, old-is q le, lived) (or-false _))
    | inr other ↦ elim (cases_lt (length s.processes) q) [
      | inl past ↦ new-alone q past ∙ sym (rw (dead-past s q past) refl)
      | inr le ↦ other-lives q other le
    ]
  ]
