-- A turn that was made is a step, or its process was found waiting.
use Rattle.std.proofs.Common.{◌≡◌, ◌⊎◌, inl, inr, ℕ, zero, suc, Bool, true, false, List, [], ◌∷◌, ◌++◌, ◌||◌, not, nat_eq, Option, Some, None, refl, sym, ap, ◌∙◌, is_some, if◌then◌else◌}
use Rattle.std.specs.List.{filter}
use Rattle.std.proofs.lemmas.Option.{none-some}
use Rattle.std.proofs.lemmas.Bool.{false≢true}
use Rattle.hep_core.specs.CoreValues.{CoreValue, IsTurn, core_after_choice, state_of}
use Rattle.hep_core.proofs.Histories.{progress-last, state-is, state-stepped, schedule-waited}
use Rattle.hep_machine.specs.declared.event.Entry.{Entry}
use Rattle.hep_machine.specs.Words.{Progress, State, StepResult, Units, Wanted, absent, is_number_among, progress_after, run, state_after, state_made, step, step_result_of, stepped, waiting, wanted_by, wanted_of}
use Rattle.hep_trace.specs.MadeTurns.{IsTurnMade}
use Rattle.hep_source.proofs.Tests.{number-self}

-- ---- what a turn comes to

pub record HasStepped (old : CoreValue) (p : ℕ) (new : CoreValue) : Type 0 where
  pub program : new.program ≡ old.program
  pub running : (state_of old).halted ≡ false
  pub result : step_result_of old.program p (state_of old) ≡ stepped (state_of new)
  pub listed : is_number_among p (progress_after new.program new.history).listed ≡ false

pub record HasWaited (old : CoreValue) (p : ℕ) (new : CoreValue) : Type 0 where
  pub program : new.program ≡ old.program
  pub state : state_of new ≡ state_of old
  pub wanted : Wanted
  pub result : step_result_of old.program p (state_of old) ≡ waiting wanted
  pub listed : is_number_among p (progress_after new.program new.history).listed ≡ true

-- ---- who is listed

-- what was left out isn't among those that a test leaves
left-out : (test : ℕ → Bool) (p : ℕ) (ps : List ℕ) → is_number_among p (filter test (filter (λ q. not (nat_eq p q)) ps)) ≡ false
left-out test p [] = refl
left-out test p (q ∷ ps) = by (nat_eq p q) refl (left-out test p ps) where
  kept : (b : Bool) → nat_eq p q ≡ false → is_number_among p (filter test (filter (λ r. not (nat_eq p r)) ps)) ≡ false
      → is_number_among p (if b then q ∷ filter test (filter (λ r. not (nat_eq p r)) ps) else filter test (filter (λ r. not (nat_eq p r)) ps)) ≡ false
  kept true e rest = ap (λ b. b || is_number_among p (filter test (filter (λ r. not (nat_eq p r)) ps))) e ∙ rest
  kept false e rest = rest

  by : (b : Bool) → nat_eq p q ≡ b → is_number_among p (filter test (filter (λ r. not (nat_eq p r)) ps)) ≡ false
      → is_number_among p (filter test (if not b then q ∷ filter (λ r. not (nat_eq p r)) ps else filter (λ r. not (nat_eq p r)) ps)) ≡ false
  by true e rest = rest
  by false e rest = kept (test q) e rest

listed-stepped : (program : Units) (history : List Entry) (p : ℕ) → is_number_among p (progress_after program (history ++ record { process = p; steps = 1 } ∷ [])).listed ≡ false
listed-stepped program history p =
    ap (λ (y : Progress). is_number_among p y.listed) (progress-last program history (record { process = p; steps = 1 }))
    ∙ left-out _ p (progress_after program history).listed

listed-waited : (program : Units) (history : List Entry) (p : ℕ) → is_number_among p (progress_after program (history ++ record { process = p; steps = 0 } ∷ [])).listed ≡ true
listed-waited program history p =
    ap (λ (y : Progress). is_number_among p y.listed) (progress-last program history (record { process = p; steps = 0 }))
    ∙ ap (λ b. b || is_number_among p (filter (λ q. not (nat_eq p q)) (progress_after program history).listed)) (number-self p)

-- ---- steps

step-goes : (program : Units) (p : ℕ) (s after : State) → step program p s ≡ Some after → (s.halted ≡ false) × (step_result_of program p s ≡ stepped after)
step-goes program p s after e = by s.halted refl (step_result_of program p s) refl e where
  by : (h : Bool) → s.halted ≡ h → (r : StepResult) → step_result_of program p s ≡ r → (if h then None else state_made r) ≡ Some after
      → (s.halted ≡ false) × (step_result_of program p s ≡ stepped after)
  by true is r made e = absurd (none-some after e)
  by false is (stepped t) made e = (is, made ∙ ap (λ (o : Option State). made-by o) e)
    where
      made-by : Option State → StepResult
      made-by None = absent
      made-by (Some t) = stepped t
  by false is (waiting w) made e = absurd (none-some after e)
  by false is absent made e = absurd (none-some after e)

wait-goes : (program : Units) (p : ℕ) (s : State) → is_some (wanted_by program p s) ≡ true → (w : Wanted) × (step_result_of program p s ≡ waiting w)
wait-goes program p s e = by (step_result_of program p s) refl e where
  by : (r : StepResult) → step_result_of program p s ≡ r → is_some (wanted_of r) ≡ true → (w : Wanted) × (step_result_of program p s ≡ waiting w)
  by (stepped t) is e = absurd (false≢true e)
  by (waiting w) is e = (w, is)
  by absent is e = absurd (false≢true e)

-- ---- both

state-waited : (program : Units) (history : List Entry) (p : ℕ) → state_after program (history ++ record { process = p; steps = 0 } ∷ []) ≡ state_after program history
state-waited program history p =
    state-is program (history ++ record { process = p; steps = 0 } ∷ []) ∙ ap (run program) (schedule-waited history p) ∙ sym (state-is program history)

has-stepped : (old : CoreValue) (p : ℕ) (new : CoreValue) (s : State) → step old.program p (state_of old) ≡ Some s → new ≡ core_after_choice old p 1 s → HasStepped old p new
has-stepped old p new s made is =
    let went = step-goes old.program p (state_of old) s made in
    record {
      program = ap (λ (c : CoreValue). c.program) is;
      running = went.0;
      result = went.1 ∙ ap stepped (sym (ap (λ (c : CoreValue). state_of c) is ∙ state-stepped old.program old.history p s made));
      listed = ap (λ (c : CoreValue). is_number_among p (progress_after c.program c.history).listed) is ∙ listed-stepped old.program old.history p;
    }

has-waited : (old : CoreValue) (p : ℕ) (new : CoreValue) → is_some (wanted_by old.program p (state_of old)) ≡ true → new ≡ core_after_choice old p 0 (state_of old) → HasWaited old p new
has-waited old p new waits is =
    let went = wait-goes old.program p (state_of old) waits in
    record {
      program = ap (λ (c : CoreValue). c.program) is;
      state = ap (λ (c : CoreValue). state_of c) is ∙ state-waited old.program old.history p;
      wanted = went.0;
      result = went.1;
      listed = ap (λ (c : CoreValue). is_number_among p (progress_after c.program c.history).listed) is ∙ listed-waited old.program old.history p;
    }

pub turn-is : (old : CoreValue) (p : ℕ) (new : CoreValue) → IsTurnMade old p new → HasStepped old p new ⊎ HasWaited old p new
turn-is old p new made = by made.0 made.1 made.2 where
  by : (steps : ℕ) (blocked : Bool) → IsTurn old p steps blocked new → HasStepped old p new ⊎ HasWaited old p new
  by zero true h = inr (has-waited old p new h.0 h.1)
  by (suc zero) false h = inl (has-stepped old p new h.0 h.1 h.2)
  by zero false h = absurd h
  by (suc zero) true h = absurd h
  by (suc (suc n)) blocked h = absurd h

-- the program stays
pub program-same : (old : CoreValue) (p : ℕ) (new : CoreValue) → IsTurnMade old p new → new.program ≡ old.program
program-same old p new made = elim (turn-is old p new made) [ inl h ↦ h.program | inr h ↦ h.program ]

-- of one that is listed afterwards
pub waited : (old : CoreValue) (p : ℕ) (new : CoreValue) → IsTurnMade old p new → is_number_among p (progress_after new.program new.history).listed ≡ true → HasWaited old p new
waited old p new made listed = elim (turn-is old p new made) [ inl h ↦ absurd (false≢true (sym h.listed ∙ listed)) | inr h ↦ h ]

pub stepped-so : (old : CoreValue) (p : ℕ) (new : CoreValue) → IsTurnMade old p new → is_number_among p (progress_after new.program new.history).listed ≡ false → HasStepped old p new
stepped-so old p new made listed = elim (turn-is old p new made) [ inl h ↦ h | inr h ↦ absurd (false≢true (sym listed ∙ h.listed)) ]
