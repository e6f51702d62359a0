-- What a step of one process leaves to the others, and how the numbers rise.
use Rattle.std.proofs.Common.{◌≡◌, ◌⊎◌, inl, inr, ℕ, zero, suc, ◌+◌, ◌-◌, ◌<◌, ◌≤◌, List, [], ◌∷◌, ◌++◌, length, Option, Some, None, refl, sym, ap, ◌∙◌, subst, arith, ◌≢◌, false, if◌then◌else◌, slice_get, slice_set, length-set, length-append}
use Rattle.std.specs.Option.{unwrap_or}
use Rattle.std.proofs.lemmas.Bool.Decides.{eqb_tells}
use Rattle.hep_machine.specs.Words.{IsSameOrOneMore, state_after_turn, Process, State, Top, state_made, step, step_result_of, stepped, Units, top_of, living, numbered, with_numbered}
use Rattle.hep_machine.proofs.Changes.{Change, moves, leaves, faults, calls, creates, resumes, stops, HasStack, HasStepped, top_in, step_changes}

-- ---- lists with one element changed

other_kept : {A : Type 0} (xs : List A) (i j : ℕ) (x : A) → i ≢ j → slice_get (slice_set xs i x) j ≡ slice_get xs j
other_kept [] i j x d = refl
other_kept (y ∷ ys) zero zero x d = absurd (d refl)
other_kept (y ∷ ys) zero (suc j) x d = refl
other_kept (y ∷ ys) (suc i) zero x d = refl
other_kept (y ∷ ys) (suc i) (suc j) x d = other_kept ys i j x (λ e. d (ap suc e))

-- an element of the first of two lists is at its place in both
pub front_kept : {A : Type 0} (xs ys : List A) (j : ℕ) → j < length xs → slice_get (xs ++ ys) j ≡ slice_get xs j
front_kept [] ys j h = absurd (omega arith)
front_kept (x ∷ xs) ys zero h = refl
front_kept (x ∷ xs) ys (suc j) h = front_kept xs ys j (omega arith)

pub other_numbered : {A : Type 0} (xs : List A) (p q : ℕ) (x : A) → 1 ≤ p → p ≢ q → numbered (with_numbered xs p x) q ≡ numbered xs q
other_numbered xs zero q x one d = absurd (omega arith)
other_numbered xs (suc i) zero x one d = refl
other_numbered xs (suc i) (suc j) x one d =
    let same : suc i - 1 ≡ i = omega arith in
    rw same (other_kept xs i j x (λ e. d (ap suc e)))

pub front_numbered : {A : Type 0} (xs ys : List A) (q : ℕ) → q ≤ length xs → numbered (xs ++ ys) q ≡ numbered xs q
front_numbered xs ys zero h = refl
front_numbered xs ys (suc j) h = front_kept xs ys j (omega arith)

-- ---- the other processes

-- a process that lives has a number from 1 on
pub lives_from_one : (s : State) (p : ℕ) → living s p ≢ None → 1 ≤ p
lives_from_one s zero h = absurd (h refl)
lives_from_one s (suc k) h = omega arith

other_stays : (t : Top) (s : State) (q : ℕ) → Change t s → 1 ≤ t.process → t.process ≢ q → q ≤ length t.state.processes → numbered s.processes q ≡ numbered t.state.processes q
other_stays t s q c one d h = by_change c where
  stacked : (r : Process) → HasStack t s r → numbered s.processes q ≡ numbered t.state.processes q
  stacked r e = ap (λ ps. numbered ps q) e ∙ other_numbered t.state.processes t.process q r one d

  by_change : Change t s → numbered s.processes q ≡ numbered t.state.processes q
  by_change (moves r a e k) = stacked r e
  by_change (leaves r a e k) = stacked r e
  by_change (faults e k) = stacked [] e
  by_change (calls r x a e k) = stacked r e
  by_change (creates r n x a b e k) =
      let within : q ≤ length (with_numbered t.state.processes t.process r) = rw length-set h in
      ap (λ ps. numbered ps q) e ∙ front_numbered (with_numbered t.state.processes t.process r) (n ∷ []) q within ∙ other_numbered t.state.processes t.process q r one d
  by_change (resumes r n a b e k) =
      let within : q ≤ length (with_numbered t.state.processes t.process r) = rw length-set h in
      ap (λ ps. numbered ps q) e ∙ front_numbered (with_numbered t.state.processes t.process r) (n ∷ []) q within ∙ other_numbered t.state.processes t.process q r one d
  by_change (stops e k) = ap (λ ps. numbered ps q) e

some_lives : (s : State) (p : ℕ) (t : State) → HasStepped s p t → living s p ≢ None
some_lives s p t h e = let same = h.lives in cc

pub others_stay : (program : Units) (p q : ℕ) (s t : State) → step program p s ≡ Some t → p ≢ q → q ≤ length s.processes → numbered t.processes q ≡ numbered s.processes q
others_stay program p q s t e d h =
    let stepped = step_changes program p s t e in
    other_stays (top_in s p stepped.top) t q stepped.change (lives_from_one s p (some_lives s p t stepped)) d h

-- ---- processes that don't live

pub dead_idle : (program : Units) (q : ℕ) (s : State) → living s q ≡ None → step program q s ≡ None
dead_idle program q s h = by_step (step program q s) refl where
  by_step : (o : Option State) → step program q s ≡ o → o ≡ None
  by_step None e = refl
  by_step (Some t) e = absurd (some_lives s q t (step_changes program q s t e) h)

-- what holds of each turn: of a step, and where there is none
pub each_turn : (P : State → Type 0) (program : Units) (p : ℕ) (s : State) → P s → ((t : State) → step program p s ≡ Some t → P t) → P (state_after_turn program p s)
each_turn P program p s idle rest_after = by_step (step program p s) refl where
  by_step : (o : Option State) → step program p s ≡ o → P (unwrap_or o s)
  by_step None e = idle
  by_step (Some t) e = rest_after t e

dead_after_step : (program : Units) (p q : ℕ) (s t : State) → living s q ≡ None → q ≤ length s.processes → step program p s ≡ Some t → living t q ≡ None
dead_after_step program p q s t dead h e = elim (eqb_tells p q) [
  | inl same ↦ absurd (some_lives s p t (step_changes program p s t e) (subst (λ n. living s n ≡ None) (sym same.1) dead))
  | inr other ↦ ap top_of (others_stay program p q s t e other.1 h) ∙ dead
]

pub dead_stays : (program : Units) (p q : ℕ) (s : State) → living s q ≡ None → q ≤ length s.processes → living (state_after_turn program p s) q ≡ None
dead_stays program p q s dead h = each_turn (λ t. living t q ≡ None) program p s dead (λ t e. dead_after_step program p q s t dead h e)

-- ---- numbers

activations_rise : (t : Top) (s : State) → Change t s → IsSameOrOneMore t.state.activations s.activations
activations_rise t s (moves r a e k) = inl k
activations_rise t s (leaves r a e k) = inl k
activations_rise t s (faults e k) = inl k
activations_rise t s (calls r x a e k) = inr (x, k.0)
activations_rise t s (creates r n x a b e k) = inr (x, k.0)
activations_rise t s (resumes r n a b e k) = inl k
activations_rise t s (stops e k) = inl k

pub activations_after : (program : Units) (p : ℕ) (s : State) → IsSameOrOneMore s.activations (state_after_turn program p s).activations
activations_after program p s =
    each_turn (λ t. IsSameOrOneMore s.activations t.activations) program p s (inl refl) (λ t e.
    let stepped = step_changes program p s t e in
    activations_rise (top_in s p stepped.top) t stepped.change)

processes_rise : (t : Top) (s : State) → Change t s → (length s.processes ≡ length t.state.processes) ⊎ (length s.processes ≡ length t.state.processes + 1)
processes_rise t s c = by_change c where
  stacked : (r : Process) → HasStack t s r → length s.processes ≡ length t.state.processes
  stacked r e = ap length e ∙ simp length-set

  by_change : Change t s → (length s.processes ≡ length t.state.processes) ⊎ (length s.processes ≡ length t.state.processes + 1)
  by_change (moves r a e k) = inl (stacked r e)
  by_change (leaves r a e k) = inl (stacked r e)
  by_change (faults e k) = inl (stacked [] e)
  by_change (calls r x a e k) = inl (stacked r e)
  by_change (creates r n x a b e k) = inr (ap length e ∙ simp (length-append, length-set))
  by_change (resumes r n a b e k) = inr (ap length e ∙ simp (length-append, length-set))
  by_change (stops e k) = inl (ap length e)

pub processes_after : (program : Units) (p : ℕ) (s : State) → (length (state_after_turn program p s).processes ≡ length s.processes) ⊎ (length (state_after_turn program p s).processes ≡ length s.processes + 1)
processes_after program p s =
    each_turn (λ t. (length t.processes ≡ length s.processes) ⊎ (length t.processes ≡ length s.processes + 1)) program p s (inl refl) (λ t e.
    let stepped = step_changes program p s t e in
    processes_rise (top_in s p stepped.top) t stepped.change)

-- ---- the last of a list by its number, and a step that is made

pub last-numbered : {A : Type 0} (xs : List A) (y : A) → numbered (xs ++ y ∷ []) (suc (length xs)) ≡ Some y
last-numbered [] y = refl
last-numbered (x ∷ xs) y = last-numbered xs y

pub step-is : (program : Units) (p : ℕ) (s t : State) → s.halted ≡ false → step_result_of program p s ≡ stepped t → step program p s ≡ Some t
step-is program p s t running made = ap (λ b. if b then None else state_made (step_result_of program p s)) running ∙ ap state_made made
