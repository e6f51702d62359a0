-- Processes that are listed after a legal history wait, and each one is found behind those before it.
use Rattle.std.proofs.Common.{◌≡◌, inl, inr, ℕ, zero, suc, ◌+◌, ◌-◌, ◌<◌, ◌≤◌, Bool, true, false, true≢false, not, List, [], ◌∷◌, Option, Some, None, refl, sym, ap, ◌∙◌, subst, arith, if◌then◌else◌, is_some, nat_eq, replicate}
use Rattle.std.specs.List.{filter}
use Rattle.std.specs.Option.{option_or}
use Rattle.std.proofs.lemmas.Bool.{cases_Bool, eq-eqb, or_left, or_right}
use Rattle.std.proofs.lemmas.Option.{none-some}
use Rattle.hep_core.specs.CoreValues.{first_listed, listed_after}
use Rattle.hep_core.proofs.Histories.{number-listed, progress-state}
use Rattle.hep_machine.specs.declared.event.Entry.{Entry}
use Rattle.hep_machine.specs.Words.{AreEntries, IsEntry, IsLegal, Level, Process, Progress, State, Units, Wanted, is_number_among, is_waiting, living, opening, progress_after, progress_after_entry, progress_after_step, progress_after_steps, progress_from, run_from, state_after, state_after_turn, step_result_of, wanted_by, without, step_result_of_top, wanted_of}
use Rattle.hep_machine.proofs.Held.{among-cases}
use Rattle.hep_event.specs.Traces.{numbers_from}
use Rattle.hep_views.specs.declared.listed.Listed.{Listed}
use Rattle.hep_views.specs.ListedProcesses.{listed_at, listed_by, listed_with}

among-filter : (test : ℕ → Bool) (q : ℕ) (xs : List ℕ) → is_number_among q (filter test xs) ≡ true → (is_number_among q xs ≡ true) × (test q ≡ true)
among-filter test q [] h = absurd (true≢false (sym h))
among-filter test q (x ∷ xs) h = by (test x) refl h (among-filter test q xs) where
  by : (t : Bool) → test x ≡ t → is_number_among q (if t then x ∷ filter test xs else filter test xs) ≡ true
      → (is_number_among q (filter test xs) ≡ true → (is_number_among q xs ≡ true) × (test q ≡ true)) → (is_number_among q (x ∷ xs) ≡ true) × (test q ≡ true)
  by true e k rest = elim (among-cases q x (filter test xs) k) [
    | inl same ↦ (or_left (nat_eq q x) (is_number_among q xs) (eq-eqb q x same), ap test same ∙ e)
    | inr later ↦ let found = rest later in (or_right (nat_eq q x) (is_number_among q xs) found.0, found.1)
  ]
  by false e k rest = let found = rest k in (or_right (nat_eq q x) (is_number_among q xs) found.0, found.1)

-- ---- who is listed waits

module _ (program : Units) where
  abbrev AreWaiting : Progress → Type 0
  AreWaiting x = (q : ℕ) → is_number_among q x.listed ≡ true → is_waiting program x.state q ≡ true

  after-steps : (n : ℕ) (x : Progress) (p : ℕ) → AreWaiting x → AreWaiting (progress_after_steps program x p n)
  after-steps zero x p h = h
  after-steps (suc n) x p h =
      let s = state_after_turn program p x.state in
      after-steps n (progress_after_step program x p s) p (λ q among. (among-filter (is_waiting program s) q (without p x.listed) among).1)

  after-entry : (x : Progress) (e : Entry) (n : ℕ) → AreWaiting x → (n ≡ 0 → is_waiting program x.state e.process ≡ true) → AreWaiting (progress_after_entry program x e n)
  after-entry x e zero h waits = λ q among. elim (among-cases q e.process (without e.process x.listed) among) [
    | inl same ↦ subst (λ r. is_waiting program x.state r ≡ true) (sym same) (waits refl)
    | inr later ↦ h q (among-filter (λ r. not (nat_eq e.process r)) q x.listed later).0
  ]
  after-entry x e (suc n) h waits = after-steps (suc n) x e.process h

  steps-state : (n : ℕ) (x : Progress) (p : ℕ) → (progress_after_steps program x p n).state ≡ run_from program x.state (replicate n p)
  unfolding run_from
  steps-state zero x p = refl
  steps-state (suc n) x p = steps-state n (progress_after_step program x p (state_after_turn program p x.state)) p

  entry-state : (x : Progress) (e : Entry) (n : ℕ) → (progress_after_entry program x e n).state ≡ run_from program x.state (replicate n e.process)
  unfolding run_from
  entry-state x e zero = refl
  entry-state x e (suc n) = steps-state (suc n) x e.process

  idle : (s : State) (e : Entry) → IsEntry program s e → e.steps ≡ 0 → is_waiting program s e.process ≡ true
  idle s e (inl h) none = h.1
  idle s e (inr h) none = absurd (omega (arith, h.0, none))

  after-entries : (es : List Entry) (x : Progress) → AreWaiting x → AreEntries program x.state es → AreWaiting (progress_from program x es)
  unfolding progress_from
  after-entries [] x h legal = h
  after-entries (e ∷ es) x h legal =
      after-entries es (progress_after_entry program x e e.steps) (after-entry x e e.steps h (idle x.state e legal.0)) (
      subst (λ s. AreEntries program s es) (sym (entry-state x e e.steps)) legal.1)

  -- one that waits lives
  waiting-lives : (s : State) (q : ℕ) (w : Wanted) → wanted_by program q s ≡ Some w → (top : Level × Process) × (living s q ≡ Some top)
  unfolding step_result_of
  waiting-lives s q w e = by (living s q) refl e where
    by : (o : Option (Level × Process)) → living s q ≡ o → wanted_of (step_result_of_top program s q o) ≡ Some w → (top : Level × Process) × (living s q ≡ Some top)
    by None is f = absurd (none-some w f)
    by (Some top) is f = (top, is)

  told : (s : State) (q : ℕ) → is_waiting program s q ≡ true → (l : Listed) × (listed_by program q s ≡ Some l)
  told s q waits = by (wanted_by program q s) refl waits where
    by : (o : Option Wanted) → wanted_by program q s ≡ o → is_some o ≡ true → (l : Listed) × (listed_by program q s ≡ Some l)
    by None is h = absurd (true≢false (sym h))
    by (Some w) is h =
        let lives = waiting-lives s q w is in
        (listed_at program s q lives.0.0 w, λ i. listed_with program s q (lives.1 i) (is i))

  pub waiting-listed : (cells limit : ℕ) (history : List Entry) → IsLegal program cells limit history → (q : ℕ) → is_number_among q (progress_after program history).listed ≡ true
      → (l : Listed) × (listed_by program q (state_after program history) ≡ Some l)
  waiting-listed cells limit history legal q among =
      let first : Progress = record { state = opening program; listed = [] } in
      let waits = after-entries history first (λ r none. absurd (true≢false (sym none))) legal.entries q among in
      told (state_after program history) q (ap (λ s. is_waiting program s q) (sym (progress-state program history)) ∙ waits)

-- ---- one after the other

module _ (program : Units) (history : List Entry) (all : (q : ℕ) → is_number_among q (progress_after program history).listed ≡ true → (l : Listed) × (listed_by program q (state_after program history) ≡ Some l)) where
  abbrev test : ℕ → Bool
  test q = is_number_among q (progress_after program history).listed

  abbrev from-one : ℕ → ℕ → List ℕ
  from-one p n = filter test (numbers_from p n)

  not-listed : (p : ℕ) → listed_after program history p ≡ None → test p ≡ false
  not-listed p none = elim (cases_Bool (test p)) [
    | inl t ↦
        let found = all p t in
        absurd (none-some found.0 (sym none ∙ (ap (λ b. if b then listed_by program p (state_after program history) else None) t ∙ found.1)))
    | inr f ↦ f
  ]

  is-listed : (p : ℕ) (l : Listed) → listed_after program history p ≡ Some l → test p ≡ true
  is-listed p l some = elim (cases_Bool (test p)) [
    | inl t ↦ t
    | inr f ↦ absurd (none-some l (sym (ap (λ b. if b then listed_by program p (state_after program history) else None) f) ∙ some))
  ]

  or-none : (o r : Option Listed) → option_or o r ≡ None → (o ≡ None) × (r ≡ None)
  or-none None r e = (refl, e)
  or-none (Some l) r e = absurd cc

  -- where nobody of so many is listed
  pub none-from : (p n : ℕ) → first_listed program history p n ≡ None → from-one p n ≡ []
  none-from p zero none = refl
  none-from p (suc n) none =
      let both = or-none (listed_after program history p) (first_listed program history (suc p) n) none in
      ap (λ t. if t then p ∷ from-one (suc p) n else from-one (suc p) n) (not-listed p both.0) ∙ none-from (suc p) n both.1

  -- the first of so many that is listed, with those from it on
  pub record IsFirst (p n : ℕ) (l : Listed) : Type 0 where
    pub least : p ≤ l.process
    pub most : l.process < p + n
    pub numbers : from-one p n ≡ l.process ∷ from-one (suc l.process) (p + n - suc l.process)

  pub first-from : (p n : ℕ) (l : Listed) → first_listed program history p n ≡ Some l → IsFirst p n l
  first-from p zero l is = absurd cc
  first-from p (suc n) l is = by (listed_after program history p) refl is (λ later. first-from (suc p) n l later) where
    by : (o : Option Listed) → listed_after program history p ≡ o → option_or o (first_listed program history (suc p) n) ≡ Some l
        → (first_listed program history (suc p) n ≡ Some l → IsFirst (suc p) n l) → IsFirst p (suc n) l
    by None here later further =
        let rest = further later in
        record {
          least = omega (arith, rest.least);
          most = omega (arith, rest.most);
          numbers =
              ap (λ t. if t then p ∷ from-one (suc p) n else from-one (suc p) n) (not-listed p here)
              ∙ rest.numbers
              ∙ ap (λ m. l.process ∷ from-one (suc l.process) (m - suc l.process)) (omega arith);
        }
    by (Some k) here now further =
        let it : listed_after program history p ≡ Some l = here ∙ now in
        let number : l.process ≡ p = number-listed program history p l it in
        let left : n ≡ p + suc n - suc l.process = omega (arith, number) in
        record {
          least = omega (arith, number);
          most = omega (arith, number);
          numbers =
              ap (λ t. if t then p ∷ from-one (suc p) n else from-one (suc p) n) (is-listed p l it)
              ∙ (λ j. sym number j ∷ from-one (suc (sym number j)) (left j));
        }
