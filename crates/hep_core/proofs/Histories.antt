-- A history with one entry more, and the processes that are listed after it, by rising numbers.
use Rattle.std.proofs.Common.{◌≡◌, ◌≢◌, inl, inr, ℕ, true, zero, suc, ◌*◌, ◌-◌, ◌<◌, ◌≤◌, List, [], ◌∷◌, ◌++◌, length, length-append, refl, sym, ap, ◌∙◌, subst, append_assoc, append-nil, arith, Option, Some, None, replicate, ◌+◌, Bool, false, IsSome, slice_get, if◌then◌else◌}
use Rattle.std.proofs.lemmas.List.{replicate-append-replicate}
use Rattle.std.proofs.lemmas.Option.{none-some, same_Some}
use Rattle.std.specs.Option.{unwrap_or, option_or}
use Rattle.hep_machine.specs.declared.event.Entry.{Entry}
use Rattle.hep_machine.specs.Histories.{most_steps}
use Rattle.hep_machine.specs.Words.{Units, AreSteps, IsEntry, AreEntries, IsLegal, is_held, layout_of, opening, run, run_from, schedule_of_entry, schedule_of, state_after, state_after_turn, Progress, progress_after_entry, progress_after_step, progress_after_steps, progress_from, progress_after, last_process, State, Level, Process, is_waiting, step, Wanted, wanted_by, is_number_among, living}
use Rattle.hep_layout.proofs.HeldFrames.{run-last}
use Rattle.hep_machine.proofs.Replays.{run_after}
use Rattle.hep_commit.proofs.AdvanceRunsToBreakpoint.{one-behind}
use Rattle.std.proofs.lemmas.Bool.{cases_lt}
use Rattle.hep_views.specs.declared.listed.Listed.{Listed}
use Rattle.hep_views.specs.ListedProcesses.{listed_by, listed_with}
use Rattle.hep_core.specs.SilentChoices.{entries_along}
use Rattle.hep_core.specs.Invariant.{AreFew}
use Rattle.hep_core.specs.CoreValues.{first_listed, listed_after}

-- ---- the state

pub schedule-none : schedule_of [] ≡ []
unfolding schedule_of
schedule-none = refl

-- there are one activation and one process at the opening
pub few-none : (program : Units) → AreFew program []
unfolding state_after run run_from schedule_of opening
few-none program = record { activations = omega arith; processes = omega arith }

schedule-last : (es : List Entry) (e : Entry) → schedule_of (es ++ e ∷ []) ≡ schedule_of es ++ (replicate e.steps e.process ++ [])
unfolding schedule_of
schedule-last [] e = refl
schedule-last (x ∷ es) e = ap (λ r. replicate x.steps x.process ++ r) (schedule-last es e) ∙ sym (append_assoc (replicate x.steps x.process) (schedule_of es) (replicate e.steps e.process ++ []))

-- an entry of one step is a turn
pub schedule-stepped : (es : List Entry) (p : ℕ) → schedule_of (es ++ record { process = p; steps = 1 } ∷ []) ≡ schedule_of es ++ p ∷ []
schedule-stepped es p = schedule-last es (record { process = p; steps = 1 })

-- an entry without a step is no turn
pub schedule-waited : (es : List Entry) (p : ℕ) → schedule_of (es ++ record { process = p; steps = 0 } ∷ []) ≡ schedule_of es
schedule-waited es p = schedule-last es (record { process = p; steps = 0 }) ∙ append-nil (schedule_of es)

pub state-is : (program : Units) (es : List Entry) → state_after program es ≡ run program (schedule_of es)
unfolding state_after
state-is program es = refl

pub turned : (program : Units) (es : List Entry) (p : ℕ) → state_after program (es ++ record { process = p; steps = 1 } ∷ []) ≡ state_after_turn program p (state_after program es)
unfolding state_after run run_from
turned program es p = ap (run_from program (opening program)) (schedule-stepped es p) ∙ run_after program (opening program) (schedule_of es) (p ∷ [])

-- an entry of one step leads to the step's state
pub state-stepped : (program : Units) (es : List Entry) (p : ℕ) (s : State) → step program p (state_after program es) ≡ Some s → state_after program (es ++ record { process = p; steps = 1 } ∷ []) ≡ s
state-stepped program es p s e = turned program es p ∙ ap (λ o. unwrap_or o (state_after program es)) e

-- ---- the listed processes

-- the progress by two histories is that by the second after the first
pub progress_from-append : (program : Units) (x : Progress) (es fs : List Entry) → progress_from program x (es ++ fs) ≡ progress_from program (progress_from program x es) fs
unfolding progress_from
progress_from-append program x [] fs = refl
progress_from-append program x (e ∷ es) fs = progress_from-append program (progress_after_entry program x e e.steps) es fs

-- the state after no entry is the opening
pub opening-is : (program : Units) → state_after program [] ≡ opening program
unfolding state_after run run_from schedule_of
opening-is program = refl

pub progress-none : (program : Units) → progress_after program [] ≡ record { state = opening program; listed = [] }
unfolding progress_from
progress-none program = refl

pub progress-last : (program : Units) (es : List Entry) (e : Entry) → progress_after program (es ++ e ∷ []) ≡ progress_after_entry program (progress_after program es) e e.steps
unfolding progress_from
progress-last program es e = progress_from-append program (record { state = opening program; listed = [] }) es (e ∷ [])

-- the state that the listing goes by is the one after the history
steps-state : (program : Units) (x : Progress) (p n : ℕ) → (progress_after_steps program x p n).state ≡ run_from program x.state (replicate n p)
unfolding run_from
steps-state program x p zero = refl
steps-state program x p (suc n) = steps-state program (progress_after_step program x p (state_after_turn program p x.state)) p n

entry-state : (program : Units) (x : Progress) (e : Entry) (n : ℕ) → (progress_after_entry program x e n).state ≡ run_from program x.state (replicate n e.process)
unfolding run_from
entry-state program x e zero = refl
entry-state program x e (suc n) = steps-state program x e.process (suc n)

from-state : (program : Units) (x : Progress) (es : List Entry) → (progress_from program x es).state ≡ run_from program x.state (schedule_of es)
unfolding progress_from run_from schedule_of
from-state program x [] = refl
from-state program x (e ∷ es) =
    from-state program (progress_after_entry program x e e.steps) es
    ∙ ap (λ s. run_from program s (schedule_of es)) (entry-state program x e e.steps)
    ∙ sym (run_after program x.state (replicate e.steps e.process) (schedule_of es))

pub progress-state : (program : Units) (history : List Entry) → (progress_after program history).state ≡ state_after program history
unfolding state_after run
progress-state program history = from-state program (record { state = opening program; listed = [] }) history

-- an entry of one step, which leads from the state after the others to the next one
pub progress-stepped : (program : Units) (es : List Entry) (p : ℕ) → (progress_after program es).state ≡ run program (schedule_of es)
    → progress_after program (es ++ record { process = p; steps = 1 } ∷ []) ≡ progress_after_step program (progress_after program es) p (run program (schedule_of es ++ p ∷ []))
progress-stepped program es p is =
    progress-last program es (record { process = p; steps = 1 })
    ∙ ap (progress_after_step program (progress_after program es) p) (ap (state_after_turn program p) is ∙ sym (run-last program (schedule_of es) p))

-- ---- legal histories

entries-last : (program : Units) (es : List Entry) (e : Entry) (s : State) → AreEntries program s es → IsEntry program (run_from program s (schedule_of es)) e → AreEntries program s (es ++ e ∷ [])
unfolding run_from schedule_of
entries-last program [] e s h g = (g, tt)
entries-last program (x ∷ es) e s h g =
    let state = run_after program s (schedule_of_entry x) (schedule_of es) in
    (h.0, entries-last program es e (run_from program s (schedule_of_entry x)) h.1 (subst (λ t. IsEntry program t e) state g))

some-step : (o : Option State) (s : State) → o ≡ Some s → o ≢ None
some-step o s e f = cc

pub legal-none : (program : Units) (cells limit : ℕ) → IsSome (layout_of program cells is_held (schedule_of [])) → IsLegal program cells limit []
legal-none program cells limit room = record { within = omega arith; room = room; entries = tt }

pub legal-stepped : (program : Units) (cells limit : ℕ) (es : List Entry) (p : ℕ) (s : State) → IsLegal program cells limit es → length es < limit → IsSome (layout_of program cells is_held (schedule_of (es ++ record { process = p; steps = 1 } ∷ []))) → step program p (state_after program es) ≡ Some s → IsLegal program cells limit (es ++ record { process = p; steps = 1 } ∷ [])
unfolding state_after run
legal-stepped program cells limit es p s h lt room e = record {
  within = omega (arith, length-append es (record { process = p; steps = 1 } ∷ []));
  room = room;
  entries = entries-last program es (record { process = p; steps = 1 }) (opening program) h.entries
      (inr (omega arith, omega arith, (some-step (step program p (run_from program (opening program) (schedule_of es))) s e, tt)));
}

-- an entry without a step, whose process waits
pub legal-waited : (program : Units) (cells limit : ℕ) (es : List Entry) (p : ℕ) → IsLegal program cells limit es → length es < limit → is_waiting program (state_after program es) p ≡ true → IsLegal program cells limit (es ++ record { process = p; steps = 0 } ∷ [])
unfolding state_after run
legal-waited program cells limit es p h lt waits = record {
  within = omega (arith, length-append es (record { process = p; steps = 0 } ∷ []));
  room = subst (λ ps. IsSome (layout_of program cells is_held ps)) (sym (schedule-waited es p)) h.room;
  entries = entries-last program es (record { process = p; steps = 0 }) (opening program) h.entries (inl (refl, waits));
}

-- ---- the process of the last entry

last-at : (es : List Entry) (i : ℕ) (e : Entry) → suc i ≡ length es → slice_get es i ≡ Some e → last_process es ≡ e.process
last-at [] i e n h = absurd (none-some e h)
last-at (x ∷ []) zero e n h = ap (λ (y : Entry). y.process) (same_Some x e h)
last-at (x ∷ []) (suc i) e n h = absurd (none-some e h)
last-at (x ∷ y ∷ es) zero e n h = absurd (omega (arith, n))
last-at (x ∷ y ∷ es) (suc i) e n h = last-at (y ∷ es) i e (omega (arith, n)) h

pub last-some : (es : List Entry) (e : Entry) → slice_get es (length es - 1) ≡ Some e → last_process es ≡ e.process
last-some [] e h = absurd (none-some e h)
last-some (x ∷ es) e h = last-at (x ∷ es) (length es) e refl (ap (slice_get (x ∷ es)) (let same : length es ≡ length (x ∷ es) - 1 = omega arith in same) ∙ h)

pub last-none : (es : List Entry) → slice_get es (length es - 1) ≡ None → last_process es ≡ 0
last-none [] h = refl
last-none (x ∷ es) h = absurd (omega (arith, past (x ∷ es) (length (x ∷ es) - 1) h)) where
  past : (ys : List Entry) (i : ℕ) → slice_get ys i ≡ None → length ys ≤ i
  past [] i e = omega arith
  past (y ∷ ys) zero e = absurd cc
  past (y ∷ ys) (suc i) e = omega (arith, past ys i e)

module _ (program : Units) (history : List Entry) where
  -- ---- which one is the first

  pub none-listed : (p n : ℕ) → ((q : ℕ) → p ≤ q → listed_after program history q ≡ None) → first_listed program history p n ≡ None
  none-listed p zero none = refl
  none-listed p (suc n) none =
      ap (λ o. option_or o (first_listed program history (suc p) n)) (none p (omega arith))
      ∙ none-listed (suc p) n (λ q le. none q (omega (arith, le)))

  pub listed-first : (p n q : ℕ) (l : Listed) → p ≤ q → q < p + n → ((r : ℕ) → p ≤ r → r < q → listed_after program history r ≡ None) → listed_after program history q ≡ Some l → first_listed program history p n ≡ Some l
  listed-first p zero q l le lt before is = absurd (omega (arith, le, lt))
  listed-first p (suc n) q l le lt before is = elim (cases_lt p q) [
    | inl less ↦
        ap (λ o. option_or o (first_listed program history (suc p) n)) (before p (omega arith) less)
        ∙ listed-first (suc p) n q l (omega (arith, less)) (omega (arith, lt)) (λ r a b. before r (omega (arith, a)) b) is
    | inr more ↦
        let same : p ≡ q = omega (arith, le, more) in
        ap (λ o. option_or o (first_listed program history (suc p) n)) (ap (listed_after program history) same ∙ is)
  ]

  -- ---- its number

  number-of : (p : ℕ) (l : Listed) (top : Option (Level × Process)) (w : Option Wanted) → listed_with program (state_after program history) p top w ≡ Some l → l.process ≡ p
  number-of p l (Some top) (Some w) is = sym (ap process_or is) where
    process_or : Option Listed → ℕ
    process_or None = p
    process_or (Some l) = l.process
  number-of p l (Some top) None is = absurd cc
  number-of p l None w is = absurd cc

  pub number-listed : (p : ℕ) (l : Listed) → listed_after program history p ≡ Some l → l.process ≡ p
  number-listed p l = by-list (is_number_among p (progress_after program history).listed) where
    by-list : (b : Bool) → (if b then listed_by program p (state_after program history) else None) ≡ Some l → l.process ≡ p
    by-list true is = number-of p l (living (state_after program history) p) (wanted_by program p (state_after program history)) is
    by-list false is = absurd cc

-- ---- an entry of several steps

-- so many entries of one step are the same turns
pub schedule-along : (es : List Entry) (p n : ℕ) → schedule_of (entries_along es p n) ≡ schedule_of es ++ replicate n p
schedule-along es p zero = sym (append-nil (schedule_of es))
schedule-along es p (suc n) =
    schedule-stepped (entries_along es p n) p
    ∙ ap (λ ps. ps ++ p ∷ []) (schedule-along es p n)
    ∙ append_assoc (schedule_of es) (replicate n p) (p ∷ [])
    ∙ ap (λ ps. schedule_of es ++ ps) (one-behind n p)

pub schedule-several : (es : List Entry) (p n : ℕ) → schedule_of (es ++ record { process = p; steps = n } ∷ []) ≡ schedule_of es ++ replicate n p
schedule-several es p n = schedule-last es (record { process = p; steps = n }) ∙ ap (λ ps. schedule_of es ++ ps) (append-nil (replicate n p))

-- of so many entries, each of as many steps
pub schedule-many : (es : List Entry) (p size n : ℕ) → schedule_of (es ++ replicate n (record { process = p; steps = size })) ≡ schedule_of es ++ replicate (n * size) p
schedule-many es p size zero =
    let none : 0 ≡ 0 * size = omega arith in
    ap schedule_of (append-nil es) ∙ sym (append-nil (schedule_of es)) ∙ ap (λ k. schedule_of es ++ replicate k p) none
schedule-many es p size (suc n) =
    let e : Entry = record { process = p; steps = size } in
    let count : size + n * size ≡ suc n * size = omega arith in
    ap schedule_of (sym (append_assoc es (e ∷ []) (replicate n e)))
    ∙ schedule-many (es ++ e ∷ []) p size n
    ∙ ap (λ ps. ps ++ replicate (n * size) p) (schedule-several es p size)
    ∙ append_assoc (schedule_of es) (replicate size p) (replicate (n * size) p)
    ∙ ap (λ ps. schedule_of es ++ ps) (replicate-append-replicate size (n * size) p ∙ ap (λ k. replicate k p) count)

pub schedule-joined : (es : List Entry) (p n : ℕ) → schedule_of (es ++ record { process = p; steps = n } ∷ []) ≡ schedule_of (entries_along es p n)
schedule-joined es p n = schedule-several es p n ∙ sym (schedule-along es p n)

-- and list the same
module _ (program : Units) where
  steps-last : (x : Progress) (p n : ℕ)
      → progress_after_steps program x p (suc n) ≡ progress_after_step program (progress_after_steps program x p n) p (state_after_turn program p (progress_after_steps program x p n).state)
  steps-last x p zero = refl
  steps-last x p (suc n) = steps-last (progress_after_step program x p (state_after_turn program p x.state)) p n

  progress-along : (es : List Entry) (p n : ℕ) → progress_after program (entries_along es p n) ≡ progress_after_steps program (progress_after program es) p n
  progress-along es p zero = refl
  progress-along es p (suc n) =
      progress-last program (entries_along es p n) (record { process = p; steps = 1 })
      ∙ ap (λ (x : Progress). progress_after_step program x p (state_after_turn program p x.state)) (progress-along es p n)
      ∙ sym (steps-last (progress_after program es) p n)

  pub progress-joined : (es : List Entry) (p n : ℕ) → progress_after program (es ++ record { process = p; steps = suc n } ∷ []) ≡ progress_after program (entries_along es p (suc n))
  progress-joined es p n = progress-last program es (record { process = p; steps = suc n }) ∙ sym (progress-along es p (suc n))

  pub state-joined : (es : List Entry) (p n : ℕ) → state_after program (es ++ record { process = p; steps = n } ∷ []) ≡ state_after program (entries_along es p n)
  state-joined es p n =
      state-is program (es ++ record { process = p; steps = n } ∷ [])
      ∙ ap (run program) (schedule-joined es p n)
      ∙ sym (state-is program (entries_along es p n))

  -- where they are steps, it is the state after these
  pub state-several : (es : List Entry) (p n : ℕ) → state_after program (es ++ record { process = p; steps = n } ∷ []) ≡ run_from program (state_after program es) (replicate n p)
  unfolding state_after run run_from
  state-several es p n = ap (run_from program (opening program)) (schedule-several es p n) ∙ run_after program (opening program) (schedule_of es) (replicate n p)

  pub legal-several : (cells limit : ℕ) (es : List Entry) (p n : ℕ) → IsLegal program cells limit es → length es < limit → IsSome (layout_of program cells is_held (schedule_of (es ++ record { process = p; steps = suc n } ∷ [])))
      → suc n ≤ most_steps → AreSteps program (state_after program es) (replicate (suc n) p) → IsLegal program cells limit (es ++ record { process = p; steps = suc n } ∷ [])
  unfolding state_after run
  legal-several cells limit es p n h lt room few made = record {
    within = omega (arith, lt, length-append es (let e : Entry = record { process = p; steps = suc n } in e ∷ []));
    room = room;
    entries = entries-last program es (record { process = p; steps = suc n }) (opening program) h.entries (inr (omega arith, few, made));
  }

  -- ---- one step more in it

  pub schedule-further : (es : List Entry) (p n : ℕ) → schedule_of ((es ++ record { process = p; steps = n } ∷ []) ++ record { process = p; steps = 1 } ∷ []) ≡ schedule_of (es ++ record { process = p; steps = suc n } ∷ [])
  schedule-further es p n =
      schedule-stepped (es ++ record { process = p; steps = n } ∷ []) p
      ∙ ap (λ ps. ps ++ p ∷ []) (schedule-several es p n)
      ∙ append_assoc (schedule_of es) (replicate n p) (p ∷ [])
      ∙ ap (λ ps. schedule_of es ++ ps) (one-behind n p)
      ∙ sym (schedule-several es p (suc n))

  pub state-further : (es : List Entry) (p n : ℕ) → state_after program ((es ++ record { process = p; steps = n } ∷ []) ++ record { process = p; steps = 1 } ∷ []) ≡ state_after program (es ++ record { process = p; steps = suc n } ∷ [])
  state-further es p n =
      state-is program ((es ++ record { process = p; steps = n } ∷ []) ++ record { process = p; steps = 1 } ∷ [])
      ∙ ap (run program) (schedule-further es p n)
      ∙ sym (state-is program (es ++ record { process = p; steps = suc n } ∷ []))

  pub progress-further : (es : List Entry) (p n : ℕ)
      → progress_after program ((es ++ record { process = p; steps = suc n } ∷ []) ++ record { process = p; steps = 1 } ∷ []) ≡ progress_after program (es ++ record { process = p; steps = suc (suc n) } ∷ [])
  progress-further es p n =
      progress-last program (es ++ record { process = p; steps = suc n } ∷ []) (record { process = p; steps = 1 })
      ∙ ap (λ (x : Progress). progress_after_step program x p (state_after_turn program p x.state)) (progress-last program es (record { process = p; steps = suc n }))
      ∙ sym (steps-last (progress_after program es) p (suc n))
      ∙ sym (progress-last program es (record { process = p; steps = suc (suc n) }))

  steps-before : (p : ℕ) (s : State) (ps : List ℕ) → AreSteps program s ps → step program p (run_from program s ps) ≢ None → AreSteps program s (ps ++ p ∷ [])
  unfolding run_from
  steps-before p s [] made more = (more, tt)
  steps-before p s (q ∷ ps) made more = (made.0, steps-before p (state_after_turn program q s) ps made.1 more)

  pub steps-further : (s : State) (p n : ℕ) → AreSteps program s (replicate n p) → step program p (run_from program s (replicate n p)) ≢ None → AreSteps program s (replicate (suc n) p)
  steps-further s p n made more = subst (AreSteps program s) (one-behind n p) (steps-before p s (replicate n p) made more)
