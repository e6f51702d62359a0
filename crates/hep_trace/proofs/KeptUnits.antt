-- What is held is among what the processes of a machine keep.
use Rattle.std.proofs.Common.{◌≡◌, ◌⊎◌, inl, inr, ℕ, suc, ◌+◌, ◌<◌, ◌≤◌, Bool, true, false, true≢false, List, [], ◌∷◌, length, Option, Some, None, refl, sym, ap, ◌∙◌, subst, arith, if◌then◌else◌, IsSome, nat_eq, slice_get}
use Rattle.std.proofs.lemmas.Bool.{cases_Bool, eqb-false, eqb-true}
use Rattle.std.proofs.lemmas.Option.{same_Some, slice_get_within}
use Rattle.hep_machine.specs.Words.{Level, Process as SourceProcess, State, Units, is_held, living, run}
use Rattle.hep_proc.specs.declared.process.Process.{Process}
use Rattle.hep_proc.specs.Stacks.{Stack, no_stack, stack_of}
use Rattle.hep_state.specs.declared.core_state.CoreState.{CoreState}
use Rattle.hep_state.specs.Words.{HasLevels, IsMachineAfter, snapshot_of, stack_numbered}
use Rattle.hep_state.proofs.ProcessNumbers.{numbered-there}
use Rattle.hep_views.proofs.WaitingPlaces.{living-top}
use Rattle.hep_trace.specs.Ancestry.{has_above}
use Rattle.hep_trace.proofs.Ancestors.{kept-by, kept-held}

-- a process with this number stands among these, or its stack is empty
abbrev pub StandsAmong : List Process → ℕ → Type 0
StandsAmong qs p = (stack_numbered qs p ≡ no_stack) ⊎ ((i : ℕ) × (q : Process) × (slice_get qs i ≡ Some q) × (p ≡ q.number))

stands-among : (qs : List Process) (p : ℕ) → StandsAmong qs p
stands-among [] p = inl refl
stands-among (x ∷ qs) p = by (nat_eq p x.number) refl (stands-among qs p) where
  by : (t : Bool) → nat_eq p x.number ≡ t → StandsAmong qs p
      → ((if t then stack_of x else stack_numbered qs p) ≡ no_stack) ⊎ ((i : ℕ) × (q : Process) × (slice_get (x ∷ qs) i ≡ Some q) × (p ≡ q.number))
  by true e rest = inr (0, x, refl, eqb-true p x.number e)
  by false e (inl none) = inl none
  by false e (inr found) = inr (suc found.0, found.1, found.2, found.3)

-- what is above the top activation of a process is held
pub held-there : (program : Units) (choices : List ℕ) (a p : ℕ) → has_above (run program choices) a (living (run program choices) p) ≡ true → is_held (run program choices) a ≡ true
held-there program choices a p h = by (living (run program choices) p) refl h where
  by : (o : Option (Level × SourceProcess)) → living (run program choices) p ≡ o → has_above (run program choices) a o ≡ true → is_held (run program choices) a ≡ true
  by None e h = absurd (true≢false (sym h))
  by (Some top) e h = kept-held program choices a (record { process = p; top = top; lives = e; among = h })

-- one process more
pub next-off : (program : Units) (choices : List ℕ) (a : ℕ) (qs : List Process) (j : ℕ) (r : Process) → slice_get qs j ≡ Some r → has_above (run program choices) a (living (run program choices) r.number) ≡ false
    → ((i : ℕ) (q : Process) → i < j → slice_get qs i ≡ Some q → has_above (run program choices) a (living (run program choices) q.number) ≡ false)
    → (i : ℕ) (q : Process) → i < j + 1 → slice_get qs i ≡ Some q → has_above (run program choices) a (living (run program choices) q.number) ≡ false
next-off program choices a qs j r here off before i q less there = elim (cases_Bool (nat_eq i j)) [
  | inl t ↦
      let same : r ≡ q = same_Some r q (sym here ∙ ap (slice_get qs) (sym (eqb-true i j t)) ∙ there) in
      subst (λ (z : Process). has_above (run program choices) a (living (run program choices) z.number) ≡ false) same off
  | inr t ↦
      let other = eqb-false i j t in
      before i q (omega (arith, less, other)) there
]

module _ (program : Units) (cells : ℕ) (choices : List ℕ) (m : CoreState) (after : IsMachineAfter program cells choices m) where
  abbrev s : State
  s = run program choices

  -- a process that lives stands among those that are kept
  kept-among : (p : ℕ) (top : Level × SourceProcess) → living s p ≡ Some top → (i : ℕ) × (q : Process) × (slice_get m.processes.items i ≡ Some q) × (p ≡ q.number)
  kept-among p top lives = by (stands-among m.processes.items p) where
    levels : HasLevels (snapshot_of m) p
    levels = (living-top program cells choices m after p (subst IsSome (sym lives) refl)).is_top.levels

    by : StandsAmong m.processes.items p → (i : ℕ) × (q : Process) × (slice_get m.processes.items i ≡ Some q) × (p ≡ q.number)
    by (inl none) =
        let is = (numbered-there m.processes.items m.made p _ levels.kept).2 in
        let same = sym none ∙ is in
        absurd (omega (arith, ap (λ (k : Stack). length k.levels) same))
    by (inr found) = found

  -- what none of them keeps isn't held
  pub held-nowhere : (a n : ℕ) → length m.processes.items ≤ n
      → ((i : ℕ) (q : Process) → i < n → slice_get m.processes.items i ≡ Some q → has_above s a (living s q.number) ≡ false) → is_held s a ≡ false
  held-nowhere a n few off = elim (cases_Bool (is_held s a)) [
    | inl held ↦
        let kept = kept-by program choices a held in
        let at = kept-among kept.process kept.top kept.lives in
        let inside = slice_get_within m.processes.items at.0 at.1 at.2 in
        let none = off at.0 at.1 (omega (arith, inside, few)) at.2 in
        absurd (true≢false (sym kept.among ∙ sym (ap (has_above s a) kept.lives) ∙ ap (λ p. has_above s a (living s p)) at.3 ∙ none))
    | inr other ↦ other
  ]
