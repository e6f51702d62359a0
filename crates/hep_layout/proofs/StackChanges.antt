-- What is on stacks after a step, by what the step makes of a stack.
use Rattle.std.proofs.Common.{◌≡◌, ℕ, ◌+◌, ◌≤◌, false, List, [], ◌∷◌, ◌++◌, Some, ap, ◌∙◌, arith, if◌then◌else◌, nat_lt}
use Rattle.std.specs.List.{flat_map}
use Rattle.std.proofs.lemmas.Bool.Decides.{nat_tests}
use Rattle.hep_machine.specs.Words.{activations_on, is_number_among, living, with_numbered, Level, Process, State}
use Rattle.hep_layout.specs.Words.{times, times_on, also, but, is_stacked}
use Rattle.hep_layout.proofs.Stacks.{times_on-last, times_on-numbered, top-numbered}

among-times : (a : ℕ) (ns : List ℕ) → is_number_among a ns ≡ nat_lt 0 (times a ns)
among-times a [] = grind (arith, nat_tests)
among-times a (b ∷ bs) = grind (arith, nat_tests, among-times a bs)

pub stacked-times : (s : State) (a : ℕ) → is_stacked s a ≡ nat_lt 0 (times_on a s.processes)
stacked-times s a = among-times a (flat_map activations_on s.processes)

-- ---- one stack more or less

module _ (s t : State) (p : ℕ) (top : Level × Process) (q : Process) (lives : living s p ≡ Some top) (set : t.processes ≡ with_numbered s.processes p q) where
  -- how often an activation is on stacks before and after
  count : (a : ℕ) → times_on a t.processes + times a (activations_on (top.0 ∷ top.1)) ≡ times_on a s.processes + times a (activations_on q)
  count a = ap (λ qs. times_on a qs + times a (activations_on (top.0 ∷ top.1))) set ∙ times_on-numbered a s.processes p (top.0 ∷ top.1) q (top-numbered s p top lives)

  pub stacks-same : (a : ℕ) → activations_on q ≡ activations_on (top.0 ∷ top.1) → is_stacked t a ≡ is_stacked s a
  stacks-same a e = grind (arith, nat_tests, count a, ap (times a) e, stacked-times t a, stacked-times s a)

  pub stacks-ended : (a : ℕ) → times_on a s.processes ≤ 1 → activations_on q ≡ activations_on top.1 → is_stacked t a ≡ but top.0.activation (is_stacked s) a
  stacks-ended a few e = grind (arith, nat_tests, count a, ap (times a) e, stacked-times t a, stacked-times s a)

  pub stacks-begun : (a c : ℕ) → activations_on q ≡ c ∷ activations_on (top.0 ∷ top.1) → is_stacked t a ≡ also c (is_stacked s) a
  stacks-begun a c e = grind (arith, nat_tests, count a, ap (times a) e, stacked-times t a, stacked-times s a)

  -- where the process ends, all of its stack is gone
  pub stacks-emptied : (a : ℕ) → times_on a s.processes ≤ 1 → q ≡ [] → is_stacked t a ≡ (if is_number_among a (activations_on (top.0 ∷ top.1)) then false else is_stacked s a)
  stacks-emptied a few e =
      grind (arith, nat_tests, count a, ap (λ (z : Process). times a (activations_on z)) e, stacked-times t a, stacked-times s a, among-times a (activations_on (top.0 ∷ top.1)))

-- a process more, with one activation
pub stacks-created : (s t : State) (a c : ℕ) (r : Process) → t.processes ≡ s.processes ++ r ∷ [] → activations_on r ≡ c ∷ [] → is_stacked t a ≡ also c (is_stacked s) a
stacks-created s t a c r e f =
    grind (arith, nat_tests, ap (times_on a) e, times_on-last a s.processes r, ap (times a) f, stacked-times t a, stacked-times s a)
