-- The entry that a step is of, by runs of equal entries.
use Rattle.std.proofs.Common.{◌≡◌, inl, inr, ℕ, zero, suc, ◌+◌, ◌-◌, ◌*◌, ◌/◌, ◌<◌, ◌≤◌, false, List, ◌∷◌, ◌++◌}
use Rattle.std.proofs.Common.{min, nat_lt, if◌then◌else◌, replicate, take, ap, ◌∙◌, arith}
use Rattle.std.proofs.lemmas.Bool.{cases_Bool}
use Rattle.std.proofs.lemmas.Bool.Decides.{nat_tests}
use Rattle.std.proofs.Math.Nat.{div-eq_of_lt, div-eq-sub-div, mul-suc}
use Rattle.hep_history.specs.declared.run.Run.{Run}
use Rattle.hep_history.specs.Runs.{entries_of, entry_of}
use Rattle.hep_machine.specs.declared.event.Entry.{Entry}
use Rattle.hep_replay.proofs.InRuns.{front_cut}
use Rattle.hep_races.specs.EntryNumbers.{entry_from}

-- a step of one of k equal entries
pub step-within : (k number n : ℕ) (e : Entry) (es : List Entry) → n < e.steps * k
    → entry_from number (replicate k e ++ es) n ≡ number + n / e.steps
step-within zero number n e es less = absurd (omega (arith, less))
step-within (suc k) number n e es less = elim (cases_Bool (nat_lt n e.steps)) [
  | inl t ↦
      let here : n < e.steps = grind (arith, nat_tests) in
      (λ i. if t i then number else entry_from (suc number) (replicate k e ++ es) (n - e.steps)) ∙ omega (arith, div-eq_of_lt here)
  | inr t ↦
      let past : e.steps ≤ n = grind (arith, nat_tests) in
      let all : e.steps * suc k ≡ e.steps * k + e.steps = mul-suc e.steps k in
      let some : zero < e.steps = positive e.steps k n less in
      (λ i. if t i then number else entry_from (suc number) (replicate k e ++ es) (n - e.steps))
      ∙ step-within k (suc number) (n - e.steps) e es (omega (arith, all, past, less))
      ∙ omega (arith, div-eq-sub-div some past)
]
  where
    positive : (s k n : ℕ) → n < s * suc k → zero < s
    positive zero k n less = absurd (omega (arith, less))
    positive (suc s) k n less = omega arith

-- a step behind k equal entries
pub step-behind : (k number n : ℕ) (e : Entry) (es : List Entry) → e.steps * k ≤ n
    → entry_from number (replicate k e ++ es) n ≡ entry_from (number + k) es (n - e.steps * k)
step-behind zero number n e es few =
    let at : number ≡ number + zero = omega arith in
    let left : n ≡ n - e.steps * zero = omega arith in
    λ i. entry_from (at i) es (left i)
step-behind (suc k) number n e es few =
    let all : e.steps * suc k ≡ e.steps * k + e.steps = mul-suc e.steps k in
    let past : e.steps ≤ n = omega (arith, all, few) in
    let t : nat_lt n e.steps ≡ false = grind (arith, nat_tests) in
    let at : suc number + k ≡ number + suc k = omega arith in
    let left : n - e.steps - e.steps * k ≡ n - e.steps * suc k = omega (arith, all) in
    (λ i. if t i then number else entry_from (suc number) (replicate k e ++ es) (n - e.steps))
    ∙ step-behind k (suc number) (n - e.steps) e es (omega (arith, all, past, few))
    ∙ (λ i. entry_from (at i) es (left i))

module _ (run : Run) (runs rest : List Run) (number count n k : ℕ) (is : runs ≡ run ∷ rest) (least : k ≡ min count run.count) where
  -- the next run and what is behind it
  split : entry_from number (take count (entries_of runs)) n
      ≡ entry_from number (replicate k (entry_of run) ++ take (count - k) (entries_of rest)) n
  split =
      ap (λ (rs : List Run). entry_from number (take count (entries_of rs)) n) is
      ∙ ap (λ (es : List Entry). entry_from number es n) (front_cut run rest count k least)

  pub in-run : n < run.steps * k → entry_from number (take count (entries_of runs)) n ≡ number + n / run.steps
  in-run less = split ∙ step-within k number n (entry_of run) (take (count - k) (entries_of rest)) less

  pub behind-run : run.steps * k ≤ n
      → entry_from number (take count (entries_of runs)) n
      ≡ entry_from (number + k) (take (count - k) (entries_of rest)) (n - run.steps * k)
  behind-run few = split ∙ step-behind k number n (entry_of run) (take (count - k) (entries_of rest)) few
