-- A history whose entries follow choices that all make steps: it makes these, and where no process has a step then, no others.
use Rattle.std.proofs.Common.{◌≡◌, ◌≢◌, ◌⊎◌, inl, inr, ℕ, zero, suc, ◌+◌, ◌≤◌, List, [], ◌∷◌, ◌++◌, length, Some, None, refl, sym}
use Rattle.std.proofs.Common.{ap, ◌∙◌, subst, arith, replicate, slice_get}
use Rattle.hep_machine.specs.declared.event.Entry.{Entry}
use Rattle.hep_machine.specs.Words.{AreEntries, AreSteps, IsEntry, State, Units, run_from, schedule_of, schedule_of_entry, state_after_turn}
use Rattle.hep_machine.specs.Words.{step}
use Rattle.hep_blocked.proofs.LivingProcesses.{waits-idle}
use Rattle.hep_explore.specs.Endings.{IsTerminal}

-- each entry has one step at most, and is of the process that is chosen, while there are choices
abbrev pub Follow : List Entry → List ℕ → Type 0
Follow es ps =
    (k : ℕ) (e : Entry) → slice_get es k ≡ Some e → (e.steps ≤ 1) × ((p : ℕ) → slice_get ps k ≡ Some p → e.process ≡ p)

module _ (program : Units) where
  -- the entries make the steps of all choices first
  pub record MakesAll (s : State) (es : List Entry) (ps : List ℕ) : Type 0 where
    pub rest : List Entry
    pub count : length es ≡ length ps + length rest
    pub turns : schedule_of es ≡ ps ++ schedule_of rest
    pub entries : AreEntries program (run_from program s ps) rest

  -- they end before a choice that has a step
  pub record EndsBefore (s : State) (es : List Entry) (ps : List ℕ) : Type 0 where
    pub next : ℕ
    pub is_next : slice_get ps (length es) ≡ Some next
    pub stepped : step program next (run_from program s (schedule_of es)) ≢ None

  -- an entry of the process that is chosen makes its step
  one_step : (p : ℕ) (s : State) (e : Entry) → e.process ≡ p → e.steps ≤ 1 → step program p s ≢ None → IsEntry program s e
      → schedule_of_entry e ≡ p ∷ []
  one_step p s e same few some (inl found) =
      absurd (some (subst (λ q. step program q s ≡ None) same (waits-idle program e.process s found.1)))
  one_step p s e same few some (inr made) =
      let more = made.0 in
      let one : e.steps ≡ 1 = omega arith in
      ap (λ n. replicate n e.process) one ∙ ap (λ q. q ∷ []) same

  later : (e : Entry) (es : List Entry) (p : ℕ) (ps : List ℕ) → Follow (e ∷ es) (p ∷ ps) → Follow es ps
  later e es p ps follow k x here = follow (suc k) x here

  pub follows : (ps : List ℕ) (es : List Entry) (s : State) → AreEntries program s es → Follow es ps → AreSteps program s ps
      → MakesAll s es ps ⊎ EndsBefore s es ps
  unfolding run_from schedule_of
  follows [] es s entries follow made = inl (record { rest = es; count = omega arith; turns = refl; entries = entries })
  follows (p ∷ ps) [] s entries follow made = inr (record { next = p; is_next = refl; stepped = made.0 })
  follows (p ∷ ps) (e ∷ es) s entries follow made =
      let here = follow 0 e refl in
      let one = one_step p s e (here.1 p refl) here.0 made.0 entries.0 in
      let left = subst (λ qs. AreEntries program (run_from program s qs) es) one entries.1 in
      by_rest one (follows ps es (state_after_turn program p s) left (later e es p ps follow) made.1)
    where
      by_rest : schedule_of_entry e ≡ p ∷ []
          → MakesAll (state_after_turn program p s) es ps ⊎ EndsBefore (state_after_turn program p s) es ps
          → MakesAll s (e ∷ es) (p ∷ ps) ⊎ EndsBefore s (e ∷ es) (p ∷ ps)
      by_rest one (inl all) =
          inl (record {
            rest = all.rest;
            count = (let count = all.count in omega arith);
            turns = ap (λ qs. qs ++ schedule_of es) one ∙ ap (λ qs. p ∷ qs) all.turns;
            entries = all.entries;
          })
      by_rest one (inr short) =
          inr (record {
            next = short.next;
            is_next = short.is_next;
            stepped = subst (λ qs. step program short.next (run_from program s (qs ++ schedule_of es)) ≢ None) (sym one) short.stepped;
          })

  -- where no process has a step, entries make none
  none_made : (n p : ℕ) (s : State) → 1 ≤ n → AreSteps program s (replicate n p) → step program p s ≢ None
  none_made zero p s some made = absurd (omega arith)
  none_made (suc n) p s some made = made.0

  pub idle : (es : List Entry) (s : State) → IsTerminal program s → AreEntries program s es → schedule_of es ≡ []
  unfolding run_from schedule_of
  idle [] s terminal entries = refl
  idle (e ∷ es) s terminal entries = by_entry (idle es s terminal) entries.0 where
    by_entry : (AreEntries program s es → schedule_of es ≡ []) → IsEntry program s e → schedule_of_entry e ++ schedule_of es ≡ []
    by_entry rest (inl found) =
        let none : schedule_of_entry e ≡ [] = ap (λ n. replicate n e.process) found.0 in
        ap (λ qs. qs ++ schedule_of es) none
        ∙ rest (subst (λ qs. AreEntries program (run_from program s qs) es) none entries.1)
    by_entry rest (inr made) = absurd (none_made e.steps e.process s made.0 made.2 (terminal e.process))
