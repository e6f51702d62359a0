-- Two independent steps lead to the same state, whichever comes first.
use Rattle.std.proofs.Common.{◌≡◌, ◌⊎◌, inl, inr, ◌≢◌, ℕ, zero, suc, ◌-◌, ◌≤◌, Bool, true, false, List, [], ◌∷◌, ◌++◌, length, Option, Some}
use Rattle.std.proofs.Common.{None, refl, sym, ap, ◌∙◌, subst, arith, if◌then◌else◌, length-append, length-set}
use Rattle.std.specs.List.{AllByRecursion}
use Rattle.std.specs.Option.{unwrap_or}
use Rattle.std.proofs.Math.Path.{fun_ext}
use Rattle.std.proofs.lemmas.List.{append-nil}
use Rattle.std.proofs.lemmas.Option.{none-some, same_Some, slice_get_within}
use Rattle.hep_machine.specs.Words.{Wanted, Cell, Level, Location, Process, State, StepResult, Store, Top, Units, absent, living, numbered}
use Rattle.hep_machine.specs.Words.{result_after_next, state_made, step, step_result_of, step_result_of_top, stepped, top_of, waiting}
use Rattle.hep_machine.specs.Words.{with_numbered}
use Rattle.hep_machine.proofs.Others.{lives_from_one, others_stay}
use Rattle.hep_machine.proofs.Locations.{equal_locations}
use Rattle.hep_accesses.specs.Accesses.{Access, uses_on_top}
use Rattle.hep_accesses.specs.Exchanges.{AreIndependent, IsExchangeable, next_on_top, top_before, top_with}
use Rattle.hep_accesses.proofs.Elements.{all-mapped}
use Rattle.hep_accesses.proofs.Patches.{AreApart, AreBeside, Keeps, LeavesAlone, LeavesEach, Patch, is_stored, patched, patched_result}
use Rattle.hep_accesses.proofs.Patches.{patched_store}
use Rattle.hep_accesses.proofs.AsPatch.{Leaves, patch_by, patched-is}
use Rattle.hep_accesses.proofs.LocalSteps.{local}
use Rattle.hep_accesses.proofs.Patched.{front-set, numbered-swapped}

-- the step of t accesses nothing where the step of o may store, fill or empty
abbrev pub Avoids : Units → Top → Top → Type 0
Avoids program t o = AllByRecursion (λ (a : Access). is_stored (uses_on_top program o) a.at ≡ false) (uses_on_top program t)

-- ---- patches

-- what leaves the length as it was is empty
none-appended : {A : Type 0} (xs ys : List A) → length (xs ++ ys) ≡ length xs → ys ≡ []
none-appended xs [] e = refl
none-appended xs (y ∷ ys) e = absurd (omega (arith, e, length-append xs (y ∷ ys)))

module _ (patch : Patch) (xs : List Access) (new : Store) (is : patch.cells ≡ (λ l. if is_stored xs l then Some (new l) else None)) where
  left_alone : (at : Location) → is_stored xs at ≡ false → LeavesAlone patch at
  left_alone at h =
      record {
        itself = none at h;
        same = λ l e. none l (subst (λ (m : Location). is_stored xs m ≡ false) (sym (equal_locations l at e)) h);
      }
    where
      none : (l : Location) → is_stored xs l ≡ false → patch.cells l ≡ None
      none l e = ap (λ f. f l) is ∙ ap (λ b. if b then Some (new l) else None) e

-- two patches of different processes, of which none stores what the other one does
module _ (s : State) (a b : Patch) (one : 1 ≤ a.process) (other : 1 ≤ b.process) (d : a.process ≢ b.process)
    (within : a.process ≤ length s.processes) (inside : b.process ≤ length s.processes)
    (apart : (l : Location) → (a.cells l ≡ None) ⊎ (b.cells l ≡ None)) where
  stores-commute : patched_store a (patched_store b s.store) ≡ patched_store b (patched_store a s.store)
  stores-commute = fun_ext (λ l. by l (apart l))
    where
      by : (l : Location) → (a.cells l ≡ None) ⊎ (b.cells l ≡ None)
          → unwrap_or (a.cells l) (unwrap_or (b.cells l) (s.store l)) ≡ unwrap_or (b.cells l) (unwrap_or (a.cells l) (s.store l))
      by l (inl e) =
          ap (λ o. unwrap_or o (unwrap_or (b.cells l) (s.store l))) e ∙ ap (λ o. unwrap_or (b.cells l) (unwrap_or o (s.store l))) (sym e)
      by l (inr e) =
          ap (λ o. unwrap_or (a.cells l) (unwrap_or o (s.store l))) e ∙ ap (λ o. unwrap_or o (unwrap_or (a.cells l) (s.store l))) (sym e)

-- two lists of which one is empty can be appended in either order
lists-commute : {A : Type 0} (xs ys zs : List A) → (ys ≡ []) ⊎ (zs ≡ []) → (xs ++ ys) ++ zs ≡ (xs ++ zs) ++ ys
lists-commute xs ys zs (inl e) =
    ap (λ ws. (xs ++ ws) ++ zs) e ∙ ap (λ ws. ws ++ zs) (append-nil xs) ∙ sym (append-nil (xs ++ zs)) ∙ ap (λ ws. (xs ++ zs) ++ ws) (sym e)
lists-commute xs ys zs (inr e) =
    ap (λ ws. (xs ++ ys) ++ ws) e ∙ append-nil (xs ++ ys) ∙ ap (λ ws. ws ++ ys) (sym (append-nil xs)) ∙ ap (λ ws. (xs ++ ws) ++ ys) (sym e)

-- stacks of two processes, and processes that one of them makes
stacks-commute : (ps made others : List Process) (p q : ℕ) (x y : Process) → 1 ≤ p → 1 ≤ q → p ≢ q → p ≤ length ps → q ≤ length ps
    → (made ≡ []) ⊎ (others ≡ [])
    → with_numbered (with_numbered ps q y ++ others) p x ++ made ≡ with_numbered (with_numbered ps p x ++ made) q y ++ others
stacks-commute ps made others p q x y one other d within inside e =
    ap (λ zs. zs ++ made) (numbered-swapped ps others p q x y one other d within)
    ∙ lists-commute (with_numbered (with_numbered ps p x) q y) others made (by e)
    ∙ ap (λ zs. zs ++ others) (sym (front-set (with_numbered ps p x) made q y other (rw length-set inside)))
  where
    by : (made ≡ []) ⊎ (others ≡ []) → (others ≡ []) ⊎ (made ≡ [])
    by (inl f) = inr f
    by (inr f) = inl f

-- two patches of different processes commute: they store in different places, and one of them adds to each list
patches-commute : (s : State) (a b : Patch) → 1 ≤ a.process → 1 ≤ b.process → a.process ≢ b.process → a.process ≤ length s.processes
    → b.process ≤ length s.processes → ((l : Location) → (a.cells l ≡ None) ⊎ (b.cells l ≡ None)) → (a.made ≡ []) ⊎ (b.made ≡ [])
    → (a.printed ≡ []) ⊎ (b.printed ≡ []) → (a.failed ≡ []) ⊎ (b.failed ≡ []) → patched a (patched b s) ≡ patched b (patched a s)
patches-commute s a b one other d within inside apart made printed failed =
    λ i. record {
      processes = stacks-commute s.processes a.made b.made a.process b.process a.stack b.stack one other d within inside made i;
      activations = s.activations;
      store = stores-commute s a b one other d within inside apart i;
      records = lists-commute s.records b.printed a.printed (swap printed) i;
      faults = lists-commute s.faults b.failed a.failed (swap failed) i;
      halted = s.halted;
    }
  where
    swap : {A B : Type 0} → A ⊎ B → B ⊎ A
    swap (inl x) = inr x
    swap (inr y) = inl y

-- ---- a step, by its result

-- a state that is made is the result
result-is : (r : StepResult) (t : State) → state_made r ≡ Some t → r ≡ stepped t
result-is (stepped s) t e = ap stepped (same_Some s t e)
result-is (waiting w) t e = absurd (none-some t e)
result-is absent t e = absurd (none-some t e)

-- a step is made only where the machine isn't halted
going : (b : Bool) (o : Option State) (t : State) → (if b then None else o) ≡ Some t → (b ≡ false) × (o ≡ Some t)
going true o t e = absurd (none-some t e)
going false o t e = (refl, e)

-- before a step the machine isn't halted
runs : (program : Units) (p : ℕ) (s t : State) → step program p s ≡ Some t → s.halted ≡ false
runs program p s t e = (going s.halted (state_made (step_result_of program p s)) t e).0

-- the state that a step makes is the result of what comes next
made-by : (program : Units) (p : ℕ) (s t : State) (top : Level × Process) → step program p s ≡ Some t → living s p ≡ Some top
    → result_after_next program (top_with program s p top) (next_on_top program (top_with program s p top)) ≡ stepped t
unfolding step_result_of
made-by program p s t top e lives =
    result-is _ t
    (ap (λ o. state_made (step_result_of_top program s p o)) (sym lives)
    ∙ (going s.halted (state_made (step_result_of program p s)) t e).1)

-- and such a result is a step
steps-to : (program : Units) (p : ℕ) (s t : State) (top : Level × Process) → s.halted ≡ false → living s p ≡ Some top
    → result_after_next program (top_with program s p top) (next_on_top program (top_with program s p top)) ≡ stepped t
    → step program p s ≡ Some t
unfolding step_result_of
steps-to program p s t top running lives made =
    ap (λ b. if b then None else state_made (step_result_of program p s)) running
    ∙ ap (λ o. state_made (step_result_of_top program s p o)) lives ∙ ap state_made made

-- a process that lives has a number among those that were made
lives-within : (s : State) (p : ℕ) (top : Level × Process) → living s p ≡ Some top → p ≤ length s.processes
lives-within s zero top e = omega arith
lives-within s (suc k) top e = by (numbered s.processes (suc k)) refl e
  where
    by : (o : Option Process) → numbered s.processes (suc k) ≡ o → top_of o ≡ Some top → suc k ≤ length s.processes
    by None f g = absurd (none-some top g)
    by (Some stack) f g = omega (arith, slice_get_within s.processes k stack f)

-- the number of a process that lives is 1 or above
lives-from : (s : State) (p : ℕ) (top : Level × Process) → living s p ≡ Some top → 1 ≤ p
lives-from s p top e = lives_from_one s p (λ n. none-some top (sym n ∙ e))

-- a process that waits has no step
waiting-stepped : (w : Wanted) (v : State) → waiting w ≡ stepped v → ⊥
waiting-stepped w v e = absurd cc

-- nor has one that isn't there
absent-stepped : (v : State) → absent ≡ stepped v → ⊥
absent-stepped v e = absurd cc

-- ---- one of the two steps behind the other

module _ (program : Units) (s t : State) (p q : ℕ) (made : step program p s ≡ Some t) (d : p ≢ q) (first : IsExchangeable program s p)
    (second : IsExchangeable program s q) where
  -- the first process before its step
  abbrev top : Top
  top = top_with program s p first.top

  -- the second one
  abbrev other_top : Top
  other_top = top_with program s q second.top

  -- what the first step uses
  abbrev uses : List Access
  uses = uses_on_top program top

  -- what the first step leaves
  pub what-is_left : Leaves top uses t
  what-is_left =
      subst (Keeps (Leaves top uses)) (made-by program p s t first.top made first.lives) (
      local program top (next_on_top program top) first.begins_no_activation first.is_no_stop).0

  -- the first step as a patch
  pub own_patch : Patch
  own_patch = patch_by top uses t what-is_left

  -- its state is the patched one
  pub own_patch-is : t ≡ patched own_patch s
  unfolding own_patch
  own_patch-is = patched-is top uses t what-is_left

  -- the patch is of its process
  pub own_patch-process : own_patch.process ≡ p
  unfolding own_patch patch_by
  own_patch-process = refl

  -- the patch has the cells where the step stores
  pub own_patch-cells : own_patch.cells ≡ (λ l. if is_stored uses l then Some (t.store l) else None)
  unfolding own_patch patch_by
  own_patch-cells = refl

  -- it has none elsewhere
  pub own_patch-none : (l : Location) → is_stored uses l ≡ false → own_patch.cells l ≡ None
  own_patch-none l e = ap (λ (f : Location → Option Cell). f l) own_patch-cells ∙ ap (λ b. if b then Some (t.store l) else None) e

  -- a step that is no fault adds none
  pub own_patch-failed : t.faults ≡ s.faults → own_patch.failed ≡ []
  own_patch-failed e = none-appended s.faults own_patch.failed (ap length (sym (ap (λ (x : State). x.faults) own_patch-is) ∙ e))

  -- a step that prints nothing adds no record
  pub own_patch-printed : t.records ≡ s.records → own_patch.printed ≡ []
  own_patch-printed e = none-appended s.records own_patch.printed (ap length (sym (ap (λ (x : State). x.records) own_patch-is) ∙ e))

  -- a step that makes no process adds none
  pub own_patch-made : length t.processes ≡ length s.processes → own_patch.made ≡ []
  own_patch-made e =
      none-appended (with_numbered s.processes own_patch.process own_patch.stack) own_patch.made (
      sym (ap (λ (x : State). length x.processes) own_patch-is) ∙ e ∙ sym (length-set s.processes (own_patch.process - 1) own_patch.stack))

  -- the result of the second step by itself
  abbrev other_result : StepResult
  other_result = result_after_next program other_top (next_on_top program other_top)

  -- the process lives after the first step as before
  lives : living t q ≡ Some second.top
  lives = ap top_of (others_stay program p q s t made d (lives-within s q second.top second.lives)) ∙ second.lives

  -- the result of the second step after the first one is the patched result by itself
  over-result : Avoids program other_top top → AreApart own_patch s other_result
      → result_after_next program (top_with program t q second.top) (next_on_top program (top_with program t q second.top))
      ≡ patched_result own_patch other_result
  over-result avoids apart =
      ap (λ (x : State). result_after_next program (top_with program x q second.top)
      (next_on_top program (top_with program x q second.top)))
      own_patch-is
      ∙ (local program other_top (next_on_top program other_top) second.begins_no_activation second.is_no_stop).1 own_patch
      beside free apart
    where
      beside : AreBeside own_patch other_top
      beside =
          record {
            one = lives-from s q second.top second.lives;
            other = subst (λ n. 1 ≤ n) (sym own_patch-process) (lives-from s p first.top first.lives);
            different = λ e. d (sym own_patch-process ∙ sym e);
            within = lives-within s q second.top second.lives;
            inside = subst (λ n. n ≤ length s.processes) (sym own_patch-process) (lives-within s p first.top first.lives);
          }

      free : LeavesEach own_patch (uses_on_top program other_top)
      free =
          all-mapped (λ (a : Access). is_stored uses a.at ≡ false) (λ (a : Access). LeavesAlone own_patch a.at)
          (λ a e. left_alone own_patch uses t.store own_patch-cells a.at e) (uses_on_top program other_top) avoids

  -- where the second process has a step after the first one's, it has one by itself
  pub possible : Avoids program other_top top → (v : State) → step program q t ≡ Some v → (u : State) × (step program q s ≡ Some u)
  possible avoids v e = by other_result refl
    where
      none : (r : StepResult) → other_result ≡ r → AreApart own_patch s r → patched_result own_patch r ≡ stepped v
      none r f apart =
          ap (patched_result own_patch) (sym f) ∙ sym (over-result avoids (subst (AreApart own_patch s) (sym f) apart))
          ∙ made-by program q t v second.top e lives

      by : (r : StepResult) → other_result ≡ r → (u : State) × (step program q s ≡ Some u)
      by (stepped u) f = (u, steps-to program q s u second.top (runs program p s t made) second.lives f)
      by (waiting w) f =
          absurd (waiting-stepped w v (none (waiting w) f (record { faults = inr tt; records = inr tt; processes = inr tt })))
      by absent f = absurd (absent-stepped v (none absent f (record { faults = inr tt; records = inr tt; processes = inr tt })))

  module _ (u : State) (other_made : step program q s ≡ Some u) where
    -- the two steps don't both print, fault or make a process
    apart : (t.faults ≡ s.faults) ⊎ (u.faults ≡ s.faults) → (t.records ≡ s.records) ⊎ (u.records ≡ s.records)
        → (length t.processes ≡ length s.processes) ⊎ (length u.processes ≡ length s.processes) → AreApart own_patch s other_result
    apart faults records processes =
        subst (AreApart own_patch s) (sym (made-by program q s u second.top other_made second.lives)) (
        record { faults = of_faults faults; records = of_records records; processes = of_processes processes })
      where
        of_faults : (t.faults ≡ s.faults) ⊎ (u.faults ≡ s.faults) → (own_patch.failed ≡ []) ⊎ (u.faults ≡ s.faults)
        of_faults (inl e) = inl (own_patch-failed e)
        of_faults (inr e) = inr e

        of_records : (t.records ≡ s.records) ⊎ (u.records ≡ s.records) → (own_patch.printed ≡ []) ⊎ (u.records ≡ s.records)
        of_records (inl e) = inl (own_patch-printed e)
        of_records (inr e) = inr e

        of_processes : (length t.processes ≡ length s.processes) ⊎ (length u.processes ≡ length s.processes)
            → (own_patch.made ≡ []) ⊎ (length u.processes ≡ length s.processes)
        of_processes (inl e) = inl (own_patch-made e)
        of_processes (inr e) = inr e

    -- the second step after the first one leads to the patched state of the second one
    pub behind : Avoids program other_top top → (t.faults ≡ s.faults) ⊎ (u.faults ≡ s.faults)
        → (t.records ≡ s.records) ⊎ (u.records ≡ s.records)
        → (length t.processes ≡ length s.processes) ⊎ (length u.processes ≡ length s.processes)
        → step program q t ≡ Some (patched own_patch u)
    behind avoids faults records processes =
        steps-to program q t (patched own_patch u) second.top running lives (
        over-result avoids (apart faults records processes)
        ∙ ap (patched_result own_patch) (made-by program q s u second.top other_made second.lives))
      where
        running : t.halted ≡ false
        running = ap (λ (x : State). x.halted) own_patch-is ∙ runs program p s t made

-- ---- both

-- the other way round
either-swapped : {A B : Type 0} → A ⊎ B → B ⊎ A
either-swapped (inl x) = inr x
either-swapped (inr y) = inl y

module _ (program : Units) (s t u : State) (p q : ℕ) (made : step program p s ≡ Some t) (other_made : step program q s ≡ Some u)
    (h : AreIndependent program s p q t u)
    (avoids : Avoids program (top_before program h.separate.first) (top_before program h.separate.second))
    (other_avoids : Avoids program (top_before program h.separate.second) (top_before program h.separate.first))
    (stores : (l : Location) → (is_stored (uses_on_top program (top_before program h.separate.first)) l ≡ false)
    ⊎ (is_stored (uses_on_top program (top_before program h.separate.second)) l ≡ false)) where
  -- the second process isn't the first one
  back : q ≢ p
  back e = h.separate.different (sym e)

  -- the first step as a patch
  abbrev a : Patch
  a = own_patch program s t p q made h.separate.different h.separate.first h.separate.second

  -- the second step as a patch
  abbrev b : Patch
  b = own_patch program s u q p other_made back h.separate.second h.separate.first

  -- the state after the first step alone
  a-is : t ≡ patched a s
  a-is = own_patch-is program s t p q made h.separate.different h.separate.first h.separate.second

  -- the state after the second step alone
  b-is : u ≡ patched b s
  b-is = own_patch-is program s u q p other_made back h.separate.second h.separate.first

  -- the first patch is of the first process
  a-process : a.process ≡ p
  a-process =
      own_patch-process program s t p q made h.separate.different h.separate.first h.separate.second

  -- the second patch is of the second process
  b-process : b.process ≡ q
  b-process =
      own_patch-process program s u q p other_made back h.separate.second h.separate.first

  -- no storage unit is stored by both
  cells-apart : (l : Location)
      → (is_stored (uses_on_top program (top_before program h.separate.first)) l ≡ false)
      ⊎ (is_stored (uses_on_top program (top_before program h.separate.second)) l ≡ false)
      → (b.cells l ≡ None) ⊎ (a.cells l ≡ None)
  cells-apart l (inl e) =
      inr (own_patch-none program s t p q made h.separate.different h.separate.first h.separate.second l e)
  cells-apart l (inr e) =
      inl (own_patch-none program s u q p other_made back h.separate.second h.separate.first l e)

  -- one of the two makes no process
  made-apart : (length t.processes ≡ length s.processes) ⊎ (length u.processes ≡ length s.processes) → (b.made ≡ []) ⊎ (a.made ≡ [])
  made-apart (inl e) =
      inr (own_patch-made program s t p q made h.separate.different h.separate.first h.separate.second e)
  made-apart (inr e) =
      inl (own_patch-made program s u q p other_made back h.separate.second h.separate.first e)

  -- one of the two prints nothing
  printed-apart : (t.records ≡ s.records) ⊎ (u.records ≡ s.records) → (b.printed ≡ []) ⊎ (a.printed ≡ [])
  printed-apart (inl e) =
      inr (own_patch-printed program s t p q made h.separate.different h.separate.first h.separate.second e)
  printed-apart (inr e) =
      inl (own_patch-printed program s u q p other_made back h.separate.second h.separate.first e)

  -- one of the two is no fault
  failed-apart : (t.faults ≡ s.faults) ⊎ (u.faults ≡ s.faults) → (b.failed ≡ []) ⊎ (a.failed ≡ [])
  failed-apart (inl e) =
      inr (own_patch-failed program s t p q made h.separate.different h.separate.first h.separate.second e)
  failed-apart (inr e) =
      inl (own_patch-failed program s u q p other_made back h.separate.second h.separate.first e)

  -- both orders lead to the same state
  same : patched b t ≡ patched a u
  same =
      ap (patched b) a-is
      ∙ patches-commute s b a (subst (λ n. 1 ≤ n) (sym b-process) (lives-from s q h.separate.second.top h.separate.second.lives))
      (subst (λ n. 1 ≤ n) (sym a-process) (lives-from s p h.separate.first.top h.separate.first.lives)) (
      λ e. h.separate.different (sym a-process ∙ sym e ∙ b-process))
      (subst (λ n. n ≤ length s.processes) (sym b-process) (lives-within s q h.separate.second.top h.separate.second.lives)) (
      subst (λ n. n ≤ length s.processes) (sym a-process) (lives-within s p h.separate.first.top h.separate.first.lives))
      (λ l. cells-apart l (stores l))
      (made-apart h.processes) (
      printed-apart h.records) (failed-apart h.faults)
      ∙ ap (patched a) (sym b-is)

  -- independent steps can be exchanged
  pub exchanged : (v : State) × (step program q t ≡ Some v) × (step program p u ≡ Some v)
  exchanged = (
    patched a u,
    behind program s t p q made h.separate.different h.separate.first h.separate.second u other_made
        other_avoids h.faults h.records h.processes,
    behind program s u q p other_made back h.separate.second h.separate.first t made avoids (either-swapped h.faults) (
        either-swapped h.records) (either-swapped h.processes) ∙ ap Some same,
  )
