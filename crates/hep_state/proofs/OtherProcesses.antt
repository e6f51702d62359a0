-- What a turn leaves of the processes that have none: where they stand.
use Rattle.std.proofs.Common.{◌≡◌, ◌≢◌, ℕ, ◌-◌, List, [], ◌∷◌, ◌++◌, length, length-set, Some, refl, sym, ap, ◌∙◌, arith, slice_set}
use Rattle.hep_machine.specs.Words.{Units, numbered, with_numbered}
use Rattle.hep_machine.proofs.Others.{front_numbered, other_numbered}
use Rattle.hep_proc.specs.declared.process.Process.{Process}
use Rattle.hep_proc.specs.Stacks.{Stack, stack_of, stack_with}
use Rattle.hep_state.specs.declared.core_state.CoreState.{CoreState}
use Rattle.hep_state.specs.declared.turn.TurnOutcome.{TurnOutcome}
use Rattle.hep_state.specs.declared.turn.TurnOutcome.TheVariants.{Stepped, Purged, Waits}
use Rattle.hep_state.specs.Words.{AreNumbered, HasLevels, IsSameButTop, LeavesOthers, LeavesRest, Snapshot, snapshot_of, stacks_of}
use Rattle.hep_state.proofs.Processes.{IsAt, stacks-set}
use Rattle.hep_state.proofs.UnchangedStates.{top-again}
use Rattle.hep_state.proofs.ProcessNumbers.{from-one, within-number}

-- ---- lists of stacks

-- ---- machines

module _ (p : ℕ) where
  pub beside-same : (old new : Snapshot) → new.processes ≡ old.processes → LeavesOthers p old new
  beside-same old new same q k other e = ap (λ (ks : List Stack). numbered ks q) same ∙ e

  pub beside-shown : (old new : Snapshot) → new ≡ old → LeavesOthers p old new
  beside-shown old new shown = beside-same old new (ap (λ (m : Snapshot). m.processes) shown)

  -- of three, one after the other
  pub beside-again : (old mid new : Snapshot) → LeavesOthers p old mid → LeavesOthers p mid new → LeavesOthers p old new
  beside-again old mid new h g q k other e = g q k other (h q k other e)

  -- where p has another stack
  set-beside : (ks new : List Stack) (was is : Stack) → numbered ks p ≡ Some was → new ≡ with_numbered ks p is → (q : ℕ) (k : Stack) → q ≢ p → numbered ks q ≡ Some k → numbered new q ≡ Some k
  set-beside ks new was is there same q k other e = ap (λ (ls : List Stack). numbered ls q) same ∙ (other_numbered ks p q is (from-one ks p was there) (λ d. other (sym d)) ∙ e)

  -- and a process was made
  pub more-beside : (ks new : List Stack) (was is made : Stack) → numbered ks p ≡ Some was → new ≡ with_numbered ks p is ++ made ∷ [] → (q : ℕ) (k : Stack) → q ≢ p → numbered ks q ≡ Some k → numbered new q ≡ Some k
  more-beside ks new was is made there same q k other e =
      let long : length (with_numbered ks p is) ≡ length ks = length-set ks (p - 1) is in
      ap (λ (ls : List Stack). numbered ls q) same
      ∙ (front_numbered (with_numbered ks p is) (made ∷ []) q (omega (arith, long, within-number ks q k e))
      ∙ (other_numbered ks p q is (from-one ks p was there) (λ d. other (sym d)) ∙ e))

  pub beside-with : (old new : Snapshot) (was is : Stack) → numbered old.processes p ≡ Some was → new.processes ≡ with_numbered old.processes p is → LeavesOthers p old new
  beside-with old new was is there same = set-beside old.processes new.processes was is there same

  -- where its top may be settled
  pub beside-top : (program : Units) (old new : Snapshot) → HasLevels old p → IsSameButTop program p old new → LeavesOthers p old new
  beside-top program old new levels top =
      let came = top levels in
      beside-with old new (stack_with levels.level levels.below levels.operands levels.pending) (stack_with (record levels.level { index = came.1 }) levels.below came.0 levels.pending) levels.kept (ap (λ (m : Snapshot). m.processes) came.2)

  -- where the process at its place is another one
  pub beside-set : (m : CoreState) {at : ℕ} {was : Stack} {q : Process} (r : Process) → AreNumbered m → IsAt m.processes.items p at was q → numbered (snapshot_of m).processes p ≡ Some was → r.number ≡ q.number
      → (n : ℕ) (k : Stack) → n ≢ p → numbered (snapshot_of m).processes n ≡ Some k → numbered (stacks_of (slice_set m.processes.items at r) m.made) n ≡ Some k
  beside-set m {at} {was} r numbers it there same = set-beside (snapshot_of m).processes (stacks_of (slice_set m.processes.items at r) m.made) was (stack_of r) there (stacks-set m p r (stack_of r) numbers it same refl)

-- ---- what a turn comes to, where its process was settled before

pub rest-again : (program : Units) (p : ℕ) (turned : TurnOutcome) (old mid new : Snapshot) → HasLevels old p → IsSameButTop program p old mid → LeavesRest turned program p mid new → LeavesRest turned program p old new
rest-again program p (Waits want) old mid new levels top h = top-again p program old mid new top h
rest-again program p (Stepped changed) old mid new levels top h = beside-again p old mid new (beside-top p program old mid levels top) h
rest-again program p Purged old mid new levels top h = beside-again p old mid new (beside-top p program old mid levels top) h
