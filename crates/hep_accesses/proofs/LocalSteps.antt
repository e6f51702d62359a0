-- Each step is local to what it uses: it stores there alone, and beside what another process stored elsewhere it does the same. An action
-- or a test of a state has its cases here.
use Rattle.std.proofs.Common.{◌≡◌, ℕ, zero, suc, Bool, true, false, ◌&&◌, not, List, [], ◌∷◌, ◌++◌, map, Option, Some, None, Result, Ok, Err}
use Rattle.std.proofs.Common.{refl, ap, ◌∙◌, if◌then◌else◌, ℤ, ◌+ℤ◌, ◌-ℤ◌, pos}
use Rattle.std.specs.List.{flat_map}
use Rattle.hep_source.specs.declared.function.StateFunction.{StateFunction}
use Rattle.hep_source.specs.declared.function.StateFunction.TheVariants.{IsFull, IsEmpty, ValueOf, SetEmpty, WaitFull}
use Rattle.hep_source.specs.declared.value.Value.TheVariants as value
use Rattle.hep_machine.specs.declared.event.Kind.{Kind}
use Rattle.hep_machine.specs.declared.event.Kind.TheVariants.{Undefined}
use Rattle.hep_machine.specs.Access as access
use Rattle.hep_machine.specs.Access.{Outcome, is_empty, is_full, purged_cell, reading_asynchronous, setting_empty, waiting_full}
use Rattle.hep_machine.specs.Evaluation.{reading}
use Rattle.hep_machine.specs.Step.{gives, waits, fails}
use Rattle.hep_machine.specs.Words.{Answer, Cell, Level, Location, Loop, Name, Next, Process, Redex, Reference, Store, Top, Units, Value}
use Rattle.hep_machine.specs.Words.{answer_of, answer_of_read_at, answer_of_test_at, by_result, combined_value, emptied_from, function_name}
use Rattle.hep_machine.specs.Words.{function_value, further, integer_of, integer_or_overflow, is_array, is_nonempty, iterations}
use Rattle.hep_machine.specs.Words.{level_after_statement, loop_at, negated_value, result_after_assignment, result_after_do}
use Rattle.hep_machine.specs.Words.{result_after_increment, result_after_leaving, result_after_loop_end, result_after_loop_variable}
use Rattle.hep_machine.specs.Words.{result_after_next, result_after_purge, result_after_result, result_after_value, result_after_write}
use Rattle.hep_machine.specs.Words.{signed_value, stack_after_return, state_after_count, state_resumed, stepped, storage_of}
use Rattle.hep_machine.specs.Words.{store_after_both, store_after_purge, store_after_purge_at, store_after_purge_of, unit_on_top}
use Rattle.hep_machine.specs.Words.{variable_of, with_empty, with_value, written, applying, assigning, branching, calling, choosing}
use Rattle.hep_machine.specs.Words.{combining, continuing, creating, does, ending_loop, entering_block, entering_loop, evaluating, jumping}
use Rattle.hep_machine.specs.Words.{leaving, negating, printing, purging, referring, resuming, signing, stopping, testing}
use Rattle.hep_machine.specs.Words.{testing_condition, wants}
use Rattle.hep_accesses.specs.Accesses.{Access, access_at, access_of_do, accesses_of_result, empties, is_incremented, is_ok, location_of}
use Rattle.hep_accesses.specs.Accesses.{locations_from, scope_on_top, site_of, target_accesses, uses_of_next, value_at}
use Rattle.hep_accesses.specs.Exchanges.{BeginsNoActivation, IsNoStop}
use Rattle.hep_accesses.proofs.Elements.{all-parts}
use Rattle.hep_accesses.proofs.Local.{HasStore, IsLocal, IsLocalAnswer, IsLocalBy, IsLocalStore, accessed, answered, by-cell, by-part}
use Rattle.hep_accesses.proofs.Local.{cell-stored, fault, faulty, kept, moved, reading-allowed, same, same-after, stays, store-after}
use Rattle.hep_accesses.proofs.Local.{waiting-allowed}
use Rattle.hep_accesses.proofs.Patches.{IsSameBut, LeavesEach, Patch, patched_store}
use Rattle.hep_accesses.proofs.AsPatch.{left-made, left-printed}
use Rattle.hep_accesses.proofs.Patched.{patched_answer}
use Rattle.hep_accesses.proofs.OverPatch.{over-made, over-printed}

-- an operator or a function of integers
by-result : (r : Result Value Kind) → IsLocalAnswer [] (by_result r)
by-result (Ok v) = record { leaves = λ s l e. refl; beside = λ patch free s. refl }
by-result (Err k) = fault [] k

-- ---- PURGE

-- PURGE leaves a store that differs where these accesses store
abbrev HasStores : List Access → Store → Result Store Kind → Type 0
HasStores xs s (Err k) = Unit {0}
HasStores xs s (Ok store) = IsSameBut xs s store

-- the result of a PURGE over the patched store
abbrev patched_stores : Patch → Result Store Kind → Result Store Kind
patched_stores patch (Err k) = Err k
patched_stores patch (Ok store) = Ok (patched_store patch store)

-- a PURGE that is local to these accesses
record IsLocalPurge (xs : List Access) (f : Store → Result Store Kind) : Type 0 where
  leaves : (s : Store) → HasStores xs s (f s)
  beside : (patch : Patch) → LeavesEach patch xs → (s : Store) → f (patched_store patch s) ≡ patched_stores patch (f s)

-- one that is no fault
purged : (xs : List Access) (f : Store → Store) → IsLocalStore xs f → IsLocalPurge xs (λ s. Ok (f s))
purged xs f h = record { leaves = h.leaves; beside = λ patch free s. ap Ok (h.beside patch free s) }

-- ---- steps

module _ (program : Units) (t : Top) where
  -- a name or an element, plain or asynchronous
  abbrev reference_uses : Name → Bool → Bool → Result Location Kind → List Access
  reference_uses x asynchronous stores at =
      (if asynchronous then [] else access_at program t x stores at) ++ (if asynchronous then access_at program t x true at else [])

  -- ---- redexes

  -- a read
  read : (x : Name) (asynchronous : Bool) (at : Result Location Kind)
      → IsLocalAnswer (reference_uses x asynchronous false at) (λ s. answer_of_read_at asynchronous s at)
  read x true (Err k) = fault [] k
  read x false (Err k) = fault [] k
  read x true (Ok at) = accessed program t x true at reading_asynchronous (λ c. tt)
  read x false (Ok at) = accessed program t x false at access.reading (λ c. reading-allowed c.value)

  -- a test of a state
  tested : (f : StateFunction) (x : Name) (at : Result Location Kind)
      → IsLocalAnswer (access_at program t x (empties f) at) (λ s. answer_of_test_at f s at)
  tested f x (Err k) = fault [] k
  tested IsFull x (Ok at) = accessed program t x false at (λ c. access.gives (value.Truth (is_full c))) (λ c. tt)
  tested IsEmpty x (Ok at) = accessed program t x false at (λ c. access.gives (value.Truth (is_empty c))) (λ c. tt)
  tested ValueOf x (Ok at) = accessed program t x false at access.reading (λ c. reading-allowed c.value)
  tested SetEmpty x (Ok at) = accessed program t x true at setting_empty (λ c. tt)
  tested WaitFull x (Ok at) = accessed program t x false at waiting_full (λ c. waiting-allowed c.value c.full)

  -- a redex
  redex : (r : Redex) → IsLocalAnswer (uses_of_next program t (wants (evaluating r))) (λ s. answer_of (scope_on_top program t) s r)
  redex (reading r) = read r.0 r.0.asynchronous (location_of program t r)
  redex (signing s v) = by-result (signed_value s v)
  redex (negating v) = by-result (negated_value v)
  redex (combining o v w) = by-result (combined_value o v w)
  redex (applying f vs) = by-result (function_value f vs)
  redex (testing f r) = tested f r.0 (location_of program t r)

  -- ---- assignment

  -- the result of an assignment, by its answer
  wrote : (xs : List Access) (level : Level) (f : Store → Answer) → IsLocalAnswer xs f
      → IsLocal t xs (λ u. result_after_write program u level (f u.state.store))
  wrote xs level f h =
      by-part t patched_answer xs (λ u a. result_after_write program u level a) f (λ patch free. h.beside patch free t.state.store) (
      by (f t.state.store) (h.leaves t.state.store))
    where
      by : (a : Answer) → HasStore xs t.state.store a → IsLocalBy t patched_answer xs (λ u b. result_after_write program u level b) a
      by (gives v store) k = kept t xs _ store k
      by (waits w) k = (tt, λ patch beside free apart. refl)
      by (fails e) k = faulty program t xs e

  -- an assignment
  assigned : (x : Name) (asynchronous : Bool) (at : Result Location Kind) (v : Value)
      → IsLocal t (reference_uses x asynchronous true at) (λ u. result_after_assignment program u asynchronous at v)
  assigned x true (Err k) v = faulty program t [] k
  assigned x false (Err k) v = faulty program t [] k
  assigned x true (Ok at) v = wrote _ _ _ (accessed program t x true at (written true v) (λ c. tt))
  assigned x false (Ok at) v = wrote _ _ _ (accessed program t x true at (written false v) (λ c. tt))

  -- ---- PURGE

  -- several storage units from one on
  all-emptied : (x : Name) (n : ℕ) (at : Location)
      → IsLocalStore (map (λ (l : Location). record { at = l; stores = true; site = site_of program t x }) (locations_from n at))
      (emptied_from n at)
  all-emptied x zero at = same []
  all-emptied x (suc n) at =
      store-after (access_at program t x true (Ok at)) _ (λ s. with_empty s at) (emptied_from n (further at 1))
      (cell-stored program t x at purged_cell) (all-emptied x n (further at 1))

  -- a target that is one storage unit
  purged-at : (x : Name) (at : Result Location Kind) → IsLocalPurge (access_at program t x true at) (λ s. store_after_purge_at s at)
  purged-at x (Err k) = record { leaves = λ s. tt; beside = λ patch free s. refl }
  purged-at x (Ok at) = purged _ (λ s. with_empty s at) (cell-stored program t x at purged_cell)

  -- a target, an array or one storage unit
  purged-of : (r : Reference) → IsLocalPurge (target_accesses program t r) (store_after_purge_of (scope_on_top program t) r)
  purged-of r = by (is_array (scope_on_top program t).unit r.0 && not (is_nonempty r.1))
    where
      by : (b : Bool)
          → IsLocalPurge (if b
          then map (λ (l : Location). record { at = l; stores = true; site = site_of program t r.0 })
          (locations_from (storage_of (scope_on_top program t) r.0).rest (storage_of (scope_on_top program t) r.0).start)
          else access_at program t r.0 true (location_of program t r))
          (λ s.
          if b
          then Ok (emptied_from (storage_of (scope_on_top program t) r.0).rest (storage_of (scope_on_top program t) r.0).start s)
          else store_after_purge_at s (location_of program t r))
      by true = purged _ _ (all-emptied r.0 _ _)
      by false = purged-at r.0 (location_of program t r)

  -- one target after the other
  purged-both : (xs ys : List Access) (f g : Store → Result Store Kind) → IsLocalPurge xs f → IsLocalPurge ys g
      → IsLocalPurge (xs ++ ys) (λ s. store_after_both (f s) g)
  purged-both xs ys f g h k =
      record {
        leaves = λ s. left s (f s) (h.leaves s);
        beside =
            λ patch free s.
            let both = all-parts _ xs ys free in
            ap (λ o. store_after_both o g) (h.beside patch both.0 s) ∙ next patch both.1 (f s);
      }
    where
      more : (s after : Store) (o : Result Store Kind) → IsSameBut xs s after → HasStores ys after o → HasStores (xs ++ ys) s o
      more s after (Err e) m n = tt
      more s after (Ok last) m n = same-after xs ys s after last m n

      left : (s : Store) (o : Result Store Kind) → HasStores xs s o → HasStores (xs ++ ys) s (store_after_both o g)
      left s (Err e) m = tt
      left s (Ok after) m = more s after (g after) m (k.leaves after)

      next : (patch : Patch) → LeavesEach patch ys → (o : Result Store Kind)
          → store_after_both (patched_stores patch o) g ≡ patched_stores patch (store_after_both o g)
      next patch free (Err e) = refl
      next patch free (Ok after) = k.beside patch free after

  -- all targets
  purged-all : (rs : List Reference)
      → IsLocalPurge (flat_map (target_accesses program t) rs) (store_after_purge (scope_on_top program t) rs)
  purged-all [] = purged [] (λ s. s) (same [])
  purged-all (r ∷ rs) = purged-both _ _ _ _ (purged-of r) (purged-all rs)

  -- the result of a PURGE, by the store after it
  after-purge : (xs : List Access) (f : Store → Result Store Kind) → IsLocalPurge xs f
      → IsLocal t xs (λ u. result_after_purge program u (f u.state.store))
  after-purge xs f h =
      by-part t patched_stores xs (result_after_purge program) f (λ patch free. h.beside patch free t.state.store) (
      by (f t.state.store) (h.leaves t.state.store))
    where
      by : (o : Result Store Kind) → HasStores xs t.state.store o → IsLocalBy t patched_stores xs (result_after_purge program) o
      by (Err e) k = faulty program t xs e
      by (Ok store) k = kept t xs _ store k

  -- ---- DO

  -- a DO that has its count
  counted : (x : Name) (at : Location) (k : ℕ) (z count increment : ℤ)
      → IsLocal t (access_at program t x true (Ok at)) (λ u. stepped (state_after_count program u k at z count increment))
  counted x at k z count increment =
      moved t (access_at program t x true (Ok at)) (λ s. with_value s at (Some (value.Int z)))
      (cell-stored program t x at (λ c. record { value = Some (value.Int z); full = c.full })) _

  -- a DO whose count is no fault
  done-at : (x : Name) (at : Result Location Kind) (m increment count : ℤ)
      → IsLocal t (access_at program t x true at ++ []) (λ u. result_after_do program u at m increment (Ok count))
  done-at x (Err k) m increment count = faulty program t [] k
  done-at x (Ok at) m increment count = counted x at t.level.statement m count increment

  -- a DO
  done : (x : Name) (m increment : ℤ) (count : Result ℤ Kind)
      → IsLocal t (access_of_do program t x (is_ok count) ++ [])
      (λ u. result_after_do program u (location_of program t (x, [])) m increment count)
  done x m increment (Err k) = faulty program t [] k
  done x m increment (Ok count) = done-at x (location_of program t (x, [])) m increment count

  -- the end of an iteration whose increment is known
  incremented : (x : Name) (l : Loop) (at : Location) (r : Result ℤ Kind)
      → IsLocal t (access_at program t x (is_ok r) (Ok at)) (λ u. result_after_increment program u l at r)
  incremented x l at (Err k) = faulty program t (access_at program t x false (Ok at)) k
  incremented x l at (Ok z) = counted x at l.statement z (l.count -ℤ pos 1) l.increment

  -- the same of the value of the variable
  raised : (x : Name) (l : Loop) (at : Location) (o : Option Value)
      → IsLocal t (access_at program t x (is_incremented program t l o) (Ok at)) (λ u. result_after_loop_variable program u l at o)
  raised x l at None = faulty program t (access_at program t x false (Ok at)) Undefined
  raised x l at (Some v) = incremented x l at (integer_or_overflow (integer_of v +ℤ l.increment))

  -- the end of an iteration
  ended : (x : Name) (l : Loop) (at : Result Location Kind)
      → IsLocal t (access_at program t x (is_incremented program t l (value_at program t at)) at ++ [])
      (λ u. result_after_loop_end program u l at)
  ended x l (Err k) = faulty program t [] k
  ended x l (Ok at) =
      by-cell t _ [] (λ u (c : Cell). result_after_loop_variable program u l at c.value) (raised x l at (t.state.store at).value)

  -- ---- the end of an activation, and RESUME

  -- the end of a function with its value
  valued : (xs : List Access) (o : Option Value) → IsLocal t xs (λ u. result_after_value program u o)
  valued xs None = faulty program t xs Undefined
  valued xs (Some v) = stays t xs _

  -- the same of where the result is
  resulted : (x : Name) (at : Result Location Kind) → IsLocal t (access_at program t x false at ++ []) (λ u. result_after_result program u at)
  resulted x (Err k) = faulty program t [] k
  resulted x (Ok at) = by-cell t _ [] (λ u (c : Cell). result_after_value program u c.value) (valued _ (t.state.store at).value)

  -- the end of an activation
  left : (o : Option Name) → IsLocal t (accesses_of_result program t o ++ []) (λ u. result_after_leaving program u o)
  left None = stays t [] _
  left (Some x) = resulted x (location_of program t (x, []))

  -- RESUME
  resumed : (below : Process) → IsLocal t [] (λ u. stepped (state_resumed program u below))
  resumed [] = stays t [] _
  resumed (caller ∷ callers) =
      let q = stack_after_return program t.state (caller ∷ callers) in
      let r = level_after_statement (unit_on_top program t) t.level ∷ [] in
      (left-made t [] q r, λ patch beside free apart. ap stepped (over-made patch t beside q r apart.processes))

  -- ---- what comes next

  -- each step that begins no activation and is no STOP is local to what it uses
  pub local : (n : Next) → BeginsNoActivation n → IsNoStop n → IsLocal t (uses_of_next program t n) (λ u. result_after_next program u n)
  local (wants (evaluating r)) b s = answered program t (uses_of_next program t (wants (evaluating r))) _ (redex r)
  local (wants (referring x actuals)) b s = absurd b
  local (does (assigning r v)) b s = assigned r.0 r.0.asynchronous (location_of program t r) v
  local (does (jumping l)) b s = stays t [] _
  local (does (choosing labels v)) b s = stays t [] _
  local (does (branching labels v)) b s = stays t [] _
  local (does (testing_condition v)) b s = stays t [] _
  local (does (entering_block v)) b s = stays t [] _
  local (does (entering_loop x m n k)) b s =
      done x (integer_of m) (integer_of k) (iterations (integer_of m) (integer_of n) (integer_of k))
  local (does (ending_loop k)) b s =
      let x = variable_of (unit_on_top program t) k in ended x (loop_at t.level.loops k) (location_of program t (x, []))
  local (does (calling x actuals)) b s = absurd b
  local (does (creating x actuals)) b s = absurd b
  local (does (purging targets)) b s = after-purge (flat_map (target_accesses program t) targets) _ (purged-all targets)
  local (does (printing items)) b s =
      let q = level_after_statement (unit_on_top program t) t.level ∷ t.below in
      (left-printed t [] q items, λ patch beside free apart. ap stepped (over-printed patch t beside q items apart.records))
  local (does continuing) b s = stays t [] _
  local (does leaving) b s = left (function_name (unit_on_top program t))
  local (does resuming) b s = resumed t.below
  local (does stopping) b s = absurd s
