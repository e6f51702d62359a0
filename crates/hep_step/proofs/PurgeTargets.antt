-- What the source machine empties is what is kept in the cells of the ranges, or both are at the same fault.
use Rattle.std.proofs.Common.{◌≡◌, ℕ, zero, suc, ◌+◌, List, length, Some, refl, sym, ap, ◌∙◌, subst, arith, ◌≢◌, ◌-◌, ◌≤◌, Bool, true, false, [], ◌∷◌, Result, Ok, Err, slice_set, ◌&&◌, if◌then◌else◌, map, not}
use Rattle.std.specs.Option.{unwrap_or}
use Rattle.hep_machine.specs.Words.{purged_cell, unset_cell, Location, State, Store, emptied_from, further, with_cell, with_empty, Name, Statement, Value, index_among, from_element, is_array, is_nonempty, Reference, Scope, StorageSequence, element_of, location_in, storage_of, store_after_both, store_after_purge, store_after_purge_at, store_after_purge_of}
use Rattle.hep_machine.specs.declared.slot.Slot.{Slot}
use Rattle.hep_layout.specs.Words.{IsLaid, IsMemory, address, Describes, RunsFrom, descriptor_slots}
use Rattle.hep_layout.proofs.Descriptors.{described-written}
use Rattle.hep_layout.proofs.Memory.{address-same, memory-written}
use Rattle.hep_layout.proofs.Runs.{runs-from, runs-fewer}
use Rattle.hep_image.specs.Addressing.{cells_in}
use Rattle.hep_step.specs.PurgeEffects.{purged_from, purged}
use Rattle.hep_image.proofs.Variables.{further-none}
use Rattle.hep_image.proofs.NamedNumbers.{by-kind}
use Rattle.hep_machine.specs.declared.event.Kind.{Kind}
use Rattle.hep_code.specs.declared.variable.Variable.{Variable}
use Rattle.hep_code.specs.declared.variable.Variable.TheVariants.{Absent}
use Rattle.hep_code.specs.declared.variable.Variable.TheVariants as variable
use Rattle.hep_code.specs.Words.{passed_reference}
use Rattle.hep_image.specs.declared.array.Start.{Start}
use Rattle.hep_image.specs.declared.array.Start.TheVariants as start
use Rattle.hep_image.specs.Places.{arrays_of, scalar}
use Rattle.hep_step.specs.ArgumentAgreement.{CallerOf, IsCaller, IsPassedAs, arrays_calling, scope_calling, storage_passed, unit_calling, variables_calling}
use Rattle.hep_step.specs.ArgumentPassing.{made_before}
use Rattle.hep_step.proofs.References.{caller-found, reference-passed}
use Rattle.hep_step.specs.declared.closed_range.ClosedRange.{ClosedRange}
use Rattle.hep_step.specs.PurgedRanges.{is_whole, range_for, range_in, ranges_of}

-- ---- storage units and the cells that keep them are emptied: what is kept is that of the store, and descriptors stay

module _ (c : CallerOf) where
  -- the arena of the state with a store
  abbrev pub with_store : Store → State
  with_store store = record c.state { store = store }

  abbrev pub Keeps : Store → List Slot → Type 0
  Keeps store contents = IsMemory c.program (with_store store) c.layout contents c.arena.holes × Describes c.program c.state c.layout (descriptor_slots c.program c.state c.layout) contents

  laid-before : (store : Store) (cells : ℕ) → IsLaid c.program (with_store store) cells c.layout → IsLaid c.program c.state cells c.layout
  laid-before store cells laid = record { apart = laid.apart; single = laid.single; made = laid.made; sized = laid.sized }

  -- one cell
  cell-emptied : (at : Location) (p : ℕ) (store : Store) (contents : List Slot) → address c.program c.state c.layout at ≡ Some p → Keeps store contents → Keeps (with_empty store at) (slice_set contents p (purged_cell (cells_in contents p)))
  cell-emptied at p store contents here keeps =
      let cell = purged_cell (cells_in contents p) in
      let before : address c.program (with_store store) c.layout at ≡ Some p = address-same c.program c.state (with_store store) c.layout at refl ∙ here in
      let kept : cells_in contents p ≡ store at = ap (λ o. unwrap_or o unset_cell) (keeps.0.holds at p before) in (
        memory-written c.program (with_store store) (with_store (with_empty store at)) c.layout contents c.arena.holes at p cell keeps.0 before refl (ap (λ slot. with_cell store at (purged_cell slot)) (sym kept)),
        described-written c.program c.state c.layout (descriptor_slots c.program c.state c.layout) contents at p cell (laid-before store (length contents) keeps.0.laid) keeps.1 here,
      )

  -- consecutive ones
  run-emptied : (n : ℕ) (at : Location) (first : ℕ) (store : Store) (contents : List Slot) → RunsFrom c.program c.state c.layout at n first → Keeps store contents → Keeps (emptied_from n at store) (purged_from n first contents)
  run-emptied zero at first store contents run keeps = keeps
  run-emptied (suc n) at first store contents run keeps =
      let begins : first + 0 ≡ first = omega arith in
      let here : address c.program c.state c.layout at ≡ Some first = ap (address c.program c.state c.layout) (sym (further-none at)) ∙ (run 0 (omega arith) ∙ ap (λ p. Some p) begins) in
      let next : first + 1 ≡ suc first = omega arith in
      let rest = subst (RunsFrom c.program c.state c.layout (further at 1) n) next (runs-from c.program c.state c.layout at (suc n) first 1 n run (omega arith)) in
      run-emptied n (further at 1) (suc first) (with_empty store at) (slice_set contents first (purged_cell (cells_in contents first))) rest (cell-emptied at first store contents here keeps)

-- ---- targets

-- each target's variable has storage units
abbrev pub ArePlaced : (Name → Variable) → List Reference → Type 0
ArePlaced variables [] = Unit {0}
ArePlaced variables (r ∷ rs) = (variables r.0 ≢ Absent) × ArePlaced variables rs

-- ---- one target

module _ (c : CallerOf) where
  -- its storage units are kept in the cells of the range
  abbrev IsOnePurged : Result ClosedRange Kind → (Store → Result Store Kind) → Type 0
  IsOnePurged (Err k) after = (store : Store) → after store ≡ Err k
  IsOnePurged (Ok r) after = (at : Location) × ((store : Store) → after store ≡ Ok (emptied_from r.cells at store)) × RunsFrom c.program c.state c.layout at r.cells r.first

  module _ (e : StorageSequence) where
    abbrev after_one : Bool → Result ℕ Kind → Store → Result Store Kind
    after_one whole element store = if whole then Ok (emptied_from e.rest e.start store) else store_after_purge_at store (location_in e element)

    one-purged : (whole : Bool) (element : Result ℕ Kind) (units : Result (ℕ × ℕ) Kind) → IsPassedAs c.program c.state c.layout units (from_element e (if whole then Ok 1 else element)) → IsOnePurged (range_in whole units) (after_one whole element)
    one-purged true element (Err k) h = absurd h
    one-purged true element (Ok units) h =
        let begins : further e.start (1 - 1) ≡ e.start = further-none e.start in
        let all : e.rest ≡ units.1 = let rest = h.rest in omega (arith, rest) in
        let counted : (e.rest + 1) - 1 ≡ units.1 = h.rest in (
          e.start,
          λ store. ap (λ n. Ok (emptied_from n e.start store)) all,
          subst (λ n. RunsFrom c.program c.state c.layout e.start n units.0) counted (subst (λ at. RunsFrom c.program c.state c.layout at ((e.rest + 1) - 1) units.0) begins h.run),
        )
    one-purged false (Err k) (Err l) h = λ store. ap (λ k. Err k) (sym h)
    one-purged false (Err k) (Ok units) h = absurd h
    one-purged false (Ok n) (Err k) h = absurd h
    one-purged false (Ok n) (Ok units) h =
        let begins = further e.start (n - 1) in
        let some : 1 ≤ (e.rest + 1) - n = let rest = h.rest in let one = h.some in omega (arith, rest, one) in (
          begins,
          λ store. refl,
          runs-fewer c.program c.state c.layout begins ((e.rest + 1) - n) units.0 1 h.run some,
        )

  -- ---- all targets

  abbrev pub AreAllPurged : Result (List ClosedRange) Kind → (Store → Result Store Kind) → Type 0
  AreAllPurged (Err k) after = (store : Store) → after store ≡ Err k
  AreAllPurged (Ok rs) after = (store : Store) (cells : List Slot) → Keeps c store cells → (new : Store) × (after store ≡ Ok new) × Keeps c new (purged rs cells)

  before-purged : (r : Result ClosedRange Kind) (rs : Result (List ClosedRange) Kind) (one all : Store → Result Store Kind) → IsOnePurged r one → AreAllPurged rs all → AreAllPurged (made_before r rs) (λ store. store_after_both (one store) all)
  before-purged (Err k) rs one all h hs = λ store. ap (λ q. store_after_both q all) (h store)
  before-purged (Ok r) (Err k) one all h hs = λ store. ap (λ q. store_after_both q all) (h.1 store) ∙ hs (emptied_from r.cells h.0 store)
  before-purged (Ok r) (Ok rs) one all h hs = λ store cells keeps.
      let rest = hs (emptied_from r.cells h.0 store) (purged_from r.cells r.first cells) (run-emptied c r.cells h.0 r.first store cells h.2 keeps) in
      (rest.0, ap (λ q. store_after_both q all) (h.1 store) ∙ rest.1, rest.2)

-- ---- those of a caller

module _ (c : CallerOf) (calls : IsCaller c) where
  abbrev unit : List Statement
  unit = unit_calling c

  abbrev scope : Scope
  scope = scope_calling c

  abbrev variables : Name → Variable
  variables = variables_calling c

  -- the code tells whole arrays as the source machine does
  whole-same : (x : Name) (vs : List Value) → variables x ≢ Absent → is_whole (variables x) vs ≡ (is_array unit x && not (is_nonempty vs))
  whole-same x vs there =
      let found = caller-found c calls x there in
      by-kind c.program unit x found.0 (λ v. is_whole v vs ≡ (is_array unit x && not (is_nonempty vs))) found.1.starts
      (λ is. of_array vs ∙ ap (λ b. b && not (is_nonempty vs)) (sym is))
      (λ is. of_scalar x.asynchronous found.0 ∙ ap (λ b. b && not (is_nonempty vs)) (sym is))
    where
      of_array : (vs : List Value) → is_whole (variable.Array x.asynchronous (unwrap_or (index_among x (arrays_of unit)) 0)) vs ≡ not (is_nonempty vs)
      of_array [] = refl
      of_array (v ∷ vs) = refl

      of_scalar : (b : Bool) (at : Start) → is_whole (scalar b at) vs ≡ false
      of_scalar b (start.Local c) = refl
      of_scalar b (start.Common c) = refl
      of_scalar b (start.Dummy c) = refl

  -- the ranges of targets
  abbrev range : Reference → Result ClosedRange Kind
  range r = range_for (cells_in c.arena.contents) c.frame.first (arrays_calling c) (passed_reference variables r)

  abbrev ranges : List Reference → Result (List ClosedRange) Kind
  ranges rs = ranges_of (cells_in c.arena.contents) c.frame.first (arrays_calling c) (map (passed_reference variables) rs)

  target-purged : (r : Reference) → variables r.0 ≢ Absent → IsOnePurged c (range r) (store_after_purge_of scope r)
  target-purged r there =
      let units = storage_passed c r.0 r.1 in
      let e = storage_of scope r.0 in
      let passed = reference-passed c calls r.0 r.1 0 r.0 there in
      subst (λ b. IsOnePurged c (range_in b units) (store_after_purge_of scope r)) (sym (whole-same r.0 r.1 there)) (
      one-purged c e (is_array unit r.0 && not (is_nonempty r.1)) (element_of e r.1) units passed)

  pub targets-purged : (rs : List Reference) → ArePlaced variables rs → AreAllPurged c (ranges rs) (store_after_purge scope rs)
  targets-purged [] placed = λ store cells keeps. (store, refl, keeps)
  targets-purged (r ∷ rs) placed = before-purged c (range r) (ranges rs) (store_after_purge_of scope r) (store_after_purge scope rs) (target-purged r placed.0) (targets-purged rs placed.1)
