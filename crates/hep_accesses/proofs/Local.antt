-- A step is local to some accesses if it stores by these alone, and beside what another process stored elsewhere does the same.
use Rattle.std.proofs.Common.{◌≡◌, Bool, true, false, ◌&&◌, ◌||◌, List, [], ◌∷◌, ◌++◌, Option, Some, None, Ok, refl, ap, ◌∙◌, if◌then◌else◌}
use Rattle.std.proofs.lemmas.Bool.{or_parts}
use Rattle.hep_machine.specs.declared.event.Kind.{Kind}
use Rattle.hep_machine.specs.Access as access
use Rattle.hep_machine.specs.Access.{Outcome}
use Rattle.hep_machine.specs.Step.{gives, waits, fails}
use Rattle.hep_machine.specs.Words.{Answer, Cell, Location, Name, Process, Store, StepResult, Top, Units, Value, answer_at}
use Rattle.hep_machine.specs.Words.{result_after_answer, result_after_fault, same_location, stepped, with_cell, with_process}
use Rattle.hep_accesses.specs.Accesses.{Access, access_at}
use Rattle.hep_accesses.proofs.Elements.{all-parts}
use Rattle.hep_accesses.proofs.Patches.{AreApart, AreBeside, IsSameBut, Keeps, LeavesEach, Patch, is_stored, over, patched_result}
use Rattle.hep_accesses.proofs.Patches.{patched_store}
use Rattle.hep_accesses.proofs.AsPatch.{Leaves, left-faulty, left-moved}
use Rattle.hep_accesses.proofs.Patched.{patched-access, patched-at, patched-with_cell, patched_answer}
use Rattle.hep_accesses.proofs.OverPatch.{over-faulty, over-moved}

-- ---- stores

-- a function of the store that is local to these accesses
pub record IsLocalStore (xs : List Access) (f : Store → Store) : Type 0 where
  pub leaves : (s : Store) → IsSameBut xs s (f s)
  pub beside : (patch : Patch) → LeavesEach patch xs → (s : Store) → f (patched_store patch s) ≡ patched_store patch (f s)

-- what is stored by neither of two lists of accesses
none-stored : (xs ys : List Access) (l : Location) → is_stored (xs ++ ys) l ≡ false
    → (is_stored xs l ≡ false) × (is_stored ys l ≡ false)
none-stored [] ys l e = (refl, e)
none-stored (x ∷ xs) ys l e =
    let h = or_parts (x.stores && same_location l x.at) (is_stored (xs ++ ys) l) e in
    let more = none-stored xs ys l h.1 in
    (ap (λ b. b || is_stored xs l) h.0 ∙ more.0, more.1)

-- two changes one after the other differ where one of them does
pub same-after : (xs ys : List Access) (a b c : Store) → IsSameBut xs a b → IsSameBut ys b c → IsSameBut (xs ++ ys) a c
same-after xs ys a b c g h l e = let none = none-stored xs ys l e in h l none.1 ∙ g l none.0

-- the store as it was
pub same : (xs : List Access) → IsLocalStore xs (λ s. s)
same xs = record { leaves = λ s l e. refl; beside = λ patch free s. refl }

-- one after the other
pub store-after : (xs ys : List Access) (f g : Store → Store) → IsLocalStore xs f → IsLocalStore ys g → IsLocalStore (xs ++ ys) (λ s. g (f s))
store-after xs ys f g h k =
    record {
      leaves = λ s. same-after xs ys s (f s) (g (f s)) (h.leaves s) (k.leaves (f s));
      beside =
          λ patch free s.
          let both = all-parts _ xs ys free in
          ap g (h.beside patch both.0 s) ∙ k.beside patch both.1 (f s);
    }

-- ---- answers

-- an answer leaves a store that differs where these accesses store
abbrev pub HasStore : List Access → Store → Answer → Type 0
HasStore xs s (gives v store) = IsSameBut xs s store
HasStore xs s (waits w) = Unit {0}
HasStore xs s (fails k) = Unit {0}

-- an answer that is local to these accesses
pub record IsLocalAnswer (xs : List Access) (f : Store → Answer) : Type 0 where
  pub leaves : (s : Store) → HasStore xs s (f s)
  pub beside : (patch : Patch) → LeavesEach patch xs → (s : Store) → f (patched_store patch s) ≡ patched_answer patch (f s)

-- a fault
pub fault : (xs : List Access) (k : Kind) → IsLocalAnswer xs (λ s. fails k)
fault xs k = record { leaves = λ s. tt; beside = λ patch free s. refl }

-- an access that is no store makes no other cell
abbrev pub IsAllowed : Bool → Outcome → Type 0
IsAllowed false (access.makes v cell) = ⊥
IsAllowed _ _ = Unit {0}

-- so it is where a value is read
pub reading-allowed : (o : Option Value) → IsAllowed false (access.with_stored o access.gives)
reading-allowed None = tt
reading-allowed (Some v) = tt

-- and where the cell must be full
pub waiting-allowed : (o : Option Value) (full : Bool)
    → IsAllowed false (if full then access.with_stored o access.gives else access.waits true)
waiting-allowed o true = reading-allowed o
waiting-allowed o false = tt

-- ---- steps

module _ (t : Top) where
  -- a result of a step of the process that is local to these accesses
  abbrev pub IsLocal : List Access → (Top → StepResult) → Type 0
  IsLocal xs result =
      Keeps (Leaves t xs) (result t)
      × ((patch : Patch) → AreBeside patch t → LeavesEach patch xs → AreApart patch t.state (result t)
      → result (over patch t) ≡ patched_result patch (result t))

  -- a result by a part that it has from the store, and that is the patched one over a patched store
  abbrev pub IsLocalBy : {A : Type 0} → (Patch → A → A) → List Access → (Top → A → StepResult) → A → Type 0
  IsLocalBy patched_part xs result a =
      Keeps (Leaves t xs) (result t a)
      × ((patch : Patch) → AreBeside patch t → LeavesEach patch xs → AreApart patch t.state (result t a)
      → result (over patch t) (patched_part patch a) ≡ patched_result patch (result t a))

  -- such a result is local
  pub by-part : {A : Type 0} (patched_part : Patch → A → A) (xs : List Access) (result : Top → A → StepResult) (f : Store → A)
      → ((patch : Patch) → LeavesEach patch xs → f (patched_store patch t.state.store) ≡ patched_part patch (f t.state.store))
      → IsLocalBy patched_part xs result (f t.state.store) → IsLocal xs (λ u. result u (f u.state.store))
  by-part patched_part xs result f part h = (
    h.0,
    λ patch beside free apart. ap (result (over patch t)) (part patch free) ∙ h.1 patch beside free apart,
  )

  -- a result that goes by a cell which the step accesses
  pub by-cell : (a : Access) (xs : List Access) (result : Top → Cell → StepResult)
      → IsLocal (a ∷ xs) (λ u. result u (t.state.store a.at)) → IsLocal (a ∷ xs) (λ u. result u (u.state.store a.at))
  by-cell a xs result h =
      by-part (λ patch c. c) (a ∷ xs) result (λ s. s a.at) (λ patch free. patched-at patch t.state.store a.at free.0) h

  -- a step that changes the store and its process alone, by the store after it
  pub kept : (xs : List Access) (q : Process) (store : Store) → IsSameBut xs t.state.store store
      → IsLocalBy patched_store xs (λ u s. stepped (record (with_process u.state u.process q) { store = s })) store
  kept xs q store h = (
    left-moved t xs store q h,
    λ patch beside free apart. ap stepped (over-moved patch t beside store q),
  )

  -- the same by what it does to the store
  pub moved : (xs : List Access) (f : Store → Store) → IsLocalStore xs f → (q : Process)
      → IsLocal xs (λ u. stepped (record (with_process u.state u.process q) { store = f u.state.store }))
  moved xs f h q =
      by-part patched_store xs (λ u s. stepped (record (with_process u.state u.process q) { store = s })) f
      (λ patch free. h.beside patch free t.state.store) (kept xs q (f t.state.store) (h.leaves t.state.store))

  -- a step that changes its process alone
  pub stays : (xs : List Access) (q : Process) → IsLocal xs (λ u. stepped (with_process u.state u.process q))
  stays xs q = moved xs (λ s. s) (same xs) q

module _ (program : Units) (t : Top) where
  -- a fault
  pub faulty : (xs : List Access) (k : Kind) → IsLocal t xs (λ u. result_after_fault program u k)
  faulty xs k = (left-faulty t xs program k, λ patch beside free apart. over-faulty patch t beside program k apart.faults)

  -- a cell that is stored, by what it was
  pub cell-stored : (x : Name) (at : Location) (f : Cell → Cell)
      → IsLocalStore (access_at program t x true (Ok at)) (λ s. with_cell s at (f (s at)))
  cell-stored x at f =
      record {
        leaves = λ s l e. ap (λ b. if b then f (s at) else s l) (or_parts (same_location l at) false e).0;
        beside =
            λ patch free s.
            ap (λ c. with_cell (patched_store patch s) at (f c)) (patched-at patch s at free.0)
            ∙ patched-with_cell patch s at (f (s at)) free.0;
      }

  -- an access, by its outcome for the cell
  pub accessed : (x : Name) (stores : Bool) (at : Location) (f : Cell → Outcome) → ((c : Cell) → IsAllowed stores (f c))
      → IsLocalAnswer (access_at program t x stores (Ok at)) (λ s. answer_at s at (f (s at)))
  accessed x stores at f allowed =
      record {
        leaves = λ s. by stores s (f (s at)) (allowed (s at));
        beside = λ patch free s. patched-access patch f s at free.0;
      }
    where
      by : (b : Bool) (s : Store) (o : Outcome) → IsAllowed b o → HasStore (access_at program t x b (Ok at)) s (answer_at s at o)
      by b s (access.gives v) h = λ l e. refl
      by true s (access.makes v cell) h = (cell-stored x at (λ c. cell)).leaves s
      by false s (access.makes v cell) h = absurd h
      by b s (access.waits full) h = tt
      by b s access.undefined h = tt

  -- what a redex gives, waits for or fails with
  pub answered : (xs : List Access) (f : Store → Answer) → IsLocalAnswer xs f
      → IsLocal t xs (λ u. result_after_answer program u (f u.state.store))
  answered xs f h =
      by-part t patched_answer xs (result_after_answer program) f (λ patch free. h.beside patch free t.state.store) (
      by (f t.state.store) (h.leaves t.state.store))
    where
      by : (a : Answer) → HasStore xs t.state.store a → IsLocalBy t patched_answer xs (result_after_answer program) a
      by (gives v store) k = kept t xs _ store k
      by (waits w) k = (tt, λ patch beside free apart. refl)
      by (fails e) k = faulty xs e
