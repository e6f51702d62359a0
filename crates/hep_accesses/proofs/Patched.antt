-- A step goes on beside what another process has left.
use Rattle.std.proofs.Common.{◌≡◌, ◌≢◌, ℕ, ◌-◌, ◌<◌, ◌≤◌, Bool, true, false, List, ◌++◌, length, refl, sym, ap, ◌∙◌, arith}
use Rattle.std.proofs.Common.{if◌then◌else◌, length-set}
use Rattle.std.proofs.Math.Path.{fun_ext}
use Rattle.std.proofs.lemmas.List.{set-append_left, set_comm}
use Rattle.std.specs.Option.{unwrap_or}
use Rattle.hep_machine.specs.Access as access
use Rattle.hep_machine.specs.Access.{Outcome}
use Rattle.hep_machine.specs.Step.{gives, waits, fails}
use Rattle.hep_machine.specs.Words.{Answer, Cell, Location, Store, answer_at, same_location}
use Rattle.hep_machine.specs.Words.{with_cell, with_numbered}
use Rattle.hep_accesses.proofs.Patches.{LeavesAlone, Patch, patched_store}

-- ---- lists

-- a process among those that were made before is changed in front of the new ones
pub front-set : {A : Type 0} (xs ys : List A) (p : ℕ) (x : A) → 1 ≤ p → p ≤ length xs
    → with_numbered (xs ++ ys) p x ≡ with_numbered xs p x ++ ys
front-set xs ys p x one within = set-append_left xs ys (p - 1) x (omega arith)

-- two processes can be changed in either order
pub numbered-swapped : {A : Type 0} (xs ys : List A) (p q : ℕ) (x y : A) → 1 ≤ p → 1 ≤ q → p ≢ q → p ≤ length xs
    → with_numbered (with_numbered xs q y ++ ys) p x ≡ with_numbered (with_numbered xs p x) q y ++ ys
numbered-swapped xs ys p q x y one other d within =
    let below : p - 1 < length (with_numbered xs q y) = rw length-set (omega arith) in
    set-append_left (with_numbered xs q y) ys (p - 1) x below
    ∙ ap (λ zs. zs ++ ys) (set_comm xs (q - 1) (p - 1) y x (λ e. d (omega arith)))

module _ (patch : Patch) where
  -- ---- stores

  -- a storage unit that is left alone has the cell that it had
  pub patched-at : (store : Store) (at : Location) → LeavesAlone patch at → patched_store patch store at ≡ store at
  patched-at store at free = ap (λ o. unwrap_or o (store at)) free.itself

  -- a storage unit that is left alone can get its cell before the patch or after it
  pub patched-with_cell : (store : Store) (at : Location) (cell : Cell) → LeavesAlone patch at
      → with_cell (patched_store patch store) at cell ≡ patched_store patch (with_cell store at cell)
  patched-with_cell store at cell free =
      fun_ext (λ l. by l (same_location l at) refl)
    where
      by : (l : Location) (b : Bool) → same_location l at ≡ b
          → (if b then cell else patched_store patch store l) ≡ unwrap_or (patch.cells l) (if b then cell else store l)
      by l true e = ap (λ o. unwrap_or o cell) (sym (free.same l e))
      by l false e = refl

  -- ---- answers

  -- an answer over the patched store
  abbrev pub patched_answer : Answer → Answer
  patched_answer (gives v store) = gives v (patched_store patch store)
  patched_answer (waits w) = waits w
  patched_answer (fails k) = fails k

  -- what an access comes to is the same over the patched store
  pub patched-answer_at : (store : Store) (at : Location) (o : Outcome) → LeavesAlone patch at
      → answer_at (patched_store patch store) at o ≡ patched_answer (answer_at store at o)
  patched-answer_at store at (access.gives v) free = refl
  patched-answer_at store at (access.makes v cell) free = ap (gives v) (patched-with_cell store at cell free)
  patched-answer_at store at (access.waits full) free = refl
  patched-answer_at store at access.undefined free = refl

  -- by what an access makes of a cell
  pub patched-access : (f : Cell → Outcome) (store : Store) (at : Location) → LeavesAlone patch at
      → answer_at (patched_store patch store) at (f (patched_store patch store at)) ≡ patched_answer (answer_at store at (f (store at)))
  patched-access f store at free =
      ap (λ c. answer_at (patched_store patch store) at (f c)) (patched-at store at free) ∙ patched-answer_at store at (f (store at)) free
