-- A step over a patched state leaves what it left, patched: it does the same beside what another process has left.
use Rattle.std.proofs.Common.{◌≡◌, ◌⊎◌, inl, inr, List, [], ◌∷◌, ◌++◌, length, sym, ap, ◌∙◌, arith, length-set, length-append}
use Rattle.std.proofs.lemmas.List.{append-nil}
use Rattle.hep_machine.specs.declared.event.Kind.{Kind}
use Rattle.hep_machine.specs.declared.record.Item.{Item}
use Rattle.hep_machine.specs.Words.{Process, Store, Top, Units, fault_of, result_after_fault, stepped, with_numbered}
use Rattle.hep_machine.specs.Words.{with_new_process, with_process}
use Rattle.hep_accesses.proofs.Patches.{AreBeside, Keeps, Patch, over, patched, patched_result, patched_store}
use Rattle.hep_accesses.proofs.Patched.{front-set, numbered-swapped}

-- a list with an element more isn't the same list
more-than_none : {A : Type 0} (xs : List A) (x : A) → xs ++ x ∷ [] ≡ xs → ⊥
more-than_none xs x e = omega (arith, ap length e, length-append xs (x ∷ []))

-- an element can be appended before some others or after them, where they are none, or it isn't appended
more-swapped : {A : Type 0} (xs ys : List A) (x : A) → (ys ≡ []) ⊎ (xs ++ x ∷ [] ≡ xs) → (xs ++ ys) ++ x ∷ [] ≡ (xs ++ x ∷ []) ++ ys
more-swapped xs ys x (inl e) =
    ap (λ zs. (xs ++ zs) ++ x ∷ []) e ∙ ap (λ zs. zs ++ x ∷ []) (append-nil xs) ∙ sym (append-nil (xs ++ x ∷ []))
    ∙ ap (λ zs. (xs ++ x ∷ []) ++ zs) (sym e)
more-swapped xs ys x (inr e) = absurd (more-than_none xs x e)

module _ (patch : Patch) (t : Top) (beside : AreBeside patch t) where
  -- the stack of the process can be changed before the patch or after it
  swapped : (q : Process)
      → with_numbered (with_numbered t.state.processes patch.process patch.stack ++ patch.made) t.process q
      ≡ with_numbered (with_numbered t.state.processes t.process q) patch.process patch.stack ++ patch.made
  swapped q =
      numbered-swapped t.state.processes patch.made t.process patch.process q patch.stack beside.one beside.other beside.different
      beside.within

  -- a step that changes the store and its process alone
  pub over-moved : (store : Store) (q : Process)
      → record (with_process (over patch t).state t.process q) { store = patched_store patch store }
      ≡ patched patch (record (with_process t.state t.process q) { store = store })
  over-moved store q =
      λ i. record {
        processes = swapped q i;
        activations = t.state.activations;
        store = patched_store patch store;
        records = t.state.records ++ patch.printed;
        faults = t.state.faults ++ patch.failed;
        halted = t.state.halted;
      }

  -- a fault
  pub over-faulty : (program : Units) (k : Kind)
      → (patch.failed ≡ []) ⊎ Keeps (λ s. s.faults ≡ t.state.faults) (result_after_fault program t k)
      → result_after_fault program (over patch t) k ≡ patched_result patch (result_after_fault program t k)
  over-faulty program k apart =
      λ i. stepped (record {
        processes = swapped [] i;
        activations = t.state.activations;
        store = patched_store patch t.state.store;
        records = t.state.records ++ patch.printed;
        faults = more-swapped t.state.faults patch.failed (fault_of program t k) apart i;
        halted = t.state.halted;
      })

  -- a record
  pub over-printed : (q : Process) (items : List Item) → (patch.printed ≡ []) ⊎ (t.state.records ++ items ∷ [] ≡ t.state.records)
      → record (with_process (over patch t).state t.process q) { records = (t.state.records ++ patch.printed) ++ items ∷ [] }
      ≡ patched patch (record (with_process t.state t.process q) { records = t.state.records ++ items ∷ [] })
  over-printed q items apart =
      λ i. record {
        processes = swapped q i;
        activations = t.state.activations;
        store = patched_store patch t.state.store;
        records = more-swapped t.state.records patch.printed items apart i;
        faults = t.state.faults ++ patch.failed;
        halted = t.state.halted;
      }

  -- where the patch has no new process, or the step makes none, they can be appended in either order
  more-processes : (q r : Process)
      → (patch.made ≡ []) ⊎ (length (with_numbered t.state.processes t.process q ++ r ∷ []) ≡ length t.state.processes)
      → with_numbered (with_numbered t.state.processes patch.process patch.stack ++ patch.made) t.process q ++ r ∷ []
      ≡ with_numbered (with_numbered t.state.processes t.process q ++ r ∷ []) patch.process patch.stack ++ patch.made
  more-processes q r (inl e) =
      ap (λ zs. zs ++ r ∷ []) (swapped q)
      ∙ more-swapped (with_numbered (with_numbered t.state.processes t.process q) patch.process patch.stack) patch.made r (inl e)
      ∙ ap (λ zs. zs ++ patch.made)
      (sym (front-set (with_numbered t.state.processes t.process q) (r ∷ []) patch.process patch.stack beside.other
      (rw length-set beside.inside)))
  more-processes q r (inr e) = absurd (omega (arith, simp (length-append, length-set) at e))

  -- a process
  pub over-made : (q r : Process)
      → (patch.made ≡ []) ⊎ (length (with_numbered t.state.processes t.process q ++ r ∷ []) ≡ length t.state.processes)
      → with_new_process (with_process (over patch t).state t.process q) r
      ≡ patched patch (with_new_process (with_process t.state t.process q) r)
  over-made q r apart =
      λ i. record {
        processes = more-processes q r apart i;
        activations = t.state.activations;
        store = patched_store patch t.state.store;
        records = t.state.records ++ patch.printed;
        faults = t.state.faults ++ patch.failed;
        halted = t.state.halted;
      }
