-- What a step leaves is a patch of the state before it.
use Rattle.std.proofs.Common.{◌≡◌, Bool, true, false, List, [], ◌∷◌, ◌++◌, Some, None, refl, sym, if◌then◌else◌}
use Rattle.std.specs.Option.{unwrap_or}
use Rattle.std.proofs.Math.Path.{fun_ext}
use Rattle.std.proofs.lemmas.List.{append-nil}
use Rattle.hep_machine.specs.declared.event.Fault.{Fault}
use Rattle.hep_machine.specs.declared.event.Kind.{Kind}
use Rattle.hep_machine.specs.declared.record.Item.{Item}
use Rattle.hep_machine.specs.Words.{Location, Process, State, Store, Top, Units, fault_of, result_after_fault, with_new_process}
use Rattle.hep_machine.specs.Words.{with_numbered, with_process}
use Rattle.hep_accesses.specs.Accesses.{Access}
use Rattle.hep_accesses.proofs.Patches.{IsSameBut, Keeps, Patch, is_stored, patched}

module _ (t : Top) (xs : List Access) where
  -- what the step leaves, that stores by these accesses alone
  pub record Leaves (s : State) : Type 0 where
    pub stack : Process
    pub made : List Process
    pub printed : List (List Item)
    pub failed : List Fault
    pub processes : s.processes ≡ with_numbered t.state.processes t.process stack ++ made
    pub activations : s.activations ≡ t.state.activations
    pub store : IsSameBut xs t.state.store s.store
    pub records : s.records ≡ t.state.records ++ printed
    pub faults : s.faults ≡ t.state.faults ++ failed
    pub halted : s.halted ≡ t.state.halted

  unfoldable pub patch_by : (s : State) → Leaves s → Patch
  patch_by s h =
      record {
        process = t.process;
        stack = h.stack;
        made = h.made;
        cells = λ l. if is_stored xs l then Some (s.store l) else None;
        printed = h.printed;
        failed = h.failed;
      }

  -- a store is the old one with the new cells where they may differ
  store-is : (old new : Store) → IsSameBut xs old new → new ≡ (λ l. unwrap_or (if is_stored xs l then Some (new l) else None) (old l))
  store-is old new h = fun_ext (λ l. by l (is_stored xs l) refl)
    where
      by : (l : Location) (b : Bool) → is_stored xs l ≡ b → new l ≡ unwrap_or (if b then Some (new l) else None) (old l)
      by l true e = refl
      by l false e = h l e

  -- what a step leaves is the patched state
  pub patched-is : (s : State) (h : Leaves s) → s ≡ patched (patch_by s h) t.state
  unfolding patch_by
  patched-is s h =
      λ i. record {
        processes = h.processes i;
        activations = h.activations i;
        store = store-is t.state.store s.store h.store i;
        records = h.records i;
        faults = h.faults i;
        halted = h.halted i;
      }

  -- a step that changes the store and its process alone
  pub left-moved : (store : Store) (q : Process) → IsSameBut xs t.state.store store
      → Leaves (record (with_process t.state t.process q) { store = store })
  left-moved store q h =
      record {
        stack = q;
        made = [];
        printed = [];
        failed = [];
        processes = sym (append-nil (with_numbered t.state.processes t.process q));
        activations = refl;
        store = h;
        records = sym (append-nil t.state.records);
        faults = sym (append-nil t.state.faults);
        halted = refl;
      }

  -- a fault
  pub left-faulty : (program : Units) (k : Kind) → Keeps Leaves (result_after_fault program t k)
  left-faulty program k =
      record {
        stack = [];
        made = [];
        printed = [];
        failed = fault_of program t k ∷ [];
        processes = sym (append-nil (with_numbered t.state.processes t.process []));
        activations = refl;
        store = λ l e. refl;
        records = sym (append-nil t.state.records);
        faults = refl;
        halted = refl;
      }

  -- a record
  pub left-printed : (q : Process) (items : List Item)
      → Leaves (record (with_process t.state t.process q) { records = t.state.records ++ items ∷ [] })
  left-printed q items =
      record {
        stack = q;
        made = [];
        printed = items ∷ [];
        failed = [];
        processes = sym (append-nil (with_numbered t.state.processes t.process q));
        activations = refl;
        store = λ l e. refl;
        records = refl;
        faults = sym (append-nil t.state.faults);
        halted = refl;
      }

  -- a process
  pub left-made : (q r : Process) → Leaves (with_new_process (with_process t.state t.process q) r)
  left-made q r =
      record {
        stack = q;
        made = r ∷ [];
        printed = [];
        failed = [];
        processes = refl;
        activations = refl;
        store = λ l e. refl;
        records = sym (append-nil t.state.records);
        faults = sym (append-nil t.state.faults);
        halted = refl;
      }
