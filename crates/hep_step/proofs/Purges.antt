-- A PURGE that stands ahead: what it names, that this can be found, and that it does what the source machine does.
use Rattle.std.proofs.Common.{◌≡◌, ℕ, suc, ◌+◌, ◌-◌, List, [], ◌∷◌, ◌++◌, length, map, Some, Result, Ok, Err, refl, sym, ap, ◌∙◌, subst, arith}
use Rattle.std.specs.List.{flat_map}
use Rattle.hep_machine.specs.Words.{Name, Value, dummy_for, level_after_statement, Next, Reference, does, evaluating, leaving, purging, wants, referred, Dummy, result_after_purge, state_with_store, store_after_purge}
use Rattle.hep_machine.specs.declared.event.Kind.{Kind}
use Rattle.hep_arena.specs.Holes.{IsOut}
use Rattle.hep_code.specs.declared.instruction.Instruction.{Instruction}
use Rattle.hep_code.specs.declared.instruction.Instruction.TheVariants.{Pass, Step}
use Rattle.hep_code.specs.declared.instruction.Operation.TheVariants.{Purge}
use Rattle.hep_code.specs.declared.variable.Variable.{Variable}
use Rattle.hep_code.specs.Words.{referred_argument, passed_from, passed_reference, table_of}
use Rattle.hep_code.proofs.ControlFlow.{operation_leads}
use Rattle.hep_code.proofs.CodePositions.{after_statement_keeps}
use Rattle.hep_code.proofs.Entries.{references_passed}
use Rattle.hep_layout.proofs.Addresses.{address-out}
use Rattle.hep_layout.proofs.Memory.{memory-same}
use Rattle.hep_image.specs.Arrays.{ArePlacedArrays}
use Rattle.hep_image.proofs.NamedNumbers.{absent-or}
use Rattle.hep_image.specs.Addressing.{cells_in}
use Rattle.hep_image.specs.Places.{variable_of}
use Rattle.hep_step.specs.ArgumentAgreement.{IsPassedAs, IsTopCaller, caller_running, storage_passed}
use Rattle.hep_step.specs.ArgumentPassing.{passed_at}
use Rattle.hep_step.specs.ReadyToPass.{ArePassable}
use Rattle.hep_step.proofs.ReadyToPass.{variable-passable}
use Rattle.hep_step.proofs.References.{reference-passed}
use Rattle.hep_step.specs.StepReady.{frame_in_arena}
use Rattle.hep_step.specs.Simulation.{IsRunning, RunningTop, Simulates, addressed_on_top, arrays_running, code_ahead, counts_in, unit_running}
use Rattle.hep_step.proofs.RunningActivations.{Comes, action_made, coming, fault_is, is_at, next_is, no_end, reached, scope_running}
use Rattle.hep_step.specs.declared.closed_range.ClosedRange.{ClosedRange}
use Rattle.hep_step.specs.PlacedTargets.{AreEntriesPlaced}
use Rattle.hep_step.specs.PurgeEffects.{effect_of_purge, effect_of_ranges, purged}
use Rattle.hep_step.specs.PurgedRanges.{ranges_of}
use Rattle.hep_step.specs.PurgeReady.{AreOut, AreUnitsOut}
use Rattle.hep_step.proofs.PurgeTargets.{AreAllPurged, ArePlaced, targets-purged}

module _ (r : RunningTop) (line count next : ℕ) (behind : List Instruction) (running : IsRunning r) (ahead : code_ahead r ≡ Step line (Purge count next) ∷ behind) where
  abbrev variables : Name → Variable
  variables = variable_of r.program (unit_running r)

  -- ---- what it names

  pub record IsPurgeAhead : Type 0 where
    pub targets : List Reference
    pub does_so : coming r ≡ does (purging targets)
    pub counted : count ≡ length targets
    pub operands_are : r.operands ≡ flat_map (λ (q : Reference). q.1) targets
    pub more : List Instruction
    pub entries : behind ≡ map (λ q. Pass (referred_argument variables q)) targets ++ more

  purge_by : (n : Next) → coming r ≡ n → Comes r n (Purge count next) behind → IsPurgeAhead
  purge_by (does (purging targets)) is h =
      record { targets = targets; does_so = is; counted = cc h.operation; operands_are = h.operands_are; more = h.more; entries = h.entries }
  purge_by (wants (evaluating q)) is h = absurd (cc h.operation)
  purge_by (does leaving) is h = no_end (Purge count next) (table_of (addressed_on_top r.program r.top)).result h.operation refl
  purge_by _ is h = absurd (cc h.operation)

  pub purge_ahead : IsPurgeAhead
  purge_ahead = purge_by (coming r) refl (next_is r running line (Purge count next) behind ahead)

  pub named_so : (p : IsPurgeAhead) → passed_from count behind r.operands ≡ map (passed_reference variables) p.targets
  named_so p = (λ i. passed_from (p.counted i) (p.entries i) (p.operands_are i)) ∙ references_passed variables p.targets p.more

  -- each variable among the targets has storage units, where each one in the entries has
  targets-placed : (qs : List Reference) (more entries : List Instruction) → entries ≡ map (λ q. Pass (referred_argument variables q)) qs ++ more → AreEntriesPlaced (length qs) entries → ArePlaced variables qs
  targets-placed [] more entries e placed = tt
  targets-placed (q ∷ qs) more [] e placed = absurd cc
  targets-placed (q ∷ qs) more (i ∷ is) e placed =
      let head : i ≡ Pass (referred_argument variables q) = cc e in
      let rest : is ≡ map (λ q. Pass (referred_argument variables q)) qs ++ more = cc e in
      (placed 0 (length q.1) (variables q.0) (omega arith) (ap (λ i. Some i) head), targets-placed qs more is rest (λ k n x less there. placed (suc k) n x (omega (arith, less)) there))

  module _ (calls : IsTopCaller r) where
    -- ---- what it names can be found

    pub targets-passable : ArePlacedArrays r.program (unit_running r) → ArePassable r.arena (arrays_running r) (frame_in_arena r.frame) (passed_from count behind r.operands)
    targets-passable placed = let p = purge_ahead in subst (ArePassable r.arena (arrays_running r) (frame_in_arena r.frame)) (sym (named_so p)) (each p.targets) where
      each : (qs : List Reference) → ArePassable r.arena (arrays_running r) (frame_in_arena r.frame) (map (passed_reference variables) qs)
      each [] = tt
      each (q ∷ qs) = (variable-passable (caller_running r) calls running.memory placed q.0 q.1, each qs)

    units-out : (units : Result (ℕ × ℕ) Kind) (d : Result Dummy Kind) → IsPassedAs r.program r.top.state r.layout units d → AreUnitsOut r.arena.holes units
    units-out (Err k) d h = tt
    units-out (Ok units) (Err k) h = absurd h
    units-out (Ok units) (Ok d) h = λ p from to.
        let rest = h.rest in
        let same : units.0 + (p - units.0) ≡ p = omega (arith, from) in
        let kept = h.run (p - units.0) (omega (arith, rest, from, to)) ∙ ap (λ n. Some n) same in
        subst (IsOut p) (sym running.memory.holes_are) (address-out r.program r.top.state (length r.arena.contents) r.layout _ p running.memory.laid kept).1

    variable-out : (x : Name) (vs : List Value) → AreUnitsOut r.arena.holes (storage_passed (caller_running r) x vs)
    variable-out x vs =
        absent-or (variables x) (λ v. AreUnitsOut r.arena.holes (passed_at (cells_in r.arena.contents) r.frame.first (arrays_running r) v vs)) tt (λ there.
        units-out (storage_passed (caller_running r) x vs) (dummy_for (scope_running r) 0 x (referred (x, vs))) (reference-passed (caller_running r) calls x vs 0 x there))

    pub targets-out : AreOut r.arena (arrays_running r) (frame_in_arena r.frame) (passed_from count behind r.operands)
    targets-out = let p = purge_ahead in subst (AreOut r.arena (arrays_running r) (frame_in_arena r.frame)) (sym (named_so p)) (each p.targets) where
      each : (qs : List Reference) → AreOut r.arena (arrays_running r) (frame_in_arena r.frame) (map (passed_reference variables) qs)
      each [] = tt
      each (q ∷ qs) = (variable-out q.0 q.1, each qs)

    -- ---- it is done

    purge_done : (p : IsPurgeAhead) (ranges : Result (List ClosedRange) Kind) → AreAllPurged (caller_running r) ranges (store_after_purge (scope_running r) p.targets)
        → Simulates r (effect_of_ranges line next r.arena.contents ranges)
    purge_done p (Err k) h =
        fault_is r running line (Purge count next) behind ahead k (
        action_made r running (purging p.targets) p.does_so ∙ ap (result_after_purge r.program r.top) (h r.top.state.store))
    purge_done p (Ok ranges) h =
        let after = level_after_statement (unit_running r) r.top.level in
        let keeps = after_statement_keeps (addressed_on_top r.program r.top) r.top.level in
        let done = h r.top.state.store r.arena.contents (running.memory, running.described) in
        let leads =
        operation_leads (addressed_on_top r.program r.top) r.top.level r.operands (counts_in (unit_running r) r.arena.contents r.frame.first) r.index (is_at r running) line (Purge count next) behind ahead (purging p.targets) p.does_so in (
          done.0,
          after,
          action_made r running (purging p.targets) p.does_so ∙ ap (result_after_purge r.program r.top) done.1,
          reached r running after keeps.1 keeps.0 done.0 (purged ranges r.arena.contents) [] next (
              memory-same r.program (record r.top.state { store = done.0 }) (state_with_store r.top done.0 after) r.layout (purged ranges r.arena.contents) r.arena.holes done.2.0 refl refl)
              done.2.1 leads.at.stands,
        )

    pub purge_simulated : AreEntriesPlaced count behind → Simulates r (effect_of_purge (arrays_running r) r.frame.first line next (passed_from count behind r.operands) r.arena.contents)
    purge_simulated placed =
        let p = purge_ahead in
        let here = targets-placed p.targets p.more behind p.entries (subst (λ n. AreEntriesPlaced n behind) p.counted placed) in
        subst (λ ps. Simulates r (effect_of_purge (arrays_running r) r.frame.first line next ps r.arena.contents)) (sym (named_so p)) (
        purge_done p (ranges_of (cells_in r.arena.contents) r.frame.first (arrays_running r) (map (passed_reference variables) p.targets)) (
        targets-purged (caller_running r) calls p.targets here))
