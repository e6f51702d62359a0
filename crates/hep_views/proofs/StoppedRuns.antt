-- Stopped processes: the run before the STOP, what a machine kept before it, and that what is waited for is seen of it as after the STOP.
use Rattle.std.proofs.Common.{◌≡◌, inl, inr, ℕ, Bool, true, false, true≢false, List, [], ◌∷◌, ◌++◌, Option, Some, None, refl, sym, ap, ◌∙◌, append_assoc, append-nil, subst, zero, suc, drop, if◌then◌else◌, is_some, nat_lt}
use Rattle.std.proofs.lemmas.Bool.{cases_Bool}
use Rattle.std.specs.Option.{unwrap_or, option_map, option_or}
use Rattle.hep_machine.specs.Words.{Units, Layout, is_held, layout_of, remaining_layout, common_cells, opening, run, run_from, state_after_turn, State, Process, state_made, step, step_result_of, Value, dummy_at, activation_of, numbered, further}
use Rattle.hep_machine.specs.State.{Level as SourceLevel}
use Rattle.hep_layout.proofs.HeldFrames.{placed-run, run-last}
use Rattle.hep_state.proofs.Runs.{frames-all, laid-before, layout-left, layout-stays}
use Rattle.hep_views.proofs.Wants.{stopped-only}
use Rattle.hep_machine.specs.declared.slot.Slot.{Slot}
use Rattle.hep_code.specs.Words.{AreBelow, AreLevels, CodeLevel, IsOf}
use Rattle.hep_layout.specs.Words.{Describes, descriptor_slots, is_stacked}
use Rattle.hep_layout.proofs.Beginning.{tree-same, needed-same}
use Rattle.hep_layout.proofs.Descriptors.{described-same, wanted-same}
use Rattle.hep_layout.proofs.Memory.{address-same, memory-same}
use Rattle.hep_image.specs.BoundActivations.{AreKept}
use Rattle.hep_image.specs.Places.{addresses_of}
use Rattle.hep_step.specs.Effects.{Effect, waits}
use Rattle.hep_step.specs.Simulation.{unit_arrays, unit_code}
use Rattle.hep_proc.specs.declared.process.Local.{Local}
use Rattle.hep_proc.specs.Stacks.{Stack}
use Rattle.hep_state.specs.Words.{Shows, code_levels, node_under, Snapshot}
use Rattle.hep_views.specs.Nodes.{node_of}
use Rattle.hep_views.specs.SeenWaits.{effect_behind, unit_among, unit_in_common, unit_kept_at, unit_under, wanted_by_levels, wanted_by_stack, wanted_for, wanted_seen}

-- ---- the run before the STOP

-- fewer turns lead to the same state and the same layout, but for the STOP
pub record IsStopOf (program : Units) (cells : ℕ) (choices : List ℕ) (layout : Layout) : Type 0 where
  pub earlier : List ℕ
  pub laid : layout_of program cells is_held earlier ≡ Some layout
  pub going : (run program earlier).halted ≡ false
  pub stopped : run program choices ≡ record (run program earlier) { halted = true }

module _ (program : Units) (cells : ℕ) where
  -- of whatever turns were stopped
  abbrev Stops : List ℕ → Type 0
  Stops choices =
      (layout : Layout) → layout_of program cells is_held choices ≡ Some layout → (run program choices).halted ≡ true
      → IsStopOf program cells choices layout

  -- all frames of a layout are held
  remaining-all : (choices : List ℕ) (layout : Layout) → layout_of program cells is_held choices ≡ Some layout
      → remaining_layout is_held (run program choices) layout ≡ layout
  remaining-all choices layout laid = frames-all (is_held (run program choices)) layout (placed-run program cells choices layout laid).held

  module _ (ps : List ℕ) (p : ℕ) (before : Stops ps) (new : Layout) (laid : layout_of program cells is_held (ps ++ p ∷ []) ≡ Some new)
      (halted : (run program (ps ++ p ∷ [])).halted ≡ true) where
    abbrev s : State
    s = run program ps

    abbrev IsStopped : Type 0
    IsStopped = IsStopOf program cells (ps ++ p ∷ []) new

    -- where as many are held after the turn, the layout is the same
    kept : (layout : Layout) → layout_of program cells is_held ps ≡ Some layout
        → layout_of program cells is_held (ps ++ p ∷ []) ≡ Some (remaining_layout is_held s layout)
        → ◌≡◌ {A = Option Layout} (Some layout) (Some new)
    kept layout e left = sym (ap (λ l. Some l) (remaining-all ps layout e)) ∙ sym left ∙ laid

    -- the turn makes no step
    none-laid : (layout : Layout) → layout_of program cells is_held ps ≡ Some layout → state_after_turn program p s ≡ s
        → layout_of program cells is_held (ps ++ p ∷ []) ≡ Some (remaining_layout is_held s layout)
    none-laid layout e stays =
        layout-stays program cells ps p layout e (ap (λ (u : State). u.activations) stays)
        ∙ ap (λ (u : State). Some (remaining_layout is_held u layout)) stays

    none-made : (layout : Layout) → layout_of program cells is_held ps ≡ Some layout → state_after_turn program p s ≡ s → IsStopped
    none-made layout e stays =
        let same : run program (ps ++ p ∷ []) ≡ s = run-last program ps p ∙ stays in
        let found = before new (e ∙ kept layout e (none-laid layout e stays)) (sym (ap (λ (u : State). u.halted) same) ∙ halted) in
        record { earlier = found.earlier; laid = found.laid; going = found.going; stopped = same ∙ found.stopped }

    -- it makes the step that stops
    one-laid : (layout : Layout) → layout_of program cells is_held ps ≡ Some layout → (t : State) → step program p s ≡ Some t
        → t ≡ record s { halted = true } → layout_of program cells is_held (ps ++ p ∷ []) ≡ Some (remaining_layout is_held s layout)
    one-laid layout e t made only =
        layout-left program cells ps p layout t e made (ap (λ (u : State). u.activations) only)
        ∙ ap (λ (u : State). Some (remaining_layout is_held u layout)) only

    one-made : (layout : Layout) → layout_of program cells is_held ps ≡ Some layout → s.halted ≡ false → (t : State)
        → step program p s ≡ Some t → IsStopped
    one-made layout e going t made =
        let next : run program (ps ++ p ∷ []) ≡ t = run-last program ps p ∙ ap (λ o. unwrap_or o s) made in
        let only = stopped-only program p s t made going (sym (ap (λ (u : State). u.halted) next) ∙ halted) in
        record { earlier = ps; laid = e ∙ kept layout e (one-laid layout e t made only); going = going; stopped = next ∙ only }

    by_step : (layout : Layout) → layout_of program cells is_held ps ≡ Some layout → s.halted ≡ false → (o : Option State)
        → step program p s ≡ o → IsStopped
    by_step layout e going None none = none-made layout e (ap (λ o. unwrap_or o s) none)
    by_step layout e going (Some t) made = one-made layout e going t made

    by_layout : (o : Option Layout) → layout_of program cells is_held ps ≡ o → IsStopped
    by_layout (Some layout) e = elim (cases_Bool s.halted) [
      | inl h ↦ none-made layout e (ap (λ b. unwrap_or (if b then None else state_made (step_result_of program p s)) s) h)
      | inr h ↦ by_step layout e h (step program p s) refl
    ]
    by_layout None e = absurd (true≢false (sym (sym (ap is_some e) ∙ laid-before program cells ps (p ∷ []) (ap is_some laid))))

    last-turn : IsStopped
    last-turn = by_layout (layout_of program cells is_held ps) refl

  more-turns : (ps qs : List ℕ) → Stops ps → Stops (ps ++ qs)
  more-turns ps [] h = subst Stops (sym (append-nil ps)) h
  more-turns ps (q ∷ qs) h = subst Stops (append_assoc ps (q ∷ []) qs) (more-turns (ps ++ q ∷ []) qs (last-turn ps q h))

  none-stopped : Stops []
  unfolding run run_from opening
  none-stopped layout laid halted = absurd (true≢false (sym halted))

  pub stop-of : (choices : List ℕ) → Stops choices
  stop-of choices = more-turns [] choices none-stopped

-- all of it but the STOP
abbrev pub going_again : Snapshot → Snapshot
going_again m = record m { halted = false }

module _ (program : Units) (s : State) where
  abbrev stopped : State
  stopped = record s { halted = true }

  -- levels in the code
  of-going : (f : CodeLevel) (level : SourceLevel) → IsOf program (addresses_of program) stopped f level
      → IsOf program (addresses_of program) s f level
  of-going f level h = record { activation = h.activation; made = h.made; unit = h.unit }

  below-going : (above : ℕ) (fs : List CodeLevel) (levels : Process) → AreBelow program (addresses_of program) stopped above fs levels
      → AreBelow program (addresses_of program) s above fs levels
  below-going above [] [] h = tt
  below-going above (f ∷ fs) (level ∷ levels) h =
      (record { is_of = of-going f level h.0.is_of; awaits = h.0.awaits; loops = h.0.loops }, below-going f.unit fs levels h.1)
  below-going above [] (level ∷ levels) h = absurd h
  below-going above (f ∷ fs) [] h = absurd h

  levels-going : (fs : List CodeLevel) (levels : Process) → AreLevels program (addresses_of program) stopped fs levels
      → AreLevels program (addresses_of program) s fs levels
  levels-going [] [] h = tt
  levels-going (f ∷ fs) (level ∷ levels) h = (record { is_of = of-going f level h.0.is_of; at = h.0.at }, below-going f.unit fs levels h.1)
  levels-going [] (level ∷ levels) h = absurd h
  levels-going (f ∷ fs) [] h = absurd h

  module _ (layout : Layout) where
    kept-going : (a : ℕ) → AreKept program stopped layout a → AreKept program s layout a
    kept-going a kept k other =
        let runs = kept k other in
        let start = (dummy_at (activation_of s a).dummies k).start in
        (runs.0, λ i less. address-same program stopped s layout (further start i) refl ∙ runs.1 i less)

    described-going : (contents : List Slot) → Describes program stopped layout (descriptor_slots program stopped layout) contents
        → Describes program s layout (descriptor_slots program s layout) contents
    described-going contents h =
        described-same program stopped s layout (descriptor_slots program stopped layout) (descriptor_slots program s layout) contents h refl
        (λ a c v w. sym (wanted-same program stopped s layout a c refl (λ d i is. refl)) ∙ w)

    pub shown-going : (m : Snapshot) → s.halted ≡ false → Shows program stopped layout m → Shows program s layout (going_again m)
    shown-going m going h =
        let k = h.keeps in
        record {
          keeps = record {
            memory = memory-same program stopped s layout m.arena.contents m.arena.holes k.memory refl refl;
            tree = tree-same stopped s (is_stacked s) (is_held s) m.nodes refl k.tree;
            rest = needed-same stopped s (is_stacked s) (is_held s) None refl k.rest;
            framed = k.framed;
            frames_are = k.frames_are;
            described = described-going m.arena.contents k.described;
          };
          kept = λ a on. kept-going a (h.kept a on);
          processes = h.processes;
          stacks = λ i j q here on-it.
              let stack = h.stacks i j q here on-it in
              record { there = stack.there; levels = levels-going (code_levels program m.arena.contents m.nodes j.operands j.pending j.levels) q stack.levels; counted = stack.counted };
          activations = h.activations;
          records = h.records;
          faults = h.faults;
          halted = sym going;
        }

-- ---- what is seen doesn't go by whether processes were stopped

module _ (program : Units) (m : Snapshot) (b : Bool) where
  abbrev n : Snapshot
  n = record m { halted = b }

  among-halted : (cell a k : ℕ) → unit_among program n cell a k ≡ unit_among program m cell a k
  among-halted cell a zero = refl
  among-halted cell a (suc k) = ap (option_or (unit_under program cell a (node_of m a))) (among-halted cell (suc a) k)

  kept-halted : (cell : ℕ) → unit_kept_at program n cell ≡ unit_kept_at program m cell
  kept-halted cell = ap (λ o. if nat_lt cell (common_cells program) then unit_in_common program cell else o) (among-halted cell 1 m.activations)

  effect-halted : (e : Effect) → wanted_for program n e ≡ wanted_for program m e
  effect-halted (waits cell full) = ap (option_map (λ at. record { at = at; full = full })) (kept-halted cell)
  effect-halted _ = refl

  levels-halted : (ls : List Local) (operands : List Value)
      → wanted_by_levels program n ls operands ≡ wanted_by_levels program m ls operands
  levels-halted [] operands = refl
  levels-halted (l ∷ ls) operands =
      let code = unit_code program l.unit in
      effect-halted (effect_behind code (unit_arrays program l.unit) (node_under m.nodes l.key).first m.arena.contents (drop l.index code) operands l.index)

  stack-halted : (o : Option Stack) → wanted_by_stack program n o ≡ wanted_by_stack program m o
  stack-halted None = refl
  stack-halted (Some k) = levels-halted k.levels k.operands

  pub seen-halted : (p : ℕ) → wanted_seen program n p ≡ wanted_seen program m p
  seen-halted p = stack-halted (numbered m.processes p)
