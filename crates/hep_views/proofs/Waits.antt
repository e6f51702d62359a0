-- What a process is seen to wait for is what the source machine's process waits for.
use Rattle.std.proofs.Common.{◌≡◌, ℕ, zero, suc, ◌+◌, List, [], ◌∷◌, ◌++◌, drop, Some, refl, sym, ap, ◌∙◌, subst, arith, Bool, true, false, true≢false, inl, inr, Option, None, slice_get}
use Rattle.std.proofs.lemmas.Option.{same_Some}
use Rattle.hep_machine.specs.Words.{Value, Units, Frame, numbered, run, Location, Process, State, Work, wanted_by}
use Rattle.hep_machine.specs.declared.slot.Slot.{Slot}
use Rattle.hep_code.specs.declared.instruction.Instruction.{Instruction}
use Rattle.hep_code.specs.declared.instruction.Instruction.TheVariants.{Push, Step}
use Rattle.hep_code.specs.Words.{Stands, IsPastPushes}
use Rattle.hep_image.specs.declared.array.Array.{Array}
use Rattle.hep_step.specs.Effects.{effect_ahead, effect_at, Effect, effect_of, fails, moves, prints, answers, returns, stops, left_out, waits}
use Rattle.hep_step.specs.Simulation.{unit_addressed, unit_code, IsNotLeftOut, IsRunning, RunningTop, Simulates, arrays_running, code_running, is_left_out, unit_arrays}
use Rattle.hep_state.specs.Words.{HasLevels, IsEffectOf, IsSettled, IsTopRunning, Shows, Snapshot, IsTurning, TurnOf, state_before, top_frame, turn_settled, turn_with, IsAbsent, IsAfter, running_top}
use Rattle.hep_code.proofs.ControlFlow.{drop_one_more, pushed}
use Rattle.hep_views.specs.SeenWaits.{effect_behind, wanted_by_levels, wanted_by_stack, wanted_for, wanted_on, wanted_seen}
use Rattle.std.specs.Option.{option_map}
use Rattle.hep_machine.specs.State.{Level as SourceLevel}
use Rattle.hep_machine.specs.Step.{wanted_of}
use Rattle.hep_code.specs.declared.instruction.Operation.{Operation}
use Rattle.hep_code.specs.declared.instruction.Operation.TheVariants.{Call, Create, Refer, Purge, Resume}
use Rattle.hep_layout.specs.Words.{address}
use Rattle.hep_proc.specs.declared.process.Local.{Local}
use Rattle.hep_proc.specs.Stacks.{Stack}
use Rattle.hep_state.proofs.SilentTurns.{unit-is}
use Rattle.hep_views.proofs.Cells.{kept-told}
use Rattle.hep_views.proofs.StoppedRuns.{going_again, seen-halted, shown-going, stop-of}
use Rattle.hep_views.proofs.Wants.{absent-waits-not, left-out-waits-not, wanted-halted}

first-there : {A : Type 0} (xs : List A) (n : ℕ) (x : A) → slice_get xs n ≡ Some x → (rest : List A) × (drop n xs ≡ x ∷ rest)
first-there [] n x e = absurd cc
first-there (y ∷ ys) zero x e = (ys, ap (λ z. z ∷ ys) (same_Some y x e))
first-there (y ∷ ys) (suc n) x e = first-there ys n x e

-- the operands and the index once they are, and the effect then
pub record Settles (program : Units) (u : ℕ) (ahead : List Instruction) (operands : List Value) (index : ℕ) : Type 0 where
  pub new : List Value
  pub after : ℕ
  pub settles : IsSettled program u operands index new after
  pub effect : (arrays : List Array) (first : ℕ) (contents : List Slot)
      → effect_behind (unit_code program u) arrays first contents ahead operands index ≡ effect_at (unit_code program u) arrays first contents new after

module _ (program : Units) (u : ℕ) where
  -- no value stands ahead
  already : (ahead : List Instruction) (operands : List Value) (index : ℕ) → drop index (unit_code program u) ≡ ahead
      → ((v : Value) (rest : List Instruction) → ahead ≡ Push v ∷ rest → ⊥)
      → ((arrays : List Array) (first : ℕ) (contents : List Slot)
      → effect_behind (unit_code program u) arrays first contents ahead operands index ≡ effect_ahead (unit_code program u) arrays first ahead contents operands index)
      → Settles program u ahead operands index
  already ahead operands index is other same =
      record {
        new = operands;
        after = index;
        settles = record {
          past = λ v e. let found = first-there (unit_code program u) index (Push v) e in other v found.0 (sym is ∙ found.1);
          stands = λ k work s. s;
        };
        effect = λ arrays first contents. same arrays first contents ∙ ap (λ is. effect_ahead (unit_code program u) arrays first is contents operands index) (sym is);
      }

  pub settles-by : (ahead : List Instruction) (operands : List Value) (index : ℕ) → drop index (unit_code program u) ≡ ahead
      → Settles program u ahead operands index
  settles-by [] operands index is = already [] operands index is (λ v rest e. cc) (λ arrays first contents. refl)
  settles-by (Push v ∷ rest) operands index is =
      let one : index + 1 ≡ suc index = omega arith in
      let behind = ap (λ n. drop n (unit_code program u)) (sym one) ∙ drop_one_more (unit_code program u) index (Push v) rest is in
      let more = settles-by rest (operands ++ v ∷ []) (suc index) behind in
      record {
        new = more.new;
        after = more.after;
        settles = record {
          past = more.settles.past;
          stands = λ k work s.
              more.settles.stands k work (
              subst (Stands (unit_addressed program u) k work (operands ++ v ∷ [])) one (pushed (unit_addressed program u) k work operands index s v rest is));
        };
        effect = more.effect;
      }
  settles-by (other ∷ rest) operands index is = already (other ∷ rest) operands index is (λ v more e. cc) (λ arrays first contents. refl)

-- what laws say of all runs of a program
pub record IsKnown (program : Units) (cells : ℕ) : Type 0 where
  pub turning : (choices : List ℕ) (m : Snapshot) (p : ℕ) (levels : HasLevels m p) → IsAfter program cells choices m → m.halted ≡ false
      → (top : SourceLevel × Process) × IsTurning (turn_with program cells choices levels top)
  pub ended : (choices : List ℕ) (m : Snapshot) (p : ℕ) (operands pending : List Value) → IsAfter program cells choices m
      → numbered m.processes p ≡ Some (record { levels = []; operands = operands; pending = pending }) → IsAbsent program cells choices p m
  pub none : (choices : List ℕ) (m : Snapshot) (p : ℕ) → IsAfter program cells choices m → numbered m.processes p ≡ None
      → IsAbsent program cells choices p m
  pub settled : (t : TurnOf) (operands : List Value) (index : ℕ) → IsTurning t
      → ((k : ℕ) (work : Work) → Stands (unit_addressed t.program t.level.unit) k work t.operands t.level.index → Stands (unit_addressed t.program t.level.unit) k work operands index)
      → IsTurning (turn_settled t operands index)
  pub running : (t : TurnOf) → t.program ≡ program → (turning : IsTurning t) → IsTopRunning t turning
  pub simulated : (r : RunningTop) → IsRunning r → IsPastPushes (code_running r) r.index → IsNotLeftOut (code_running r) r.index
      → Simulates r (effect_at (code_running r) (arrays_running r) r.frame.first r.arena.contents r.operands r.index)

-- ---- the operation ahead

-- one that is left out has no effect that is seen
left-out-seen : (code : List Instruction) (arrays : List Array) (first : ℕ) (line : ℕ) (o : Operation) (behind : List Instruction)
    (contents : List Slot) (operands : List Value) (index : ℕ) → is_left_out o ≡ true → effect_of code arrays first line o behind contents operands index ≡ left_out
left-out-seen code arrays first line (Call u count next) behind contents operands index left = refl
left-out-seen code arrays first line (Create u count next) behind contents operands index left = refl
left-out-seen code arrays first line (Refer u count) behind contents operands index left = refl
left-out-seen code arrays first line (Purge count next) behind contents operands index left = refl
left-out-seen code arrays first line (Resume next) behind contents operands index left = refl
left-out-seen code arrays first line _ behind contents operands index left = absurd cc

-- whether one stands in front of these instructions
left-out-ahead : List Instruction → Bool
left-out-ahead (Step line o ∷ behind) = is_left_out o
left-out-ahead _ = false

none-left-out : (code : List Instruction) (index : ℕ) (is : List Instruction) → drop index code ≡ is → left-out-ahead is ≡ false
    → IsNotLeftOut code index
unfolding left-out-ahead
none-left-out code index is e h line o behind f = sym (ap left-out-ahead (sym e ∙ f)) ∙ h

-- ---- a process that lives

module _ {t : TurnOf} (h : IsTurning t) (known : IsKnown t.program t.cells) where
  abbrev s : State
  s = state_before t

  abbrev f : Frame
  f = top_frame t

  abbrev code : List Instruction
  code = unit_code t.program t.level.unit

  -- where the values that stand ahead are operands
  ahead : Settles t.program t.level.unit (drop t.level.index code) t.operands t.level.index
  ahead = settles-by t.program t.level.unit (drop t.level.index code) t.operands t.level.index refl

  abbrev j : ℕ
  j = ahead.after

  abbrev later : TurnOf
  later = turn_settled t ahead.new j

  next : IsTurning later
  next = known.settled t ahead.new j h ahead.settles.stands

  runs : IsTopRunning later next
  runs = known.running later refl next

  abbrev effect : Effect
  effect = effect_at code (unit_arrays t.program t.level.unit) f.first t.machine.arena.contents ahead.new j

  abbrev IsSeen : Type 0
  IsSeen = wanted_by t.program t.process s ≡ wanted_for t.program t.machine effect

  -- the storage unit that is waited for is that which the cell keeps
  unit-kept : (at : Location) (cell : ℕ) (full : Bool) → address t.program s next.after.layout at ≡ Some cell
      → wanted_for t.program t.machine (waits cell full) ≡ Some (record { at = at; full = full })
  unit-kept at cell full found =
      let layouts : next.after.layout ≡ h.after.layout = same_Some next.after.layout h.after.layout (sym next.after.laid ∙ h.after.laid) in
      let there = ap (λ layout. address t.program s layout at) (sym layouts) ∙ found in
      ap (option_map (λ at. record { at = at; full = full })) (kept-told t.program t.cells t.choices t.machine h.after at cell there)

  by-effect : (e : Effect) → IsEffectOf later next e → wanted_by t.program t.process s ≡ wanted_for t.program t.machine e
  by-effect (moves contents new index) (store, after, is, reaches) = ap wanted_of is
  by-effect (prints items index) (after, is, reaches) = ap wanted_of is
  by-effect (fails line k) (is, at) = ap wanted_of is
  by-effect (waits cell full) (at, is, found) = ap wanted_of is ∙ sym (unit-kept at cell full found)
  by-effect returns (none, is) = ap wanted_of is
  by-effect (answers v) (x, result, is) = ap wanted_of is
  by-effect stops is = ap wanted_of is
  by-effect left_out none = absurd none

  by-operation : IsNotLeftOut code j → IsSeen
  by-operation others =
      by-effect effect (
      subst (λ u. IsEffectOf later next (effect_at (unit_code t.program u) (unit_arrays t.program u) f.first t.machine.arena.contents ahead.new j)) (unit-is h) (
      known.simulated (running_top later next) runs
      (subst (λ u. IsPastPushes (unit_code t.program u) j) (sym (unit-is h)) ahead.settles.past) (subst (λ u. IsNotLeftOut (unit_code t.program u) j) (sym (unit-is h)) others)))

  by-left-out : (line : ℕ) (o : Operation) (behind : List Instruction) → drop j code ≡ Step line o ∷ behind → is_left_out o ≡ true → IsSeen
  by-left-out line o behind e left =
      let there = subst (λ u. drop j (unit_code t.program u) ≡ Step line o ∷ behind) (sym (unit-is h)) e in
      let none : effect ≡ left_out =
      ap (λ is. effect_ahead code (unit_arrays t.program t.level.unit) f.first is t.machine.arena.contents ahead.new j) e
      ∙ left-out-seen code (unit_arrays t.program t.level.unit) f.first line o behind t.machine.arena.contents ahead.new j left in
      left-out-waits-not (running_top later next) runs line o behind there left ∙ sym (ap (wanted_for t.program t.machine) none)

  by-test : (line : ℕ) (o : Operation) (behind : List Instruction) → drop j code ≡ Step line o ∷ behind → (b : Bool) → is_left_out o ≡ b
      → IsSeen
  unfolding left-out-ahead
  by-test line o behind e true left = by-left-out line o behind e left
  by-test line o behind e false other = by-operation (none-left-out code j (Step line o ∷ behind) e other)

  by-ahead : (is : List Instruction) → drop j code ≡ is → IsSeen
  unfolding left-out-ahead
  by-ahead (Step line o ∷ behind) e = by-test line o behind e (is_left_out o) refl
  by-ahead (other ∷ behind) e = by-operation (none-left-out code j (other ∷ behind) e refl)
  by-ahead [] e = by-operation (none-left-out code j [] e refl)

  seen-of-turning : wanted_by t.program t.process s ≡ wanted_on t.program t.machine t.level t.operands
  seen-of-turning = by-ahead (drop j code) refl ∙ sym (ap (wanted_for t.program t.machine) (ahead.effect (unit_arrays t.program t.level.unit) f.first t.machine.arena.contents))

-- ---- each process

module _ (program : Units) (cells : ℕ) (known : IsKnown program cells) where
  module _ (choices : List ℕ) (m : Snapshot) (p : ℕ) (after : IsAfter program cells choices m) (going : m.halted ≡ false) where
    abbrev now : State
    now = run program choices

    of-absent : IsAbsent program cells choices p m → wanted_by program p now ≡ None
    of-absent h = elim h.none [
      | inl halted ↦ absurd (true≢false (sym halted ∙ sym after.shows.halted ∙ going))
      | inr gone ↦ absent-waits-not program (run program choices) p gone
    ]

    by-levels : (ls : List Local) (operands pending : List Value) → numbered m.processes p ≡ Some (record { levels = ls; operands = operands; pending = pending })
        → wanted_by program p now ≡ wanted_by_levels program m ls operands
    by-levels [] operands pending e = of-absent (known.ended choices m p operands pending after e)
    by-levels (l ∷ ls) operands pending e = seen-of-turning (known.turning choices m p (record { level = l; below = ls; operands = operands; pending = pending; kept = e }) after going).1 known

    by-stack : (o : Option Stack) → numbered m.processes p ≡ o → wanted_by program p now ≡ wanted_by_stack program m o
    by-stack None e = of-absent (known.none choices m p after e)
    by-stack (Some k) e = by-levels k.levels k.operands k.pending e

    seen-going : wanted_by program p now ≡ wanted_seen program m p
    seen-going = by-stack (numbered m.processes p) refl

  -- whether the processes were stopped or not
  pub waits-seen : (choices : List ℕ) (m : Snapshot) (p : ℕ) → IsAfter program cells choices m
      → wanted_by program p (run program choices) ≡ wanted_seen program m p
  waits-seen choices m p after = by_halt m.halted refl where
    by_halt : (b : Bool) → m.halted ≡ b → wanted_by program p (run program choices) ≡ wanted_seen program m p
    by_halt false going = seen-going choices m p after going
    by_halt true halted =
        let stop = stop-of program cells choices after.layout after.laid (sym after.shows.halted ∙ halted) in
        let shows = subst (λ (u : State). Shows program u after.layout m) stop.stopped after.shows in
        let shown = shown-going program (run program stop.earlier) after.layout m stop.going shows in
        let before : IsAfter program cells stop.earlier (going_again m) = record { layout = after.layout; laid = stop.laid; size = after.size; shows = shown } in
        ap (wanted_by program p) stop.stopped ∙ wanted-halted program (run program stop.earlier) true p
        ∙ seen-going stop.earlier (going_again m) p before refl ∙ seen-halted program m false p
