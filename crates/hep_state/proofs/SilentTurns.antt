-- A process goes on, prints, stops all processes, waits, or ends activations: what shows the state then.
use Rattle.std.proofs.Common.{◌≡◌, ℕ, Bool, true, List, [], ◌∷◌, ◌++◌, length, Option, Some, None, refl, sym, ap, ◌∙◌, subst, ◌≤◌, ◌-◌, arith, drop, inl, inr, length-append, length-drop, length-set, ◌+◌, take, if◌then◌else◌, nat_eq}
use Rattle.hep_machine.specs.Words.{Name, Value, Units, plug_work, function_name, unit_at, activations_on, is_held, layout_of, Layout, numbered, unit_of, with_numbered, activation_of, is_number_among, run, step, Process, State, Activation, Location, common, local, state_with_store, step_result_of, stepped, fault_of, stack_after_return, stack_after_value, dummy_at, with_process}
use Rattle.hep_machine.specs.declared.record.Item.{Item}
use Rattle.hep_machine.specs.declared.slot.Slot.{Slot}
use Rattle.hep_machine.specs.State.{Level as SourceLevel}
use Rattle.hep_machine.specs.Step.{wanted_of}
use Rattle.hep_code.specs.Words.{Awaits, Stands, deepest}
use Rattle.hep_code.proofs.OperandCounts.{stands_within}
use Rattle.hep_layout.specs.Words.{descriptor_slots, AreNeededBut, is_stacked, IsFrameTree, but, FrameNode, Nodes, IsAbove, IsOwnedAbove, times}
use Rattle.hep_layout.proofs.Beginning.{tree-same, needed-same}
use Rattle.hep_layout.proofs.Descriptors.{described-same, wanted-same}
use Rattle.hep_layout.proofs.Memory.{memory-same}
use Rattle.hep_layout.proofs.StackChanges.{stacks-same, stacks-emptied, stacks-ended}
use Rattle.hep_layout.proofs.Stacks.{once, times_on-numbered}
use Rattle.hep_proc.specs.FrameTable.{Keeps, AreOfSomeState, CanAllLeave, CanLeave, IsEnded, LeadUpwards, all_but, frames_of, frames_in}
use Rattle.hep_step.specs.Effects.{answers, moves, prints, waits, fails, returns, stops}
use Rattle.hep_step.specs.Simulation.{state_with_record, Reaches, unit_addressed, unit_code}
use Rattle.hep_proc.specs.declared.process.Local.{Local}
use Rattle.hep_proc.specs.Stacks.{keys_of, operands_answered, pending_answered, Stack, stack_with}
use Rattle.hep_state.specs.Words.{frames_before, Snapshot, HasMadeTurn, HaveLeft, snapshot_answered, state_answered, kept_by, IsEffectOf, IsStack, IsTurning, TurnOf, fault_at, snapshot_moved, snapshot_printed, snapshot_stopped, top_before, top_frame, snapshot_failed, snapshot_returned, state_before, state_failed, state_returned, HasWaited, node_under, running_top}
use Rattle.hep_state.proofs.LeftActivations.{AreOf, answered-of, kept-same, all-fewer, but-fewer, kept-left, still-above, all_but-is, caller-of, no-more, none-of}
use Rattle.hep_state.proofs.Runs.{layout-left, next, there, all-remain, set-same, standing-changed, stepped-after, held-after, remaining-after}
use Rattle.hep_state.proofs.SettledPositions.{AreStanding, made-same, stack-standing, standing-still, top-stands, AreOn, AreStandingBelow, IsHere, answer-stands, caller-stands}
use Rattle.hep_machine.proofs.Others.{step-is}
use Rattle.std.proofs.lemmas.Bool.{cases_Bool, eq-eqb}
use Rattle.std.proofs.lemmas.Option.{same_Some}
use Rattle.hep_machine.specs.declared.event.Fault.{Fault}
use Rattle.hep_machine.specs.declared.event.Kind.{Kind}
use Rattle.hep_arena.specs.Space.{Space}
use Rattle.hep_layout.proofs.References.{references}
use Rattle.hep_layout.proofs.FrameTree.{on-stacked}
use Rattle.hep_image.specs.BoundActivations.{AreKept as kept_of}
use Rattle.hep_machine.proofs.Changes.{on-stack_after_return, on-stack_after_value}

-- ---- what leads upwards

-- what dummy arguments of a run stand for leads upwards, in a state with the same activations too
owned-same : (s t : State) (a : ℕ) (at : Location) → t.activations ≡ s.activations → IsOwnedAbove s a at → IsOwnedAbove t a at
owned-same s t a (local b x i) same h = subst (λ (xs : List Activation). IsAbove (record s { activations = xs }) b a) (sym same) h
owned-same s t a (common b i) same h = tt

pub lead-upwards : (program : Units) (choices : List ℕ) (t : State) → t.activations ≡ (run program choices).activations → LeadUpwards t
lead-upwards program choices t same a k =
    let s = run program choices in
    owned-same s t a (dummy_at (activation_of t a).dummies k).start same (
    subst (λ (xs : List Activation). IsOwnedAbove s a (dummy_at (activation_of (record s { activations = xs }) a).dummies k).start) (sym same) (references program choices a k))

-- ---- levels that can leave one after the other

number-times : (a : ℕ) (ns : List ℕ) → is_number_among a ns ≡ true → 1 ≤ times a ns
number-times a [] h = absurd cc
number-times a (b ∷ bs) h =
    elim (cases_Bool (nat_eq a b)) [
      | inl same ↦ let one : ◌≡◌ {A = ℕ} (if nat_eq a b then 1 else 0) 1 = rw same in omega (arith, one)
      | inr other ↦ let rest = number-times a bs (rw other at h) in omega (arith, rest)
    ]

module _ (program : Units) (s : State) (nodes : Nodes) where
  abbrev AreHere : List Local → Process → Type 0
  AreHere [] [] = Unit {0}
  AreHere (l ∷ ls) (level ∷ levels) = IsHere program s nodes l level.activation × AreHere ls levels
  AreHere _ _ = ⊥

  all-here : (above : ℕ) (pending : List Value) (ls : List Local) (levels : Process) → AreStandingBelow program s nodes above pending ls levels → AreHere ls levels
  all-here above pending [] [] h = tt
  all-here above pending (l ∷ ls) (level ∷ levels) h = (h.0.here, all-here l.unit (take (length pending - l.kept) pending) ls levels h.1)
  all-here above pending _ _ h = absurd h

  leaving : (on : ℕ → Bool) (ls : List Local) (levels : Process) → AreHere ls levels → ((a : ℕ) → is_number_among a (activations_on levels) ≡ true → on a ≡ true) → ((a : ℕ) → times a (activations_on levels) ≤ 1)
      → CanLeave nodes on (keys_of ls) (activations_on levels)
  leaving on [] [] here stacked few = tt
  leaving on (l ∷ ls) (level ∷ levels) here stacked few =
      let a = level.activation in
      let first : is_number_among a (a ∷ activations_on levels) ≡ true = rw (eq-eqb a a refl) in
      (here.0.node, here.0.there, sym here.0.activation, stacked a first, leaving (but a on) ls levels here.1 others (λ b. let all = few b in omega (arith, all)))
    where
      others : (b : ℕ) → is_number_among b (activations_on levels) ≡ true → but level.activation on b ≡ true
      others b among =
          elim (cases_Bool (nat_eq b level.activation)) [
            | inl same ↦
                let one : ◌≡◌ {A = ℕ} (if nat_eq b level.activation then 1 else 0) 1 = rw same in
                absurd (omega (arith, one, number-times b (activations_on levels) among, few b))
            | inr other ↦ rw other (stacked b (rw other among))
          ]
  leaving on _ _ here stacked few = absurd here

-- ---- a turn

module _ {t : TurnOf} (h : IsTurning t) where
  abbrev old : State
  old = state_before t

  abbrev layout : Layout
  layout = h.after.layout

  abbrev stack : Stack
  stack = stack_with t.level t.below t.operands t.pending

  shown-before : IsStack t.program old t.machine.arena.contents t.machine.nodes stack (t.top.0 ∷ t.top.1)
  shown-before = h.after.shows.stacks t.process stack (t.top.0 ∷ t.top.1) h.kept (there h)

  pub standing-before : AreStanding t.program old t.machine.nodes t.operands t.pending (t.level ∷ t.below) (t.top.0 ∷ t.top.1)
  standing-before = stack-standing t.program old t.machine.nodes t.machine.arena.contents stack (t.top.0 ∷ t.top.1) shown-before

  pub unit-is : unit_of old t.top.0.activation ≡ t.level.unit
  unit-is = standing-before.0.here.unit

  -- what the unit of the top activation has for its result
  pub result-is : (x : Option Name) → function_name (unit_at t.program (unit_of old t.top.0.activation)) ≡ x → function_name (unit_at t.program t.level.unit) ≡ x
  result-is x e = ap (λ u. function_name (unit_at t.program u)) (sym unit-is) ∙ e

  -- a state that its step made
  pub step-made : (later : State) → step_result_of t.program t.process old ≡ stepped later → step t.program t.process old ≡ Some later
  step-made later = step-is t.program t.process old later h.running

  -- is that after the turn
  pub next-is : (later : State) → step_result_of t.program t.process old ≡ stepped later → run t.program (t.choices ++ t.process ∷ []) ≡ later
  next-is later made = next t later (step-made later made)

  -- ---- the process goes on

  module _ (later : State) (after : SourceLevel) (new : List Slot) (operands : List Value) (index : ℕ) (made : step_result_of t.program t.process old ≡ stepped later) (set : later.processes ≡ with_numbered old.processes t.process (after ∷ t.top.1)) (same : later.activations ≡ old.activations)
      (size : length new ≡ length t.machine.arena.contents) (r : Reaches (running_top t h) later after new operands index) where
    abbrev arena : Space
    arena = record { contents = new; holes = t.machine.arena.holes }

    on-same : is_stacked old ≡ is_stacked later
    on-same = λ i a. sym (stacks-same old later t.process t.top (after ∷ t.top.1) h.lives set a (ap (λ b. b ∷ activations_on t.top.1) r.activation)) i

    keeps : Keeps (frames_in t.program later (is_held old) layout) arena t.machine.nodes
    keeps =
        let k = h.after.shows.keeps in
        record {
          memory = r.memory;
          tree = subst (λ on. IsFrameTree later on (is_held old) t.machine.nodes) on-same (tree-same old later (is_stacked old) (is_held old) t.machine.nodes same k.tree);
          rest = subst (λ on. AreNeededBut None later on (is_held old)) on-same (needed-same old later (is_stacked old) (is_held old) None same k.rest);
          framed = k.framed;
          frames_are = k.frames_are;
          described = r.described;
        }

    laid : layout_of t.program t.cells is_held (t.choices ++ t.process ∷ []) ≡ Some layout
    laid =
        layout-left t.program t.cells t.choices t.process layout later h.after.laid (step-made later made) same
        ∙ all-remain t later (step-made later made) layout (is_held old) arena t.machine.nodes keeps

    pub went-on : (records : List (List Item)) (halted : Bool) → records ≡ later.records → later.faults ≡ old.faults → halted ≡ later.halted → HasMadeTurn t (record (snapshot_moved t new operands index) { records = records; halted = halted })
    went-on records halted printed faults stopped =
        let s = h.after.shows in
        let k = stack_with (record t.level { index = index }) t.below operands t.pending in
        let q : Process = after ∷ t.top.1 in
        let count : length (with_numbered t.machine.processes t.process k) ≡ length later.processes = length-set t.machine.processes _ k ∙ s.processes ∙ sym (ap length set ∙ length-set old.processes _ q) in
        let stands : Stands (unit_addressed t.program t.level.unit) after.statement after.work operands index = subst (λ u. Stands (unit_addressed t.program u) after.statement after.work operands index) unit-is r.stands in
        let moved = top-stands t.program old t.machine.nodes t.operands operands t.pending t.level t.below t.top.0 after t.top.1 index standing-before r.activation stands in
        let still = standing-still t.program old later t.machine.nodes t.machine.nodes (made-same old later same) (λ key x e on. (x, e, refl)) operands t.pending k.levels q moved in
        stepped-after t later (step-made later made) (record (snapshot_moved t new operands index) { records = records; halted = halted }) layout (is_held old) keeps
        (λ a on. kept-same t.program old later layout same a (s.kept a (ap (λ (test : ℕ → Bool). test a) on-same ∙ on))) count
        (λ i j r here on-it. standing-changed h later t.machine.nodes k q (made-same old later same) (λ key x e on. (x, e, refl)) still i j r here (sym (ap (λ qs. numbered qs i) set) ∙ on-it))
        laid (size ∙ h.after.size) (s.activations ∙ sym (ap length same)) printed (s.faults ∙ sym faults) stopped

  pub moved-shown : (new : List Slot) (operands : List Value) (index : ℕ) → length new ≡ length t.machine.arena.contents → IsEffectOf t h (moves new operands index) → HasMadeTurn t (snapshot_moved t new operands index)
  moved-shown new operands index size sim =
      let t0 = top_before t in
      went-on (state_with_store t0 sim.0 sim.1) sim.1 new operands index sim.2 refl refl size sim.3 t.machine.records t.machine.halted h.after.shows.records refl h.after.shows.halted

  -- ---- it prints

  pub printed-shown : (items : List Item) (index : ℕ) → IsEffectOf t h (prints items index) → HasMadeTurn t (snapshot_printed t items index)
  printed-shown items index sim =
      let t0 = top_before t in
      went-on (state_with_record t0 sim.0 items) sim.0 t.machine.arena.contents [] index sim.1 refl refl refl sim.2 (t.machine.records ++ items ∷ []) t.machine.halted (ap (λ rs. rs ++ items ∷ []) h.after.shows.records) refl h.after.shows.halted

  -- ---- all processes are stopped

  pub stopped-shown : IsEffectOf t h stops → HasMadeTurn t (snapshot_stopped t.machine)
  stopped-shown made =
      let later : State = record old { halted = true } in
      let k = h.after.shows.keeps in
      let reaches : Reaches (running_top t h) later t.top.0 t.machine.arena.contents t.operands t.level.index =
      record {
        activation = refl;
        memory = memory-same t.program old later layout t.machine.arena.contents t.machine.arena.holes k.memory refl refl;
        described = described-same t.program old later layout (descriptor_slots t.program old layout) (descriptor_slots t.program later layout) t.machine.arena.contents k.described refl (λ a c v w. sym (wanted-same t.program old later layout a c refl (λ d i is. refl)) ∙ w);
        stands = subst (λ u. Stands (unit_addressed t.program u) t.top.0.statement t.top.0.work t.operands t.level.index) (sym unit-is) standing-before.0.stands;
      } in
      subst (λ (ks : List Stack). HasMadeTurn t (record t.machine { processes = ks; halted = true })) (sym (set-same t.machine.processes t.process stack h.kept)) (
      went-on later t.top.0 t.machine.arena.contents t.operands t.level.index made (set-same old.processes t.process (t.top.0 ∷ t.top.1) (there h)) refl refl reaches t.machine.records true h.after.shows.records refl refl)

  -- ---- it waits

  pub waited-shown : (cell : ℕ) (full : Bool) → IsEffectOf t h (waits cell full) → HasWaited t.program t.cells t.choices t.process cell full t.machine
  waited-shown cell full sim =
      record { running = h.running; wanted = record { at = sim.0; full = full }; waits = ap wanted_of sim.1; after = h.after; found = sim.2; state = refl }

  pub kept-now : AreOfSomeState t.machine.arena t.machine.nodes
  kept-now = (frames_before t h, h.after.shows.keeps)

  pub top-node : t.machine.nodes t.level.key ≡ Some (node_under t.machine.nodes t.level.key)
  top-node = shown-before.there.0.1

  pub top-activation : (top_frame t).activation ≡ t.top.0.activation
  top-activation =
      let here = standing-before.0.here in
      ap (λ (n : FrameNode). n.activation) (same_Some (node_under t.machine.nodes t.level.key) here.node (sym top-node ∙ here.there)) ∙ sym here.activation

  -- ---- where they have ended

  module _ (later : State) (q : Process) (set : later.processes ≡ with_numbered old.processes t.process q) (same : later.activations ≡ old.activations) (made : step_result_of t.program t.process old ≡ stepped later) where
    module _ (arena : Space) (nodes : Nodes) (left : HaveLeft t h later arena nodes) where
      stay : (key : ℕ) (n : FrameNode) → t.machine.nodes key ≡ Some n → is_stacked later n.activation ≡ true → (k : FrameNode) × (nodes key ≡ Some k) × (k.activation ≡ n.activation)
      stay key n e on = let kept = left.keys_stay key n e (left.keeps.tree.stacked n.activation on) in (kept.0, kept.1, kept.2)

      remains : layout_of t.program t.cells is_held (t.choices ++ t.process ∷ []) ≡ Some (frames_of left.still layout)
      remains =
          layout-left t.program t.cells t.choices t.process layout later h.after.laid (step-made later made) same
          ∙ ap (λ (fs : Layout). Some fs) (sym (remaining-after t later (step-made later made) (frames_of left.still layout) left.still arena nodes left.keeps layout))

      kept : ((a : ℕ) → is_stacked later a ≡ true → is_stacked old a ≡ true) → (a : ℕ) → is_stacked later a ≡ true → kept_of t.program later (frames_of left.still layout) a
      kept fewer a on =
          let held = held-after t later (step-made later made) (frames_of left.still layout) left.still arena nodes left.keeps in
          let above = still-above t.program (t.choices ++ t.process ∷ []) later left.still (next-is later made) held in
          kept-left t.program old later layout same left.still above a (left.keeps.tree.stacked a on) (h.after.shows.kept a (fewer a on))

      pub ended-shown : (k : Stack) (faults : List Fault) → length arena.contents ≡ length t.machine.arena.contents → ((a : ℕ) → is_stacked later a ≡ true → is_stacked old a ≡ true) → (AreOn later q → AreStanding t.program later nodes k.operands k.pending k.levels q)
          → later.records ≡ old.records → faults ≡ later.faults → later.halted ≡ old.halted → HasMadeTurn t (record t.machine { arena = arena; nodes = nodes; processes = with_numbered t.machine.processes t.process k; faults = faults })
      ended-shown k faults size fewer standing records told halted =
          let s = h.after.shows in
          let new : Snapshot = record t.machine { arena = arena; nodes = nodes; processes = with_numbered t.machine.processes t.process k; faults = faults } in
          let count : length new.processes ≡ length later.processes = length-set t.machine.processes _ k ∙ s.processes ∙ sym (ap length set ∙ length-set old.processes _ q) in
          stepped-after t later (step-made later made) new (frames_of left.still layout) left.still left.keeps (kept fewer) count
          (λ i j r here on-it. standing-changed h later nodes k q (made-same old later same) stay standing i j r here (sym (ap (λ qs. numbered qs i) set) ∙ on-it))
          remains (size ∙ h.after.size) (s.activations ∙ sym (ap length same)) (s.records ∙ sym records) told (s.halted ∙ sym halted)

  -- ---- RETURN, and END of a unit

  -- the activations below the top one stay, at other statements
  module _ (q : Process) (on : activations_on q ≡ activations_on t.top.1) (of : AreOf q (t.top.0 ∷ t.top.1)) where
    abbrev ended : State
    ended = with_process old t.process q

    top-ended : IsEnded t.program layout (but (top_frame t).activation (is_stacked old)) old ended
    top-ended =
        record {
          activations_are = refl;
          store_is = refl;
          stacks_are = λ a.
              stacks-ended old ended t.process t.top q h.lives refl a (once t.program t.choices a).0 on
              ∙ ap (λ b. but b (is_stacked old) a) (sym top-activation);
          no_more = no-more t.program t.choices ended layout t.process (t.top.0 ∷ t.top.1) q (there h) refl of refl;
        }

    -- and it is shown where they stand
    top-shown : (k : Stack) (arena : Space) (nodes : Nodes) → HaveLeft t h ended arena nodes → length arena.contents ≡ length t.machine.arena.contents → step_result_of t.program t.process old ≡ stepped ended
        → AreStanding t.program old t.machine.nodes k.operands k.pending k.levels q → HasMadeTurn t (record t.machine { arena = arena; nodes = nodes; processes = with_numbered t.machine.processes t.process k })
    top-shown k arena nodes left size made below =
        ended-shown ended q refl refl made arena nodes left k t.machine.faults size
        (λ a on_it. but-fewer (top_frame t).activation a (is_stacked old) (sym ((top-ended).stacks_are a) ∙ on_it))
        (λ on_it. standing-still t.program old ended t.machine.nodes nodes (made-same old ended refl) (stay ended q refl refl made arena nodes left) k.operands k.pending k.levels q below on_it) refl h.after.shows.faults refl

  pub returned-ended : IsEnded t.program layout (but (top_frame t).activation (is_stacked old)) old (state_returned t)
  returned-ended = top-ended (stack_after_return t.program old t.top.1) (on-stack_after_return t.program old t.top.1) (caller-of t.program old t.top.0 t.top.1)

  pub returned-shown : (arena : Space) (nodes : Nodes) → HaveLeft t h (state_returned t) arena nodes → length arena.contents ≡ length t.machine.arena.contents → IsEffectOf t h returns → HasMadeTurn t (snapshot_returned t arena nodes)
  returned-shown arena nodes left size made =
      let q = stack_after_return t.program old t.top.1 in
      top-shown q (on-stack_after_return t.program old t.top.1) (caller-of t.program old t.top.0 t.top.1) (record { levels = t.below; operands = []; pending = t.pending }) arena nodes left size made.1
      (caller-stands t.program old t.machine.nodes t.level.unit t.pending t.below t.top.1 (result-is None made.0) standing-before.1 standing-before.2)

  -- ---- the end of a function

  pub answered-ended : (v : Value) → IsEnded t.program layout (but (top_frame t).activation (is_stacked old)) old (state_answered t v)
  answered-ended v = top-ended (stack_after_value t.program old v t.top.1) (on-stack_after_value t.program old v t.top.1) (answered-of t.program old v t.top.0 t.top.1)

  pub answered-shown : (v : Value) (arena : Space) (nodes : Nodes) → HaveLeft t h (state_answered t v) arena nodes → length arena.contents ≡ length t.machine.arena.contents → IsEffectOf t h (answers v) → HasMadeTurn t (snapshot_answered t v arena nodes)
  answered-shown v arena nodes left size made =
      let q = stack_after_value t.program old v t.top.1 in
      top-shown q (on-stack_after_value t.program old v t.top.1) (answered-of t.program old v t.top.0 t.top.1) (record { levels = t.below; operands = operands_answered t.pending t.below v; pending = pending_answered t.pending t.below }) arena nodes left size made.2
      (answer-stands t.program old t.machine.nodes t.level.unit made.0 v t.pending t.below t.top.1 (result-is (Some made.0) made.1) standing-before.1 standing-before.2)

  -- there is room for that value behind the operands that the one below it keeps
  pub answer-room : (v : Value) → IsEffectOf t h (answers v) → (l : Local) (ls : List Local) → t.below ≡ l ∷ ls → l.kept + 1 ≤ deepest (unit_code t.program l.unit)
  answer-room v made l ls is =
      by_levels t.top.1 (subst (λ ks. AreStandingBelow t.program old t.machine.nodes t.level.unit t.pending ks t.top.1) is standing-before.1) (standing-before.2 ∙ ap kept_by is)
    where
      by_levels : (q : Process) → AreStandingBelow t.program old t.machine.nodes t.level.unit t.pending (l ∷ ls) q → length t.pending ≡ l.kept + kept_by ls → l.kept + 1 ≤ deepest (unit_code t.program l.unit)
      by_levels [] stands counted = absurd stands
      by_levels (level ∷ levels) stands counted =
          let vs = drop (length t.pending - l.kept) t.pending in
          let addressed = unit_addressed t.program l.unit in
          let awaits = subst (λ y. Awaits y addressed level vs l.index) (result-is (Some made.0) made.1) stands.0.awaits in
          let within = stands_within (unit_code t.program l.unit) addressed level.statement (plug_work addressed.unit level.work v) (vs ++ v ∷ []) l.index refl (awaits v) in
          omega (arith, within, counted, length-drop (length t.pending - l.kept) t.pending, length-append vs (v ∷ []))

  -- ---- a fault

  pub failed-ended : (k : Kind) → IsEnded t.program layout (all_but (activations_on (t.top.0 ∷ t.top.1)) (is_stacked old)) old (state_failed t k)
  failed-ended k =
      let later = state_failed t k in
      record {
        activations_are = refl;
        store_is = refl;
        stacks_are = λ a.
            stacks-emptied old later t.process t.top [] h.lives refl a (once t.program t.choices a).0 refl
            ∙ sym (all_but-is (activations_on (t.top.0 ∷ t.top.1)) (is_stacked old) a);
        no_more = no-more t.program t.choices later layout t.process (t.top.0 ∷ t.top.1) [] (there h) refl (none-of (t.top.0 ∷ t.top.1)) refl;
      }

  pub failed-shown : (arena : Space) (nodes : Nodes) (line : ℕ) (k : Kind) → HaveLeft t h (state_failed t k) arena nodes → length arena.contents ≡ length t.machine.arena.contents → IsEffectOf t h (fails line k)
      → HasMadeTurn t (snapshot_failed t line k arena nodes)
  failed-shown arena nodes line k left size made =
      let same : fault_of t.program (top_before t) k ≡ fault_at t line k = λ i. record { process = t.process; unit = unit-is i; line = made.1 i; kind = k } in
      ended-shown (state_failed t k) [] refl refl made.0 arena nodes left (record { levels = []; operands = []; pending = [] }) (t.machine.faults ++ fault_at t line k ∷ []) size
      (λ a on. all-fewer (activations_on (t.top.0 ∷ t.top.1)) a (is_stacked old) (sym ((failed-ended k).stacks_are a) ∙ on)) (λ on. refl) refl (λ i. h.after.shows.faults i ++ sym same i ∷ []) refl

  -- ---- the levels of a process can leave one after the other

  pub can-leave : CanLeave t.machine.nodes (is_stacked old) (keys_of (t.level ∷ t.below)) (activations_on (t.top.0 ∷ t.top.1))
  can-leave =
      let s0 = standing-before in
      leaving t.program old t.machine.nodes (is_stacked old) (t.level ∷ t.below) (t.top.0 ∷ t.top.1) (s0.0.here, all-here t.program old t.machine.nodes t.level.unit t.pending t.below t.top.1 s0.1)
      (λ a on. on-stacked old a (t.process, t.top.0 ∷ t.top.1, there h, on))
      (λ a. few a)
    where
      few : (a : ℕ) → times a (activations_on (t.top.0 ∷ t.top.1)) ≤ 1
      few a = omega (arith, times_on-numbered a old.processes t.process (t.top.0 ∷ t.top.1) [] (there h), (once t.program t.choices a).0)

  pub can-all-leave : CanAllLeave t.machine.arena t.machine.nodes (keys_of (t.level ∷ t.below))
  can-all-leave = (frames_before t h, activations_on (t.top.0 ∷ t.top.1), h.after.shows.keeps, can-leave, lead-upwards t.program t.choices old refl)
