-- What a core keeps after a CALL, CREATE or reference shows the state then; the activation that it makes, and whether its frame has a gap.
use Rattle.std.proofs.Common.{◌≡◌, ℕ, suc, ◌+◌, ◌≤◌, Bool, true, false, List, [], ◌∷◌, ◌++◌, length, Some, refl, sym, ap, ◌∙◌, subst, arith, Option, None, if◌then◌else◌, nat_eq, is_some, IsSome, eqb-true, length-append, length-set, length-take-le, take}
use Rattle.std.proofs.lemmas.Option.{same_Some, none-some}
use Rattle.hep_machine.specs.Words.{Name, Value, Units, executable_from, function_name, unit_at, Binding, level_after_statement, Layout, frame_of, is_held, layout_of, common_cells, lowest_gap, remaining_layout, with_frame, numbered, unit_of, with_numbered, activation_of, Activation, Process, State, Actual, Scope, Bounds, frame_cells}
use Rattle.hep_arena.specs.Space.{Space}
use Rattle.hep_code.specs.Words.{Awaits, Stands}
use Rattle.hep_code.proofs.CodePositions.{StandsAt, after_statement_stands, entry_stands}
use Rattle.hep_image.specs.BoundActivations.{AreKept}
use Rattle.hep_layout.specs.Words.{FrameNode, Nodes, also, is_stacked, new_node, frame_from}
use Rattle.hep_layout.proofs.Memory.{memory-fits}
use Rattle.hep_proc.specs.FrameTable.{AreOfSomeState as ArenaKept}
use Rattle.hep_step.specs.declared.call_kind.CallKind.{CallKind}
use Rattle.hep_step.specs.declared.call_kind.CallKind.TheVariants.{Calls, Creates, Refers}
use Rattle.hep_step.specs.NextCalls.{GoesOn, is_creation}
use Rattle.hep_step.specs.Simulation.{unit_addressed}
use Rattle.hep_proc.specs.declared.process.Local.{Local}
use Rattle.hep_proc.specs.Stacks.{Stack}
use Rattle.hep_state.specs.Words.{Snapshot, IsTurning, TurnOf, call_in, frames_before, state_before, state_failed, HasMadeTurn, HasGaps, HasNoGap, HasEntered, HasResultBy, IsAfterCall, entered_level, snapshot_made_by, stacks_made_by, state_made, IsMaking, IsUnit, IsEnding}
use Rattle.hep_state.proofs.LeftActivations.{kept-entered}
use Rattle.hep_state.proofs.SettledPositions.{AreOn, AreMade, AreStanding, AreStandingBelow, IsHere, StandsOnTop, below-still, here-at, here-still, keeps-last, made-more}
use Rattle.hep_state.proofs.SilentTurns.{standing-before}
use Rattle.hep_state.proofs.Runs.{layout-more, all-remain, standing-changed, standing-more, stepped-after, layout-left}
use Rattle.hep_binding.specs.Calling.{AreActualsPassed, CallOf, IsKeptIn, called_activation, frames_with, layout_with, level_behind, level_called, state_begun, state_called, state_created, state_made_by, IsWritten, unit_begun}
use Rattle.hep_binding.proofs.BegunActivations.{long, unit-is}
use Rattle.hep_binding.proofs.Calls.{behind-keeps, entry-number, made-begun, made-stacks}
use Rattle.hep_binding.proofs.EnteredFrames.{made-keeps}
use Rattle.hep_binding.proofs.Nodes.{node-new, node-stays}
use Rattle.hep_arena.specs.Holes.{first_fit}
use Rattle.hep_step.specs.declared.dummy_storage.DummyStorage.{DummyStorage}
use Rattle.hep_binding.specs.AdjustableBounds.{AreShaping, IsFramedBy, cells_of_shapes, cells_to_locals}
use Rattle.hep_binding.specs.FrameWriting.{written_up_to}
use Rattle.hep_binding.proofs.ShapedDummies.{shapes-last}
use Rattle.std.specs.Option.{option_map}
use Rattle.hep_machine.specs.declared.event.Kind.{Kind}
use Rattle.hep_step.specs.Effects.{fails}
use Rattle.hep_machine.proofs.Others.{step-is}

module _ {t : TurnOf} (h : IsTurning t) (u : ℕ) (actuals : List Actual) (b : Binding) where
  abbrev call : CallOf
  call = call_in t u actuals b

  abbrev old : State
  old = state_before t

  abbrev layout : Layout
  layout = h.after.layout

  -- ---- in the state to which a CALL, CREATE or reference leads

  module _ (creates : Bool) (key : ℕ) (arena : Space) (nodes : Nodes) (e : HasEntered t h u key (state_made_by creates (call_in t u actuals b)) arena nodes) where
    abbrev later : State
    later = state_made_by creates call

    abbrev n : ℕ
    n = length later.activations

    abbrev now : Layout
    now = layout_with t.program later layout e.first

    begun : later.activations ≡ (state_begun call).activations
    begun = made-begun creates call

    number : n ≡ suc (length old.activations)
    number = long call later begun

    keeps : IsKeptIn (frames_before t h) later e.first arena nodes
    keeps = made-keeps creates call h.lives layout e.first (length t.machine.arena.contents) h.after.shows.keeps.memory.laid (is_held old) arena nodes e.written

    laid : layout_of t.program t.cells is_held (t.choices ++ t.process ∷ []) ≡ Some now
    laid =
        layout-more t.program t.cells t.choices t.process layout later (Some e.first) h.after.laid e.made number e.gap
        ∙ all-remain t later e.made now (also n (is_held old)) arena nodes keeps

    stay : (k : ℕ) (q : FrameNode) → t.machine.nodes k ≡ Some q → is_stacked later q.activation ≡ true → (r : FrameNode) × (nodes k ≡ Some r) × (r.activation ≡ q.activation)
    stay k q at on =
        let kept = node-stays t.machine.nodes key (new_node n u e.first (frame_of t.program later n) t.level.key) t.level.key e.vacant k q at in
        (kept.0, ap (λ (z : Nodes). z k) e.nodes_are ∙ kept.1, kept.2)

    made : AreMade old later
    made = made-more old later (called_activation call) begun

    -- the new activation
    new-stands : StandsOnTop t.program later nodes [] (entered_level t.program u key) (level_called call)
    new-stands =
        let is = entry-number call ∙ ap (λ (xs : List Activation). length xs) (sym begun) in
        record {
          here =
              record {
                inside = e.inside;
                node = new_node n u e.first (frame_of t.program later n) t.level.key;
                there = ap (λ (z : Nodes). z key) e.nodes_are ∙ node-new t.machine.nodes key (new_node n u e.first (frame_of t.program later n) t.level.key) t.level.key;
                activation = is;
                made = (omega (arith, is, number), omega (arith, is));
                unit = ap (unit_of later) is ∙ unit-is call later begun;
              };
          stands = entry_stands (unit_addressed t.program u) (level_called call) (executable_from (unit_at t.program u) 0);
        }

    -- the one that made it
    maker-here : (level : Local) (a : ℕ) → level.key ≡ t.level.key → level.unit ≡ t.level.unit → a ≡ t.top.0.activation → is_stacked later a ≡ true → IsHere t.program later nodes level a
    maker-here level a key_is unit_is same on =
        here-at t.program later nodes t.level level t.top.0.activation a key_is unit_is same (
        here-still t.program old later t.machine.nodes nodes made stay t.level t.top.0.activation (standing-before h).0.here (sym (ap (is_stacked later) same) ∙ on))

    below-stand : AreOn later t.top.1 → AreStandingBelow t.program later nodes t.level.unit t.pending t.below t.top.1
    below-stand = below-still t.program old later t.machine.nodes nodes made stay t.level.unit t.pending t.below t.top.1 (standing-before h).1

    -- each process, where that of the turn has another stack
    all-stand : (k : Stack) (q : Process) → (AreOn later q → AreStanding t.program later nodes k.operands k.pending k.levels q)
        → (i : ℕ) (j : Stack) (r : Process) → numbered (with_numbered t.machine.processes t.process k) i ≡ Some j → numbered (with_numbered old.processes t.process q) i ≡ Some r → AreOn later r → AreStanding t.program later nodes j.operands j.pending j.levels r
    all-stand k q = standing-changed h later nodes k q made stay

    -- and there is one process more
    more-stand : (k last : Stack) (q newest : Process) → length (with_numbered t.machine.processes t.process k) ≡ length (with_numbered old.processes t.process q)
        → (AreOn later q → AreStanding t.program later nodes k.operands k.pending k.levels q) → AreStanding t.program later nodes last.operands last.pending last.levels newest
        → (i : ℕ) (j : Stack) (r : Process) → numbered (with_numbered t.machine.processes t.process k ++ last ∷ []) i ≡ Some j → numbered (with_numbered old.processes t.process q ++ newest ∷ []) i ≡ Some r → AreOn later r → AreStanding t.program later nodes j.operands j.pending j.levels r
    more-stand k last q newest count own new = standing-more h later nodes k q made stay own last newest count (λ on. new)

    -- what the dummy arguments of each activation stand for, that of the new one and of those that were there
    kept-then : (a : ℕ) → is_stacked later a ≡ true → AreKept t.program later now a
    kept-then a on = by_number (nat_eq a n) refl (sym (made-stacks call h.lives creates a) ∙ on) where
      by_number : (c : Bool) → nat_eq a n ≡ c → (if c then true else is_stacked old a) ≡ true → AreKept t.program later now a
      by_number true is on = subst (AreKept t.program later now) (sym (eqb-true a n is)) e.kept
      by_number false is on =
          let s = h.after.shows in
          kept-entered t.program old later (called_activation call) layout (length t.machine.arena.contents) e.first a s.keeps.memory.laid begun (s.keeps.tree.made a (s.keeps.tree.stacked a on)).1 (s.kept a on)

    shown : (processes : List Stack) → length processes ≡ length later.processes
        → ((i : ℕ) (k : Stack) (q : Process) → numbered processes i ≡ Some k → numbered later.processes i ≡ Some q → AreOn later q → AreStanding t.program later nodes k.operands k.pending k.levels q)
        → later.records ≡ old.records → later.faults ≡ old.faults → later.halted ≡ old.halted → HasMadeTurn t (record t.machine { arena = arena; nodes = nodes; processes = processes; activations = t.machine.activations + 1 })
    shown processes count standing records faults halted =
        let s = h.after.shows in
        let new : Snapshot = record t.machine { arena = arena; nodes = nodes; processes = processes; activations = t.machine.activations + 1 } in
        let made_so_far : t.machine.activations + 1 ≡ length later.activations = omega (arith, s.activations, number) in
        stepped-after t later e.made new now (also n (is_held old)) keeps kept-then count standing laid e.size made_so_far (s.records ∙ sym records) (s.faults ∙ sym faults) (s.halted ∙ sym halted)

  -- as many processes have stacks, once that of the turn has another one
  set-many : (k : Stack) (q : Process) → length (with_numbered t.machine.processes t.process k) ≡ length (with_numbered (state_before t).processes t.process q)
  set-many k q = length-set t.machine.processes _ k ∙ (h.after.shows.processes ∙ sym (length-set old.processes _ q))

  -- the new one is above the one that makes it, which keeps operands until it ends
  above-shown : (key kept index : ℕ) (arena : Space) (nodes : Nodes) → HasEntered t h u key (state_called call) arena nodes → kept ≤ length t.operands → Awaits (function_name (unit_at t.program u)) (unit_addressed t.program t.level.unit) t.top.0 (take kept t.operands) index
      → HasMadeTurn t (snapshot_made_by false t u key kept index arena nodes)
  above-shown key kept index arena nodes e few awaits =
      let later = state_called call in
      let maker : Local = record t.level { kept = kept; index = index } in
      let vs = take kept t.operands in
      let k : Stack = record { levels = entered_level t.program u key ∷ (maker ∷ t.below); operands = []; pending = t.pending ++ vs } in
      let q : Process = level_called call ∷ (t.top.0 ∷ t.top.1) in
      let many : length vs ≡ kept = length-take-le kept t.operands few in
      let parts = keeps-last t.pending vs kept (sym many) in
      let own : AreOn later q → AreStanding t.program later nodes [] (t.pending ++ vs) k.levels q =
      λ on. (
        new-stands false key arena nodes e,
        (
          record { here = maker-here false key arena nodes e maker t.top.0.activation refl refl refl on.2.1; awaits = subst (λ ws. Awaits (function_name (unit_at t.program u)) (unit_addressed t.program t.level.unit) t.top.0 ws index) (sym parts.0) awaits },
          subst (λ rest. AreStandingBelow t.program later nodes t.level.unit rest t.below t.top.1) (sym parts.1) (below-stand false key arena nodes e on.2.2),
        ),
        omega (arith, (standing-before h).2, many, length-append t.pending vs),
      ) in
      shown false key arena nodes e (stacks_made_by false t kept (entered_level t.program u key) (record t.level { index = index })) (set-many k q) (all-stand false key arena nodes e k q own) refl refl refl

  -- where it does so by CALL or by reference
  awaits-so : (x : Option Name) (way : CallKind) (vs : List Value) (index : ℕ) → is_creation way ≡ false → HasResultBy way x → GoesOn way (unit_addressed t.program t.level.unit) t.top.0 vs index → Awaits x (unit_addressed t.program t.level.unit) t.top.0 vs index
  awaits-so x Calls vs index above result goes = subst (λ y. Awaits y (unit_addressed t.program t.level.unit) t.top.0 vs index) (sym result) goes
  awaits-so x Refers vs index above result goes = subst (λ y. Awaits y (unit_addressed t.program t.level.unit) t.top.0 vs index) (sym result.1) goes
  awaits-so x Creates vs index above result goes = absurd (cc above)

  -- the new one is on top of its caller, or a process of its own
  pub made-shown : (way : CallKind) (key kept index : ℕ) (arena : Space) (nodes : Nodes) → HasEntered t h u key (state_made_by (is_creation way) (call_in t u actuals b)) arena nodes → IsAfterCall way t u kept index
      → HasMadeTurn t (snapshot_made_by (is_creation way) t u key kept index arena nodes)
  made-shown Calls key kept index arena nodes e at = above-shown key kept index arena nodes e at.few (awaits-so _ Calls (take kept t.operands) index refl at.result at.onward)
  made-shown Refers key kept index arena nodes e at = above-shown key kept index arena nodes e at.few (awaits-so _ Refers (take kept t.operands) index refl at.result at.onward)
  made-shown Creates key kept index arena nodes e at =
      let later = state_created call in
      let k : Stack = record { levels = record t.level { index = index } ∷ t.below; operands = []; pending = t.pending } in
      let q : Process = level_behind call ∷ t.top.1 in
      let k2 : Stack = record { levels = entered_level t.program u key ∷ []; operands = []; pending = [] } in
      let q2 : Process = level_called call ∷ [] in
      let count : length (with_numbered t.machine.processes t.process k ++ k2 ∷ []) ≡ length (with_numbered old.processes t.process q ++ q2 ∷ []) =
      length-append (with_numbered t.machine.processes t.process k) (k2 ∷ []) ∙ (ap (λ z. z + 1) (set-many k q) ∙ sym (length-append (with_numbered old.processes t.process q) (q2 ∷ []))) in
      let addressed = unit_addressed t.program t.level.unit in
      let unit_is = (standing-before h).0.here.unit in
      let own : AreOn later q → AreStanding t.program later nodes [] t.pending k.levels q =
      λ on. (
        record {
          here = maker-here true key arena nodes e (record t.level { index = index }) (level_behind call).activation refl refl (behind-keeps call).1 on.1;
          stands =
              subst (λ v. Stands addressed (level_after_statement (unit_at t.program v) t.top.0).statement (level_after_statement (unit_at t.program v) t.top.0).work [] index) (sym unit_is) (
              subst (StandsAt addressed (level_after_statement (unit_at t.program t.level.unit) t.top.0)) (sym at.onward.0) (after_statement_stands addressed t.top.0));
        },
        below-stand true key arena nodes e on.2,
        (standing-before h).2,
      ) in
      shown true key arena nodes e (stacks_made_by true t kept (entered_level t.program u key) (record t.level { index = index })) count (more-stand true key arena nodes e k k2 q q2 (set-many k q) own (new-stands true key arena nodes e, tt, refl)) refl refl refl

-- ---- the activation that is made, and what it is given

-- as many are given as are passed
pub passed-many : (program : Units) (s : State) (frames : Layout) (scope : Scope) (ys : List Actual) (gs : List DummyStorage) → AreActualsPassed program s frames scope ys gs → length gs ≡ length ys
passed-many program s frames scope [] [] h = refl
passed-many program s frames scope (y ∷ ys) (g ∷ gs) h = ap suc (passed-many program s frames scope ys gs h.1)
passed-many program s frames scope _ _ h = absurd h

-- ---- its frame, with the cells of its dummy arguments written

pub record IsBegunIn (t : TurnOf) (turning : IsTurning t) (later : State) (n key : ℕ) (shapes : List (Option Bounds)) (arena : Space) (nodes : Nodes) : Type 0 where
  pub first : ℕ
  pub node : FrameNode
  pub fit : first_fit n t.machine.arena.holes ≡ Some first
  pub gap : lowest_gap (length t.machine.arena.contents) n (common_cells t.program) turning.after.layout ≡ Some first
  pub written : IsWritten (frames_before t turning) later first (cells_to_locals (unit_begun t.program later)) arena nodes
  pub there : nodes key ≡ Some node
  pub framed : IsFramedBy t.program later (layout_with t.program later turning.after.layout first) (length later.activations) node
  pub shaping : AreShaping t.program later (length later.activations) shapes

module _ {t : TurnOf} {turning : IsTurning t} {later : State} {n key : ℕ} {shapes : List (Option Bounds)} {arena : Space} {nodes : Nodes} (h : IsBegunIn t turning later n key shapes arena nodes) where
  -- the bounds have their cells in it
  pub shapes-inside : (m : FrameNode) → nodes key ≡ Some m → cells_of_shapes shapes ≤ m.cells
  shapes-inside m e =
      let a = length later.activations in
      let same = ap (λ (z : FrameNode). z.cells) (same_Some h.node m (sym h.there ∙ e)) in
      omega (arith, same, h.framed.sized, shapes-last (unit_at t.program (unit_of later a)) (activation_of later a).dummies shapes h.shaping.shapes_are)

  pub begun-kept : ArenaKept arena nodes
  begun-kept = (written_up_to (frames_with (frames_before t turning) later h.first) (length later.activations) (cells_to_locals (unit_begun t.program later)), h.written)

-- ---- whether its frame has a gap

module _ {way : CallKind} {t : TurnOf} {u n entry kept index : ℕ} {given : List DummyStorage} {shapes : List (Option Bounds)} (h : IsMaking way t u kept index given shapes) (unit : IsUnit t.program u n entry) where
  abbrev called : State
  called = state_made h

  abbrev calling : CallOf
  calling = call_in t u h.actuals h.binding

  abbrev laid-out : Layout
  laid-out = h.turning.after.layout

  -- the gaps of the arena are those of the layout
  gap-is : first_fit n t.machine.arena.holes ≡ lowest_gap t.cells (frame_of t.program called (length called.activations)) (common_cells t.program) laid-out
  gap-is =
      let size : n ≡ frame_of t.program called (length called.activations) = unit.cells_are ∙ ap (λ v. frame_cells (unit_at t.program v)) (sym (unit-is calling called (made-begun (is_creation way) calling))) in
      memory-fits t.program (state_before t) laid-out t.machine.arena.contents t.machine.arena.holes n h.turning.after.shows.keeps.memory (omega (arith, unit.cells_are))
      ∙ (λ i. lowest_gap (h.turning.after.size i) (size i) (common_cells t.program) laid-out)

  laid-by : (gap : Option ℕ) → first_fit n t.machine.arena.holes ≡ gap
      → layout_of t.program t.cells is_held (t.choices ++ t.process ∷ []) ≡ option_map (remaining_layout is_held called) (option_map (λ first. with_frame laid-out (frame_from t.program called (length called.activations) first)) gap)
  laid-by gap e = layout-more t.program t.cells t.choices t.process laid-out called gap h.turning.after.laid h.made (long calling called (made-begun (is_creation way) calling)) (sym gap-is ∙ e)

  pub called-no-gap : first_fit n t.machine.arena.holes ≡ None → HasNoGap t.program t.cells t.choices t.process
  called-no-gap none = record { stepped = λ e. none-some called (sym e ∙ h.made); full = laid-by None none }

  pub called-gap : IsSome (first_fit n t.machine.arena.holes) → HasGaps t.program t.cells t.choices t.process
  called-gap some none = by_gap (first_fit n t.machine.arena.holes) refl some where
    by_gap : (gap : Option ℕ) → first_fit n t.machine.arena.holes ≡ gap → is_some gap ≡ true → ⊥
    by_gap None e there = absurd cc
    by_gap (Some first) e there = none-some (remaining_layout is_held called (with_frame laid-out (frame_from t.program called (length called.activations) first))) (sym none ∙ laid-by (Some first) e)

-- each frame has its gap at a fault
pub fault-gap : {t : TurnOf} (line : ℕ) (k : Kind) → IsEnding t (fails line k) → HasGaps t.program t.cells t.choices t.process
fault-gap {t} line k h none =
    let called = state_failed t k in
    let layout = h.turning.after.layout in
    none-some (remaining_layout is_held called layout) (sym none ∙ layout-left t.program t.cells t.choices t.process layout called h.turning.after.laid (step-is t.program t.process (state_before t) called h.turning.running h.simulated.0) refl)
