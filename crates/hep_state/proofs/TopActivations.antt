-- The top activation of a process whose turn it is runs as the laws of steps ask; which processes have turns.
use Rattle.std.proofs.Common.{◌≡◌, ◌≢◌, inl, ℕ, zero, suc, ◌+◌, ◌<◌, ◌≤◌, true, List, [], ◌∷◌, drop, length, Some, None, refl, sym, ap, ◌∙◌, subst, arith, inr, false, Option, ◌||◌, slice_get, is_some, eq-eqb, length-set}
use Rattle.std.proofs.lemmas.Option.{same_Some, none-some, slice_get_cases, slice_get_within}
use Rattle.hep_machine.specs.Words.{Name, Value, index_among, is_array, Units, dummies_of, unit_at, Layout, activations_on, is_number_among, numbered, unit_of, with_numbered, living, top_of, run, Activation, Process, State, Work, Top, scope_of, state_with_level, unit_on_top}
use Rattle.hep_machine.specs.declared.slot.Slot.{Slot}
use Rattle.hep_machine.specs.State.{Level as SourceLevel}
use Rattle.hep_arena.specs.Gaps.{frame_among}
use Rattle.hep_code.specs.declared.instruction.Instruction.TheVariants.{Step}
use Rattle.hep_code.specs.declared.instruction.Evaluation.TheVariants.{Load, Test}
use Rattle.hep_code.specs.declared.instruction.Operation.{Operation}
use Rattle.hep_code.specs.declared.instruction.Operation.TheVariants.{Evaluate, Store, EnterLoop, EndLoop, Answer}
use Rattle.hep_code.specs.declared.variable.Variable.TheVariants.{Absent}
use Rattle.hep_code.specs.Words.{IsAddressed, HoldsLoops, Stands}
use Rattle.hep_layout.specs.Words.{address, Describes, level_of, descriptor_slots, times, is_stacked}
use Rattle.hep_layout.proofs.Stacks.{level-found, levels-stay, once, times_on-numbered, all_levels}
use Rattle.hep_layout.proofs.FrameTree.{on-stacked}
use Rattle.hep_image.specs.BoundActivations.{AreClosed, IsBound}
use Rattle.hep_image.specs.Constant.{HasConstantShape}
use Rattle.hep_image.proofs.CountedLoops.{counted, loop-at}
use Rattle.hep_image.proofs.NamedNumbers.{array-listed}
use Rattle.hep_image.proofs.Variables.{any-addressed}
use Rattle.hep_image.proofs.FrameBounds.{few-dimensions}
use Rattle.hep_image.specs.Arrays.{ArePlacedArrays}
use Rattle.hep_image.specs.Places.{arrays_of, start_of, variable_of}
use Rattle.hep_image.specs.declared.array.Start.{Start}
use Rattle.hep_image.proofs.Numbers.{unit-there}
use Rattle.hep_binding.specs.AcceptedLawsInstructions.{variables_in_operation}
use Rattle.hep_binding.specs.AcceptedLawsPlacedCode.{ArePlaced, code_in}
use Rattle.hep_step.specs.Simulation.{counts_in, found_in, unit_addressed, unit_code, variable_in}
use Rattle.hep_proc.specs.declared.process.Local.{Local}
use Rattle.hep_proc.specs.Stacks.{Stack, stack_with}
use Rattle.hep_proc.proofs.Levels.{has-levels}
use Rattle.hep_state.specs.Words.{HasLevels, Snapshot, IsTopRunning, IsTurning, TurnOf, state_before, top_before, top_frame, turn_settled, turn_with, Shows, IsAbsent, IsAfter}
use Rattle.hep_state.proofs.SilentTurns.{top-activation, top-node, standing-before, unit-is}
use Rattle.hep_binding.proofs.FoundShapes.{among-numbered, found, times-all}
use Rattle.hep_image.proofs.Distinct.{index_of}
use Rattle.hep_binding.proofs.Calls.{set-numbered}
use Rattle.hep_state.proofs.SettledPositions.{are-on, AreStanding, made-same, stack-again, stack-standing, top-stands}
use Rattle.hep_state.proofs.Runs.{set-same, standing-changed, there}
use Rattle.hep_source.proofs.Tests.{dropped-first}

-- what is known of each unit of an accepted program that has a main program, and of the activations in its runs
pub record IsKnown (program : Units) : Type 0 where
  pub placed : (u i line : ℕ) (o : Operation) → u < length program → slice_get (code_in program u) i ≡ Some (Step line o) → ArePlaced (variables_in_operation o)
  pub begun : (u i : ℕ) (x : Name) → u < length program → slice_get (arrays_of (unit_at program u)) i ≡ Some x → (at : Start) × (is_array (unit_at program u) x ≡ true) × (start_of program (unit_at program u) x ≡ Some at)
  pub closed : AreClosed program
  pub bound : (choices : List ℕ) (a : ℕ) → 1 ≤ a → a ≤ length (run program choices).activations → IsBound program (run program choices) a

-- ---- lists

pub dropped-behind : {A : Type 0} (xs : List A) (i j : ℕ) (x : A) (behind : List A) (y : A) → drop i xs ≡ x ∷ behind → slice_get behind j ≡ Some y → slice_get xs (suc (i + j)) ≡ Some y
dropped-behind [] zero j x behind y e h = absurd cc
dropped-behind [] (suc i) j x behind y e h = absurd cc
dropped-behind (z ∷ zs) zero j x behind y e h =
    let same : 0 + j ≡ j = omega arith in
    ap (slice_get zs) same ∙ (ap (λ l. slice_get l j) (ap (drop 1) e) ∙ h)
dropped-behind (z ∷ zs) (suc i) j x behind y e h =
    let same : suc i + j ≡ suc (i + j) = omega arith in
    ap (slice_get zs) same ∙ dropped-behind zs i j x behind y e h

-- ---- operations

none_absent : (line : ℕ) (o : Operation) → ArePlaced (variables_in_operation o) → variable_in o ≢ Some Absent
none_absent line (Evaluate (Load x n)) h e = h 0 x refl (same_Some x Absent e)
none_absent line (Evaluate (Test g x n)) h e = h 0 x refl (same_Some x Absent e)
none_absent line (Store x n next) h e = h 0 x refl (same_Some x Absent e)
none_absent line (EnterLoop x cells inside behind) h e = h 0 x refl (same_Some x Absent e)
none_absent line (EndLoop x cells inside behind) h e = h 0 x refl (same_Some x Absent e)
none_absent line (Answer x) h e = h 0 x refl (same_Some x Absent e)
none_absent line _ h e = absurd cc

-- ---- arrays

-- one that is no dummy argument has a constant shape
own-shaped : (program : Units) → AreClosed program → (u : ℕ) → u < length program → (x : Name) → index_among x (dummies_of (unit_at program u)) ≡ None → HasConstantShape (unit_at program u) x
own-shaped program closed u inside x none array = let shape = closed u (unit_at program u) x (unit-there program u inside) array none in (shape.0, shape.1)

-- ---- the top activation

module _ {t : TurnOf} (h : IsTurning t) (known : IsKnown t.program) where
  abbrev old : State
  old = state_before t

  abbrev top : Top
  top = top_before t

  abbrev layout : Layout
  layout = h.after.layout

  abbrev number : ℕ
  number = unit_of old t.top.0.activation

  inside : number < length t.program
  inside = subst (λ u. u < length t.program) (sym (unit-is h)) (standing-before h).0.here.inside

  framed : frame_among t.top.0.activation layout ≡ Some (top_frame t)
  framed = ap (λ a. frame_among a layout) (sym (top-activation h)) ∙ h.after.shows.keeps.framed t.level.key _ (top-node h)

  -- another level of the activation is found by it
  itself : (after : SourceLevel) → after.activation ≡ t.top.0.activation → level_of (state_with_level top after) t.top.0.activation ≡ Some after
  itself after same = found a (all_levels qs) after few (among-numbered after qs t.process (after ∷ t.top.1) (set-numbered old.processes t.process (t.top.0 ∷ t.top.1) (after ∷ t.top.1) there_is) (inl refl)) same where
    a : ℕ
    a = t.top.0.activation

    qs : List Process
    qs = with_numbered old.processes t.process (after ∷ t.top.1)

    there_is : numbered old.processes t.process ≡ Some (t.top.0 ∷ t.top.1)
    there_is = there h

    few : times a (activations_on (all_levels qs)) ≤ 1
    few =
        let alike : times a (activations_on (after ∷ t.top.1)) ≡ times a (activations_on (t.top.0 ∷ t.top.1)) = ap (λ b. times a (b ∷ activations_on t.top.1)) same in
        omega (arith, times-all a qs, times_on-numbered a old.processes t.process (t.top.0 ∷ t.top.1) (after ∷ t.top.1) there_is, alike, (once t.program t.choices a).0)

  bound : IsBound t.program old t.top.0.activation
  bound = let here = (standing-before h).0.here in known.bound t.choices t.top.0.activation here.made.0 here.made.1

  on-top : is_stacked old t.top.0.activation ≡ true
  on-top =
      let a = t.top.0.activation in
      on-stacked old a (t.process, t.top.0 ∷ t.top.1, there h, ap (λ b. b || is_number_among a (activations_on t.top.1)) (eq-eqb a a refl))

  addressed : (x : Name) (ss : List Value) → variable_of t.program (unit_on_top t.program top) x ≢ Absent
      → IsAddressed (address t.program old layout) (scope_of t.program old t.top.0.activation) (found_in t.program number t.machine.arena.contents (top_frame t).first) (variable_of t.program (unit_on_top t.program top)) x ss
  addressed x ss =
      any-addressed t.program old layout t.machine.arena.contents t.top.0.activation (top_frame t) x ss h.after.shows.keeps.described framed (unit-there t.program number inside) bound
      (h.after.shows.kept t.top.0.activation on-top) (own-shaped t.program known.closed number inside x)

  counts : (s : State) (after : SourceLevel) (slots : List Slot) → s.activations ≡ old.activations → Describes t.program s layout (descriptor_slots t.program s layout) slots → level_of s t.top.0.activation ≡ Some after
      → HoldsLoops (unit_on_top t.program top) (counts_in (unit_on_top t.program top) slots (top_frame t).first) after.loops
  counts s after slots same described on =
      let one : unit_of s t.top.0.activation ≡ number = ap (λ (xs : List Activation). unit_of (record old { activations = xs }) t.top.0.activation) same in
      subst (λ u. HoldsLoops (unit_at t.program u) (counts_in (unit_at t.program u) slots (top_frame t).first) after.loops) one (
      counted t.program s layout slots t.top.0.activation (top_frame t) after described framed on)

  pub top-runs : IsTopRunning t h
  top-runs =
      let k = h.after.shows.keeps in
      record {
        running = h.running;
        lives = h.lives;
        level = level-found t.program t.choices t.process t.top h.lives;
        others = λ after b same other. levels-stay old (state_with_level top after) t.process t.top after b h.lives refl same other;
        itself = itself;
        memory = k.memory;
        described = k.described;
        framed = framed;
        stands = subst (λ u. Stands (unit_addressed t.program u) t.top.0.statement t.top.0.work t.operands t.level.index) (sym (unit-is h)) (standing-before h).0.stands;
        placed = λ i line o behind ahead. none_absent line o (known.placed number i line o inside (dropped-first (unit_code t.program number) i (Step line o) behind ahead));
        addressed = addressed;
        looped = λ d i is less. loop-at t.program old layout t.top.0.activation d i (top_frame t) framed is less;
        counted = counts;
      }

  pub arrays-placed : ArePlacedArrays t.program (unit_at t.program t.level.unit)
  arrays-placed =
      subst (λ u. ArePlacedArrays t.program (unit_at t.program u)) (unit-is h) (λ x array.
      let listed = index_of x (arrays_of (unit_at t.program number)) (array-listed x (unit_at t.program number) array) in
      let begun = known.begun number listed.0 x inside listed.1 in
      record {
        begins = λ none. none-some begun.0 (sym none ∙ begun.2);
        dimensions = few-dimensions t.program old t.top.0.activation x bound array (own-shaped t.program known.closed number inside x);
        own = own-shaped t.program known.closed number inside x;
      })

-- ---- the values that stand ahead are put behind the operands

module _ {t : TurnOf} (h : IsTurning t) where
  pub settled : (operands : List Value) (index : ℕ)
      → ((k : ℕ) (work : Work) → Stands (unit_addressed t.program t.level.unit) k work t.operands t.level.index → Stands (unit_addressed t.program t.level.unit) k work operands index)
      → IsTurning (turn_settled t operands index)
  settled operands index stands =
      let old = state_before t in
      let s = h.after.shows in
      let layout = h.after.layout in
      let k = stack_with (record t.level { index = index }) t.below operands t.pending in
      let q : Process = t.top.0 ∷ t.top.1 in
      let s0 = standing-before h in
      let moved = top-stands t.program old t.machine.nodes t.operands operands t.pending t.level t.below t.top.0 t.top.0 t.top.1 index s0 refl (stands t.top.0.statement t.top.0.work s0.0.stands) in
      let shown : Shows t.program old layout (turn_settled t operands index).machine =
      record {
        keeps = s.keeps;
        kept = s.kept;
        processes = length-set t.machine.processes _ k ∙ s.processes;
        stacks = λ i j r here on-it.
            let on = are-on t.program t.choices i r on-it in
            stack-again t.program old t.machine.nodes t.machine.arena.contents layout s.keeps.described s.keeps.framed j r (
            standing-changed h old t.machine.nodes k q (made-same old old refl) (λ key x e on. (x, e, refl)) (λ on. moved) i j r here (sym (ap (λ qs. numbered qs i) (set-same old.processes t.process q (there h))) ∙ on-it) on) on;
        activations = s.activations;
        records = s.records;
        faults = s.faults;
        halted = s.halted;
      } in
      record {
        after = record { layout = layout; laid = h.after.laid; size = h.after.size; shows = shown };
        running = h.running;
        kept = set-numbered t.machine.processes t.process (stack_with t.level t.below t.operands t.pending) k h.kept;
        lives = h.lives;
      }

-- ---- which processes live

-- where lists are as long
pub there-too : {A B : Type 0} (xs : List A) (ys : List B) (j : ℕ) (x : A) → length xs ≡ length ys → slice_get xs j ≡ Some x → (y : B) × (slice_get ys j ≡ Some y)
there-too xs ys j x same e = elim (slice_get_cases ys j).1 [ inl there ↦ (there.0, there.2) | inr past ↦ absurd (omega (arith, slice_get_within xs j x e, past.0, same)) ]

-- lists of one length have elements of the same numbers
pub numbered-there : {A B : Type 0} (xs : List A) (ys : List B) (p : ℕ) (x : A) → length xs ≡ length ys → numbered xs p ≡ Some x → (y : B) × (numbered ys p ≡ Some y)
numbered-there xs ys zero x e there = absurd (none-some x there)
numbered-there xs ys (suc i) x e there = there-too xs ys i x e there

module _ {program : Units} {cells : ℕ} {choices : List ℕ} {m : Snapshot} (p : ℕ) (h : IsAfter program cells choices m) where
  standing-of : (k : Stack) (q : Process) → numbered m.processes p ≡ Some k → numbered (run program choices).processes p ≡ Some q → AreStanding program (run program choices) m.nodes k.operands k.pending k.levels q
  standing-of k q kept there = stack-standing program (run program choices) m.nodes m.arena.contents k q (h.shows.stacks p k q kept there)

  pub turning : (levels : HasLevels m p) → m.halted ≡ false → (top : SourceLevel × Process) × IsTurning (turn_with program cells choices levels top)
  turning levels running =
      let k = stack_with levels.level levels.below levels.operands levels.pending in
      let q = numbered-there m.processes (run program choices).processes p k h.shows.processes levels.kept in
      by_process q.0 q.1 (standing-of k q.0 levels.kept q.1)
    where
      by_process : (q : Process) → numbered (run program choices).processes p ≡ Some q → AreStanding program (run program choices) m.nodes levels.operands levels.pending (levels.level ∷ levels.below) q
          → (top : SourceLevel × Process) × IsTurning (turn_with program cells choices levels top)
      by_process [] on-it standing = absurd standing
      by_process (level ∷ levels_there) on-it standing = ((level, levels_there), record { after = h; running = sym h.shows.halted ∙ running; kept = levels.kept; lives = ap top_of on-it })

  pub absent-halted : m.halted ≡ true → IsAbsent program cells choices p m
  absent-halted e = record { none = inl (sym h.shows.halted ∙ e); after = h }

  pub absent-ended : (vs pending : List Value) → numbered m.processes p ≡ Some (record { levels = []; operands = vs; pending = pending }) → IsAbsent program cells choices p m
  absent-ended vs pending kept =
      let k : Stack = record { levels = []; operands = vs; pending = pending } in
      let q = numbered-there m.processes (run program choices).processes p k h.shows.processes kept in
      record { none = inr (by_process q.0 q.1 (standing-of k q.0 kept q.1)); after = h }
    where
      by_process : (q : Process) → numbered (run program choices).processes p ≡ Some q → AreStanding program (run program choices) m.nodes vs pending [] q → living (run program choices) p ≡ None
      by_process [] on-it standing = ap top_of on-it
      by_process (level ∷ levels) on-it standing = absurd standing

  pub none-lives : numbered m.processes p ≡ None → living (run program choices) p ≡ None
  none-lives none = by_process (numbered (run program choices).processes p) refl where
    by_process : (o : Option Process) → numbered (run program choices).processes p ≡ o → living (run program choices) p ≡ None
    by_process None e = ap top_of e
    by_process (Some q) e = let k = numbered-there (run program choices).processes m.processes p q (sym h.shows.processes) e in absurd (none-some k.0 (sym none ∙ k.1))

  pub absent-none : numbered m.processes p ≡ None → IsAbsent program cells choices p m
  absent-none none = record { none = inr (none-lives none); after = h }

  -- it lives just where it has levels
  pub lives-by : (k : Stack) → numbered m.processes p ≡ Some k → is_some (living (run program choices) p) ≡ has-levels k.levels
  lives-by k kept =
      let q = numbered-there m.processes (run program choices).processes p k h.shows.processes kept in
      by_levels k.levels q.0 q.1 (standing-of k q.0 kept q.1)
    where
      by_levels : (ls : List Local) (q : Process) → numbered (run program choices).processes p ≡ Some q → AreStanding program (run program choices) m.nodes k.operands k.pending ls q → is_some (living (run program choices) p) ≡ has-levels ls
      by_levels [] [] on-it standing = ap (λ o. is_some (top_of o)) on-it
      by_levels (l ∷ ls) (level ∷ levels) on-it standing = ap (λ o. is_some (top_of o)) on-it
      by_levels _ _ on-it standing = absurd standing
