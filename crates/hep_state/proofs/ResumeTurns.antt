-- RESUME: what a core keeps then shows the state after it, and what its step touches and makes.
use Rattle.std.proofs.Common.{◌≡◌, ℕ, Bool, true, List, [], ◌∷◌, ◌++◌, length, length-append, length-set, Some, None, refl, sym, ap, ◌∙◌, subst, arith, nat_eq, if◌then◌else◌, inl, inr}
use Rattle.std.proofs.lemmas.Bool.{cases_Bool, eqb-true, eq-eqb}
use Rattle.std.proofs.lemmas.Option.{none-some}
use Rattle.hep_machine.specs.Words.{Layout, Process, State, Top, Units, Value, activations_on, function_name, is_held, layout_of, level_after_statement, stack_after_return, state_resumed, step_result_of, stepped, unit_at, unit_of, with_numbered, with_process}
use Rattle.hep_machine.specs.State.{Level as SourceLevel}
use Rattle.hep_machine.proofs.Changes.{on-stack_after_return}
use Rattle.hep_code.proofs.CodePositions.{after_statement_keeps}
use Rattle.hep_layout.specs.Words.{AreNeededBut, IsFrameTree, also, but, descriptor_slots, is_stacked}
use Rattle.hep_layout.proofs.Beginning.{needed-same, tree-same}
use Rattle.hep_layout.proofs.Descriptors.{described-same}
use Rattle.hep_layout.proofs.FrameTree.{on-stacked}
use Rattle.hep_layout.proofs.Memory.{memory-same}
use Rattle.hep_layout.proofs.StackChanges.{stacks-created, stacks-ended}
use Rattle.hep_layout.proofs.Stacks.{once}
use Rattle.hep_proc.specs.FrameTable.{Keeps, frames_in}
use Rattle.hep_step.specs.Resume.{IsResumeAhead}
use Rattle.hep_step.specs.Simulation.{unit_addressed}
use Rattle.hep_proc.specs.declared.process.Local.{Local}
use Rattle.hep_proc.specs.Stacks.{Stack}
use Rattle.hep_state.specs.Words.{HasGaps, HasMadeTurn, HasResumeAhead, IsAfter, IsTurning, Snapshot, TurnOf, running_top, snapshot_resumed, state_before, top_before}
use Rattle.hep_code.specs.Words.{Stands}
use Rattle.hep_state.proofs.LeftActivations.{AreOf, alone-of, caller-of, kept-same, no-more-parted}
use Rattle.hep_state.proofs.SilentTurns.{standing-before, step-made, unit-is}
use Rattle.hep_state.proofs.Runs.{all-remain, layout-left, standing-more, stepped-after, there}
use Rattle.hep_state.proofs.TopActivations.{turning}
use Rattle.hep_state.proofs.SettledPositions.{AreOn, AreStanding, AreStandingBelow, caller-stands, made-same, standing-still, top-stands}

-- an activation that was taken away is where it was once it is added
again-there : (c a : ℕ) (test : ℕ → Bool) → test c ≡ true → also c (but c test) a ≡ test a
again-there c a test on =
    elim (cases_Bool (nat_eq a c)) [
      | inl same ↦ let there : test a ≡ true = ap test (eqb-true a c same) ∙ on in rw (same, there) refl
      | inr other ↦ rw other refl
    ]

module _ {t : TurnOf} (h : IsTurning t) (index : ℕ) (resumes : IsResumeAhead (running_top t h) index) (none : function_name (unit_at t.program t.level.unit) ≡ None) (caller : SourceLevel) (callers : Process) (below : t.top.1 ≡ caller ∷ callers) where
  abbrev old : State
  old = state_before t

  abbrev layout : Layout
  layout = h.after.layout

  -- the one below goes on, and the other one after its RESUME
  abbrev onward : Process
  onward = stack_after_return t.program old (caller ∷ callers)

  abbrev after : SourceLevel
  after = level_after_statement (unit_at t.program (unit_of old t.top.0.activation)) t.top.0

  abbrev later : State
  later = state_resumed t.program (top_before t) (caller ∷ callers)

  made : step_result_of t.program t.process old ≡ stepped later
  made = resumes.made ∙ ap (λ q. stepped (state_resumed t.program (top_before t) q)) below

  same-activation : after.activation ≡ t.top.0.activation
  same-activation = (after_statement_keeps (unit_addressed t.program (unit_of old t.top.0.activation)) t.top.0).1

  -- ---- the same activations are on stacks

  on-same : (a : ℕ) → is_stacked later a ≡ is_stacked old a
  on-same a =
      let between = with_process old t.process onward in
      let c = t.top.0.activation in
      let own : is_stacked old c ≡ true = on-stacked old c (t.process, t.top.0 ∷ t.top.1, there h, rw (eq-eqb c c refl) refl) in
      let ended = stacks-ended old between t.process t.top onward h.lives refl a (once t.program t.choices a).0 (on-stack_after_return t.program old (caller ∷ callers) ∙ ap activations_on (sym below)) in
      stacks-created between later a c (after ∷ []) refl (ap (λ b. b ∷ []) same-activation)
      ∙ (ap (λ (b : Bool). if nat_eq a c then true else b) ended ∙ again-there c a (is_stacked old) own)

  stacked-same : is_stacked old ≡ is_stacked later
  stacked-same = λ i a. sym (on-same a) i

  -- ---- no frame enters or leaves

  keeps : Keeps (frames_in t.program later (is_held old) layout) t.machine.arena t.machine.nodes
  keeps =
      let k = h.after.shows.keeps in
      record {
        memory = memory-same t.program old later layout t.machine.arena.contents t.machine.arena.holes k.memory refl refl;
        tree = subst (λ on. IsFrameTree later on (is_held old) t.machine.nodes) stacked-same (tree-same old later (is_stacked old) (is_held old) t.machine.nodes refl k.tree);
        rest = subst (λ on. AreNeededBut None later on (is_held old)) stacked-same (needed-same old later (is_stacked old) (is_held old) None refl k.rest);
        framed = k.framed;
        frames_are = k.frames_are;
        described =
            described-same t.program old later layout (descriptor_slots t.program old layout) (descriptor_slots t.program later layout) t.machine.arena.contents k.described refl (
            no-more-parted t.program t.choices later layout t.process (t.top.0 ∷ t.top.1) onward (there h) refl from-callers (after ∷ []) (alone-of t.program old t.top.0 t.top.1) refl);
      }
    where
      from-callers : AreOf onward (t.top.0 ∷ t.top.1)
      from-callers = subst (λ q. AreOf onward (t.top.0 ∷ q)) (sym below) (caller-of t.program old t.top.0 (caller ∷ callers))

  laid : layout_of t.program t.cells is_held (t.choices ++ t.process ∷ []) ≡ Some layout
  laid =
      layout-left t.program t.cells t.choices t.process layout later h.after.laid (step-made h later made) refl
      ∙ all-remain t later (step-made h later made) layout (is_held old) t.machine.arena t.machine.nodes keeps

  -- ---- where the two stand

  abbrev left : Stack
  left = record { levels = t.below; operands = []; pending = t.pending }

  abbrev alone : Stack
  alone = record { levels = record t.level { index = index } ∷ []; operands = []; pending = [] }

  still : (vs pending : List Value) (ls : List Local) (levels : Process) → AreStanding t.program old t.machine.nodes vs pending ls levels → AreOn later levels → AreStanding t.program later t.machine.nodes vs pending ls levels
  still = standing-still t.program old later t.machine.nodes t.machine.nodes (made-same old later refl) (λ key x e on. (x, e, refl))

  caller-goes : AreOn later onward → AreStanding t.program later t.machine.nodes [] t.pending t.below onward
  caller-goes =
      let stood = standing-before h in
      still [] t.pending t.below onward (subst (λ q. AreStanding t.program old t.machine.nodes [] t.pending t.below (stack_after_return t.program old q)) below (caller-stands t.program old t.machine.nodes t.level.unit t.pending t.below t.top.1 none stood.1 stood.2))

  resumed-goes : AreOn later (after ∷ []) → AreStanding t.program later t.machine.nodes [] [] alone.levels (after ∷ [])
  resumed-goes =
      let stood = standing-before h in
      let stands : Stands (unit_addressed t.program t.level.unit) after.statement after.work [] index =
      subst (λ u. Stands (unit_addressed t.program u) after.statement after.work [] index) (unit-is h) resumes.onward.at.stands in
      still [] [] alone.levels (after ∷ []) (
      top-stands t.program old t.machine.nodes t.operands [] [] t.level [] t.top.0 after [] index (stood.0, tt, refl) same-activation stands)

  -- ---- the state is shown

  pub resumed-shown : HasMadeTurn t (snapshot_resumed t h index)
  resumed-shown =
      let s = h.after.shows in
      let many : length (with_numbered t.machine.processes t.process left) ≡ length (with_numbered old.processes t.process onward) =
      length-set t.machine.processes _ left ∙ (s.processes ∙ sym (length-set old.processes _ onward)) in
      let count : length (with_numbered t.machine.processes t.process left ++ alone ∷ []) ≡ length (with_numbered old.processes t.process onward ++ (after ∷ []) ∷ []) =
      omega (arith, length-append (with_numbered t.machine.processes t.process left) (alone ∷ []), length-append (with_numbered old.processes t.process onward) ((after ∷ []) ∷ []), many) in
      stepped-after t later (step-made h later made) (snapshot_resumed t h index) layout (is_held old) keeps
      (λ a on. kept-same t.program old later layout refl a (s.kept a (sym (on-same a) ∙ on))) count
      (standing-more h later t.machine.nodes left onward (made-same old later refl) (λ key x e on. (x, e, refl)) caller-goes alone (after ∷ []) many resumed-goes)
      laid h.after.size s.activations s.records s.faults s.halted

-- ---- the levels of the core are as many as those of the source machine

-- one that is above another in the core is so in the source machine
pub caller-there : {t : TurnOf} (h : IsTurning t) (l : Local) (ls : List Local) → t.below ≡ l ∷ ls → (caller : SourceLevel) × (callers : Process) × (t.top.1 ≡ caller ∷ callers)
caller-there {t} h l ls some = by_levels t.top.1 refl where
  by_levels : (q : Process) → t.top.1 ≡ q → (caller : SourceLevel) × (callers : Process) × (t.top.1 ≡ caller ∷ callers)
  by_levels [] e = absurd (subst (λ ks. AreStandingBelow t.program (state_before t) t.machine.nodes t.level.unit t.pending ks []) some (subst (AreStandingBelow t.program (state_before t) t.machine.nodes t.level.unit t.pending t.below) e (standing-before h).1))
  by_levels (caller ∷ callers) e = (caller, callers, e)

-- and so is the lowest
pub none-below : {t : TurnOf} (h : IsTurning t) → t.below ≡ [] → t.top.1 ≡ []
none-below {t} h lowest = by_levels t.top.1 refl where
  by_levels : (q : Process) → t.top.1 ≡ q → q ≡ []
  by_levels [] e = refl
  by_levels (caller ∷ callers) e = absurd (subst (λ ks. AreStandingBelow t.program (state_before t) t.machine.nodes t.level.unit t.pending ks (caller ∷ callers)) lowest (subst (AreStandingBelow t.program (state_before t) t.machine.nodes t.level.unit t.pending t.below) e (standing-before h).1))

-- ---- no activation is made, so each frame has its gap

resumed-activations : (program : Units) (t : Top) (q : Process) → (state_resumed program t q).activations ≡ t.state.activations
resumed-activations program t [] = refl
resumed-activations program t (caller ∷ callers) = refl

pub resumed-gap : {t : TurnOf} (h : IsTurning t) (index : ℕ) → IsResumeAhead (running_top t h) index → HasGaps t.program t.cells t.choices t.process
resumed-gap {t} h index resumes none =
    let after = state_resumed t.program (top_before t) t.top.1 in
    none-some _ (sym none ∙ layout-left t.program t.cells t.choices t.process h.after.layout after h.after.laid (step-made h after resumes.made) (resumed-activations t.program (top_before t) t.top.1))

-- ---- whichever turns there were

-- a RESUME is ahead after others too
pub resume-after : {program : Units} {cells later : ℕ} {choices turns : List ℕ} {p : ℕ} {m : Snapshot} {next : ℕ} → HasResumeAhead program cells choices p m next → IsAfter program later turns m → HasResumeAhead program later turns p m next
resume-after {p = p} at after =
    let was = at.holds.1.turning in
    let turn = turning p after at.levels (was.after.shows.halted ∙ was.running) in
    record { levels = at.levels; top = turn.0; holds = (at.holds.0, record { turning = turn.1; behind = at.holds.1.behind; ahead = at.holds.1.ahead }) }
