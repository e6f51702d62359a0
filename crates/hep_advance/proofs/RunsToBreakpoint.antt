-- Steps that begin where nothing is watched, and the turns that they are.
use Rattle.std.proofs.Common.{◌≡◌, ℕ, zero, suc, ◌+◌, Bool, false, List, [], ◌∷◌, ◌++◌, replicate, refl, sym, ap, ◌∙◌, subst, arith, append-nil, append_assoc}
use Rattle.hep_code.specs.declared.instruction.Instruction.{Instruction}
use Rattle.hep_code.specs.Words.{Stands}
use Rattle.hep_image.specs.declared.array.Array.{Array}
use Rattle.hep_machine.specs.Words.{State, Units, opening, run, run_from, state_after_turn, unit_of}
use Rattle.hep_step.specs.SilentSteps.{Goes, stays}
use Rattle.hep_fast.proofs.Steps.{goes-on}
use Rattle.hep_step.specs.PerformedSteps.{Snapshot}
use Rattle.hep_step.specs.Simulation.{unit_addressed, unit_arrays, unit_code}
use Rattle.hep_state.specs.Words as machines
use Rattle.hep_state.specs.Words.{HasLevels, IsMachineAfter, IsTurning, LivesOn, StaysShown, TurnOf, snapshot_of, state_before, top_frame}
use Rattle.hep_state.specs.declared.core_state.CoreState.{CoreState}
use Rattle.hep_state.proofs.OtherProcesses.{beside-again, beside-shown}
use Rattle.hep_state.proofs.SilentTurns.{standing-before, unit-is}
use Rattle.hep_advance.specs.SilentRuns as gone
use Rattle.hep_advance.specs.SilentRuns.{HasGone, MakesMoves}
use Rattle.hep_advance.proofs.KeptTurns.{HasLaws, come-so, here, turn_at}
use Rattle.hep_advance.specs.declared.breakpoints.Breakpoints.{Breakpoints}
use Rattle.hep_advance.specs.RunsToBreakpoints.{Passes, PassesTurns, starts, settled, passes}
use Rattle.hep_advance.specs.BreakpointRows.{IsUnwatched, PassesFrom, is_watched, row_of}
use Rattle.hep_machine.proofs.Replays.{run_after}

-- ---- steps of an activation

module _ (row : List Bool) (code : List Instruction) (arrays : List Array) (first : ℕ) where
  -- wherever they begin
  pub gone-by : (s : Snapshot) (n : ℕ) (t : Snapshot) → Passes row code arrays first s n t → Goes code arrays first s n t
  gone-by s _ _ (starts _) = stays s
  gone-by s _ _ (settled _ n t u passed goes) =
      let e : n + 0 ≡ n = omega arith in
      subst (λ k. Goes code arrays first s k u) e (goes-on code arrays first s t u n 0 (gone-by s n t passed) goes)
  gone-by s _ _ (passes _ n t u passed unwatched goes) =
      let e : n + 1 ≡ suc n = omega arith in
      subst (λ k. Goes code arrays first s k u) e (goes-on code arrays first s t u n 1 (gone-by s n t passed) goes)

-- ---- turns of a process

pub one-behind : (n p : ℕ) → replicate n p ++ p ∷ [] ≡ replicate (suc n) p
one-behind zero p = refl
one-behind (suc n) p = ap (λ ps. p ∷ ps) (one-behind n p)

-- the turns that were made
pub turns-are : (program : Units) (cells p : ℕ) (choices : List ℕ) (n : ℕ) (after : List ℕ) → HasGone program cells p choices n after → after ≡ choices ++ replicate n p
turns-are program cells p _ _ _ (gone.none choices) = sym (append-nil choices)
turns-are program cells p _ _ _ (gone.more choices n after going is) =
    ap (λ ps. ps ++ p ∷ []) (turns-are program cells p choices n after going) ∙ (append_assoc choices (replicate n p) (p ∷ []) ∙ ap (λ ps. choices ++ ps) (one-behind n p))

pub run-on : (program : Units) (ps qs : List ℕ) → run program (ps ++ qs) ≡ run_from program (run program ps) qs
unfolding run
run-on program ps qs = run_after program (opening program) ps qs

-- the state that they lead to
pub state-on : (program : Units) (cells p : ℕ) (choices : List ℕ) (n : ℕ) (after : List ℕ) → HasGone program cells p choices n after → run program after ≡ run_from program (run program choices) (replicate n p)
state-on program cells p choices n after going = ap (run program) (turns-are program cells p choices n after going) ∙ run-on program choices (replicate n p)

-- a process whose turn it is
pub unwatched-there : (t : TurnOf) (turns : IsTurning t) (watches : List Breakpoints) → is_watched watches t.level.unit t.level.index ≡ false → IsUnwatched t.program watches t.process (state_before t)
unwatched-there t turns watches unwatched =
    let top = t.top.0 in
    let u : unit_of (state_before t) top.activation ≡ t.level.unit = unit-is turns in
    record {
      top = t.top;
      operands = t.operands;
      index = t.level.index;
      lives = turns.lives;
      stands = subst (λ v. Stands (unit_addressed t.program v) top.statement top.work t.operands t.level.index) (sym u) (standing-before turns).0.stands;
      unwatched = ap (λ v. is_watched watches v t.level.index) u ∙ unwatched;
    }

module _ (program : Units) (watches : List Breakpoints) (p : ℕ) where
  -- so many and then so many more
  pub passes-on : (s : State) (n m : ℕ) → PassesFrom program watches p s n → PassesFrom program watches p (run_from program s (replicate n p)) m → PassesFrom program watches p s (n + m)
  unfolding run_from
  passes-on s zero m first then = let e : m ≡ 0 + m = omega arith in subst (PassesFrom program watches p s) e then
  passes-on s (suc n) m first then =
      let e : suc (n + m) ≡ suc n + m = omega arith in
      subst (PassesFrom program watches p s) e (first.0, passes-on (state_after_turn program p s) n m first.1 then)

-- what was passed of a process on its way are turns of it
module _ (t : TurnOf) (watches : List Breakpoints) (known : HasLaws t) (turns : IsTurning t) where
  pub passed-so : (n : ℕ) (u : Snapshot) → Passes (row_of watches t.level.unit) (unit_code t.program t.level.unit) (unit_arrays t.program t.level.unit) (top_frame t).first (here t) n u
      → PassesFrom t.program watches t.process (run t.program t.choices) n
  passed-so _ _ (starts _) = tt
  passed-so _ _ (settled _ n s u passed goes) = passed-so n s passed
  passed-so _ _ (passes _ n s u passed unwatched goes) =
      let p = t.process in
      let come = come-so t known turns n s (gone-by (row_of watches t.level.unit) (unit_code t.program t.level.unit) (unit_arrays t.program t.level.unit) (top_frame t).first (here t) n s passed) in
      let is = unwatched-there (turn_at t come.after come.top s) come.turns watches unwatched in
      let state = state-on t.program t.cells p t.choices n come.after come.gone in
      let e : n + 1 ≡ suc n = omega arith in
      subst (PassesFrom t.program watches p (run t.program t.choices)) e (
      passes-on t.program watches p (run t.program t.choices) n 1 (passed-so n s passed) (subst (IsUnwatched t.program watches p) state is, tt))

-- ---- turns one after the other

module _ (program : Units) (watches : List Breakpoints) (p : ℕ) where
  pub passes-none : (m : CoreState) → PassesTurns program watches p m 0
  passes-none m cells choices h = tt

  pub passes-one : (m : CoreState) → ((cells : ℕ) (choices : List ℕ) → IsMachineAfter program cells choices m → IsUnwatched program watches p (run program choices)) → PassesTurns program watches p m 1
  passes-one m is cells choices h = (is cells choices h, tt)

  pub passes-more : (old mid : CoreState) (n m : ℕ) → MakesMoves program p old n mid → PassesTurns program watches p old n → PassesTurns program watches p mid m → PassesTurns program watches p old (n + m)
  passes-more old mid n m moves first then cells choices h =
      let a = moves cells choices h in
      let state = state-on program cells p choices n a.0 a.1 in
      passes-on program watches p (run program choices) n m (first cells choices h) (subst (λ s. PassesFrom program watches p s m) state (then cells a.0 a.2))

-- and p lives on
pub lives-again : (p n m : ℕ) (old mid new : CoreState) → LivesOn p n old mid → LivesOn p m mid new → LivesOn p (n + m) old new
lives-again p n m old mid new first then =
    record {
      living = then.living;
      running = then.running ∙ first.running;
      made = then.made ∙ first.made;
      counted = omega (arith, first.counted, then.counted);
      others = beside-again p (snapshot_of old) (snapshot_of mid) (snapshot_of new) first.others then.others;
    }

pub lives-still : (program : Units) (p : ℕ) (old new : CoreState) → HasLevels (snapshot_of old) p → StaysShown program old new → LivesOn p 0 old new
lives-still program p old new living same =
    record {
      living = subst (λ m. HasLevels m p) (sym same.shown) living;
      running = ap (λ (m : machines.Snapshot). m.halted) same.shown;
      made = same.made;
      counted = omega (arith, ap (λ (m : machines.Snapshot). m.activations) same.shown);
      others = beside-shown p (snapshot_of old) (snapshot_of new) same.shown;
    }
