-- Where the top activation of a process is, in the machine and in the source, and what it waits for.
use Rattle.std.proofs.Common.{◌≡◌, ℕ, zero, suc, ◌<◌, Bool, true, false, true≢false, List, [], ◌∷◌, ◌++◌, map, drop, length, Option, Some, None, refl, sym, ap, ◌∙◌, subst, arith, append_assoc, if◌then◌else◌, is_some, not, IsSome}
use Rattle.std.proofs.lemmas.Option.{none-some, same_Some}
use Rattle.std.specs.List.{flat_map}
use Rattle.hep_machine.specs.Words.{Value, Units, line_at, unit_at, Next, wants, evaluating, referring, does, next_of, living, numbered, top_of, unit_of, run, Process, State, Store, Work, Wanted, wanted_by}
use Rattle.hep_machine.specs.State.{Level as SourceLevel}
use Rattle.hep_cells.specs.declared.want.Want.{Want}
use Rattle.hep_code.specs.declared.instruction.Instruction.{Instruction}
use Rattle.hep_code.specs.declared.instruction.Instruction.TheVariants.{Push}
use Rattle.hep_code.specs.Words.{operands_of_action, operands_of_actual, operands_of_redex, line_ahead, Stands, work_code, AddressedUnit, code_of}
use Rattle.hep_code.proofs.ControlFlow.{NextIs, work_is}
use Rattle.hep_layout.specs.Words.{IsOwnedAbove, FrameNode, Nodes}
use Rattle.hep_layout.proofs.References.{references}
use Rattle.hep_blocked.specs.Needs.{need_of, unmet}
use Rattle.hep_blocked.proofs.Waiting.{waits-unmet}
use Rattle.hep_proc.specs.Nodes.{nodes_of}
use Rattle.hep_proc.specs.declared.process.Local.{Local}
use Rattle.hep_proc.specs.Stacks.{Stack}
use Rattle.hep_state.specs.declared.core_state.CoreState.{CoreState}
use Rattle.hep_state.specs.Words.{HasLevels, IsMachineAfter, snapshot_of}
use Rattle.hep_state.proofs.SettledPositions.{AreStanding, stack-standing}
use Rattle.hep_step.specs.Simulation.{unit_addressed, unit_code}
use Rattle.hep_blocked.specs.RosterUpdates.{IsBlocked}
use Rattle.hep_views.specs.declared.place.Place.{Place}
use Rattle.hep_views.specs.ListedProcesses.{listed_by, listed_with, place_of}
use Rattle.hep_views.specs.CellOwners.{IsSought}
use Rattle.hep_views.specs.ProcessPositions.{whereabouts_by, whereabouts_with}
use Rattle.hep_views.proofs.UpwardOwners.{need-above}
use Rattle.hep_views.proofs.StateViews.{line-after}

-- ---- the line of the operation ahead

module _ (addressed : AddressedUnit) (k : ℕ) (work : Work) where
  line-of-next : (n : Next) (after : Value → List Instruction) (rest : List Instruction)
      → NextIs addressed (line_at addressed.unit k) k n (work_code addressed k work) after
      → line_ahead (work_code addressed k work ++ rest) ≡ line_at addressed.unit k
  line-of-next (wants (referring x actuals)) after rest h =
      ap (λ c. line_ahead (c ++ rest)) h.is ∙ ap line_ahead (append_assoc (map Push (h.before ++ flat_map operands_of_actual actuals)) _ rest)
      ∙ line-after (h.before ++ flat_map operands_of_actual actuals) _
  line-of-next (wants (evaluating r)) after rest h =
      ap (λ c. line_ahead (c ++ rest)) h.is ∙ ap line_ahead (append_assoc (map Push (h.before ++ operands_of_redex r)) _ rest)
      ∙ line-after (h.before ++ operands_of_redex r) _
  line-of-next (does a) after rest h =
      ap (λ c. line_ahead (c ++ rest)) h.1 ∙ ap line_ahead (append_assoc (map Push (operands_of_action a)) _ rest) ∙ line-after (operands_of_action a) _

  line-is : (operands : List Value) (index : ℕ) → Stands addressed k work operands index
      → line_ahead (drop index (code_of addressed)) ≡ line_at addressed.unit k
  line-is operands index stands =
      sym (line-after operands (drop index (code_of addressed))) ∙ ap line_ahead (sym stands.same)
      ∙ line-of-next (next_of addressed.unit work) _ stands.rest (work_is addressed k work)

-- ---- the top activation

-- the process of a number that has one in another list as long
numbered-there : {A B : Type 0} (xs : List A) (ys : List B) (p : ℕ) (y : B) → length xs ≡ length ys → numbered ys p ≡ Some y
    → (x : A) × (numbered xs p ≡ Some x)
numbered-there xs ys zero y long e = absurd (none-some y e)
numbered-there xs [] (suc i) y long e = absurd (none-some y e)
numbered-there [] (z ∷ zs) (suc i) y long e = absurd (omega (arith, long))
numbered-there (x ∷ xs) (z ∷ zs) (suc zero) y long e = (x, refl)
numbered-there (x ∷ xs) (z ∷ zs) (suc (suc i)) y long e = numbered-there xs zs (suc i) y (omega (arith, long)) e

-- a stack that has a top
top-there : (o : Option Process) (top : SourceLevel × Process) → top_of o ≡ Some top → o ≡ Some (top.0 ∷ top.1)
top-there None top e = absurd (none-some top e)
top-there (Some []) top e = absurd (none-some top e)
top-there (Some (level ∷ levels)) top e =
    ap (λ (t : SourceLevel × Process). Some (t.0 ∷ t.1)) (same_Some (level, levels) top e)

-- what a machine keeps of the top activation of process p
pub record IsTop (program : Units) (s : State) (m : CoreState) (p : ℕ) (top : SourceLevel × Process) : Type 0 where
  pub levels : HasLevels (snapshot_of m) p
  pub inside : levels.level.unit < length program
  pub there : (n : FrameNode) × (nodes_of m.frames.nodes levels.level.key ≡ Some n) × (top.0.activation ≡ n.activation)
  pub unit : unit_of s top.0.activation ≡ levels.level.unit
  pub line : line_ahead (drop levels.level.index (unit_code program levels.level.unit)) ≡ line_at (unit_at program (unit_of s top.0.activation)) top.0.statement

module _ (program : Units) (cells : ℕ) (choices : List ℕ) (m : CoreState) (h : IsMachineAfter program cells choices m) where
  abbrev s : State
  s = run program choices

  abbrev nodes : Nodes
  nodes = nodes_of m.frames.nodes

  top-by : (p : ℕ) (top : SourceLevel × Process) (k : Stack) → numbered (snapshot_of m).processes p ≡ Some k
      → (ls : List Local) → k.levels ≡ ls → AreStanding program s nodes k.operands k.pending ls (top.0 ∷ top.1) → IsTop program s m p top
  top-by p top k kept [] is stands = absurd stands
  top-by p top k kept (l ∷ ls) is stands =
      let here = stands.0.here in
      record {
        levels = record { level = l; below = ls; operands = k.operands; pending = k.pending; kept = kept ∙ (λ i. Some (record { levels = is i; operands = k.operands; pending = k.pending })) };
        inside = here.inside;
        there = (here.node, here.there, here.activation);
        unit = here.unit;
        line = line-is (unit_addressed program l.unit) top.0.statement top.0.work k.operands l.index stands.0.stands
            ∙ ap (λ u. line_at (unit_at program u) top.0.statement) (sym here.unit);
      }

  top-is : (p : ℕ) (top : SourceLevel × Process) → living s p ≡ Some top → IsTop program s m p top
  top-is p top lives =
      let shows = h.after.shows in
      let q = top-there (numbered s.processes p) top lives in
      let k = numbered-there (snapshot_of m).processes s.processes p (top.0 ∷ top.1) shows.processes q in
      top-by p top k.0 k.1 k.0.levels refl (
      stack-standing program s nodes m.frames.arena.contents k.0 (top.0 ∷ top.1) (shows.stacks p k.0 (top.0 ∷ top.1) k.1 q))

  -- ---- what it waits for

  -- it waits for what it needs
  waits-needed : (o : Option Wanted) (store : Store) → is_some (unmet o store) ≡ true → unmet o store ≡ o
  waits-needed None store e = refl
  waits-needed (Some w) store e = by_state (if w.full then (store w.at).full else not (store w.at).full) e where
    by_state : (b : Bool) → is_some (if b then None else Some w) ≡ true → (if b then None else Some w) ≡ Some w
    by_state true e = absurd (true≢false (sym e))
    by_state false e = refl

  pub record Waits (p : ℕ) (want : Want) : Type 0 where
    pub wanted : Wanted
    pub waits : wanted_by program p s ≡ Some wanted
    pub full : wanted.full ≡ want.full
    pub top : SourceLevel × Process
    pub lives : living s p ≡ Some top
    pub is_top : IsTop program s m p top
    pub sought : IsSought program cells choices m is_top.levels.level.key want.cell wanted.at

  pub blocked-waits : (p : ℕ) (want : Want) → IsBlocked program cells choices p want
      → Waits p want
  blocked-waits p want blocked =
      let w = blocked.0.wanted in
      let law = waits-unmet program p s in
      let above = need-above program s p w (references program choices) blocked.0.needed in
      let top = top-is p above.0 above.1 in
      record {
        wanted = w;
        waits = law ∙ (waits-needed (need_of program p s) s.store (sym (ap is_some law) ∙ blocked.1) ∙ blocked.0.needed);
        full = blocked.0.state;
        top = above.0;
        lives = above.1;
        is_top = top;
        sought = record {
          after = h.after;
          few = h.few;
          kept = blocked.0.kept h.after.layout h.after.laid;
          node = top.there.0;
          there = top.there.1;
          owned = subst (λ a. IsOwnedAbove s a w.at) top.there.2 above.2;
        };
      }

  -- ---- as it is listed

  pub listed-is : (p : ℕ) (want : Want) (w : Waits p want) (level : Local) (line : ℕ) (place : Place) → level ≡ w.is_top.levels.level
      → line ≡ line_ahead (drop level.index (unit_code program level.unit)) → place ≡ place_of program s w.wanted.at
      → listed_by program p s ≡ Some (record { process = p; unit = level.unit; line = line; full = want.full; owner = place.owner; name = place.name; element = place.element })
  listed-is p want w level line place level_is line_is place_is =
      let unit : unit_of s w.top.0.activation ≡ level.unit = w.is_top.unit ∙ sym (ap (λ (l : Local). l.unit) level_is) in
      let at : line_at (unit_at program (unit_of s w.top.0.activation)) w.top.0.statement ≡ line =
      sym (line_is ∙ (ap (λ (l : Local). line_ahead (drop l.index (unit_code program l.unit))) level_is ∙ w.is_top.line)) in
      (λ i. listed_with program s p (w.lives i) (w.waits i))
      ∙ (λ i. Some (
      record {
        process = p;
        unit = unit i;
        line = at i;
        full = w.full i;
        owner = (sym place_is i).owner;
        name = (sym place_is i).name;
        element = (sym place_is i).element;
      }))

  -- ---- where a process is

  -- one that lives, with its top activation
  pub record IsLiving (p : ℕ) : Type 0 where
    pub top : SourceLevel × Process
    pub lives : living s p ≡ Some top
    pub is_top : IsTop program s m p top

  pub living-top : (p : ℕ) → IsSome (living s p) → IsLiving p
  living-top p some = by (living s p) refl some where
    by : (o : Option (SourceLevel × Process)) → living s p ≡ o → IsSome o → IsLiving p
    by None e h = absurd (true≢false (sym h))
    by (Some top) e h = record { top = top; lives = e; is_top = top-is p top e }

  pub whereabouts-is : (p : ℕ) (w : IsLiving p) (level : Local) (line : ℕ) → level ≡ w.is_top.levels.level
      → line ≡ line_ahead (drop level.index (unit_code program level.unit))
      → whereabouts_by program p s ≡ Some (record { process = p; unit = level.unit; line = line })
  whereabouts-is p w level line level_is line_is =
      let unit : unit_of s w.top.0.activation ≡ level.unit = w.is_top.unit ∙ sym (ap (λ (l : Local). l.unit) level_is) in
      let at : line_at (unit_at program (unit_of s w.top.0.activation)) w.top.0.statement ≡ line =
      sym (line_is ∙ (ap (λ (l : Local). line_ahead (drop l.index (unit_code program l.unit))) level_is ∙ w.is_top.line)) in
      ap (whereabouts_with program s p) w.lives ∙ (λ i. Some (record { process = p; unit = unit i; line = at i }))
