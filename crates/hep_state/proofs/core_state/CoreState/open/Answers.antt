use Rattle.std.proofs.Common.{◌≡◌, ◌<◌, ◌≤◌, [], length, refl, sym, ap, ◌∙◌, subst, arith, ℕ, false, List, ◌∷◌, reverse, Some, vec_capacity, slice_get}
use Rattle.std.proofs.lemmas.Bool.{eq-eqb}
use Rattle.std.specs.Option.{unwrap_or}
use Rattle.hep_machine.specs.Words.{no_unit, main_unit, Units}
use Rattle.hep_code.specs.Words.{deepest}
use Rattle.hep_arena.specs.Space.{Space}
use Rattle.hep_layout.specs.Words.{Nodes}
use Rattle.hep_proc.specs.Nodes.{nodes_of}
use Rattle.hep_step.specs.Simulation.{unit_code}
use Rattle.hep_state.specs.Words.{AreNumbered, IsEntered, snapshot_opened, IsAfter, HasRoom, HasRoomToPass, IsMachineAfter, numbers_of, snapshot_of, stack_numbered, stacks_of}
use Rattle.hep_state.proofs.OpenedStates.{entered-out}
use Rattle.hep_state.proofs.RoomToPass.{room-enough}
use Rattle.hep_state.proofs.core_state.CoreState.open.Goals as goal
use Rattle.hep_image.specs.Image.{most_cells}
use Rattle.hep_proc.specs.declared.process.Local.{Local}
use Rattle.hep_state.specs.declared.core_state.CoreState.{CoreState}
use Rattle.hep_proc.specs.declared.process.Process.{Process}
use Rattle.hep_proc.specs.Stacks.{Stack, stack_of}
use Rattle.hep_blocked.specs.Numbers.{AreRising}
use Rattle.hep_state.proofs.Processes.{room-alone, the-only}

-- ---- a machine with one process at the main program, and room for its operands

-- the machine's one process, with one level and no operands
record IsBegun (main key entry : ℕ) (m : CoreState) (q : Process) : Type 0 where
  pub alone : m.processes.items ≡ q ∷ []
  pub made : m.made ≡ 1
  pub number : q.number ≡ 1
  pub levels : q.levels.items ≡ record { key = key; unit = main; kept = 0; index = entry } ∷ []
  pub operands : q.operands.items ≡ []
  pub pending : q.pending.items ≡ []
  pub activations : m.activations ≡ 1
  pub records : m.records.items ≡ []
  pub faults : m.faults.items ≡ []
  pub running : m.halted ≡ false

module _ (program : Units) (cells key entry : ℕ) (m : CoreState) (q : Process) (main : ℕ) (found : main_unit program ≡ main) (begun : IsBegun main key entry m q) where
  abbrev level : Local
  level = record { key = key; unit = main; kept = 0; index = entry }

  own : stack_numbered (q ∷ []) 1 ≡ stack_of q
  own = rw (eq-eqb 1 q.number (sym begun.number)) refl

  stacks : stacks_of m.processes.items m.made ≡ record { levels = record { key = key; unit = main_unit program; kept = 0; index = entry } ∷ []; operands = []; pending = [] } ∷ []
  stacks =
      (λ i. stacks_of (begun.alone i) (begun.made i))
      ∙ (ap (λ (k : Stack). k ∷ []) own ∙ ((λ i. record { levels = reverse (begun.levels i); operands = begun.operands i; pending = begun.pending i } ∷ []) ∙ ap (λ (u : ℕ). record { levels = record { key = key; unit = u; kept = 0; index = entry } ∷ []; operands = []; pending = [] } ∷ []) (sym found)))

  snapshot-is : snapshot_of m ≡ snapshot_opened program key entry m.frames.arena (nodes_of m.frames.nodes)
  snapshot-is i =
      record {
        arena = m.frames.arena;
        nodes = nodes_of m.frames.nodes;
        processes = stacks i;
        activations = begun.activations i;
        records = begun.records i;
        faults = begun.faults i;
        halted = begun.running i;
      }

  numbers : AreNumbered m
  numbers =
      subst (λ n. AreRising 1 n (numbers_of m.processes.items)) (sym begun.made) (
      subst (λ (qs : List Process). AreRising 1 1 (numbers_of qs)) (sym begun.alone) (omega (arith, begun.number), omega (arith, begun.number), tt))

  module _ (enough : deepest (unit_code program main) ≤ vec_capacity q.operands) where
    all-room : (i : ℕ) (r : Process) → slice_get m.processes.items i ≡ Some r → HasRoom program r
    all-room i r e = subst (HasRoom program) (the-only q r i (ap (λ (qs : List Process). slice_get qs i) (sym begun.alone) ∙ e)) (room-alone program q level begun.levels enough)

    machine-opened : cells ≤ most_cells → HasRoomToPass program m.passing → IsAfter program cells [] (snapshot_opened program key entry m.frames.arena (nodes_of m.frames.nodes)) → IsMachineAfter program cells [] m
    machine-opened few to_pass after = record { after = subst (IsAfter program cells []) (sym snapshot-is) after; few = few; to_pass = to_pass; room = all-room; numbers = numbers }

-- ---- the machine that is opened

pub give_rows-requires-clause-out : goal.give_rows-requires-clause-out
give_rows-requires-clause-out c =
    let frames = c.enter_main-key.new.frames in
    entered-out c.args.image.now (length c.reserve.new.self.arena.contents) c.enter_main-key.result frames.arena (nodes_of frames.nodes) c.rows.result.now c.enter_main-key.ensures c.rows.ensures.units

pub returns-clause-opened : goal.returns-clause-opened
returns-clause-opened c =
    let program = c.args.image.now in
    let key = c.enter_main-key.result in
    let unit = c.main_program-main.result.now in
    let main = c.main_program-main.ensures in
    let entered = c.enter_main-key.new.frames in
    let given = c.give_rows.new.frames in
    let process = c.in_ok-process.process in
    let size : length c.reserve.new.self.arena.contents ≡ c.args.cells = ap (λ (a : Space). length a.contents) c.in_ok-reserve.ensures.arena ∙ c.in_ok-frames.ensures.cells in
    let begins = subst (λ n. IsEntered program n key entered.arena (nodes_of entered.nodes)) size c.enter_main-key.ensures in
    let index = c.main.result in
    let found : main_unit program ≡ index = ap (λ o. unwrap_or o no_unit) c.main.ensures.main in
    let inside : main_unit program < length program = subst (λ u. u < length program) (sym found) c.main.ensures.inside in
    let after = c.openings_are_shown.ensures.shown program c.args.cells key unit.entry c.rows.result.now entered.arena given.arena (nodes_of entered.nodes) begins c.give_rows.ensures.given c.rows.ensures.initial c.rows.ensures.units inside main.entry in
    let enough : deepest (unit_code program index) ≤ vec_capacity process.operands =
    subst (λ n. n ≤ vec_capacity process.operands) (main.operands ∙ ap deepest (main.code ∙ ap (unit_code program) found)) (omega (arith, c.in_ok-process.ensures.room)) in
    machine-opened program c.args.cells key unit.entry _ process index found (
    record { alone = c.in_ok-vec.ensures.items; made = refl; number = c.in_ok-process.ensures.number; levels = c.in_ok-process.ensures.levels; operands = c.in_ok-process.ensures.operands; pending = c.in_ok-process.ensures.pending; activations = refl; records = c.new-2.ensures.items; faults = c.new-3.ensures.items; running = refl })
    enough c.requires.1 (room-enough program _ c.in_ok-room_to_pass.ensures) (subst (λ (nodes : Nodes). IsAfter program c.args.cells [] (snapshot_opened program key unit.entry given.arena nodes)) (sym c.give_rows.ensures.nodes) after)

pub returns-clause-process : goal.returns-clause-process
returns-clause-process c =
    let program = c.args.image.now in
    let main = c.main_program-main.ensures in
    record {
      process = c.in_ok-process.process;
      alone = c.in_ok-vec.ensures.items;
      room = c.in_ok-process.ensures.room ∙ (main.operands ∙ ap deepest main.code);
    }
