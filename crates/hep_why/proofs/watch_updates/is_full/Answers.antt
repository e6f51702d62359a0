use Rattle.std.proofs.Common.{◌<◌, ℕ, ap, sym, subst, length}
use Rattle.hep_arena.specs.Holes.{IsOut}
use Rattle.hep_layout.proofs.Addresses.{address-out}
use Rattle.hep_machine.specs.declared.slot.Slot.{Slot}
use Rattle.hep_machine.specs.Words.{Location, State, is_held}
use Rattle.hep_proc.specs.FrameTable.{frames_in}
use Rattle.hep_state.specs.declared.core_state.CoreState.{CoreState}
use Rattle.hep_why.specs.Watches.{IsKeptIn, IsMachineOf, TurnsMade, state_at}
use Rattle.hep_why.proofs.watch_updates.is_full.Goals as goal

module _ (t : TurnsMade) (m : CoreState) (after : IsMachineOf t m) (at : Location) (cell : ℕ) (kept : IsKeptIn t at cell) where
  out : (cell < length m.frames.arena.contents) × IsOut cell m.frames.arena.holes
  out =
      let memory = after.after.shows.keeps.memory in
      let found = address-out t.program (state_at t) (length m.frames.arena.contents) after.after.layout at cell memory.laid (
      kept after.after.layout after.after.laid) in
      (found.0, subst (IsOut cell) (sym memory.holes_are) found.1)

pub get-requires-clause-inside : goal.get-requires-clause-inside
get-requires-clause-inside c = (out c.requires.0 c.args.machine.now c.requires.2 c.requires.1 c.args.cell c.requires.3).0

pub get-requires-clause-out : goal.get-requires-clause-out
get-requires-clause-out c = (out c.requires.0 c.args.machine.now c.requires.2 c.requires.1 c.args.cell c.requires.3).1

pub returns : goal.returns
returns c t at of kept =
    let s : State = state_at t in
    let after = of.after in
    ap (λ (slot : Slot). slot.full) (
    c.get.ensures.unit (frames_in t.program s (is_held s) after.layout) at after.shows.keeps (kept after.layout after.laid))
