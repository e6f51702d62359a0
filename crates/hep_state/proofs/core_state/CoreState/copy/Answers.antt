use Rattle.std.proofs.Common.{List, refl, ◌∙◌, subst}
use Rattle.std.specs.List.{AllZip}
use Rattle.hep_proc.specs.declared.process.Process.{Process}
use Rattle.hep_state.specs.Words.{IsProcessCopy}
use Rattle.hep_state.proofs.Copies.{rooms-copied, stacks-copied}
use Rattle.hep_state.proofs.core_state.CoreState.copy.Goals as goal

pub returns-clause-shown : goal.returns-clause-shown
returns-clause-shown c =
    let old = c.args.self.now in
    let copies = c.in_ok-processes.processes.items in
    let all = subst (λ (qs : List Process). AllZip IsProcessCopy qs copies) c.deref.ensures.value c.in_ok-processes.ensures in
    let stacks = stacks-copied old.processes.items copies all 1 old.made in
    let records = c.in_ok-records.ensures ∙ c.deref-2.ensures.value in
    let faults = c.in_ok-faults.ensures ∙ c.deref-3.ensures.value in
    λ i. record {
      arena = c.in_ok-frames.ensures.arena i;
      nodes = c.in_ok-frames.ensures.nodes i;
      processes = stacks i;
      activations = old.activations;
      records = records i;
      faults = faults i;
      halted = old.halted;
    }

pub returns-clause-rooms : goal.returns-clause-rooms
returns-clause-rooms c =
    let old = c.args.self.now in
    let copies = c.in_ok-processes.processes.items in
    let all = subst (λ (qs : List Process). AllZip IsProcessCopy qs copies) c.deref.ensures.value c.in_ok-processes.ensures in
    let room = c.in_ok-passing.ensures in
    rooms-copied old _ all refl (record { given = room.given; shapes = room.shapes; values = room.values; ranges = room.ranges })
