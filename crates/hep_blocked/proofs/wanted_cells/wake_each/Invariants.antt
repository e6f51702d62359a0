use Rattle.std.proofs.Common.{◌≡◌, drop, length}
use Rattle.hep_blocked.specs.QueueInvariant.{cleared, without_numbers}
use Rattle.hep_blocked.specs.Waiting.{with_numbers}
use Rattle.hep_blocked.proofs.wanted_cells.wake_each.Given as goal

abbrev pub invariant-loop-p : goal.invariant-loop-p
invariant-loop-p l = record {
  wanted : cleared (drop l.p-index l.processes) l.wanted.items ≡ cleared l.processes l.fn.wanted.items;
  numbers : without_numbers (drop l.p-index l.processes) l.numbers.ready ≡ without_numbers l.processes l.fn.numbers.ready;
  kept : l.numbers.room ≡ l.fn.numbers.room;
  ready : with_numbers (drop l.p-index l.processes) l.ready.ready ≡ with_numbers l.processes l.fn.ready.ready;
  places : length l.wanted.items ≡ length l.fn.wanted.items;
  room : l.ready.room ≡ l.fn.ready.room;
}
