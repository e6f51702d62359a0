use Rattle.std.proofs.Common.{◌≡◌, drop}
use Rattle.hep_commit.proofs.slots.apply_all.Given as goal
use Rattle.hep_private.specs.InPlace.{stored_with}

abbrev pub invariant-loop-note : goal.invariant-loop-note
invariant-loop-note l = stored_with l.first l.slots (drop l.note-index l.records) ≡ stored_with l.first l.initial.slots l.records
