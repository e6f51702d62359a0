use Rattle.std.proofs.Common.{◌↔◌, drop}
use Rattle.hep_private.specs.FirstReads.{HaveRead}
use Rattle.hep_private.specs.ActivationPlaces.{start_at}
use Rattle.hep_private.proofs.activation_place.is_kept.Given as goal

abbrev pub invariant-loop-note : goal.invariant-loop-note
invariant-loop-note l = HaveRead (start_at l.place).values l.note-items ↔ HaveRead (start_at l.place).values (drop l.note-index l.note-items)
