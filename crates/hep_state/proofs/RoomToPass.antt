-- The room that is asked for is room for all that is passed.
use Rattle.std.proofs.Common.{◌≤◌, ℕ, [], length, ap, arith, inl, inr}
use Rattle.std.proofs.lemmas.Bool.{cases_lt}
use Rattle.std.proofs.lemmas.Option.{slice_get_past}
use Rattle.std.specs.Option.{unwrap_or}
use Rattle.hep_machine.specs.Words.{Units, dummies_of, unit_at}
use Rattle.hep_image.specs.Dummies.{dummy_arguments}
use Rattle.hep_binding.specs.DummyShapes.{longest_code}
use Rattle.hep_step.specs.Simulation.{unit_code}
use Rattle.hep_step.specs.TargetCount.{most_of, most_targets}
use Rattle.hep_step.proofs.TargetCounts.{targets-within, within-most}
use Rattle.hep_state.specs.Words.{HasRoomToPass, IsRoomToPass}
use Rattle.hep_state.specs.declared.core_state.ArgumentBuffers.{ArgumentBuffers}

-- a unit that isn't there has no dummy arguments
dummies-within : (program : Units) (u : ℕ) → length (dummies_of (unit_at program u)) ≤ most_of (λ u. length (dummies_of (unit_at program u))) (length program)
dummies-within program u = elim (cases_lt u (length program)) [
  | inl inside ↦ within-most (λ u. length (dummies_of (unit_at program u))) (length program) u inside
  | inr past ↦ let none = ap (λ o. length (dummies_of (unwrap_or o []))) (slice_get_past program u past) in omega (arith, none)
]

pub room-enough : (program : Units) (r : ArgumentBuffers) → IsRoomToPass program r → HasRoomToPass program r
room-enough program r room =
    let given = room.given in
    let shapes = room.shapes in
    let values = room.values in
    let ranges = room.ranges in
    record {
      given = λ u. omega (arith, dummies-within program u, given);
      shapes = λ u. omega (arith, dummies-within program u, shapes);
      values = λ u inside. omega (arith, within-most (λ u. longest_code (dummy_arguments program (unit_at program u))) (length program) u inside, values);
      ranges = λ u index line count next inside is. omega (
        arith,
        targets-within (unit_code program u) index line count next is,
        within-most (λ u. most_targets (unit_code program u)) (length program) u inside,
        ranges,
      );
    }
