use Rattle.std.proofs.Common.{◌≡◌, ◌+◌, ◌-◌, ◌<◌, suc, ◌++◌, ◌∙◌, length, sym, ap, subst, arith}
use Rattle.hep_image.specs.Names.{names_in_order}
use Rattle.hep_core.specs.ProcessPositions.{whereabouts_by}
use Rattle.hep_core.specs.CoreValues.{state_of}
use Rattle.hep_dump.specs.StopNotes.{all_places_notes, place_notes, places_notes}
use Rattle.hep_dump.proofs.Places.{turn}
use Rattle.hep_dump.proofs.stop_notes.append_places.Goals as goal

pub loop-before-preserved : goal.loop-before-preserved
loop-before-preserved c =
    let core = c.args.core.now.core in
    let b = c.loop-before.before in
    let n = length (state_of core).processes in
    let found = c.loop-before.text.items in
    let next = c.append_place.new.text.items in
    let whole = c.args.text.now.items ++ all_places_notes core.program core.history in
    let one : b + 1 ≡ suc b = omega arith in
    let below : b < n = omega (arith, c.loop-before-test.true, c.made-before-end.ensures) in
    let place = c.whereabouts.ensures ∙ ap (λ p. whereabouts_by core.program p (state_of core)) one in
    let appended = c.in_ok-append_place.ensures ∙ (λ j. found ++ place_notes (names_in_order (c.image.ensures j)) (place j)) in
    subst (λ m. next ++ places_notes core.program core.history (suc m) (n - m) ≡ whole) (sym one) (
    turn core.program core.history b n found next whole below c.loop-before.invariant appended)
