use Rattle.std.proofs.Common.{◌∙◌, ap, sym}
use Rattle.hep_explore.specs.Pure.{is_pure_operation}
use Rattle.hep_explore.proofs.PureAhead.{pure_ahead}
use Rattle.hep_event.proofs.TopPositions.{settled-there, settled-turn}
use Rattle.hep_explore.proofs.pure_steps.is_next_pure.Goals as goal

pub coming_of-requires : goal.coming_of-requires
coming_of-requires c = record { levels = c.requires.living; after = c.requires.after }

pub returns : goal.returns
returns c = λ yes cells before after.
    let program = c.args.image.now in
    let m = c.args.machine.now in
    let running = c.requires.running in
    let levels = c.requires.living in
    let coming = c.in_ok-coming.coming in
    let k = c.in_ok-coming.ensures levels in
    let image = c.is_runnable.ensures in
    let runs =
    c.tops_are_running.ensures.running (settled-turn m after running levels coming k) image.accepted image.main (
    settled-there m after running levels coming k)
    in
    pure_ahead m after running levels coming k runs (
    ap (is_pure_operation coming.operation) (sym c.deref.ensures.value) ∙ (sym c.is_pure_operation.ensures ∙ yes))
