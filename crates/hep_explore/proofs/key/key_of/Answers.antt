use Rattle.std.proofs.Common.{◌∙◌, ap, slice_get, subst, sym}
use Rattle.hep_explore.specs.KeyParts.{AreCellsOut}
use Rattle.hep_explore.proofs.KeyReading.{common-out, frame-there}
use Rattle.hep_explore.proofs.key.key_of.Goals as goal

pub append_cells-requires : goal.append_cells-requires
append_cells-requires c =
    subst (AreCellsOut c.args.machine.now.frames.arena 0) (sym c.common.ensures.common) (
    common-out c.args.image.now c.requires.0 c.requires.1 c.args.machine.now c.requires.2)

pub append_frames-requires : goal.append_frames-requires
append_frames-requires c = λ i key e.
    let held = c.in_ok-nodes.ensures in
    let listed = ap (λ ks. slice_get ks i) (sym held.2) ∙ ap (λ ks. slice_get ks i) (sym c.deref.ensures.value) ∙ e in
    frame-there c.args.image.now c.requires.0 c.requires.1 c.args.machine.now c.requires.2 held.0 held.1 i key listed
