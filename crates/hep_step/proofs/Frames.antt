-- A frame as cells are written: it stays in the arena.
use Rattle.std.proofs.Common.{◌≡◌, length, sym, subst, arith}
use Rattle.hep_arena.specs.Holes.{IsOut}
use Rattle.hep_arena.specs.Space.{Space}
use Rattle.hep_step.specs.declared.frame.Frame.{Frame}
use Rattle.hep_step.specs.Cells.{HasFrame}

pub frame_stays : (old new : Space) (frame : Frame) → length new.contents ≡ length old.contents → new.holes ≡ old.holes → HasFrame old frame → HasFrame new frame
frame_stays old new frame cells holes h =
    record {
      inside = omega (arith, cells, h.inside);
      out = λ k from to. subst (IsOut k) (sym holes) (h.out k from to);
      few = omega (arith, cells, h.few);
    }
