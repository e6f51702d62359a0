use Rattle.hep_arena.proofs.Gaps.{frame-out, front-out, gaps-cells, gaps-holes}
use Rattle.hep_arena.proofs.laws.frames_are_out.Goals as goal

pub returns : goal.returns
returns c = record { common = front-out; frame = frame-out; holes = gaps-holes; cells = gaps-cells }
